use Rattle.std.proofs.Common.{refl, subst}
use Rattle.abstract_run.specs.Run.{Run}
use Rattle.abstract_run.specs.RunWhole.{run_of}
use Rattle.promised_truth.specs.Laws.{TellsPremises}
use Rattle.bound_cli.proofs.Dated.{run_dated}
use Rattle.bound_cli.proofs.laws.texts_hold.Goals as goal

pub returns-clause-given : goal.returns-clause-given
returns-clause-given c = c.read_runs_laws.ensures.traces

pub returns-clause-replayed : goal.returns-clause-replayed
returns-clause-replayed c bytes trace read =
    let given = c.read_runs_laws.ensures.traces bytes trace read in
    let whole = c.sound_runs.ensures.whole trace in
    record {
      turns = whole.0;
      whole = whole.1;
      finished = record {
        rests = λ who. c.run_laws.ensures.ends trace who given.can.lawful;
        polled = c.progress_laws.ensures.polls trace given.can.lawful;
        answered = λ client. c.sound_runs.ensures.all trace client given.can.lawful;
      };
    }

pub returns-clause-texts : goal.returns-clause-texts
returns-clause-texts c bytes trace read =
    let given = c.read_runs_laws.ensures.traces bytes trace read in
    record {
      sound = λ turns. c.sound_runs.ensures.sound trace turns given;
      truth = λ turns. c.runs_keep_truth.ensures.truth trace turns given.can given.fits;
      progress = λ turns. c.progress_laws.ensures.turns trace turns;
      openings = λ turns. c.progress_laws.ensures.openings trace turns;
      jobs = λ turns. c.progress_laws.ensures.jobs trace turns given.can.lawful;
    }

pub returns-clause-judged : goal.returns-clause-judged
returns-clause-judged c bytes trace read =
    let given = c.read_runs_laws.ensures.traces bytes trace read in
    let whole = c.sound_runs.ensures.whole trace in
    subst (λ (run : Run). TellsPremises trace run.events) whole.1 (c.runs_keep_truth.ensures.premises trace whole.0 given.can given.fits)

pub returns-clause-refined : goal.returns-clause-refined
returns-clause-refined c bytes trace read =
    let given = c.read_runs_laws.ensures.traces bytes trace read in
    record { turns = λ turns. c.words_show.ensures.turns trace turns given; whole = c.words_show.ensures.whole trace given }

pub returns-clause-dated : goal.returns-clause-dated
returns-clause-dated c bytes trace read = run_dated trace (run_of trace).events refl (c.dated_laws.ensures.whole trace (c.read_runs_laws.ensures.traces bytes trace read))

pub returns-clause-date_text : goal.returns-clause-date_text
returns-clause-date_text c = c.civil_laws.ensures.text

pub returns-clause-one_date : goal.returns-clause-one_date
returns-clause-one_date c = c.civil_laws.ensures.one

pub returns-clause-days : goal.returns-clause-days
returns-clause-days c seed polls low high =
    record { held = c.day_runs_hold.ensures.whole seed polls low high; short = c.text_laws.ensures.fit seed polls high; read = c.text_laws.ensures.days seed polls low high }
