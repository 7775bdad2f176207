use Rattle.std.proofs.Common.{refl}
use Rattle.ordered_runs.proofs.Events.{all_near, are_true}
use Rattle.ordered_runs.proofs.Told.{all_told}
use Rattle.abstract_run.specs.Run.{start, turns_by}
use Rattle.order_text.specs.Told.{answers_told}
use Rattle.ordered_runs.proofs.runs.ordered_laws.Goals as goal

pub returns-clause-turns : goal.returns-clause-turns
returns-clause-turns c length trace turns given held =
    let run = (turns_by trace (start trace) turns).events in
    let are = are_true trace run (c.kept_answers.ensures.held trace run given.can given.fits (turns, refl) held) in
    record { are_true = are; keeps = c.order_laws.ensures.kept length (answers_told trace.clock run) (all_near trace.clock run (c.dated_laws.ensures.turns trace turns given)) are }

pub returns-clause-told : goal.returns-clause-told
returns-clause-told c trace given = all_told c.sound_runs.ensures.all trace given.can.lawful (c.dated_laws.ensures.whole trace given)
