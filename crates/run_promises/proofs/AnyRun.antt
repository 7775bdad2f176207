-- The laws of any run.
use Rattle.std.proofs.Common.{◌≡◌, List, [], ◌∷◌, ◌++◌, refl, ap, sym, ◌∙◌, subst}
use Rattle.std.specs.Prelude.{reverse}
use Rattle.clock_gate.specs.declared.trace.Party.{Party}
use Rattle.clock_gate.specs.declared.trace.Trace.{Trace}
use Rattle.abstract_run.specs.declared.event.Event.{Event}
use Rattle.abstract_run.specs.Run.{Run, turn, turns_by, start}
use Rattle.abstract_run.specs.RunFacts.{AllTell, AllBased}
use Rattle.abstract_run.specs.RunWhole.{run_of}
use Rattle.abstract_run.proofs.RunKeeps.{run_keeps}
use Rattle.run_promises.specs.Told.{AllMarked}
use Rattle.run_promises.specs.Runs.{WholeRunIsRun, RunsTellSegment, AnyRunTells, AnyRunMarks}
use Rattle.run_promises.proofs.Segments.{told_stands}
use Rattle.run_promises.proofs.Turns.{RunTells, any_run_tells}

-- ---- the run of the whole schedule

turns_more : (trace : Trace) (parties more : List Party) (run : Run) → turns_by trace run (parties ++ more) ≡ turns_by trace (turns_by trace run parties) more
turns_more trace [] more run = refl
turns_more trace (who ∷ parties) more run = turns_more trace parties more (turn trace run who)

abbrev ByTurns : Trace → Run → Type 0
ByTurns trace run = (parties : List Party) × (run ≡ turns_by trace (start trace) parties)

turn_by : (trace : Trace) (run : Run) (who : Party) → ByTurns trace run → ByTurns trace (turn trace run who)
turn_by trace run who is = (is.0 ++ who ∷ [], ap (λ (r : Run). turn trace r who) is.1 ∙ sym (turns_more trace is.0 (who ∷ []) (start trace)))

pub whole_run_is_run : WholeRunIsRun
whole_run_is_run trace =
    let is : ByTurns trace (run_of trace) = run_keeps trace (ByTurns trace) (turn_by trace) (start trace) ([], refl) in
    (is.0, ap (λ (r : Run). r.events) is.1)

-- ---- any run

pub runs_tell_segment : RunsTellSegment
runs_tell_segment trace parties can fits =
    let run : Run = turns_by trace (start trace) parties in
    let is : RunTells trace run = any_run_tells trace parties can fits in
    record {
      made = λ n told found. (told_stands run.segment.base run.segment.history n (reverse run.events) told is.marked.daemon_is.stands.stand found).is;
      others = is.marked.daemon_is.stands.others;
    }

pub any_tells : AnyRunTells
any_tells trace events can fits by_turns =
    let is : RunTells trace (turns_by trace (start trace) by_turns.0) = any_run_tells trace by_turns.0 can fits in
    subst (λ (told : List Event). AllTell trace (reverse told) × AllBased trace (reverse told)) (sym by_turns.1) (is.holds.daemon_holds.tells, is.based.all)

pub any_marks : AnyRunMarks
any_marks trace events can fits by_turns =
    let is : RunTells trace (turns_by trace (start trace) by_turns.0) = any_run_tells trace by_turns.0 can fits in
    subst (λ (told : List Event). AllMarked trace (reverse told)) (sym by_turns.1) is.marked.daemon_is.all
