-- Each job of a run is run to its end.
use Rattle.std.specs.Prelude.{◌≡◌, ℕ, ◌+◌, true, false, List}
use Rattle.clock_gate.specs.declared.trace.Party.{Party}
use Rattle.clock_gate.specs.declared.trace.Trace.{Trace}
use Rattle.clock_gate.specs.declared.trace.Turn.TheVariants.{Jobs}
use Rattle.clock_gate.specs.Trace.{IsLawfulTrace}
use Rattle.abstract_run.specs.Schedule as schedule
use Rattle.abstract_run.specs.Run.{start, turn, turns_by}
use Rattle.abstract_run.specs.RunWhole.{jobs_ended, has_job, run_of}

-- after a line of the schedule that asks for it, so many more of a party's jobs have ended, or it has none left
abbrev pub LinesEnd : Type 0
LinesEnd =
    (trace : Trace) (turns : List Party) (who : Party) (count : ℕ) → IsLawfulTrace trace
    → schedule.is_done (turn trace) jobs_ended (has_job trace) who (jobs_ended (turns_by trace (start trace) turns) who + count)
    (schedule.line (turn trace) jobs_ended (has_job trace) (turns_by trace (start trace) turns) (Jobs who count)) ≡ true

-- after the whole run no party has a job in hand or left
abbrev pub RunsEnd : Type 0
RunsEnd = (trace : Trace) (who : Party) → IsLawfulTrace trace → has_job trace (run_of trace) who ≡ false
