-- What each turn of an abstract run keeps, a whole run keeps.
use Rattle.std.proofs.Common.{ℕ, zero, suc, ◌+◌, ◌*◌, Bool, true, false, List, [], ◌∷◌, ◌++◌}
use Rattle.std.specs.Prelude.{if◌then◌else◌}
use Rattle.clock_gate.specs.declared.trace.Party.{Party}
use Rattle.clock_gate.specs.declared.trace.Trace.{Trace}
use Rattle.clock_gate.specs.declared.trace.Turn.{Turn}
use Rattle.clock_gate.specs.declared.trace.Turn.TheVariants as turns
use Rattle.clock_gate.specs.Trace.{times}
use Rattle.abstract_run.specs.declared.limits.TheConstants.{MOST_JOB_STEPS}
use Rattle.abstract_run.specs.Schedule as schedule
use Rattle.abstract_run.specs.Run.{Run, turn}
use Rattle.abstract_run.specs.RunWhole as whole
use Rattle.abstract_run.specs.RunWhole.{run_from}

-- what each turn keeps, a whole run keeps
module _ (trace : Trace) (Holds : Run → Type 0) (keeps : (run : Run) (who : Party) → Holds run → Holds (turn trace run who)) where
  turns_keep : (count : ℕ) (who : Party) (run : Run) → Holds run → Holds (schedule.turns_of (turn trace) whole.jobs_ended (whole.has_job trace) count who run)
  turns_keep zero who run holds = holds
  turns_keep (suc more) who run holds = turns_keep more who (turn trace run who) (keeps run who holds)

  one_keeps : (test : Bool) (one other : Run) → Holds one → Holds other → Holds (if test then one else other)
  one_keeps true one other first second = first
  one_keeps false one other first second = second

  pub until_keeps : (most : ℕ) (who : Party) (jobs : ℕ) (run : Run) → Holds run → Holds (schedule.until_done (turn trace) whole.jobs_ended (whole.has_job trace) most who jobs run)
  until_keeps zero who jobs run holds = holds
  until_keeps (suc most) who jobs run holds =
      one_keeps (schedule.is_done (turn trace) whole.jobs_ended (whole.has_job trace) who jobs run) run
      (schedule.until_done (turn trace) whole.jobs_ended (whole.has_job trace) most who jobs (turn trace run who)) holds
      (until_keeps most who jobs (turn trace run who) (keeps run who holds))

  line_keeps : (line : Turn) (run : Run) → Holds run → Holds (schedule.line (turn trace) whole.jobs_ended (whole.has_job trace) run line)
  line_keeps (turns.Run who count) run holds = turns_keep count who run holds
  line_keeps (turns.Jobs who count) run holds = until_keeps (count * MOST_JOB_STEPS) who (whole.jobs_ended run who + count) run holds

  pub lines_keep : (lines : List Turn) (run : Run) → Holds run → Holds (schedule.lines (turn trace) whole.jobs_ended (whole.has_job trace) run lines)
  lines_keep [] run holds = holds
  lines_keep (first ∷ later) run holds = lines_keep later (schedule.line (turn trace) whole.jobs_ended (whole.has_job trace) run first) (line_keeps first run holds)

  walk_keeps : (before order : List Party) (run : Run) → Holds run → Holds (schedule.walk (turn trace) whole.jobs_ended (whole.has_job trace) before run order)
  walk_keeps before [] run holds = holds
  walk_keeps before (who ∷ later) run holds =
      walk_keeps (before ++ who ∷ []) later (schedule.until_done (turn trace) whole.jobs_ended (whole.has_job trace) MOST_JOB_STEPS who (times who before + 1) run)
      (until_keeps MOST_JOB_STEPS who (times who before + 1) run holds)

  pub run_keeps : (run : Run) → Holds run → Holds (run_from trace run)
  run_keeps run holds = walk_keeps [] trace.order (schedule.lines (turn trace) whole.jobs_ended (whole.has_job trace) run trace.turns) (lines_keep trace.turns run holds)
