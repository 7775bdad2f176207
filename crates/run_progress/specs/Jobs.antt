-- Nobody waits for another: the jobs of a party end by its own turns.
use Rattle.std.specs.Prelude.{◌≡◌, ◌⊎◌, ℕ, ◌+◌, ◌*◌, ◌≤◌, false, List, ◌++◌}
use Rattle.std.proofs.Math.ListN.{replicate}
use Rattle.clock_gate.specs.declared.trace.Party.{Party}
use Rattle.clock_gate.specs.declared.trace.Trace.{Trace}
use Rattle.clock_gate.specs.Trace.{IsLawfulTrace}
use Rattle.abstract_run.specs.declared.limits.TheConstants.{MOST_JOB_STEPS}
use Rattle.abstract_run.specs.Run.{Run, start, turns_by}
use Rattle.abstract_run.specs.RunWhole.{jobs_ended, has_job}

-- so many jobs of a party have ended, or it has none left
abbrev pub HaveEnded : Trace → Party → (jobs : ℕ) → Run → Type 0
HaveEnded trace who jobs run = (jobs ≤ jobs_ended run who) ⊎ (has_job trace run who ≡ false)

-- whatever came before, with some more turns of one party alone so many more of its jobs have ended, or it has none left; these are at most
-- `MOST_JOB_STEPS` for each of the jobs
abbrev pub JobsEnd : Trace → List Party → Type 0
JobsEnd trace turns = (who : Party) (count : ℕ) → (own : ℕ) × (own ≤ count * MOST_JOB_STEPS)
    × HaveEnded trace who (jobs_ended (turns_by trace (start trace) turns) who + count) (turns_by trace (start trace) (turns ++ replicate own who))

-- after any turns of the parties of any lawful trace, in any order
abbrev pub JobsAlwaysEnd : Type 0
JobsAlwaysEnd = (trace : Trace) (turns : List Party) → IsLawfulTrace trace → JobsEnd trace turns
