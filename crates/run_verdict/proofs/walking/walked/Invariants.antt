use Rattle.std.proofs.Common.{◌≡◌}
use Rattle.run_promises.specs.Judged.{premises_by}
use Rattle.run_verdict.specs.Past.{past_of}
use Rattle.run_verdict.proofs.walking.walked.Given as goal

abbrev pub invariant-events : goal.invariant-events
invariant-events l = l.found ≡ premises_by l.trace (past_of l.events l.place)
