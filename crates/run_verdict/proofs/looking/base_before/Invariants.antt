use Rattle.std.proofs.Common.{◌≡◌, ◌≤◌}
use Rattle.abstract_run.specs.RunFacts.{told_by}
use Rattle.run_verdict.specs.Past.{past_of}
use Rattle.run_verdict.proofs.looking.base_before.Given as goal

abbrev pub invariant-back : goal.invariant-back
invariant-back l = (l.left ≤ l.place) × (told_by l.poll (past_of l.events l.left) ≡ told_by l.poll (past_of l.events l.place))

abbrev pub decreases-back : goal.decreases-back
decreases-back l = l.left
