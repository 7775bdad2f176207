use Rattle.std.proofs.Common.{◌≡◌, ◌+◌, ◌-◌}
use Rattle.promise_judge.specs.Disruptions.{is_drifting}
use Rattle.promise_judge.specs.Firsts.{first_in}
use Rattle.promise_judge.specs.Promises.{drift_of}
use Rattle.promise_judge.proofs.drift.drift_walked.Given as goal

abbrev pub invariant-pairs : goal.invariant-pairs
invariant-pairs l = first_in (is_drifting l.drift l.clock l.host l.claim.marked_at) l.n (l.claim.row + 1) ≡ drift_of l.drift l.clock l.host l.claim

abbrev pub decreases-pairs : goal.decreases-pairs
decreases-pairs l = l.claim.row + 1 - l.n
