use Rattle.std.proofs.Common.{◌≡◌, ◌-◌}
use Rattle.promise_judge.specs.Disruptions.{is_hidden}
use Rattle.promise_judge.specs.Firsts.{first_in}
use Rattle.promise_judge.specs.Positions.{position_of}
use Rattle.promise_judge.specs.Promises.{mark_of}
use Rattle.promise_judge.proofs.mark.mark_walked.Given as goal

abbrev pub invariant-rows : goal.invariant-rows
invariant-rows l = first_in (is_hidden l.start l.host l.claim.mark_at) l.p (position_of l.host l.claim.row) ≡ mark_of l.start l.host l.claim

abbrev pub decreases-rows : goal.decreases-rows
decreases-rows l = position_of l.host l.claim.row - l.p
