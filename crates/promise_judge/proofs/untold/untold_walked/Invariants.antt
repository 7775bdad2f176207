use Rattle.std.proofs.Common.{◌≡◌, ◌+◌, ◌-◌}
use Rattle.promise_judge.specs.Firsts.{first_in}
use Rattle.promise_judge.specs.Offsets.{is_untold}
use Rattle.promise_judge.specs.Promises.{untold_of}
use Rattle.promise_judge.proofs.untold.untold_walked.Given as goal

abbrev pub invariant-rows : goal.invariant-rows
invariant-rows l = first_in (is_untold l.clock) l.n (l.fn.claim.row + 1) ≡ untold_of l.clock l.fn.claim

abbrev pub decreases-rows : goal.decreases-rows
decreases-rows l = l.fn.claim.row + 1 - l.n
