use Rattle.std.proofs.Common.{◌≡◌, ◌+◌, ◌-◌}
use Rattle.promise_judge.specs.Firsts.{first_in}
use Rattle.promise_judge.specs.Markers.{repeats_at}
use Rattle.promise_judge.specs.Promises.{repeat_of}
use Rattle.promise_judge.proofs.repeat.repeat_walked.Given as goal

abbrev pub invariant-rows : goal.invariant-rows
invariant-rows l = first_in (repeats_at l.start l.host) l.p (l.fn.claim.mark_at + 1) ≡ repeat_of l.start l.host l.fn.claim

abbrev pub decreases-rows : goal.decreases-rows
decreases-rows l = l.fn.claim.mark_at + 1 - l.p
