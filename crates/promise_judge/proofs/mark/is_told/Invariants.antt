use Rattle.std.proofs.Common.{◌≡◌, ◌+◌, ◌-◌, is_some}
use Rattle.promise_judge.specs.Disruptions.{is_told}
use Rattle.promise_judge.specs.Firsts.{first_in}
use Rattle.promise_judge.specs.Markers.{changes_at}
use Rattle.promise_judge.proofs.mark.is_told.Given as goal

abbrev pub invariant-rows : goal.invariant-rows
invariant-rows l = is_some (first_in (changes_at l.start l.host) l.next (l.mark_at + 1)) ≡ is_told l.start l.host l.mark_at l.p

abbrev pub decreases-rows : goal.decreases-rows
decreases-rows l = l.mark_at + 1 - l.next
