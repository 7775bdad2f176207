use Rattle.std.proofs.Common.{◌≡◌, ◌-◌, ◌&&◌, nat_lt, is_some}
use Rattle.promise_judge.specs.Firsts.{first_in}
use Rattle.promise_judge.specs.Positions.{is_disrupt_at}
use Rattle.promise_judge.proofs.drift.is_disrupted_between.Given as goal

abbrev pub invariant-rows : goal.invariant-rows
invariant-rows l =
    is_some (first_in (λ p. is_disrupt_at l.host p && nat_lt l.i p) l.p l.high)
    ≡ is_some (first_in (λ p. is_disrupt_at l.host p && nat_lt l.i p) l.low l.high)

abbrev pub decreases-rows : goal.decreases-rows
decreases-rows l = l.high - l.p
