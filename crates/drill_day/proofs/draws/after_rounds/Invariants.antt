use Rattle.std.proofs.Common.{◌≡◌, ◌-◌}
use Rattle.drill_day.specs.Draws.{after_rounds}
use Rattle.drill_day.proofs.draws.after_rounds.Given as goal

abbrev pub invariant-rounds : goal.invariant-rounds
invariant-rounds l = after_rounds l.last (l.count - l._round) ≡ after_rounds l.fn.x l.fn.count
