use Rattle.std.proofs.Common.{◌≡◌, ◌+◌, ◌-◌, ◌++◌}
use Rattle.drill_day.specs.Day.{clock_of}
use Rattle.drill_day.specs.Draws.{rounds}
use Rattle.drill_day.specs.Seconds.{clock_in}
use Rattle.drill_day.proofs.lists.clock_of.Given as goal

abbrev pub invariant-seconds : goal.invariant-seconds
invariant-seconds l = l.rows.items ++ rounds clock_in l.x l.k (l.polls + 1 - l.k) ≡ clock_of l.fn.seed l.fn.polls
