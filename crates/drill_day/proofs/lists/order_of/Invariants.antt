use Rattle.std.proofs.Common.{◌≡◌, ◌+◌, ◌-◌, ◌++◌}
use Rattle.drill_day.specs.Day.{order_of}
use Rattle.drill_day.specs.Draws.{seconds}
use Rattle.drill_day.specs.Seconds.{jobs_in, middle_of}
use Rattle.drill_day.proofs.lists.order_of.Given as goal

abbrev pub invariant-seconds : goal.invariant-seconds
invariant-seconds l = l.order.items ++ seconds (jobs_in (middle_of l.polls)) l.k (l.polls + 1 - l.k) ≡ order_of l.fn.polls
