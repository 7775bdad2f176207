use Rattle.std.proofs.Common.{◌≡◌, ◌+◌, ◌-◌, ◌++◌}
use Rattle.drill_day.specs.Day.{host_of}
use Rattle.drill_day.specs.Draws.{seconds}
use Rattle.drill_day.specs.Seconds.{host_in, middle_of}
use Rattle.drill_day.proofs.lists.host_of.Given as goal

abbrev pub invariant-seconds : goal.invariant-seconds
invariant-seconds l = l.rows.items ++ seconds (host_in (middle_of l.polls)) l.k (l.polls + 1 - l.k) ≡ host_of l.fn.polls
