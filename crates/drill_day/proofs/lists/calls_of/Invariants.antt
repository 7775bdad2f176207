use Rattle.std.proofs.Common.{◌≡◌, ◌+◌, ◌-◌, ◌++◌}
use Rattle.drill_day.specs.Day.{calls_of}
use Rattle.drill_day.specs.Draws.{seconds}
use Rattle.drill_day.specs.Seconds.{calls_in}
use Rattle.drill_day.proofs.lists.calls_of.Given as goal

abbrev pub invariant-seconds : goal.invariant-seconds
invariant-seconds l = l.calls.items ++ seconds calls_in l._second (l.polls + 1 - l._second) ≡ calls_of l.fn.polls
