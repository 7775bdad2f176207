use Rattle.std.proofs.Common.{◌≡◌, ◌+◌, ◌-◌, ◌++◌}
use Rattle.drill_day.specs.Day.{polls_of}
use Rattle.drill_day.specs.Draws.{rounds}
use Rattle.drill_day.specs.Seconds.{poll_in, stop_second}
use Rattle.drill_day.proofs.lists.polls_of.Given as goal

abbrev pub invariant-seconds : goal.invariant-seconds
invariant-seconds l = l.rows.items ++ rounds (poll_in (stop_second l.polls)) l.x l.k (l.polls + 1 - l.k) ≡ polls_of l.fn.seed l.fn.polls
