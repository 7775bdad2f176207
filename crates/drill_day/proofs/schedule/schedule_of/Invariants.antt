use Rattle.std.proofs.Common.{◌≡◌, ◌+◌, ◌-◌, ◌++◌}
use Rattle.drill_day.specs.Day.{schedule_of}
use Rattle.drill_day.specs.Draws.{rounds}
use Rattle.drill_day.specs.Seconds.{turns_in}
use Rattle.drill_day.proofs.schedule.schedule_of.Given as goal

abbrev pub invariant-lines : goal.invariant-lines
invariant-lines l = l.turns.items ++ rounds turns_in l.x (l._line + 1) (l.count - l._line) ≡ schedule_of l.fn.seed l.fn.polls
