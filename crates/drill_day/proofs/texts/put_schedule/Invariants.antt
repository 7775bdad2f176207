use Rattle.std.proofs.Common.{◌≡◌, ◌+◌, ◌-◌, ◌++◌}
use Rattle.std.specs.Prelude.{vec_items}
use Rattle.drill_day.specs.Draws.{rounds}
use Rattle.drill_day.specs.Text.{schedule_text, turn_line}
use Rattle.drill_day.specs.Day.{lines_of}
use Rattle.drill_day.proofs.texts.put_schedule.Given as goal

abbrev pub invariant-lines : goal.invariant-lines
invariant-lines l =
    vec_items l.text ++ rounds turn_line l.x (l._line + 1) (lines_of l.seed l.polls - l._line)
    ≡ vec_items l.fn.text ++ schedule_text l.fn.seed l.fn.polls
