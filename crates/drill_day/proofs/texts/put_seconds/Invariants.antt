use Rattle.std.proofs.Common.{◌≡◌, ◌+◌, ◌-◌, ◌++◌}
use Rattle.std.specs.Prelude.{vec_items}
use Rattle.drill_day.specs.Draws.{rounds}
use Rattle.drill_day.specs.Seconds.{middle_of, stop_second}
use Rattle.drill_day.specs.Text.{second_text, seconds_text}
use Rattle.drill_day.proofs.texts.put_seconds.Given as goal

abbrev pub invariant-seconds : goal.invariant-seconds
invariant-seconds l =
    vec_items l.text ++ rounds (second_text (middle_of l.polls) (stop_second l.polls)) l.x l.k (l.polls + 1 - l.k)
    ≡ vec_items l.fn.text ++ seconds_text l.fn.seed l.fn.polls
