use Rattle.std.proofs.Common.{◌≡◌, ◌+◌, ◌-◌, ◌++◌, [], refl, arith}
use Rattle.drill_day.specs.Day.{calls_of}
use Rattle.drill_day.specs.Seconds.{calls_in}
use Rattle.drill_day.proofs.Rounds.{seconds_end, seconds_start, seconds_step}
use Rattle.drill_day.proofs.lists.calls_of.Goals as goal

pub seconds-init : goal.seconds-init
unfolding calls_of
seconds-init c = seconds_start calls_in [] c.in_ok-calls.calls.items (calls_of c.args.polls) 1 (c.args.polls + 1 - 1) c.args.polls c.in_ok-calls.ensures.items refl (omega arith)

pub seconds-preserved : goal.seconds-preserved
seconds-preserved c =
    let more : c.push_calls.new.calls.items ≡ c.seconds.calls.items ++ calls_in c.seconds._second = c.in_ok-push_calls.ensures c.seconds._second in
    seconds_step calls_in c.seconds.calls.items c.push_calls.new.calls.items (calls_of c.args.polls) c.seconds._second (c.args.polls + 1 - c.seconds._second) (c.args.polls + 1 - (c.seconds._second + 1))
    more (omega arith) c.seconds.invariant

pub returns : goal.returns
returns c = seconds_end calls_in c.seconds.calls.items (calls_of c.args.polls) c.seconds._second (c.args.polls + 1 - c.seconds._second) (omega arith) c.seconds.invariant
