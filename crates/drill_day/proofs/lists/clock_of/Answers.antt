use Rattle.std.proofs.Common.{◌≡◌, ◌+◌, ◌-◌, ◌++◌, [], refl, arith}
use Rattle.drill_day.specs.Day.{clock_of}
use Rattle.drill_day.specs.Seconds.{clock_in}
use Rattle.drill_day.proofs.Rounds.{rounds_end, rounds_start, rounds_step}
use Rattle.drill_day.proofs.lists.clock_of.Goals as goal

pub seconds-init : goal.seconds-init
unfolding clock_of
seconds-init c = rounds_start clock_in [] c.in_ok-rows.rows.items (clock_of c.args.seed c.args.polls) c.args.seed 1 (c.args.polls + 1 - 1) c.args.polls c.in_ok-rows.ensures.items refl (omega arith)

pub seconds-preserved : goal.seconds-preserved
seconds-preserved c =
    let more : c.push.new.self.items ≡ c.seconds.rows.items ++ clock_in c.seconds.k c.seconds.x = cc (c.in_ok-push.ensures.items, c.clock_row.ensures, c.draw_of.ensures) in
    rounds_step clock_in c.seconds.rows.items c.push.new.self.items (clock_of c.args.seed c.args.polls) c.seconds.x c.after_two-x.result c.seconds.k (c.args.polls + 1 - c.seconds.k) (c.args.polls + 1 - (c.seconds.k + 1))
    more c.after_two-x.ensures (omega arith) c.seconds.invariant

pub returns : goal.returns
returns c = rounds_end clock_in c.seconds.rows.items (clock_of c.args.seed c.args.polls) c.seconds.x c.seconds.k (c.args.polls + 1 - c.seconds.k) (omega arith) c.seconds.invariant
