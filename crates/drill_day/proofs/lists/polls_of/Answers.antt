use Rattle.std.proofs.Common.{◌≡◌, ◌+◌, ◌-◌, ◌++◌, [], refl, arith}
use Rattle.drill_day.specs.Day.{polls_of}
use Rattle.drill_day.specs.Seconds.{poll_in, stop_second}
use Rattle.drill_day.proofs.Rounds.{rounds_end, rounds_start, rounds_step}
use Rattle.drill_day.proofs.lists.polls_of.Goals as goal

pub seconds-init : goal.seconds-init
unfolding polls_of
seconds-init c = rounds_start (poll_in (stop_second c.args.polls)) [] c.in_ok-rows.rows.items (polls_of c.args.seed c.args.polls) c.args.seed 1 (c.args.polls + 1 - 1) c.args.polls c.in_ok-rows.ensures.items refl (omega arith)

pub seconds-preserved : goal.seconds-preserved
seconds-preserved c =
    let more : c.push.new.self.items ≡ c.seconds.rows.items ++ (poll_in (stop_second c.args.polls)) c.seconds.k c.seconds.x = cc (c.in_ok-push.ensures.items, c.in_ok-row.ensures, c.second_draw_of.ensures, c.stop_second-stopped.ensures) in
    rounds_step (poll_in (stop_second c.args.polls)) c.seconds.rows.items c.push.new.self.items (polls_of c.args.seed c.args.polls) c.seconds.x c.after_two-x.result c.seconds.k (c.args.polls + 1 - c.seconds.k) (c.args.polls + 1 - (c.seconds.k + 1))
    more c.after_two-x.ensures (omega arith) c.seconds.invariant

pub returns : goal.returns
returns c = rounds_end (poll_in (stop_second c.args.polls)) c.seconds.rows.items (polls_of c.args.seed c.args.polls) c.seconds.x c.seconds.k (c.args.polls + 1 - c.seconds.k) (omega arith) c.seconds.invariant
