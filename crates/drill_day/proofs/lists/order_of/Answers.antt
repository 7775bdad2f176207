use Rattle.std.proofs.Common.{◌≡◌, ◌+◌, ◌-◌, ◌++◌, [], refl, arith}
use Rattle.drill_day.specs.Day.{order_of}
use Rattle.drill_day.specs.Seconds.{jobs_in, middle_of}
use Rattle.drill_day.proofs.Rounds.{seconds_end, seconds_start, seconds_step}
use Rattle.drill_day.proofs.lists.order_of.Goals as goal

pub seconds-init : goal.seconds-init
unfolding order_of
seconds-init c = seconds_start (jobs_in (middle_of c.args.polls)) [] c.in_ok-order.order.items (order_of c.args.polls) 1 (c.args.polls + 1 - 1) c.args.polls c.in_ok-order.ensures.items refl (omega arith)

pub seconds-preserved : goal.seconds-preserved
seconds-preserved c =
    let more : c.push_jobs.new.order.items ≡ c.seconds.order.items ++ (jobs_in (middle_of c.args.polls)) c.seconds.k = cc (c.in_ok-push_jobs.ensures, c.middle_of-middle.ensures) in
    seconds_step (jobs_in (middle_of c.args.polls)) c.seconds.order.items c.push_jobs.new.order.items (order_of c.args.polls) c.seconds.k (c.args.polls + 1 - c.seconds.k) (c.args.polls + 1 - (c.seconds.k + 1))
    more (omega arith) c.seconds.invariant

pub returns : goal.returns
returns c = seconds_end (jobs_in (middle_of c.args.polls)) c.seconds.order.items (order_of c.args.polls) c.seconds.k (c.args.polls + 1 - c.seconds.k) (omega arith) c.seconds.invariant
