use Rattle.std.proofs.Common.{◌≡◌, ◌+◌, ◌-◌, ◌++◌, [], refl, arith}
use Rattle.drill_day.specs.Day.{host_of}
use Rattle.drill_day.specs.Seconds.{host_in, middle_of}
use Rattle.drill_day.proofs.Rounds.{seconds_end, seconds_start, seconds_step}
use Rattle.drill_day.proofs.lists.host_of.Goals as goal

pub seconds-init : goal.seconds-init
unfolding host_of
seconds-init c = seconds_start (host_in (middle_of c.args.polls)) [] c.in_ok-rows.rows.items (host_of c.args.polls) 1 (c.args.polls + 1 - 1) c.args.polls c.in_ok-rows.ensures.items refl (omega arith)

pub seconds-preserved : goal.seconds-preserved
seconds-preserved c =
    let more : c.push_host.new.rows.items ≡ c.seconds.rows.items ++ (host_in (middle_of c.args.polls)) c.seconds.k = cc (c.in_ok-push_host.ensures, c.middle_of-middle.ensures) in
    seconds_step (host_in (middle_of c.args.polls)) c.seconds.rows.items c.push_host.new.rows.items (host_of c.args.polls) c.seconds.k (c.args.polls + 1 - c.seconds.k) (c.args.polls + 1 - (c.seconds.k + 1))
    more (omega arith) c.seconds.invariant

pub returns : goal.returns
returns c = seconds_end (host_in (middle_of c.args.polls)) c.seconds.rows.items (host_of c.args.polls) c.seconds.k (c.args.polls + 1 - c.seconds.k) (omega arith) c.seconds.invariant
