use Rattle.std.proofs.Common.{arith, FitsSigned}
use Rattle.std.specs.Int.{w128}
use Rattle.std.proofs.lemmas.Int.{ints, to_z-of_z}
use Rattle.vmclock_time.proofs.Floors.{latest_is}
use Rattle.vmclock_time.proofs.time.latest.Goals as goal

pub returns : goal.returns
returns c =
    let fits : FitsSigned w128 c.ahead-units.result = omega (arith, ints, c.ahead-units.ensures.low, c.ahead-units.ensures.high) in
    let whole = simp to_z-of_z at c.whole_nanos.ensures.value in
    let is = latest_is c.args.page.now c.args.span.elapsed c.args.span.drift c.ahead-units.result c.ahead-units.ensures.value in
    omega (arith, ints, is, whole, c.more.ensures, c.slack.ensures.value, c.slack.ensures.small, c.seconds.ensures.value, c.seconds.ensures.low, c.seconds.ensures.high, c.whole_nanos.ensures.low, c.whole_nanos.ensures.high)
