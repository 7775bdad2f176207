use Rattle.std.proofs.Common.{arith}
use Rattle.step_core.proofs.world.World.events.Goals as goal

pub returns-clause-few : goal.returns-clause-few
returns-clause-few c =
    let all = c.self.invariant.1 in
    let polls = c.self.invariant.0.given.can.lawful.polls_few in
    let calls = c.self.invariant.0.given.can.lawful.calls_few in
    rw c.as_slice.ensures.value (omega (arith, all, polls, calls))
