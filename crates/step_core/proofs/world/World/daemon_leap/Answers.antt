use Rattle.std.proofs.Common.{subst}
use Rattle.clock_gate.specs.declared.trace.Party.TheVariants.{Daemon}
use Rattle.step_core.specs.Shared.{Shared}
use Rattle.step_core.specs.DaemonLeaps.{PartyLeaps}
use Rattle.step_core.proofs.DaemonLeaps.{DaemonLept, daemon_leapt}
use Rattle.step_core.proofs.world.World.daemon_leap.Goals as goal
use Rattle.step_core.proofs.world.World.daemon_leap.Goals.{After-leap}

abbrev whole : After-leap → Shared
whole c = record { trace = c.self.inside.trace.now; words = c.self.inside.words; host = c.self.inside.host; daemon = c.self.inside.daemon; clients = c.self.inside.clients.items; events = c.self.inside.events.items }

abbrev after : After-leap → Shared
after c = record { trace = c.self.inside.trace.now; words = c.leap.new.words; host = c.self.inside.host; daemon = c.leap.new.self; clients = c.self.inside.clients.items; events = c.self.inside.events.items }

went : (c : After-leap) → DaemonLept c.leap.result (whole c) (after c)
went c = daemon_leapt c.leap.result (whole c) c.leap.new.self c.leap.new.words c.leap.ensures.leaps

pub invariant_of-self : goal.invariant_of-self
invariant_of-self c = ((went (goal.at.invariant_of-self c).After-leap).reached c.self.invariant.0, c.self.invariant.1)

pub returns-clause-leaps : goal.returns-clause-leaps
returns-clause-leaps c =
    let s = (goal.at.returns-clause-leaps c).After-leap in
    subst (λ (w : Shared). PartyLeaps Daemon c.leap.result w (after s)) c.self.view_is (went s).leaps
