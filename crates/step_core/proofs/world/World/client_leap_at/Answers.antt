use Rattle.std.proofs.Common.{◌≡◌, ◌<◌, length, refl, sym, subst}
use Rattle.std.specs.Prelude.{slice_set}
use Rattle.step_core.specs.declared.marks.Place.{Place}
use Rattle.step_core.specs.Shared.{Shared, place_of}
use Rattle.step_core.specs.Leaps.{Leaps, WorldLeaps}
use Rattle.step_core.proofs.Turns.{found_client, client_leaps}
use Rattle.step_core.proofs.Leaps.{Lept, leapt}
use Rattle.step_core.proofs.world.World.client_leap_at.Goals as goal
use Rattle.step_core.proofs.world.World.client_leap_at.Goals.{After-leap}

pub leap-requires : goal.leap-requires
leap-requires c =
    let w : Shared = record { trace = c.self.inside.trace.now; words = c.self.inside.words; host = c.self.inside.host; daemon = c.self.inside.daemon; clients = c.self.inside.clients.items; events = c.self.inside.events.items } in
    record { good = client_leaps w c.args.place c.index_mut-client.result.now c.self.invariant.0 (found_client w.clients c.args.place c.index_mut-client.result.now (subst (λ (s : Shared). c.args.place < length s.clients) (sym c.self.view_is) c.requires) c.index_mut-client.ensures.value) }

went : (c : After-leap) → Lept c.args.place c.leap.result (record { trace = c.self.inside.trace.now; words = c.self.inside.words; host = c.self.inside.host; daemon = c.self.inside.daemon; clients = c.self.inside.clients.items; events = c.self.inside.events.items }) (record { trace = c.self.inside.trace.now; words = c.self.inside.words; host = c.self.inside.host; daemon = c.self.inside.daemon; clients = slice_set c.self.inside.clients.items c.args.place c.leap.new.self; events = c.self.inside.events.items })
went c =
    let w : Shared = record { trace = c.self.inside.trace.now; words = c.self.inside.words; host = c.self.inside.host; daemon = c.self.inside.daemon; clients = c.self.inside.clients.items; events = c.self.inside.events.items } in
    let within = subst (λ (s : Shared). c.args.place < length s.clients) (sym c.self.view_is) c.requires in
    let stands : Place = record { position = c.position.result; host_at = c.done.result } in
    let same : stands ≡ place_of w = rw (c.position.ensures, c.done.ensures) refl in
    leapt c.leap.result w c.args.place c.index_mut-client.result.now c.leap.new.self within (found_client w.clients c.args.place c.index_mut-client.result.now within c.index_mut-client.ensures.value)
    (subst (λ (p : Place). Leaps w.trace.clock w.words p c.leap.result c.index_mut-client.result.now c.leap.new.self) same (c.leap.ensures.leaps w.trace.clock))

pub invariant_of-self : goal.invariant_of-self
invariant_of-self c = ((went (goal.at.invariant_of-self c).After-leap).reached c.self.invariant.0, c.self.invariant.1)

pub returns-clause-leaps : goal.returns-clause-leaps
returns-clause-leaps c = subst (λ (s : Shared). WorldLeaps c.args.place c.leap.result s (record { trace = c.self.inside.trace.now; words = c.self.inside.words; host = c.self.inside.host; daemon = c.self.inside.daemon; clients = slice_set c.self.inside.clients.items c.args.place c.leap.new.self; events = c.self.inside.events.items })) c.self.view_is (went (goal.at.returns-clause-leaps c).After-leap).leaps
