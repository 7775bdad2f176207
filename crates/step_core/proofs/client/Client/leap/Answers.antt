use Rattle.std.proofs.Common.{Some, drop, sym, subst}
use Rattle.step_core.specs.declared.marks.Marks.{Marks}
use Rattle.step_core.specs.SharedClient.{ClientState}
use Rattle.step_core.specs.Leaps.{Leaps, IsGoodLeap}
use Rattle.step_core.proofs.Leaps.{leaps_some}
use Rattle.step_core.proofs.client.Client.leap.Goals as goal

pub returns-in-Some-clause-leaps : goal.returns-in-Some-clause-leaps
returns-in-Some-clause-leaps c = λ clock.
    let r = c.self.inside in
    let here : ClientState = record { number = r.number; left = drop r.begun r.calls.items; begun = r.begun; call = r.call; marks = r.marks } in
    let good = subst (IsGoodLeap c.args.words.now) c.in-Some.is (subst (λ (s : ClientState). IsGoodLeap c.args.words.now s.call) (sym c.self.view_is) c.requires.good) in
    subst (λ (s : ClientState). Leaps clock c.args.words.now c.args.place c.leap-turns.result.0 s (record { number = r.number; left = drop r.begun r.calls.items; begun = r.begun; call = Some c.leap-turns.new.call; marks = c.headed-self-inside.result })) c.self.view_is
    (subst (λ (m : Marks). Leaps clock c.args.words.now c.args.place c.leap-turns.result.0 here (record here { call = Some c.leap-turns.new.call; marks = m })) (sym c.headed-self-inside.ensures)
    (leaps_some clock c.args.words.now c.args.place here c.in-Some.call c.leap-turns.new.call c.leap-turns.result.0 c.leap-turns.result.1 c.in-Some.is good (c.leap-turns.ensures.leaps clock)))
