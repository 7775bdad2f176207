use Rattle.std.proofs.Common.{◌≡◌, ◌<◌, ℕ, List, [], ◌∷◌, ◌++◌, take, length, vec_len, slice_index_or, refl, sym, ap, ◌∙◌, subst, arith}
use Rattle.std.proofs.lemmas.List.{take_more}
use Rattle.interval_now.specs.declared.answers.Answer.{Answer}
use Rattle.segment_rule.specs.Calls.{Nows}
use Rattle.live_run.specs.Work.{Stands}
use Rattle.live_run.proofs.Turns.{HasStepped, stands_ended}
use Rattle.live_run.proofs.clients.Client.step.Goals as goal

pub returns-in-Some-clause-turned : goal.returns-in-Some-clause-turned
returns-in-Some-clause-turned g c =
    let old = c.args.self.now in
    let clock = c.args.clock.now in
    let can = c.requires.can in
    let e = c.in-Some.ensures in
    let n : ℕ = vec_len old.answers in
    let left = can.hand c.requires.hand in
    let calls = old.calls.ok.0 in
    let here : n < length old.calls.items = omega (arith, left, calls) in
    let tries : ℕ = slice_index_or old.calls.items n 0 in
    let step : HasStepped old.seat c.step.new.self =
    record { setup = e.same.setup; first = e.first; later = e.later; before_first = e.before_first; before_later = e.before_later } in
    let nows : Nows clock tries c.in-Some.answer c.step.new.self.view = subst (λ (k : ℕ). Nows clock k c.in-Some.answer c.step.new.self.view) (can.same_tries c.requires.hand) e.ended.1 in
    let more : take n old.calls.items ++ tries ∷ [] ≡ take (vec_len c.push_reserved.new.self) old.calls.items =
    sym (take_more old.calls.items n 0 here) ∙ ap (λ (k : ℕ). take k old.calls.items) (sym c.push_reserved.ensures.len) in
    record {
      number = refl;
      table = e.same.table;
      calls = refl;
      stands = λ first st.
          subst (λ (x : List ℕ × List Answer). Stands clock x.0 x.1 first c.step.new.self) (λ i. (more i, sym c.push_reserved.ensures.items i))
          (stands_ended clock (take n old.calls.items) old.answers.items tries c.in-Some.answer first old.seat c.step.new.self c.requires.hand e.ended.0 step nows st);
    }
