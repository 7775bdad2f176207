use Rattle.std.proofs.Common.{◌≡◌, ◌<◌, ℕ, List, [], ◌∷◌, ◌++◌, take, length, vec_len, slice_index_or, refl, sym, ap, ◌∙◌, subst, arith}
use Rattle.std.proofs.lemmas.List.{take_more, get_or_read}
use Rattle.interval_now.specs.declared.answers.Answer.{Answer}
use Rattle.segment_rule.specs.Calls.{Nows}
use Rattle.live_run.specs.Work.{Stands}
use Rattle.live_run.proofs.Turns.{stands_called}
use Rattle.live_run.proofs.clients.Client.call.Goals as goal

pub returns-clause-turned : goal.returns-clause-turned
returns-clause-turned g c =
    let old = c.args.self.now in
    let clock = c.args.clock.now in
    let e = c.now-answer.ensures in
    let n : ℕ = vec_len old.answers in
    let left = c.requires.left in
    let calls = old.calls.ok.0 in
    let here : n < length old.calls.items = omega (arith, left, calls) in
    let tries : ℕ = slice_index_or old.calls.items n 0 in
    let most : ℕ = c.index-most.result.now in
    let read : most ≡ slice_index_or old.calls.items n most = c.index-most.ensures ∙ ap (λ (k : ℕ). slice_index_or old.calls.items k most) c.len-done.ensures in
    let nows : Nows clock tries c.now-answer.result c.now-answer.new.self.view = subst (λ (k : ℕ). Nows clock k c.now-answer.result c.now-answer.new.self.view) (get_or_read old.calls.items n most here read 0) e.answer in
    let more : take n old.calls.items ++ tries ∷ [] ≡ take (vec_len c.push_reserved.new.self) old.calls.items =
    sym (take_more old.calls.items n 0 here) ∙ ap (λ (k : ℕ). take k old.calls.items) (sym c.push_reserved.ensures.len) in
    record {
      number = refl;
      table = e.same.table;
      calls = refl;
      stands = λ first st.
          subst (λ (x : List ℕ × List Answer). Stands clock x.0 x.1 first c.now-answer.new.self) (λ i. (more i, sym c.push_reserved.ensures.items i))
          (stands_called clock (take n old.calls.items) old.answers.items tries c.now-answer.result first old.seat c.now-answer.new.self c.requires.hand e.hand e.same.setup e.calls e.before nows st);
    }
