use Rattle.std.proofs.Common.{◌≡◌, ◌∙◌, ap, arith, ℕ, ◌+◌, ◌-◌, ◌<◌, List, cond, length, is_some, get_or, Option, Some, None}
use Rattle.bound_agree.specs.Span.{SpanEnds}
use Rattle.bound_agree.proofs.Holding.{has_edges, kept, others_fit}
use Rattle.bound_agree.proofs.board.Board.put.Goals as goal

pub remove-requires-clause-present : goal.remove-requires-clause-present
remove-requires-clause-present c =
    let place = c.args.server - 1 in
    let is = c.slot-old.ensures ∙ ap (λ (l : List (Option SpanEnds)). get_or l place None) c.deref.ensures.value in
    has_edges c.self.inside.spans.items place (Some c.args.span) c.slot-old.result c.self.inside.edges.entries c.add.new.edges.entries is
    (omega (arith, c.requires, c.self.invariant.wide)) c.self.invariant.edges c.in_ok-add.ensures.done

pub invariant_of-self-2 : goal.invariant_of-self-2
invariant_of-self-2 c =
    let place = c.args.server - 1 in
    let spans = c.self.inside.spans.items in
    let is = c.slot-old.ensures ∙ ap (λ (l : List (Option SpanEnds)). get_or l place None) c.deref.ensures.value in
    let es = c.self.inside.edges.entries in
    let here : place < length spans = omega (arith, c.requires, c.self.invariant.wide) in
    let fits = others_fit spans c.self.inside.count place c.slot-old.result es is here c.self.invariant in
    let others : c.others-others.result ≡ c.self.inside.count - cond {A = ℕ} (is_some c.slot-old.result) 1 0 = rw c.is_some.ensures at c.others-others.ensures in
    kept spans place c.self.inside.count (c.others-others.result + 1) (Some c.args.span) c.slot-old.result es c.add.new.edges.entries c.remove.new.edges.entries is here c.in_ok-add.ensures.limits c.self.invariant c.in_ok-add.ensures.done c.remove.ensures.done c.remove.ensures.rises c.remove.ensures.keys (omega (arith, fits, others))
