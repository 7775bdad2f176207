-- What a board keeps, where one span takes another's place.
use Rattle.std.proofs.Common.{◌≡◌, ℕ, zero, suc, ◌+◌, ◌^◌, ◌<◌, ◌≤◌, Bool, false, cond, List, [], ◌∷◌, length, set, get_or, Option, Some, None, is_some, refl, sym, ◌∙◌, subst, arith, ℤ, pos, ◌-ℤ◌, ◌≤ℤ◌, length-set, replicate}
use Rattle.std.proofs.lemmas.Int.{ints, by_lt_z}
use Rattle.std.proofs.lemmas.List.{length-replicate}
use Rattle.std.proofs.lemmas.List.Sums.{sum_by-set, count_by-le-length}
use Rattle.std.specs.List.{count_by}
use Rattle.bound_agree.specs.declared.edge.Edge.{Edge}
use Rattle.bound_agree.specs.declared.edge.Counts.{Counts}
use Rattle.bound_agree.specs.Board.{no_spans}
use Rattle.bound_agree.specs.Edges.{Kept, AreEdgesOf, AreSpans, IsSpan, has_passed, edge_of, total_to, Adds, SameTotals, HasEdges, Rises, AreKeys}
use Rattle.bound_agree.specs.Span.{SpanEnds}
use Rattle.bound_agree.proofs.Counting.{count-cons}
use Rattle.bound_agree.proofs.Order.{int_le-false, int_le-true}

-- a count over the spans, with another in one place
placed : (p : Option SpanEnds → Bool) (spans : List (Option SpanEnds)) (i : ℕ) (new : Option SpanEnds) → i < length spans → count_by p (set spans i new) + cond {A = ℕ} (p (get_or spans i None)) 1 0 ≡ count_by p spans + cond {A = ℕ} (p new) 1 0
placed p spans i new h = sum_by-set (λ (x : Option SpanEnds). cond {A = ℕ} (p x) 1 0) spans i new None h

spans_set : (spans : List (Option SpanEnds)) (i : ℕ) (new : Option SpanEnds) → IsSpan new → AreSpans spans → AreSpans (set spans i new)
spans_set [] i new h a = tt
spans_set (s ∷ spans) zero new h a = (h, a.1)
spans_set (s ∷ spans) (suc i) new h a = (a.0, spans_set spans i new h a.1)

-- ---- A span of the board has its edges in the map
passed_later : (edge : Edge) (o : Option SpanEnds) (x y : ℤ) → x ≤ℤ y → cond {A = ℕ} (has_passed edge x o) 1 0 ≤ cond {A = ℕ} (has_passed edge y o) 1 0
passed_later edge None x y h = omega arith
passed_later edge (Some s) x y h = by_lt_z x (edge_of edge s)
    (λ lt. rw (int_le-false (edge_of edge s) x lt) (omega arith))
    (λ ge. rw (int_le-true (edge_of edge s) x ge, int_le-true (edge_of edge s) y (omega (arith, ints, ge, h))) (omega arith))

all_passed_later : (edge : Edge) (spans : List (Option SpanEnds)) (x y : ℤ) → x ≤ℤ y → count_by (has_passed edge x) spans ≤ count_by (has_passed edge y) spans
all_passed_later edge [] x y h = omega arith
all_passed_later edge (s ∷ spans) x y h = omega (arith, all_passed_later edge spans x y h, passed_later edge s x y h, count-cons (has_passed edge x) s spans, count-cons (has_passed edge y) s spans)

pub has_edges : (spans : List (Option SpanEnds)) (i : ℕ) (new old : Option SpanEnds) (es fs : List (ℤ × Counts)) → old ≡ get_or spans i None → i < length spans → AreEdgesOf spans es → Adds new es fs → HasEdges old fs
has_edges spans i new None es fs is h are add = tt
has_edges spans i new (Some s) es fs is h are add = λ edge.
    let k = edge_of edge s in
    let before = k -ℤ pos 1 in
    let one : cond {A = ℕ} (has_passed edge k (Some s)) 1 0 ≡ 1 = rw (int_le-true k k (omega (arith, ints))) refl in
    let none : cond {A = ℕ} (has_passed edge before (Some s)) 1 0 ≡ 0 = rw (int_le-false k before (omega (arith, ints))) refl in
    let rest = set spans i None in
    let a = subst (λ (q : Option SpanEnds). count_by (has_passed edge k) rest + cond {A = ℕ} (has_passed edge k q) 1 0 ≡ count_by (has_passed edge k) spans + 0) (sym is) (placed (has_passed edge k) spans i None h) in
    let b = subst (λ (q : Option SpanEnds). count_by (has_passed edge before) rest + cond {A = ℕ} (has_passed edge before q) 1 0 ≡ count_by (has_passed edge before) spans + 0) (sym is) (placed (has_passed edge before) spans i None h) in
    omega (arith, one, none, a, b, all_passed_later edge rest before k (omega (arith, ints)), passed_later edge new before k (omega (arith, ints)), are.totals edge k, are.totals edge before, add edge k, add edge before)

pub adds_none : (es : List (ℤ × Counts)) → Adds None es es
adds_none es edge x = omega arith

pub others_fit : (spans : List (Option SpanEnds)) (count i : ℕ) (old : Option SpanEnds) (es : List (ℤ × Counts)) → old ≡ get_or spans i None → i < length spans → Kept spans count es → cond {A = ℕ} (is_some old) 1 0 ≤ count
others_fit spans count i old es is h k = rw is (omega (arith, k.counted, placed is_some spans i None h))

pub kept : (spans : List (Option SpanEnds)) (i count later : ℕ) (new old : Option SpanEnds) (es fs gs : List (ℤ × Counts)) → old ≡ get_or spans i None → i < length spans → IsSpan new → Kept spans count es → Adds new es fs → Adds old gs fs → Rises gs → AreKeys gs
    → later + cond {A = ℕ} (is_some old) 1 0 ≡ count + cond {A = ℕ} (is_some new) 1 0 → Kept (set spans i new) later gs
kept spans i count later new old es fs gs was h is k add less rises keys number =
    let fewer = rw was at less in
    let numbers = rw was at number in
    record {
      wide = length-set spans i new ∙ k.wide;
      counted = omega (arith, k.counted, numbers, placed is_some spans i new h);
      edges = record {
        few = omega (arith, length-set spans i new, k.wide);
        fit = spans_set spans i new is k.edges.fit;
        totals = λ edge x. omega (arith, k.edges.totals edge x, add edge x, fewer edge x, placed (has_passed edge x) spans i new h);
        rises = rises;
        keys = keys;
      };
    }

pub still_kept : (spans : List (Option SpanEnds)) (count : ℕ) (es fs : List (ℤ × Counts)) → Kept spans count es → SameTotals es fs → Rises fs → AreKeys fs → Kept spans count fs
still_kept spans count es fs k same rises keys = record {
  wide = k.wide;
  counted = k.counted;
  edges = record { few = k.edges.few; fit = k.edges.fit; totals = λ edge x. same edge x ∙ k.edges.totals edge x; rises = rises; keys = keys };
}

pub small : (spans : List (Option SpanEnds)) (count : ℕ) (es : List (ℤ × Counts)) → Kept spans count es → (edge : Edge) (x : ℤ) → total_to edge x es < 2 ^ 31
small spans count es k edge x = omega (arith, k.wide, k.edges.totals edge x, count_by-le-length (has_passed edge x) spans)

-- ---- A board without spans
none_fit : (n : ℕ) → AreSpans (replicate n None)
none_fit zero = tt
none_fit (suc n) = (tt, none_fit n)

none_count : (p : Option SpanEnds → Bool) → p None ≡ false → (n : ℕ) → 0 ≡ count_by p (replicate n None)
none_count p not_it zero = refl
none_count p not_it (suc n) = let here : cond {A = ℕ} (p None) 1 0 ≡ 0 = rw not_it refl in omega (arith, here, none_count p not_it n, count-cons p None (replicate n None))

pub kept_none : (spans : List (Option SpanEnds)) (es : List (ℤ × Counts)) → spans ≡ no_spans → es ≡ [] → Kept spans 0 es
kept_none spans es e f =
    subst (λ (l : List (Option SpanEnds)). Kept l 0 es) (sym e) (subst (λ (l : List (ℤ × Counts)). Kept (replicate 1000 None) 0 l) (sym f) (record {
      wide = length-replicate {A = Option SpanEnds} 1000 None;
      counted = none_count is_some refl 1000;
      edges = record {
        few = omega (arith, length-replicate {A = Option SpanEnds} 1000 None);
        fit = none_fit 1000;
        totals = λ edge x. none_count (has_passed edge x) refl 1000;
        rises = tt;
        keys = tt;
      };
    }))
