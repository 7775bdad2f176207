-- How many spans hold a point, by the edges at or before it.
use Rattle.std.proofs.Common.{◌≡◌, ℕ, ◌+◌, ◌^◌, ◌<◌, Bool, cond, List, [], ◌∷◌, length, Option, Some, None, refl, arith, ℤ, pos, neg_ℤ, ◌+ℤ◌, ◌≤ℤ◌, ◌<ℤ◌}
use Rattle.std.proofs.lemmas.Int.{ints, by_lt_z}
use Rattle.std.proofs.lemmas.List.Sums.{sum_by-cons, count_by-le-length}
use Rattle.std.specs.List.{count_by}
use Rattle.bound_agree.specs.declared.edge.Edge.TheVariants.{First, Past}
use Rattle.bound_agree.specs.declared.edge.Counts.{Counts}
use Rattle.bound_agree.specs.Board.{holders_of, holds, is_held}
use Rattle.bound_agree.specs.Edges.{has_passed, AreSpans, AreEdgesOf}
use Rattle.bound_agree.specs.Runs.{AreRuns}
use Rattle.bound_agree.specs.Span.{SpanEnds}
use Rattle.bound_agree.proofs.Edits.{low_of}
use Rattle.bound_agree.proofs.Order.{int_le-false, int_le-true}
use Rattle.bound_agree.proofs.OneSweep.{Ties, none_to, sweep, swept, can, IsSwept, fails_by}

pub count-cons : (p : Option SpanEnds → Bool) (s : Option SpanEnds) (spans : List (Option SpanEnds)) → count_by p (s ∷ spans) ≡ cond (p s) 1 0 + count_by p spans
count-cons p s spans = sum_by-cons (λ (x : Option SpanEnds). cond (p x) 1 0) s spans

-- a span holds the point that it began at or before and that it isn't past
one_span : (s : SpanEnds) (x : ℤ) → s.earliest ≤ℤ s.latest → cond (holds x (Some s)) 1 0 + cond (has_passed Past x (Some s)) 1 0 ≡ cond (has_passed First x (Some s)) 1 0
one_span s x fits =
    by_lt_z x s.earliest
    (λ early. rw (int_le-false s.earliest x early, int_le-false (s.latest +ℤ pos 1) x (omega (arith, ints, early, fits))) refl)
    (λ begun. by_lt_z s.latest x
    (λ late. rw (int_le-true s.earliest x begun, int_le-false x s.latest late, int_le-true (s.latest +ℤ pos 1) x (omega (arith, ints, late))) refl)
    (λ inside. rw (int_le-true s.earliest x begun, int_le-true x s.latest inside, int_le-false (s.latest +ℤ pos 1) x (omega (arith, ints, inside))) refl))

split : (spans : List (Option SpanEnds)) (x : ℤ) → AreSpans spans → holders_of spans x + count_by (has_passed Past x) spans ≡ count_by (has_passed First x) spans
split [] x fit = refl
split (None ∷ spans) x fit = omega (arith, split spans x fit.1, count-cons (holds x) None spans, count-cons (has_passed Past x) None spans, count-cons (has_passed First x) None spans)
split (Some s ∷ spans) x fit = omega (arith, one_span s x fit.0.ordered, split spans x fit.1, count-cons (holds x) (Some s) spans, count-cons (has_passed Past x) (Some s) spans, count-cons (has_passed First x) (Some s) spans)

-- no span holds a point outside the limits
pub outside : (spans : List (Option SpanEnds)) (x : ℤ) → AreSpans spans → ((x <ℤ neg_ℤ (pos (2 ^ 62))) → holders_of spans x ≡ 0) × ((pos (2 ^ 62) <ℤ x) → holders_of spans x ≡ 0)
outside [] x fit = (λ h. refl, λ h. refl)
outside (None ∷ spans) x fit =
    let rest = outside spans x fit.1 in
    (λ h. omega (arith, rest.0 h, count-cons (holds x) None spans), λ h. omega (arith, rest.1 h, count-cons (holds x) None spans))
outside (Some s ∷ spans) x fit =
    let rest = outside spans x fit.1 in (
      λ h. let not_it : cond {A = ℕ} (holds x (Some s)) 1 0 ≡ 0 = rw (int_le-false s.earliest x (omega (arith, ints, h, fit.0.low))) refl in omega (arith, not_it, rest.0 h, count-cons (holds x) (Some s) spans),
      λ h. let not_it : cond {A = ℕ} (holds x (Some s)) 1 0 ≡ 0 = rw (int_le-true s.earliest x (omega (arith, ints, h, fit.0.ordered, fit.0.high)), int_le-false x s.latest (omega (arith, ints, h, fit.0.high))) refl in omega (arith, not_it, rest.1 h, count-cons (holds x) (Some s) spans),
    )

ties : (spans : List (Option SpanEnds)) (es : List (ℤ × Counts)) (low : ℤ) → AreEdgesOf spans es → Ties (holders_of spans) 0 low es
ties spans es low are x from = omega (arith, split spans x are.fit, are.totals First x, are.totals Past x)

-- the sweep over the edges of spans gives the runs
pub swept_runs : (spans : List (Option SpanEnds)) (es : List (ℤ × Counts)) (need : ℕ) → 0 < need → AreEdgesOf spans es → AreRuns (is_held need spans) (sweep need 0 None es)
swept_runs spans es need some are =
    let (low, above) = low_of es are.rises in
    let top = pos (2 ^ 62) +ℤ pos 1 in
    let far : (x : ℤ) → top ≤ℤ x → holders_of spans x < need = λ x h. omega (arith, some, (outside spans x are.fit).1 (omega (arith, ints, h))) in (
      low,
      λ x lt. let none = none_to low x es above (omega (arith, ints, lt)) in
          fails_by need (holders_of spans) x (omega (arith, some, none.0, none.1, ties spans es x are x (omega (arith, ints)))),
      (swept (holders_of spans) need top far es 0 low above (ties spans es low are)).0 some,
    )

-- and it can compute
pub can_sweep : (spans : List (Option SpanEnds)) (es : List (ℤ × Counts)) (need : ℕ) → AreEdgesOf spans es → IsSwept need 0 None es
can_sweep spans es need are =
    let (low, above) = low_of es are.rises in
    can (holders_of spans) need (length spans) es 0 None low (omega (arith, are.few)) above (ties spans es low are) tt
    (λ x. omega (arith, are.totals First x, count_by-le-length (has_passed First x) spans)) are.keys
