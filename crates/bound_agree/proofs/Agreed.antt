-- What a board answers: the runs that counting gives, in one of which a point lies that few enough spans miss.
use Rattle.std.proofs.Common.{◌≡◌, ℕ, ◌+◌, ◌-◌, ◌^◌, ◌<◌, ◌≤◌, nat_le, Bool, true, false, not, cond, List, [], ◌∷◌, Option, Some, None, is_some, inl, inr, refl, sym, arith, ℤ, pos, neg_ℤ, ◌+ℤ◌, ◌≤ℤ◌, ◌<ℤ◌}
use Rattle.std.proofs.lemmas.Int.{ints, by_lt_z}
use Rattle.std.proofs.lemmas.Bool.Decides.{nat_tests}
use Rattle.bound_agree.specs.declared.edge.Counts.{Counts}
use Rattle.bound_agree.specs.Board.{Agree, agreement_of, holders_of, holds, is_held, missed_by, misses, spans_of}
use Rattle.bound_agree.specs.Edges.{AreEdgesOf, AreSpans, Kept}
use Rattle.bound_agree.specs.Runs.{AreRuns, AreRunsFrom, InSome, runs_among}
use Rattle.bound_agree.specs.Span.{SpanEnds}
use Rattle.bound_agree.proofs.Counted.{counted}
use Rattle.bound_agree.proofs.Counting.{count-cons, outside}
use Rattle.bound_agree.proofs.OneSweep.{lowered}
use Rattle.bound_agree.proofs.Order.{clash}

pub answered : (spans : List (Option SpanEnds)) (count : ℕ) (es : List (ℤ × Counts)) (most_false : ℕ) (runs : List SpanEnds) → Kept spans count es → most_false < count
    → ((all : List (Option SpanEnds)) → AreEdgesOf all es → AreRuns (is_held (count - most_false) all) runs) → Agree spans most_false runs
answered spans count es most_false runs kept more are = record {
  none = λ h. absurd (omega (arith, h, more, kept.counted));
  all = λ h. rw kept.counted at are spans kept.edges;
}

pub unanswered : (spans : List (Option SpanEnds)) (count most_false : ℕ) (es : List (ℤ × Counts)) → Kept spans count es → count ≤ most_false → Agree spans most_false []
unanswered spans count most_false es kept few = record { none = λ h. refl; all = λ h. absurd (omega (arith, h, few, kept.counted)) }

-- runs from a point on are runs from a higher one, where the points below it fail
moved : (p : ℤ → Bool) (runs : List SpanEnds) (low k : ℤ) → low ≤ℤ k → ((x : ℤ) → x <ℤ k → p x ≡ false) → AreRunsFrom p runs low → AreRunsFrom p runs k
moved p [] low k le fail is = λ x from. is x (omega (arith, ints, le, from))
moved p (run ∷ runs) low k le fail is = record {
  from_low = by_lt_z run.earliest k (λ lt. clash (p run.earliest) (is.inside run.earliest (omega (arith, ints)) is.ordered) (fail run.earliest lt)) (λ ge. ge);
  ordered = is.ordered;
  before = λ x from to. is.before x (omega (arith, ints, le, from)) to;
  inside = is.inside;
  after = is.after;
  later = is.later;
}

fails : (need : ℕ) (spans : List (Option SpanEnds)) (x : ℤ) → 0 < need → holders_of spans x ≡ 0 → is_held need spans x ≡ false
fails need spans x some none = grind (arith, nat_tests)

by_counting : (spans : List (Option SpanEnds)) (need : ℕ) (runs : List SpanEnds) → 0 < need → AreSpans spans → AreRuns (is_held need spans) runs → runs_among (is_held need spans) (2 ^ 63 + 1) (neg_ℤ (pos (2 ^ 62))) ≡ runs
by_counting spans need runs some fit (low, below, is) =
    let bottom = neg_ℤ (pos (2 ^ 62)) in
    let p = is_held need spans in
    let under = λ (x : ℤ) (h : x <ℤ bottom). fails need spans x some ((outside spans x fit).0 h) in
    let over = λ (x : ℤ) (h : pos (2 ^ 62) <ℤ x). fails need spans x some ((outside spans x fit).1 h) in
    let from : AreRunsFrom p runs bottom = by_lt_z low bottom
    (λ lt. moved p runs low bottom (omega (arith, ints, lt)) under is)
    (λ ge. lowered p runs bottom low ge (λ x f to. below x to) is) in
    counted p (2 ^ 63 + 1) runs bottom (λ x h. over x (omega (arith, ints, h))) from

pub is_agreement : (spans : List (Option SpanEnds)) (count : ℕ) (es : List (ℤ × Counts)) (most_false : ℕ) (runs : List SpanEnds) → Kept spans count es → Agree spans most_false runs → runs ≡ agreement_of spans most_false
unfolding agreement_of
is_agreement spans count es f runs kept a = either (nat_le (spans_of spans) f) refl
  where
    either : (b : Bool) → nat_le (spans_of spans) f ≡ b → runs ≡ cond b [] (runs_among (is_held (spans_of spans - f) spans) (2 ^ 63 + 1) (neg_ℤ (pos (2 ^ 62))))
    either true e = a.none (grind (arith, nat_tests))
    either false e = let more : f < spans_of spans = grind (arith, nat_tests) in
        sym (by_counting spans (spans_of spans - f) runs (omega (arith, more)) kept.edges.fit (a.all more))

-- ---- A point that few enough spans miss
found_from : (p : ℤ → Bool) (runs : List SpanEnds) (low x : ℤ) → AreRunsFrom p runs low → low ≤ℤ x → p x ≡ true → InSome x runs
found_from p [] low x is from t = clash (p x) t (is x from)
found_from p (run ∷ runs) low x is from t =
    by_lt_z x run.earliest (λ before. clash (p x) t (is.before x from before))
    (λ begun. by_lt_z run.latest x
    (λ after. inr (found_from p runs (run.latest +ℤ pos 1) x is.later (omega (arith, ints, after)) t))
    (λ inside. inl (begun, inside)))

found : (p : ℤ → Bool) (runs : List SpanEnds) (x : ℤ) → AreRuns p runs → p x ≡ true → InSome x runs
found p runs x (low, below, is) t = by_lt_z x low (λ lt. clash (p x) t (below x lt)) (λ ge. found_from p runs low x is ge t)

one_or : (b : Bool) → cond {A = ℕ} b 1 0 + cond {A = ℕ} (not b) 1 0 ≡ 1
one_or true = refl
one_or false = refl

-- each span holds the point or misses it
held_or_missed : (spans : List (Option SpanEnds)) (x : ℤ) → holders_of spans x + missed_by spans x ≡ spans_of spans
held_or_missed [] x = refl
held_or_missed (None ∷ spans) x = omega (arith, held_or_missed spans x, count-cons (holds x) None spans, count-cons (misses x) None spans, count-cons is_some None spans)
held_or_missed (Some s ∷ spans) x = omega (arith, held_or_missed spans x, one_or (holds x (Some s)), count-cons (holds x) (Some s) spans, count-cons (misses x) (Some s) spans, count-cons is_some (Some s) spans)

pub truth_found : (spans : List (Option SpanEnds)) (most_false : ℕ) (runs : List SpanEnds) → Agree spans most_false runs → most_false < spans_of spans → (x : ℤ) → missed_by spans x ≤ most_false → InSome x runs
truth_found spans f runs a more x few =
    let enough : spans_of spans - f ≤ holders_of spans x = omega (arith, few, held_or_missed spans x) in
    found (is_held (spans_of spans - f) spans) runs x (a.all more) (grind (arith, nat_tests))
