-- There is one list of maximal runs: the one that looking at each number gives.
use Rattle.std.proofs.Common.{◌≡◌, ℕ, zero, suc, Bool, true, false, cond, List, [], ◌∷◌, refl, sym, ◌∙◌, ap, subst, arith, ℤ, pos, ◌+ℤ◌, ◌≤ℤ◌, ◌<ℤ◌, int_eq}
use Rattle.std.proofs.lemmas.Int.{ints, by_lt_z}
use Rattle.bound_agree.specs.Span.{SpanEnds}
use Rattle.bound_agree.specs.Runs.{AreRunsFrom, joined, runs_among}
use Rattle.bound_agree.proofs.Order.{clash}

int_eq-same : (x : ℤ) → int_eq x x ≡ true
int_eq-same x = grind (arith, ints)

int_eq-apart : (x y : ℤ) → x <ℤ y → int_eq y x ≡ false
int_eq-apart x y h = grind (arith, ints)

-- past a point that fails
raised : (p : ℤ → Bool) (runs : List SpanEnds) (low : ℤ) → p low ≡ false → AreRunsFrom p runs low → AreRunsFrom p runs (low +ℤ pos 1)
raised p [] low f is = λ x from. is x (omega (arith, ints, from))
raised p (run ∷ runs) low f is = record {
  from_low = by_lt_z low run.earliest (λ lt. omega (arith, ints, lt)) (λ ge.
      let same : run.earliest ≡ low = omega (arith, ints, ge, is.from_low) in
      clash (p low) (subst (λ (x : ℤ). p x ≡ true) same (is.inside run.earliest (omega (arith, ints)) is.ordered)) f);
  ordered = is.ordered;
  before = λ x from to. is.before x (omega (arith, ints, from)) to;
  inside = is.inside;
  after = is.after;
  later = is.later;
}

-- a run that begins here, without its first point
shortened : (p : ℤ → Bool) (run : SpanEnds) (runs : List SpanEnds) (low : ℤ) → run.earliest ≡ low → low <ℤ run.latest → AreRunsFrom p (run ∷ runs) low → AreRunsFrom p (record { earliest = low +ℤ pos 1; latest = run.latest } ∷ runs) (low +ℤ pos 1)
shortened p run runs low same longer is = record {
  from_low = omega (arith, ints);
  ordered = omega (arith, ints, longer);
  before = λ x from to. absurd (omega (arith, ints, from, to));
  inside = λ x from to. is.inside x (omega (arith, ints, same, from)) to;
  after = is.after;
  later = is.later;
}

joined-apart : (p : ℤ → Bool) (runs : List SpanEnds) (x : ℤ) → p (x +ℤ pos 1) ≡ false → AreRunsFrom p runs (x +ℤ pos 1) → joined x runs ≡ record { earliest = x; latest = x } ∷ runs
joined-apart p [] x f is = refl
joined-apart p (run ∷ runs) x f is =
    let next = raised p (run ∷ runs) (x +ℤ pos 1) f is in
    let later : (x +ℤ pos 1) <ℤ run.earliest = omega (arith, ints, next.from_low) in
    rw (int_eq-apart (x +ℤ pos 1) run.earliest later) refl

joined-next : (x y : ℤ) (runs : List SpanEnds) → joined x (record { earliest = x +ℤ pos 1; latest = y } ∷ runs) ≡ record { earliest = x; latest = y } ∷ runs
joined-next x y runs = rw (int_eq-same (x +ℤ pos 1)) refl

abbrev pub Far : (ℤ → Bool) → ℕ → ℤ → Type 0
Far p n low = (x : ℤ) → (low +ℤ pos n) ≤ℤ x → p x ≡ false

further : (p : ℤ → Bool) (n : ℕ) (low : ℤ) → Far p (suc n) low → Far p n (low +ℤ pos 1)
further p n low far x from = far x (omega (arith, ints, from))

abbrev span_of : ℤ → ℤ → SpanEnds
span_of x y = record { earliest = x; latest = y }

same_span : (run : SpanEnds) (x y : ℤ) → run.earliest ≡ x → run.latest ≡ y → span_of x y ≡ run
same_span run x y a b = ap (λ (z : ℤ). span_of z y) (sym a) ∙ ap (λ (z : ℤ). span_of run.earliest z) (sym b)

-- the point passes, and what the points after it give is known
taken : (p : ℤ → Bool) (n : ℕ) (runs : List SpanEnds) (low : ℤ) → p low ≡ true → AreRunsFrom p runs low → ((left : List SpanEnds) → AreRunsFrom p left (low +ℤ pos 1) → runs_among p n (low +ℤ pos 1) ≡ left) → joined low (runs_among p n (low +ℤ pos 1)) ≡ runs
taken p n [] low t is ih = clash (p low) t (is low (omega (arith, ints)))
taken p n (run ∷ runs) low t is ih =
    by_lt_z low run.earliest (λ lt. clash (p low) t (is.before low (omega (arith, ints)) lt)) (λ ge.
    let same : run.earliest ≡ low = omega (arith, ints, ge, is.from_low) in
    by_lt_z low run.latest
    (λ longer. rw (ih (span_of (low +ℤ pos 1) run.latest ∷ runs) (shortened p run runs low same longer is))
    (joined-next low run.latest runs ∙ ap (λ (s : SpanEnds). s ∷ runs) (same_span run low run.latest same refl)))
    (λ short.
    let end : run.latest ≡ low = omega (arith, ints, short, is.ordered, same) in
    let rest = subst (λ (y : ℤ). AreRunsFrom p runs (y +ℤ pos 1)) end is.later in
    let fails = subst (λ (y : ℤ). p (y +ℤ pos 1) ≡ false) end is.after in
    rw (ih runs rest) (joined-apart p runs low fails rest ∙ ap (λ (s : SpanEnds). s ∷ runs) (same_span run low low same end))))

step : (p : ℤ → Bool) (n : ℕ) (runs : List SpanEnds) (low : ℤ) (b : Bool) → p low ≡ b → AreRunsFrom p runs low → ((left : List SpanEnds) → AreRunsFrom p left (low +ℤ pos 1) → runs_among p n (low +ℤ pos 1) ≡ left) → cond b (joined low (runs_among p n (low +ℤ pos 1))) (runs_among p n (low +ℤ pos 1)) ≡ runs
step p n runs low true t is ih = taken p n runs low t is ih
step p n runs low false f is ih = ih runs (raised p runs low f is)

pub counted : (p : ℤ → Bool) (n : ℕ) (runs : List SpanEnds) (low : ℤ) → Far p n low → AreRunsFrom p runs low → runs_among p n low ≡ runs
unfolding runs_among
counted p zero [] low far is = refl
counted p zero (run ∷ runs) low far is =
    clash (p run.earliest) (is.inside run.earliest (omega (arith, ints)) is.ordered) (far run.earliest (omega (arith, ints, is.from_low)))
counted p (suc n) runs low far is =
    step p n runs low (p low) refl is (λ left more. counted p n left (low +ℤ pos 1) (further p n low far) more)
