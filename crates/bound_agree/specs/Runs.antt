-- The runs of neighbouring whole numbers that pass a test.
use Rattle.std.specs.Prelude.{◌≡◌, ℕ, zero, suc, Bool, true, false, if◌then◌else◌, List, [], ◌∷◌, ℤ, pos, ◌+ℤ◌, ◌≤ℤ◌, ◌<ℤ◌, ◌⊎◌}
use Rattle.std.specs.Ordering.{int_eq}
use Rattle.bound_agree.specs.Span.{SpanEnds}

-- From `low` on this is the first maximal run of numbers that pass: those before it fail, all of its own pass, the one
-- after it fails, and `Later` is true of the numbers from there on.
pub record FirstRun (passes : ℤ → Bool) (low : ℤ) (run : SpanEnds) (Later : ℤ → Type 0) : Type 0 where
  pub from_low : low ≤ℤ run.earliest
  pub ordered : run.earliest ≤ℤ run.latest
  pub before : (x : ℤ) → low ≤ℤ x → x <ℤ run.earliest → passes x ≡ false
  pub inside : (x : ℤ) → run.earliest ≤ℤ x → x ≤ℤ run.latest → passes x ≡ true
  pub after : passes (run.latest +ℤ pos 1) ≡ false
  pub later : Later (run.latest +ℤ pos 1)

-- the maximal runs of the numbers from `low` on that pass, in ascending order
abbrev pub AreRunsFrom : (ℤ → Bool) → List SpanEnds → ℤ → Type 0
AreRunsFrom passes [] low = (x : ℤ) → low ≤ℤ x → passes x ≡ false
AreRunsFrom passes (run ∷ runs) low = FirstRun passes low run (AreRunsFrom passes runs)

-- the maximal runs of all numbers that pass, in ascending order, where none passes before some number
abbrev pub AreRuns : (ℤ → Bool) → List SpanEnds → Type 0
AreRuns passes runs = (low : ℤ) × ((x : ℤ) → x <ℤ low → passes x ≡ false) × AreRunsFrom passes runs low

-- the number lies in one of the runs
abbrev pub InSome : ℤ → List SpanEnds → Type 0
InSome x [] = ⊥
InSome x (run ∷ runs) = ((run.earliest ≤ℤ x) × (x ≤ℤ run.latest)) ⊎ InSome x runs

-- a number that passes, before the runs of the numbers after it: it lengthens the first run, or is one by itself
abbrev pub joined : ℤ → List SpanEnds → List SpanEnds
joined x [] = record { earliest = x; latest = x } ∷ []
joined x (run ∷ runs) =
    if int_eq run.earliest (x +ℤ pos 1) then record { earliest = x; latest = run.latest } ∷ runs
    else record { earliest = x; latest = x } ∷ run ∷ runs

-- the runs of those that pass among the n numbers from x on
unfoldable pub runs_among : (ℤ → Bool) → ℕ → ℤ → List SpanEnds
runs_among passes zero x = []
runs_among passes (suc n) x =
    if passes x then joined x (runs_among passes n (x +ℤ pos 1)) else runs_among passes n (x +ℤ pos 1)
