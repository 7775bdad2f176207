-- Where a property can be decided, there is a least number that has it.
use Rattle.std.proofs.Common.{◌≡◌, ◌⊎◌, inl, inr, ℕ, zero, suc, ◌+◌, ◌-◌, ◌≤◌, sym, subst, arith}
use Rattle.std.proofs.lemmas.Bool.{cases_eq}
use Rattle.lawful_report.specs.Points.{IsLeast}
use Rattle.lawful_report.specs.Showed.{IsOneOf}

abbrev pub Decided : (ℕ → Type 0) → Type 0
Decided Has = (n : ℕ) → Has n ⊎ (Has n → ⊥)

-- the least from a number on, up to one that has it
pub record Found (Has : ℕ → Type 0) (from most : ℕ) : Type 0 where
  pub at : ℕ
  pub not_before : from ≤ at
  pub not_past : at ≤ most
  pub has : Has at
  pub none_less : (n : ℕ) → from ≤ n → Has n → at ≤ n

not_here : (Has : ℕ → Type 0) (from n : ℕ) → (Has from → ⊥) → from ≤ n → Has n → suc from ≤ n
not_here Has from n never le h = elim (cases_eq from n) [
  | inl same ↦ absurd (never (subst Has (sym same) h))
  | inr other ↦ omega (arith, other)
]

pub least_from : (Has : ℕ → Type 0) → Decided Has → (k from most : ℕ) → from + k ≡ most → Has most → Found Has from most
least_from Has decide zero from most is h =
    let same : most ≡ from = omega arith in
    record { at = most; not_before = omega arith; not_past = omega arith; has = h; none_less = λ n le found. omega arith }
least_from Has decide (suc k) from most is h = elim (decide from) [
  | inl yes_here ↦ record { at = from; not_before = omega arith; not_past = omega arith; has = yes_here; none_less = λ n le found. le }
  | inr no_here ↦
      let later : Found Has (suc from) most = least_from Has decide k (suc from) most (omega arith) h in
      record {
        at = later.at;
        not_before = omega (arith, later.not_before);
        not_past = later.not_past;
        has = later.has;
        none_less = λ n le found. later.none_less n (not_here Has from n no_here le found) found;
      }
]

-- one that is at or after a later start gives a least one from an earlier start
pub record Below (Has : ℕ → Type 0) (from last most : ℕ) : Type 0 where
  pub at : ℕ
  pub least : IsLeast from last Has at
  pub below : at ≤ most

pub least_below : (Has : ℕ → Type 0) → Decided Has → (from shown last n : ℕ) → from ≤ shown → IsOneOf shown last Has n → Below Has from last n
least_below Has decide from shown last n le one =
    let gap : from + (n - from) ≡ n = omega (arith, one.not_before) in
    let found : Found Has from n = least_from Has decide (n - from) from n gap one.has in
    record {
      at = found.at;
      least = record { not_before = found.not_before; not_past = omega (arith, found.not_past, one.not_past); has = found.has; none_less = found.none_less };
      below = found.not_past;
    }
