-- What is read of a source to its end and written whole to a sink, where they tell their content.
use Rattle.std.specs.Prelude.{◌≡◌, ℕ, ◌+◌, ◌<◌, List, [], ◌++◌, length, take, Option, Some, None, IfSome, ⊤}
use Rattle.clock_gate.specs.declared.limits.TheConstants.{INPUT_LIMIT}

-- what was taken, and what is left, make the whole
abbrev pub Taken : Option (List ℕ) → Option (List ℕ) → List ℕ → Type 0
Taken None new taken = ⊤
Taken (Some all) None taken = ⊥
Taken (Some all) (Some rest) taken = all ≡ taken ++ rest

-- all was taken, and nothing is left
abbrev pub TakenWhole : Option (List ℕ) → Option (List ℕ) → List ℕ → Type 0
TakenWhole old new taken = IfSome old (λ all. (taken ≡ all) × (new ≡ Some []))

-- more bytes were taken than the limit
abbrev pub TookTooMuch : Option (List ℕ) → Option (List ℕ) → Type 0
TookTooMuch None new = ⊤
TookTooMuch (Some all) None = ⊥
TookTooMuch (Some all) (Some rest) = INPUT_LIMIT + length rest < length all

-- this text was appended
abbrev pub Appended : Option (List ℕ) → Option (List ℕ) → List ℕ → Type 0
Appended old new text = IfSome old (λ before. new ≡ Some (before ++ text))

-- some front of this text was appended
abbrev pub AppendedFront : Option (List ℕ) → Option (List ℕ) → List ℕ → Type 0
AppendedFront old new text = (n : ℕ) × Appended old new (take n text)
