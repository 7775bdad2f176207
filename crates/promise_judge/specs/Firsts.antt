-- The first number that passes a test.
use Rattle.std.specs.Prelude.{◌≡◌, ℕ, zero, suc, ◌+◌, ◌-◌, ◌<◌, ◌≤◌, Bool, true, false, if◌then◌else◌, Option, Some, None}

-- the first of so many numbers, from one number on, that passes the test
abbrev pub first_of : (ℕ → Bool) → (from count : ℕ) → Option ℕ
first_of test from zero = None
first_of test from (suc count) = if test from then Some from else first_of test (from + 1) count

-- the first number from `low` on, and below `high`, that passes the test
abbrev pub first_in : (ℕ → Bool) → (low high : ℕ) → Option ℕ
first_in test low high = first_of test low (high - low)

-- what a search found: the first number of the range that passes the test, or none where none passes
abbrev pub IsFirstIn : (ℕ → Bool) → (low high : ℕ) → Option ℕ → Type 0
IsFirstIn test low high None = (k : ℕ) → low ≤ k → k < high → test k ≡ false
IsFirstIn test low high (Some n) = (low ≤ n) × (n < high) × (test n ≡ true) × ((k : ℕ) → low ≤ k → k < n → test k ≡ false)

abbrev pub FindsFirst : Type 0
FindsFirst = (test : ℕ → Bool) (low high : ℕ) → IsFirstIn test low high (first_in test low high)
