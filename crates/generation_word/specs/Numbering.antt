-- Generations (after ClockBound's PROTOCOL). A position counts finished publications. It has an even number, which
-- comes again after a period, and while the next publication is written the number is one more.
use Rattle.std.specs.Prelude.{◌≡◌, ℕ, zero, suc, ◌+◌, ◌*◌, ◌%◌, ◌≤◌, ◌==◌, if◌then◌else◌}

-- the even number at a position
abbrev pub generation_at : ℕ → ℕ → ℕ
generation_at period zero = 0
generation_at period (suc p) = 2 * (p % period) + 2

-- the odd number that the next publication stores first: an odd one that stands there is kept
abbrev pub odd_after : ℕ → ℕ
odd_after number = if number % 2 == 0 then number + 1 else number

-- the even number that ends an update: 2 after the last odd number of the period
abbrev pub after_odd : ℕ → ℕ → ℕ
after_odd period odd = if odd == 2 * period + 1 then 2 else odd + 1

-- the even number that the next publication stores last
abbrev pub even_after : ℕ → ℕ → ℕ
even_after period number = after_odd period (odd_after number)

-- the position has this number, and none before it has
pub record IsLeastPosition (period number position : ℕ) : Type 0 where
  pub numbered : generation_at period position ≡ number
  pub least : (q : ℕ) → generation_at period q ≡ number → position ≤ q
