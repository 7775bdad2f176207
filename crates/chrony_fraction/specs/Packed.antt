-- chrony's packed number: 7 bits of exponent over 25 bits of coefficient (candm.h, "Float").
use Rattle.std.specs.Prelude.{ℕ, ◌-◌, ◌*◌, ◌/◌, ◌%◌, ◌^◌, ℤ, pos, negsuc, ◌-ℤ◌, ◌+ℤ◌, ◌≤ℤ◌, neg_ℤ, unsigned_abs, nat_lt, if◌then◌else◌}

-- a field of so many bits, read in two's complement
abbrev pub signed : ℕ → ℕ → ℤ
signed size field = if nat_lt field (2 ^ (size - 1)) then pos field else (pos field -ℤ pos (2 ^ size))

-- the low 25 bits: -2 ^ 24 to 2 ^ 24 - 1
abbrev pub coefficient : ℕ → ℤ
coefficient p = signed 25 (p % 2 ^ 25)

-- the top 7 bits, less 25: -89 to 38
abbrev pub power : ℕ → ℤ
power p = signed 7 (p / 2 ^ 25) -ℤ pos 25

-- the value of a packed number is coefficient * 2 ^ power
abbrev pub packed_value : ℕ → ℤ × ℤ
packed_value p = (coefficient p, power p)

-- a packed number can have this coefficient and this power
pub record IsInRange (coefficient power : ℤ) : Type 0 where
  pub least_coefficient : neg_ℤ (pos (2 ^ 24)) ≤ℤ coefficient
  pub largest_coefficient : coefficient ≤ℤ pos (2 ^ 24 - 1)
  pub least_power : neg_ℤ (pos 89) ≤ℤ power
  pub largest_power : power ≤ℤ pos 38

-- z, or 0 where z is below 0
abbrev pub above_zero : ℤ → ℕ
above_zero (pos n) = n
above_zero (negsuc n) = 0

-- In units of 2 ^ -89 each value is whole: max(0, value)
abbrev pub units_above_zero : ℕ → ℕ
units_above_zero p = above_zero (coefficient p) * 2 ^ unsigned_abs (power p +ℤ pos 89)

-- and |value|
abbrev pub units_of_size : ℕ → ℕ
units_of_size p = unsigned_abs (coefficient p) * 2 ^ unsigned_abs (power p +ℤ pos 89)
