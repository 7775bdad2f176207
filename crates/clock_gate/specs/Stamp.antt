-- Stamps: moments in whole nanoseconds, kept as seconds and the rest.
use Rattle.std.specs.Prelude.{ℤ, pos, ℕ, ◌^◌, ◌*◌, neg_ℤ, ◌≤ℤ◌, ◌<ℤ◌, unsigned_abs}
use Rattle.std.specs.Int.{int_div_euclid, int_rem_euclid}

-- the whole seconds of so many nanoseconds, rounded down
abbrev pub whole_seconds : ℤ → ℤ
whole_seconds nanos = int_div_euclid nanos (pos 1000000000)

-- the nanoseconds that are left, from 0 to 999,999,999
abbrev pub rest_nanos : ℤ → ℕ
rest_nanos nanos = unsigned_abs (int_rem_euclid nanos (pos 1000000000))

-- the seconds of so many nanoseconds fit in 64 bits
abbrev pub FitsStamp : ℤ → Type 0
FitsStamp nanos = (neg_ℤ (pos (2 ^ 63 * 1000000000)) ≤ℤ nanos) × (nanos <ℤ pos (2 ^ 63 * 1000000000))
