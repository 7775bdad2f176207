-- How far the system clock may be off (chrony's documentation: the absolute system time offset, plus the root
-- dispersion, plus half the root delay), and the whole nanoseconds that cover it.
use Rattle.std.specs.Prelude.{ℕ, ◌+◌, ◌*◌, ◌/◌, ◌-◌, ◌^◌, ◌≤◌, nat_le, if◌then◌else◌, Option, Some, None}
use Rattle.chrony_fraction.specs.Packed.{units_above_zero, units_of_size}
use Rattle.chrony_fraction.specs.declared.clock_error.TheConstants.{LARGEST_BOUND}

-- max(0, delay) / 2 + max(0, dispersion) + |correction|, in units of 2 ^ -90 seconds
abbrev pub error_units : ℕ → ℕ → ℕ → ℕ
error_units delay dispersion correction = units_above_zero delay + 2 * (units_above_zero dispersion + units_of_size correction)

-- n nanoseconds are at least so many units
abbrev pub Covers : ℕ → ℕ → Type 0
Covers n units = 1000000000 * units ≤ n * 2 ^ 90

-- n is the least whole number of nanoseconds that covers them
pub record IsClockErrorBound (units n : ℕ) : Type 0 where
  pub covers : Covers n units
  pub least : (m : ℕ) → Covers m units → n ≤ m

-- n / d, rounded up
abbrev pub ceil_div : ℕ → ℕ → ℕ
ceil_div n d = (n + (d - 1)) / d

-- so many units in whole nanoseconds, rounded up
abbrev pub ceil_nanos : ℕ → ℕ
ceil_nanos units = ceil_div (1000000000 * units) (2 ^ 90)

-- the least number that covers them, where it is at most the largest bound
unfoldable pub clock_error_bound : ℕ → Option ℕ
clock_error_bound units = if nat_le (ceil_nanos units) LARGEST_BOUND then Some (ceil_nanos units) else None
