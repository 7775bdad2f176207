-- A record of the segment as contracts see it, and the bounds that it keeps.
use Rattle.std.specs.Prelude.{ℤ, pos, ℕ, ◌^◌, ◌≤◌, ◌≤ℤ◌, Bool}
use Rattle.clock_gate.specs.declared.clock_status.ClockStatus.{ClockStatus}

-- the fields of a record; moments are nanoseconds
pub record RecordFields : Type 0 where
  pub as_of : ℤ
  pub void_after : ℤ
  pub bound : ℤ
  pub marker : ℕ
  pub drift : ℕ
  pub status : ClockStatus
  pub support : Bool

-- as-of has 0 to 4,000,000,000 whole seconds and void-after 1,000 more, the bound is at most 2^62 ns, the drift at most 1,000,000,000 ppb
pub record KeepsBounds (as_of void_after bound : ℤ) (drift : ℕ) : Type 0 where
  pub as_of_low : pos 0 ≤ℤ as_of
  pub as_of_high : as_of ≤ℤ pos 4000000000999999999
  pub void_after_low : pos 0 ≤ℤ void_after
  pub void_after_high : void_after ≤ℤ pos 4000001000999999999
  pub bound_low : pos 0 ≤ℤ bound
  pub bound_high : bound ≤ℤ pos (2 ^ 62)
  pub drift_high : drift ≤ 1000000000
