-- A good poll (chrony's documentation): its reply is synchronised, and its clock error bound fits a record.
use Rattle.std.specs.Prelude.{◌≡◌, ℕ, ◌+◌, ◌^◌, ◌≤ℤ◌, pos, Option, Some, None, Result, Ok, Err}
use Rattle.candm_codec.specs.declared.tracking.Leap.{Leap}
use Rattle.candm_codec.specs.declared.tracking.Leap.TheVariants.{Unsynchronised}
use Rattle.candm_codec.specs.declared.tracking.Tracking.{Tracking}
use Rattle.chrony_fraction.specs.ClockError.{error_units, clock_error_bound}
use Rattle.bound_rule.specs.declared.good.Good.{Good}
use Rattle.bound_rule.specs.declared.unfit.Unfit.{Unfit}
use Rattle.bound_rule.specs.declared.unfit.Unfit.TheVariants.{NotSynchronised, BoundTooLarge}

-- the clock error bound of a reply, where it is at most 2^62 ns
abbrev pub bound_of_reply : Tracking → Option ℕ
bound_of_reply t = clock_error_bound (error_units t.root_delay.0 t.root_dispersion.0 t.current_correction.0)

-- a bound that was asked for at this moment holds from then on, and for 1,000 s
abbrev pub good_from : ℕ → Option ℕ → Result Good Unfit
good_from mono (Some bound) = Ok (record { as_of = pos mono; void_after = pos (mono + 1000000000000); bound = pos bound })
good_from mono None = Err BoundTooLarge

-- a reply that isn't synchronised bounds nothing
abbrev pub assess_by : Leap → ℕ → Option ℕ → Result Good Unfit
assess_by Unsynchronised mono bound = Err NotSynchronised
assess_by other mono bound = good_from mono bound

-- what a poll makes of a reply that was asked for at this moment
abbrev pub assess_of : Tracking → ℕ → Result Good Unfit
assess_of t mono = assess_by t.leap mono (bound_of_reply t)

-- what a good poll at this moment gives fits a record
pub record IsGoodAt (mono : ℕ) (good : Good) : Type 0 where
  pub as_of : good.as_of ≡ pos mono
  pub void_after : good.void_after ≡ pos (mono + 1000000000000)
  pub low : pos 0 ≤ℤ good.bound
  pub high : good.bound ≤ℤ pos (2 ^ 62)
