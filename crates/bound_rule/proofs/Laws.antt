-- What a good poll gives fits a record.
use Rattle.std.proofs.Common.{◌≡◌, ℕ, ◌≤◌, true, false, Option, Some, None, refl, arith, inl, inr}
use Rattle.std.specs.Prelude.{◌^◌, nat_le, IfSome, IfOk}
use Rattle.std.proofs.lemmas.Bool.{cases_lt}
use Rattle.std.proofs.lemmas.Int.{ints}
use Rattle.std.proofs.lemmas.Bool.Decides.{nat_tests}
use Rattle.candm_codec.specs.declared.tracking.Leap.{Leap}
use Rattle.candm_codec.specs.declared.tracking.Leap.TheVariants.{Normal, Insert, Delete, Unsynchronised}
use Rattle.candm_codec.specs.declared.tracking.Tracking.{Tracking}
use Rattle.chrony_fraction.specs.ClockError.{ceil_nanos, clock_error_bound}
use Rattle.bound_rule.specs.GoodPoll.{good_from, assess_by, assess_of, bound_of_reply, IsGoodAt}

bound_small : (units : ℕ) → IfSome (clock_error_bound units) (λ bound. bound ≤ 2 ^ 62)
unfolding clock_error_bound
bound_small units =
    elim (cases_lt (2 ^ 62) (ceil_nanos units)) [
      | inl large ↦ (let test : nat_le (ceil_nanos units) (2 ^ 62) ≡ false = grind (arith, nat_tests) in rw test tt)
      | inr small ↦ (let test : nat_le (ceil_nanos units) (2 ^ 62) ≡ true = grind (arith, nat_tests) in rw test small)
    ]

from_bound : (mono : ℕ) (bound : Option ℕ) → IfSome bound (λ b. b ≤ 2 ^ 62) → IfOk (good_from mono bound) (IsGoodAt mono)
from_bound mono None small = tt
from_bound mono (Some bound) small = record { as_of = refl; void_after = refl; low = omega (arith, ints); high = omega (arith, ints) }

by_leap : (leap : Leap) (mono : ℕ) (bound : Option ℕ) → IfSome bound (λ b. b ≤ 2 ^ 62) → IfOk (assess_by leap mono bound) (IsGoodAt mono)
by_leap Normal mono bound small = from_bound mono bound small
by_leap Insert mono bound small = from_bound mono bound small
by_leap Delete mono bound small = from_bound mono bound small
by_leap Unsynchronised mono bound small = tt

-- a good poll's moments are its own, and its bound is at most the largest
pub assess_of-good : (tracking : Tracking) (mono : ℕ) → IfOk (assess_of tracking mono) (IsGoodAt mono)
assess_of-good tracking mono = by_leap tracking.leap mono (bound_of_reply tracking) (bound_small _)
