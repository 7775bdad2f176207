-- The tests of a read in the finer unit are those of the page's own.
use Rattle.std.proofs.Common.{◌≡◌, ℕ, Bool, true, false, ◌+◌, ◌-◌, ◌*◌, ◌^◌, ◌<◌, ◌≤◌, refl, ap, arith}
use Rattle.std.specs.Prelude.{Option, Some, None, nat_le}
use Rattle.std.proofs.lemmas.Bool.Decides.{nat_tests}
use Rattle.std.proofs.lemmas.Nat.{pow_pos}
use Rattle.std.proofs.Math.Nat.{mul-le-mul_right}
use Rattle.vmclock_page.specs.ClockPage.{ClockPage}
use Rattle.vmclock_time.specs.PageTime.{nanosecond, start_of, slack_of, elapsed_of, drift_of}
use Rattle.vmclock_time.specs.Premises.{is_within, page_holds, rate_holds, failure_by}
use Rattle.vmclock_time.specs.Units.{start_units, slack_units, IsSpan, page_keeps, rate_keeps, failure_in_units}
use Rattle.vmclock_time.proofs.Scaled.{powers, start_scaled, slack_scaled}

nat_le_scaled : (a b c : ℕ) → 0 < c → nat_le (a * c) (b * c) ≡ nat_le a b
nat_le_scaled a b c some = by (nat_le a b) refl
  where
    by : (least : Bool) → nat_le a b ≡ least → nat_le (a * c) (b * c) ≡ least
    by true e = let le : a ≤ b = grind (arith, nat_tests, e) in let more = mul-le-mul_right c le in grind (arith, nat_tests, more)
    by false e =
        let gt : b + 1 ≤ a = grind (arith, nat_tests, e) in
        let more : (b + 1) * c ≤ a * c = mul-le-mul_right c gt in
        let over : b * c < a * c = omega (arith, more, some) in
        grind (arith, nat_tests, over)

within_scaled : (a b m c x y z : ℕ) → 0 < c → x ≡ a * c → y ≡ b * c → z ≡ m * c → is_within x y z ≡ is_within a b m
within_scaled a b m c x y z some is of error =
    let first : y + z ≡ (b + m) * c = omega (arith, of, error) in
    let second : x + z ≡ (a + m) * c = omega (arith, is, error) in
    rw (first, second, is, of, nat_le_scaled a (b + m) c some, nat_le_scaled b (a + m) c some) refl

moment_scaled : (p : ClockPage) (n : ℕ) → p.counter_period_shift ≤ 40 → n * 2 ^ 104 ≡ n * nanosecond p * 2 ^ (40 - p.counter_period_shift)
moment_scaled p n le =
    let is : n * (nanosecond p * 2 ^ (40 - p.counter_period_shift)) ≡ n * 2 ^ 104 = ap (λ (k : ℕ). n * k) (powers p.counter_period_shift le).0 in
    omega (arith, is)

page_scaled : (p : ClockPage) (started : ℕ) → p.counter_period_shift ≤ 40 → page_keeps p started ≡ page_holds p started
page_scaled p started le =
    within_scaled (started * nanosecond p) (start_of p) (slack_of p) (2 ^ (40 - p.counter_period_shift)) (started * 2 ^ 104) (start_units p) (slack_units p)
    (pow_pos (40 - p.counter_period_shift)) (moment_scaled p started le) (start_scaled p le) (slack_scaled p le)

rate_scaled : (p : ClockPage) (counter elapsed drift started truth : ℕ) → IsSpan p counter elapsed drift → rate_keeps elapsed drift started truth ≡ rate_holds p counter started truth
rate_scaled p counter elapsed drift started truth span =
    let begins = moment_scaled p started span.shift in
    let sum : started * 2 ^ 104 + 1_000_000_000 * elapsed ≡ (started * nanosecond p + elapsed_of p counter) * 2 ^ (40 - p.counter_period_shift) = omega (arith, begins, span.elapsed_is) in
    let error : 1_000_000_000 * drift ≡ drift_of p counter * 2 ^ (40 - p.counter_period_shift) = omega (arith, span.drift_is) in
    within_scaled (truth * nanosecond p) (started * nanosecond p + elapsed_of p counter) (drift_of p counter) (2 ^ (40 - p.counter_period_shift))
    (truth * 2 ^ 104) (started * 2 ^ 104 + 1_000_000_000 * elapsed) (1_000_000_000 * drift)
    (pow_pos (40 - p.counter_period_shift)) (moment_scaled p truth span.shift) sum error

pub failure_scaled : (p : ClockPage) (counter elapsed drift : ℕ) (started truth : Option ℕ) → IsSpan p counter elapsed drift → failure_in_units p elapsed drift started truth ≡ failure_by p counter started truth
failure_scaled p counter elapsed drift None truth span = refl
failure_scaled p counter elapsed drift (Some started) None span = refl
failure_scaled p counter elapsed drift (Some started) (Some truth) span = rw (page_scaled p started span.shift, rate_scaled p counter elapsed drift started truth span) refl
