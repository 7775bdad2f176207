-- The quotients are the ends of the interval.
use Rattle.std.proofs.Common.{◌≡◌, ℕ, ◌+◌, ◌*◌, ◌<◌, ◌≤◌, refl, arith, ℤ, pos, neg_ℤ, ◌*ℤ◌, ◌≤ℤ◌}
use Rattle.std.specs.Prelude.{Option, Some, None, Result, IfOk, IfErr, OnOk}
use Rattle.std.specs.Int.{int_div_euclid}
use Rattle.std.proofs.lemmas.Int.{ints}
use Rattle.std.proofs.lemmas.Nat.{pow_pos}
use Rattle.std.proofs.Math.Nat.{lt_of_mul-lt-mul_right, mul-le-mul_right}
use borrow.Author.Differences.{up, down}
use Rattle.vmclock_page.specs.ClockPage.{ClockPage}
use Rattle.vmclock_time.specs.PageTime.{nanosecond, lower_end, upper_end, IsEarliest, IsLatest, IsInterval, earliest_of, latest_of, interval_unless, page_time_of}
use Rattle.vmclock_time.specs.Refusals.{first_refusal}
use Rattle.vmclock_time.specs.declared.fault.PageTimeFault.{PageTimeFault}
use Rattle.vmclock_time.proofs.Floors.{quotient}
use Rattle.vmclock_time.proofs.Scaled.{times, negated}

-- n of them are not above so many units exactly where n is not above the quotient
pub below_quotient : (u n : ℤ) (q : ℕ) → 0 < q → ((n *ℤ pos q) ≤ℤ u → n ≤ℤ int_div_euclid u (pos q)) × (n ≤ℤ int_div_euclid u (pos q) → (n *ℤ pos q) ≤ℤ u)
below_quotient u n q positive =
    let is = quotient u q positive in
    let product = times n q in
    let a = int_div_euclid u (pos q) in (
      λ h.
          let few : (up n + down a) * q < (down n + up a + 1) * q = omega (arith, ints, is, product, h) in
          omega (arith, ints, lt_of_mul-lt-mul_right q few),
      λ h.
          let le : up n + down a ≤ down n + up a = omega (arith, ints, h) in
          let few : (up n + down a) * q ≤ (down n + up a) * q = mul-le-mul_right q le in
          omega (arith, ints, is, product, few),
    )

pub earliest_of-is : (p : ClockPage) (reading : ℕ) → IsEarliest p reading (earliest_of p reading)
earliest_of-is p reading =
    let positive = pow_pos (64 + p.counter_period_shift) in
    record {
      not_above = (below_quotient (lower_end p reading) (earliest_of p reading) (nanosecond p) positive).1 (omega (arith, ints));
      greatest = λ m h. (below_quotient (lower_end p reading) m (nanosecond p) positive).0 h;
    }

-- a product below 0
below_zero : (u n : ℤ) (q : ℕ) → (u ≤ℤ (n *ℤ pos q) → (neg_ℤ n *ℤ pos q) ≤ℤ neg_ℤ u) × ((neg_ℤ n *ℤ pos q) ≤ℤ neg_ℤ u → u ≤ℤ (n *ℤ pos q))
below_zero u n q = let is = negated n q in (λ h. omega (arith, ints, is, h), λ h. omega (arith, ints, is, h))

pub latest_of-is : (p : ClockPage) (reading : ℕ) → IsLatest p reading (latest_of p reading)
latest_of-is p reading =
    let positive = pow_pos (64 + p.counter_period_shift) in
    let u = upper_end p reading in
    let quotient_is = int_div_euclid (neg_ℤ u) (pos (nanosecond p)) in
    let reflexive : neg_ℤ (latest_of p reading) ≤ℤ quotient_is = omega (arith, ints) in
    record {
      not_below = (below_zero u (latest_of p reading) (nanosecond p)).1 ((below_quotient (neg_ℤ u) (neg_ℤ (latest_of p reading)) (nanosecond p) positive).1 reflexive);
      least = λ m h. let le = (below_quotient (neg_ℤ u) (neg_ℤ m) (nanosecond p) positive).0 ((below_zero u m (nanosecond p)).0 h) in omega (arith, ints, le);
    }

pub interval_is : (p : ClockPage) (reading : ℕ) → IsInterval p reading (earliest_of p reading) (latest_of p reading)
interval_is p reading = record { begins = earliest_of-is p reading; ends = latest_of-is p reading }

-- what an answer says
pub interval_of_answer : (p : ClockPage) (reading : ℕ) (answer : Result (ℤ × ℤ) PageTimeFault) → answer ≡ page_time_of p reading → IfOk answer (λ told. IsInterval p reading told.0 told.1)
unfolding page_time_of
interval_of_answer p reading answer is = rw is (by (first_refusal p reading))
  where
    by : (o : Option PageTimeFault) → IfOk (interval_unless o p reading) (λ told. IsInterval p reading told.0 told.1)
    by None = interval_is p reading
    by (Some fault) = tt

pub fault_of_answer : (p : ClockPage) (reading : ℕ) (answer : Result (ℤ × ℤ) PageTimeFault) → answer ≡ page_time_of p reading → IfErr answer (λ fault. first_refusal p reading ≡ Some fault)
unfolding page_time_of
fault_of_answer p reading answer is = rw is (by (first_refusal p reading))
  where
    by : (o : Option PageTimeFault) → IfErr (interval_unless o p reading) (λ fault. o ≡ Some fault)
    by None = tt
    by (Some fault) = refl

pub accepted_by_answer : (p : ClockPage) (reading : ℕ) (answer : Result (ℤ × ℤ) PageTimeFault) → answer ≡ page_time_of p reading → OnOk answer (first_refusal p reading ≡ None)
unfolding page_time_of
accepted_by_answer p reading answer is = rw is (by (first_refusal p reading))
  where
    by : (o : Option PageTimeFault) → OnOk (interval_unless o p reading) (o ≡ None)
    by None = refl
    by (Some fault) = tt
