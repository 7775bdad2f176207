-- A page's own unit and the finer one.
use Rattle.std.proofs.Common.{◌≡◌, ℕ, ◌+◌, ◌-◌, ◌*◌, ◌^◌, ◌<◌, ◌≤◌, refl, sym, ◌∙◌, ap, arith, ℤ, pos, neg_ℤ, ◌-ℤ◌, ◌*ℤ◌}
use Rattle.std.specs.Int.{int_div_euclid}
use Rattle.std.proofs.lemmas.Int.{ints}
use Rattle.std.proofs.lemmas.Nat.{pow-add, pow_pos, mul-lt}
use Rattle.std.proofs.Math.Nat.{le_of_mul-le-mul_right, lt_of_mul-lt-mul_right}
use borrow.Author.Differences.{up, down}
use Rattle.vmclock_page.specs.ClockPage.{ClockPage}
use Rattle.vmclock_time.specs.PageTime.{nanosecond, start_of, slack_of, elapsed_of, drift_of, lower_end, upper_end, earliest_of, latest_of}
use Rattle.vmclock_time.specs.Units.{floor_of, start_units, slack_units, lower_units, upper_units, IsSpan}
use Rattle.vmclock_time.proofs.Floors.{quotient}

-- an integer times a natural number
pub times : (u : ℤ) (c : ℕ) → up (u *ℤ pos c) + down u * c ≡ down (u *ℤ pos c) + up u * c
times u c = omega (arith, ints)

-- no other number is the quotient
quotient_only : (u n : ℤ) (q : ℕ) → 0 < q → up n * q + down u ≤ down n * q + up u → down n * q + up u < up n * q + down u + q → n ≡ int_div_euclid u (pos q)
quotient_only u n q positive low high =
    let is = quotient u q positive in
    let a = int_div_euclid u (pos q) in
    let first : (up n + down a) * q < (down n + up a + 1) * q = omega (arith, is, low, high) in
    let second : (up a + down n) * q < (down a + up n + 1) * q = omega (arith, is, low, high) in
    omega (arith, ints, lt_of_mul-lt-mul_right q first, lt_of_mul-lt-mul_right q second)

-- a common factor is nothing to it
pub quotient_scaled : (u : ℤ) (q c : ℕ) → 0 < q → 0 < c → int_div_euclid (u *ℤ pos c) (pos (q * c)) ≡ int_div_euclid u (pos q)
quotient_scaled u q c positive some =
    let is = quotient (u *ℤ pos c) (q * c) (mul-lt 0 0 q c positive some) in
    let b = int_div_euclid (u *ℤ pos c) (pos (q * c)) in
    let low : (up b * q + down u) * c ≤ (down b * q + up u) * c = omega (arith, is, times u c) in
    let high : (down b * q + up u) * c < (up b * q + down u + q) * c = omega (arith, is, times u c) in
    quotient_only u b q positive (le_of_mul-le-mul_right low some) (lt_of_mul-lt-mul_right c high)

pub powers : (k : ℕ) → k ≤ 40 → (2 ^ (64 + k) * 2 ^ (40 - k) ≡ 2 ^ 104) × (2 ^ k * 2 ^ (40 - k) ≡ 2 ^ 40)
powers k le =
    let first : 64 + k + (40 - k) ≡ 104 = omega arith in
    let second : k + (40 - k) ≡ 40 = omega arith in
    (sym (pow-add 2 (64 + k) (40 - k)) ∙ ap (λ (n : ℕ). 2 ^ n) first, sym (pow-add 2 k (40 - k)) ∙ ap (λ (n : ℕ). 2 ^ n) second)

-- the numbers of a page in the finer unit
pub start_scaled : (p : ClockPage) → p.counter_period_shift ≤ 40 → start_units p ≡ start_of p * 2 ^ (40 - p.counter_period_shift)
start_scaled p le = let (whole, part) = powers p.counter_period_shift le in
    let is : (p.time_sec * 2 ^ 64 + p.time_frac_sec) * (2 ^ p.counter_period_shift * 2 ^ (40 - p.counter_period_shift)) ≡ (p.time_sec * 2 ^ 64 + p.time_frac_sec) * 2 ^ 40 = rw part refl in
    omega (arith, is)

pub slack_scaled : (p : ClockPage) → p.counter_period_shift ≤ 40 → slack_units p ≡ slack_of p * 2 ^ (40 - p.counter_period_shift)
slack_scaled p le = let (whole, part) = powers p.counter_period_shift le in
    let is : p.time_maxerror_nanosec * (2 ^ (64 + p.counter_period_shift) * 2 ^ (40 - p.counter_period_shift)) ≡ p.time_maxerror_nanosec * 2 ^ 104 = rw whole refl in
    omega (arith, is)

difference : (a b c : ℕ) → pos (a * c) -ℤ pos (b * c) ≡ (pos a -ℤ pos b) *ℤ pos c
difference a b c =
    let d = pos a -ℤ pos b in
    let apart : up d + b ≡ down d + a = omega (arith, ints) in
    let product : (up d + b) * c ≡ (down d + a) * c = ap (λ (n : ℕ). n * c) apart in
    omega (arith, ints, times d c, product)

-- the ends of the interval in the finer unit
pub lower_scaled : (p : ClockPage) (reading elapsed drift : ℕ) → IsSpan p reading elapsed drift → lower_units p elapsed drift ≡ lower_end p reading *ℤ pos (2 ^ (40 - p.counter_period_shift))
unfolding lower_end
lower_scaled p reading elapsed drift span =
    let start = start_scaled p span.shift in
    let slack = slack_scaled p span.shift in
    let first : start_units p + 1_000_000_000 * elapsed ≡ (start_of p + elapsed_of p reading) * 2 ^ (40 - p.counter_period_shift) = omega (arith, start, span.elapsed_is) in
    let second : slack_units p + 1_000_000_000 * drift ≡ (slack_of p + drift_of p reading) * 2 ^ (40 - p.counter_period_shift) = omega (arith, slack, span.drift_is) in
    rw (first, second) (difference (start_of p + elapsed_of p reading) (slack_of p + drift_of p reading) (2 ^ (40 - p.counter_period_shift)))

pub upper_scaled : (p : ClockPage) (reading elapsed drift : ℕ) → IsSpan p reading elapsed drift → upper_units p elapsed drift ≡ upper_end p reading *ℤ pos (2 ^ (40 - p.counter_period_shift))
unfolding upper_end
upper_scaled p reading elapsed drift span =
    let start = start_scaled p span.shift in
    let slack = slack_scaled p span.shift in
    let all : start_units p + 1_000_000_000 * elapsed + (slack_units p + 1_000_000_000 * drift) ≡ (start_of p + elapsed_of p reading + (slack_of p + drift_of p reading)) * 2 ^ (40 - p.counter_period_shift) = omega (arith, start, slack, span.elapsed_is, span.drift_is) in
    ap (λ (n : ℕ). pos n) all

-- so the code's quotients are the definition's
floor_scaled : (p : ClockPage) (u : ℤ) → p.counter_period_shift ≤ 40 → floor_of (u *ℤ pos (2 ^ (40 - p.counter_period_shift))) ≡ int_div_euclid u (pos (nanosecond p))
floor_scaled p u le =
    let same = quotient_scaled u (nanosecond p) (2 ^ (40 - p.counter_period_shift)) (pow_pos (64 + p.counter_period_shift)) (pow_pos (40 - p.counter_period_shift)) in
    ap (λ (n : ℕ). int_div_euclid (u *ℤ pos (2 ^ (40 - p.counter_period_shift))) (pos n)) (sym (powers p.counter_period_shift le).0) ∙ same

pub earliest_scaled : (p : ClockPage) (reading elapsed drift : ℕ) → IsSpan p reading elapsed drift → floor_of (lower_units p elapsed drift) ≡ earliest_of p reading
earliest_scaled p reading elapsed drift span = rw (lower_scaled p reading elapsed drift span) (floor_scaled p (lower_end p reading) span.shift)

pub negated : (u : ℤ) (c : ℕ) → neg_ℤ (u *ℤ pos c) ≡ neg_ℤ u *ℤ pos c
negated u c =
    let opposite : up (neg_ℤ u) + up u ≡ down (neg_ℤ u) + down u = omega (arith, ints) in
    let product : (up (neg_ℤ u) + up u) * c ≡ (down (neg_ℤ u) + down u) * c = ap (λ (n : ℕ). n * c) opposite in
    omega (arith, ints, times u c, times (neg_ℤ u) c, product)

pub latest_scaled : (p : ClockPage) (reading elapsed drift : ℕ) → IsSpan p reading elapsed drift → neg_ℤ (floor_of (neg_ℤ (upper_units p elapsed drift))) ≡ latest_of p reading
latest_scaled p reading elapsed drift span =
    rw (upper_scaled p reading elapsed drift span, negated (upper_end p reading) (2 ^ (40 - p.counter_period_shift)), floor_scaled p (neg_ℤ (upper_end p reading)) span.shift) refl
