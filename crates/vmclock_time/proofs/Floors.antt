-- Quotients that round down, in units of 2 ^ -104 s.
use Rattle.std.proofs.Common.{◌≡◌, ℕ, ◌+◌, ◌-◌, ◌*◌, ◌^◌, ◌<◌, ◌≤◌, ◌/◌, max, sym, ◌∙◌, ap, arith, ℤ, pos, negsuc, neg_ℤ, ◌+ℤ◌, ◌-ℤ◌, ◌*ℤ◌, ◌≤ℤ◌}
use Rattle.std.specs.Prelude.{◌↔◌}
use Rattle.std.specs.Int.{int_div_euclid, int_rem_euclid}
use Rattle.std.proofs.lemmas.Int.{ints}
use Rattle.std.proofs.lemmas.Nat.{pow-add, mul-le}
use borrow.Author.Differences.{up, down}
use Rattle.vmclock_page.specs.ClockPage.{ClockPage}
use Rattle.vmclock_time.specs.Units.{floor_of, finer, lower_units, upper_units}

-- a quotient by a positive number, multiplied out
pub quotient : (a : ℤ) (k : ℕ) → 0 < k
    → (up (int_div_euclid a (pos k)) * k + down a ≤ down (int_div_euclid a (pos k)) * k + up a)
    × (down (int_div_euclid a (pos k)) * k + up a < up (int_div_euclid a (pos k)) * k + down a + k)
quotient (pos a) k h = omega arith
quotient (negsuc a) k h = omega arith

-- and what is left
pub remainder : (a : ℤ) (k : ℕ) → 0 < k
    → (up (int_rem_euclid a (pos k)) + up (int_div_euclid a (pos k)) * k + down a ≡ down (int_div_euclid a (pos k)) * k + up a)
    × (down (int_rem_euclid a (pos k)) ≡ 0)
    × (up (int_rem_euclid a (pos k)) < k)
remainder (pos a) k h = omega arith
remainder (negsuc a) k h = omega arith

-- whole seconds apart, and the nanoseconds of the rest
pub seconds_apart : (units seconds : ℤ) (rest nanos : ℕ)
    → seconds ≡ int_div_euclid units (pos (2 ^ 104)) → pos rest ≡ int_rem_euclid units (pos (2 ^ 104)) → nanos ≡ 1_000_000_000 * rest / 2 ^ 104
    → pos 1_000_000_000 *ℤ seconds +ℤ pos nanos ≡ floor_of (units *ℤ pos 1_000_000_000)
seconds_apart units seconds rest nanos a b c =
    omega (arith, ints, a, b, c, quotient units (2 ^ 104) (omega arith), remainder units (2 ^ 104) (omega arith), quotient (units *ℤ pos 1_000_000_000) (2 ^ 104) (omega arith))

-- a product of at most 2 ^ (84 + k) in the finer units
pub finer_small : (q k : ℕ) → k ≤ 40 → q ≤ 2 ^ (84 + k) → finer k q ≤ 2 ^ 124
finer_small q k h le =
    let sum : 84 + k + (40 - k) ≡ 124 = omega arith in
    let power : 2 ^ (84 + k) * 2 ^ (40 - k) ≡ 2 ^ 124 = sym (pow-add 2 (84 + k) (40 - k)) ∙ ap (λ (n : ℕ). 2 ^ n) sum in
    omega (arith, power, mul-le q (2 ^ (40 - k)) (2 ^ (84 + k)) (2 ^ (40 - k)) le (omega arith))

-- a product with the greater of two numbers bounds those with each
pub near : (d a b most : ℕ) → d * max a b ≤ most → (d * a ≤ most) × (d * b ≤ most)
near d a b most h = (
  omega (arith, h, mul-le d a d (max a b) (omega arith) (omega arith)),
  omega (arith, h, mul-le d b d (max a b) (omega arith) (omega arith)),
)

-- whole nanoseconds go in and out of the floor
pub earliest_is : (p : ClockPage) (elapsed drift : ℕ) (units : ℤ) → units ≡ pos (p.time_frac_sec * 2 ^ 40 + elapsed) -ℤ pos drift
    → pos (1_000_000_000 * p.time_sec) +ℤ floor_of (units *ℤ pos 1_000_000_000) -ℤ pos p.time_maxerror_nanosec ≡ floor_of (lower_units p elapsed drift)
earliest_is p elapsed drift units is =
    omega (arith, ints, is, quotient (units *ℤ pos 1_000_000_000) (2 ^ 104) (omega arith), quotient (lower_units p elapsed drift) (2 ^ 104) (omega arith))

pub latest_is : (p : ClockPage) (elapsed drift : ℕ) (units : ℤ) → units ≡ neg_ℤ (pos (p.time_frac_sec * 2 ^ 40 + elapsed + drift))
    → pos (1_000_000_000 * p.time_sec + p.time_maxerror_nanosec) -ℤ floor_of (units *ℤ pos 1_000_000_000) ≡ neg_ℤ (floor_of (neg_ℤ (upper_units p elapsed drift)))
latest_is p elapsed drift units is =
    omega (arith, ints, is, quotient (units *ℤ pos 1_000_000_000) (2 ^ 104) (omega arith), quotient (neg_ℤ (upper_units p elapsed drift)) (2 ^ 104) (omega arith))

-- so many nanoseconds are at most the units exactly where they are at most the whole nanoseconds of these
pub below_floor : (n units : ℤ) → (n ≤ℤ floor_of units → (n *ℤ pos (2 ^ 104)) ≤ℤ units) × ((n *ℤ pos (2 ^ 104)) ≤ℤ units → n ≤ℤ floor_of units)
below_floor n units = let is = quotient units (2 ^ 104) (omega arith) in (λ h. omega (arith, ints, is, h), λ h. omega (arith, ints, is, h))

pub at_most_the_most : (n units : ℤ) (started truth elapsed drift : ℕ) → n ≡ pos truth -ℤ pos started → units ≡ pos (elapsed + drift)
    → ((n *ℤ pos (2 ^ 104)) ≤ℤ (units *ℤ pos 1_000_000_000)) ↔ (truth * 2 ^ 104 ≤ started * 2 ^ 104 + 1_000_000_000 * elapsed + 1_000_000_000 * drift)
at_most_the_most n units started truth elapsed drift a b = (λ h. omega (arith, ints, a, b, h), λ h. omega (arith, ints, a, b, h))

pub at_least_the_least : (n units : ℤ) (started truth elapsed drift : ℕ) → n ≡ pos started -ℤ pos truth → units ≡ pos drift -ℤ pos elapsed
    → ((n *ℤ pos (2 ^ 104)) ≤ℤ (units *ℤ pos 1_000_000_000)) ↔ (started * 2 ^ 104 + 1_000_000_000 * elapsed ≤ truth * 2 ^ 104 + 1_000_000_000 * drift)
at_least_the_least n units started truth elapsed drift a b = (λ h. omega (arith, ints, a, b, h), λ h. omega (arith, ints, a, b, h))
