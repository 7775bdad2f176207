-- The laws of the numbering, for every period, and of header words.
use Rattle.std.proofs.Common.{◌≡◌, ℕ, zero, suc, ◌+◌, ◌*◌, ◌/◌, ◌%◌, ◌<◌, ◌≤◌, refl, ap, ◌∙◌, inl, inr, add-one, arith}
use Rattle.std.proofs.Math.Nat.{mul-le-mul_right, suc-mod, zero-mod, mod_self, mod-eq_of_lt, mod-le}
use Rattle.std.proofs.lemmas.Bool.{cases_lt}
use Rattle.std.proofs.lemmas.Bool.Decides.{nat_tests}
use Rattle.std.proofs.lemmas.Nat.{mod_below, div-add-mod'}
use Rattle.generation_word.specs.Numbering.{generation_at, odd_after, after_odd, even_after, IsLeastPosition}

pub generation_at-even : (period p : ℕ) → generation_at period p % 2 ≡ 0
generation_at-even period zero = refl
generation_at-even period (suc p) = omega arith

pub generation_at_most : (period p : ℕ) → 0 < period → generation_at period p ≤ 2 * period
generation_at_most period zero h = omega arith
generation_at_most period (suc p) h = omega (arith, mod_below p period h)

pub generation_at_positive : (period p : ℕ) → 0 < p → 0 < generation_at period p
generation_at_positive period zero h = h
generation_at_positive period (suc p) h = omega arith

-- fewer than a period apart, equal remainders mean equal numbers
mod_apart : (n p q : ℕ) → p ≤ q → q < p + n → p % n ≡ q % n → p ≡ q
mod_apart n p q le lt same =
    let lower : p / n * n + p % n ≡ p = div-add-mod' p n in
    let upper : q / n * n + q % n ≡ q = div-add-mod' q n in
    elim (cases_lt (p / n) (q / n)) [
      | inl before ↦ absurd (omega (arith, mul-le-mul_right n before))
      | inr after ↦ omega (arith, mul-le-mul_right n after)
    ]

pub one_position : (period p q : ℕ) → 0 < p → p ≤ q → q < p + period → generation_at period p ≡ generation_at period q → p ≡ q
one_position period zero q h le lt same = absurd (omega arith)
one_position period (suc p) zero h le lt same = absurd (omega arith)
one_position period (suc p) (suc q) h le lt same = let remainders : p % period ≡ q % period = omega arith in ap suc (mod_apart period p q (omega arith) (omega arith) remainders)

pub odd_after-at_rest : (period p : ℕ) → odd_after (generation_at period p) ≡ generation_at period p + 1
odd_after-at_rest period p = let even : generation_at period p % 2 ≡ 0 = generation_at-even period p in grind (arith, nat_tests)

pub odd_after-in_update : (period p : ℕ) → odd_after (generation_at period p + 1) ≡ generation_at period p + 1
odd_after-in_update period p = let even : generation_at period p % 2 ≡ 0 = generation_at-even period p in grind (arith, nat_tests)

-- the even number after the last of the period is 2, and after another 2 more
wraps : (period k : ℕ) → 0 < period → suc (k % period) ≡ period → after_odd period (2 * (k % period) + 2 + 1) ≡ 2 * (suc k % period) + 2
wraps period k positive last =
    let starts_again : suc k % period ≡ 0 = suc-mod k period ∙ ap (λ (n : ℕ). n % period) last ∙ mod_self period in
    grind (arith, nat_tests)

goes_on : (period k : ℕ) → suc (k % period) < period → after_odd period (2 * (k % period) + 2 + 1) ≡ 2 * (suc k % period) + 2
goes_on period k before =
    let next : suc k % period ≡ suc (k % period) = suc-mod k period ∙ mod-eq_of_lt before in
    grind (arith, nat_tests)

after_odd-next : (period k : ℕ) → 0 < period → after_odd period (2 * (k % period) + 2 + 1) ≡ 2 * (suc k % period) + 2
after_odd-next period k positive =
    let below : k % period < period = mod_below k period positive in
    elim (cases_lt (suc (k % period)) period) [
      | inl before ↦ goes_on period k before
      | inr last ↦ wraps period k positive (omega arith)
    ]

after_odd-generation_at : (period p : ℕ) → 0 < period → after_odd period (generation_at period p + 1) ≡ generation_at period (p + 1)
after_odd-generation_at period zero positive = rw (zero-mod period) (grind (arith, nat_tests))
after_odd-generation_at period (suc p) positive = rw (add-one (suc p)) (after_odd-next period p positive)

pub even_after-at_rest : (period p : ℕ) → 0 < period → even_after period (generation_at period p) ≡ generation_at period (p + 1)
even_after-at_rest period p positive = rw (odd_after-at_rest period p) (after_odd-generation_at period p positive)

pub even_after-in_update : (period p : ℕ) → 0 < period → even_after period (generation_at period p + 1) ≡ generation_at period (p + 1)
even_after-in_update period p positive = rw (odd_after-in_update period p) (after_odd-generation_at period p positive)

-- the half of a number is the first position that has it
place_numbered : (period r : ℕ) → r < period → generation_at period (suc r) ≡ 2 * r + 2
place_numbered period r below = let itself : r % period ≡ r = mod-eq_of_lt below in omega arith

place_least : (period r q : ℕ) → generation_at period q ≡ 2 * r + 2 → suc r ≤ q
place_least period r zero same = absurd (omega arith)
place_least period r (suc q) same = omega (arith, mod-le q period)

half_least : (period p : ℕ) → 0 < period → IsLeastPosition period (generation_at period p) (generation_at period p / 2)
half_least period zero positive = record { numbered = refl; least = λ q same. omega arith }
half_least period (suc p) positive =
    let half : (2 * (p % period) + 2) / 2 ≡ suc (p % period) = omega arith in
    rw half (record { numbered = place_numbered period (p % period) (mod_below p period positive); least = place_least period (p % period) })

pub position_of-at_rest : (period p number position : ℕ) → 0 < period → position ≡ number / 2 → number ≡ generation_at period p → IsLeastPosition period number position
position_of-at_rest period p number position positive half same = rw (half, same) (half_least period p positive)

pub position_of-in_update : (period p number position : ℕ) → 0 < period → position ≡ number / 2 → number ≡ generation_at period p + 1 → IsLeastPosition period (generation_at period p) position
position_of-in_update period p number position positive half same =
    let even : generation_at period p % 2 ≡ 0 = generation_at-even period p in
    let same_half : position ≡ generation_at period p / 2 = omega arith in
    rw same_half (half_least period p positive)
