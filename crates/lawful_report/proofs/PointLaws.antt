-- The points that have a number: one for 0 and for 1, and for the others one in each period.
use Rattle.std.proofs.Common.{◌≡◌, ◌⊎◌, inl, inr, ℕ, zero, suc, ◌+◌, ◌-◌, ◌*◌, ◌/◌, ◌%◌, ◌<◌, ◌≤◌, refl, sym, ap, ◌∙◌, arith}
use Rattle.std.proofs.Math.Nat.{mul-le-mul_right}
use Rattle.std.proofs.lemmas.Bool.{cases_lt}
use Rattle.std.proofs.lemmas.Nat.{mod_below, div-add-mod', mod-mul-add}
use Rattle.generation_word.specs.Numbering.{generation_at}
use Rattle.lawful_report.specs.Points.{HasNumber}

-- a point of a later position: so many periods after the number itself
pub record IsRound (period number point : ℕ) : Type 0 where
  pub rounds : ℕ
  pub is : point ≡ number + 2 * (rounds * period)
  pub low : 2 ≤ number
  pub high : number ≤ 2 * period + 1

round_at : (period number point p : ℕ) → 0 < period → point / 2 ≡ suc p → generation_at period (suc p) + point % 2 ≡ number → IsRound period number point
round_at period number point p some half is =
    let whole : p / period * period + p % period ≡ p = div-add-mod' p period in
    record { rounds = p / period; is = omega arith; low = omega arith; high = omega (arith, mod_below p period some) }

-- a number that isn't 0 or 1 has such points alone
by_position : (period number point position : ℕ) → 0 < period → point / 2 ≡ position → generation_at period position + point % 2 ≡ number → (number ≡ point) × (point < 2) ⊎ IsRound period number point
by_position period number point zero some half is = inl (omega arith, omega arith)
by_position period number point (suc p) some half is = inr (round_at period number point p some half is)

pub round_of : (period number point : ℕ) → 0 < period → HasNumber period number point → (number ≡ point) × (point < 2) ⊎ IsRound period number point
round_of period number point some is = by_position period number point (point / 2) some refl is

-- and each such point has it
at_round : (period r w rounds point position : ℕ) → r < period → w < 2 → point ≡ 2 * r + 2 + w + 2 * (rounds * period) → point / 2 ≡ position → generation_at period position + point % 2 ≡ 2 * r + 2 + w
at_round period r w rounds point zero small bit is half = absurd (omega arith)
at_round period r w rounds point (suc p) small bit is half =
    let place : p ≡ rounds * period + r = omega arith in
    let rest : p % period ≡ r = ap (λ (n : ℕ). n % period) place ∙ mod-mul-add rounds period r small in
    omega arith

pub number_of_round : (period number rounds : ℕ) → 2 ≤ number → number ≤ 2 * period + 1 → HasNumber period number (number + 2 * (rounds * period))
number_of_round period number rounds low high =
    let parts : number ≡ 2 * (number / 2 - 1) + 2 + number % 2 = omega arith in
    let point : ℕ = number + 2 * (rounds * period) in
    at_round period (number / 2 - 1) (number % 2) rounds point (point / 2) (omega arith) (omega arith) (omega arith) refl ∙ sym parts

pub number_of_first : (period point : ℕ) → point < 2 → HasNumber period point point
number_of_first period zero small = refl
number_of_first period (suc zero) small = refl
number_of_first period (suc (suc n)) small = absurd (omega arith)

-- rounds up to a gap
pub rounds_up : (gap period k : ℕ) → 0 < period → k ≡ (gap + (2 * period - 1)) / (2 * period) → (gap ≤ 2 * (k * period)) × ((j : ℕ) → gap ≤ 2 * (j * period) → k * period ≤ j * period)
rounds_up gap period k some is =
    let whole : k * (2 * period) + (gap + (2 * period - 1)) % (2 * period) ≡ gap + (2 * period - 1) = rw is (div-add-mod' (gap + (2 * period - 1)) (2 * period)) in
    let below : (gap + (2 * period - 1)) % (2 * period) < 2 * period = mod_below (gap + (2 * period - 1)) (2 * period) (omega arith) in
    let twice : k * (2 * period) ≡ 2 * (k * period) = grind arith in (
      omega arith,
      λ j le. elim (cases_lt j k) [
        | inl less ↦ absurd (omega (arith, mul-le-mul_right period less))
        | inr ge ↦ mul-le-mul_right period ge
      ],
    )

-- the number itself is the least point from any earlier one on
pub least_is_number : (period number n : ℕ) → 0 < period → HasNumber period number n → number ≤ n
least_is_number period number n some is = elim (round_of period number n some is) [
  | inl first ↦ omega (arith, first.0)
  | inr round ↦ omega (arith, round.is)
]

-- the round after a gap is the least from there on
pub least_round : (period number from rounds n : ℕ) → 0 < period → 2 ≤ number → number < from → rounds ≡ (from - number + (2 * period - 1)) / (2 * period) → from ≤ n → HasNumber period number n → number + 2 * (rounds * period) ≤ n
least_round period number from rounds n some low after up le is = elim (round_of period number n some is) [
  | inl first ↦ omega (arith, first.0, first.1)
  | inr round ↦ omega (arith, round.is, (rounds_up (from - number) period rounds some up).1 round.rounds (omega (arith, round.is)))
]
