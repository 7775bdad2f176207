-- Which instants have a text.
use Rattle.std.proofs.Common.{◌≡◌, [], true, false, refl, arith, ℤ, ◌<ℤ◌, ◌≤ℤ◌, int_lt}
use Rattle.std.proofs.lemmas.Int.{ints, by_lt_z}
use Rattle.civil_time.specs.declared.limits.TheConstants.{FIRST_INSTANT, LAST_INSTANT}
use Rattle.civil_time.specs.Civil.{IsInstant, civil_text, shown_text}

less : (a b : ℤ) → a <ℤ b → int_lt a b ≡ true
less a b h = grind (arith, ints)

not_less : (a b : ℤ) → b ≤ℤ a → int_lt a b ≡ false
not_less a b h = grind (arith, ints)

pub text_inside : (n : ℤ) → IsInstant n → civil_text n ≡ shown_text n
unfolding civil_text
text_inside n h = rw (not_less n FIRST_INSTANT h.0, not_less LAST_INSTANT n h.1) refl

pub text_outside : (n : ℤ) → ¬ (IsInstant n) → civil_text n ≡ []
unfolding civil_text
text_outside n h =
    by_lt_z n FIRST_INSTANT
    (λ early. rw (less n FIRST_INSTANT early) refl)
    (λ begun. by_lt_z LAST_INSTANT n
    (λ late. rw (not_less n FIRST_INSTANT begun, less LAST_INSTANT n late) refl)
    (λ within. absurd (h (begun, within))))
