-- Digits are text, and `parse` reads their value.
use Rattle.std.proofs.Common.{◌≡◌, ◌≢◌, false, ℕ, zero, suc, ◌^◌, ◌<◌, ◌≤◌, true, List, [], ◌∷◌, length, get_or, Option, Result, Ok, Err, arith, rules, inl, inr}
use Rattle.std.specs.Prelude.{IfNone, IfSome, IsTrue, ◌==◌}
use Rattle.std.specs.List.{list_all}
use Rattle.std.specs.Char.{is_ascii_digit}
use Rattle.std.specs.Str.{IsAscii, IsUtf8}
use Rattle.std.specs.Str.Parse.{ParsesUnsigned, digits_value}
use Rattle.std.specs.Result.{result_ok, OkIff}
use Rattle.std.proofs.lemmas.Str.{IsUtf8-from_ascii}
use Rattle.std.proofs.lemmas.Str.Parse.{IsNumeralModel, numerals_by_value, parse_plain}
use Rattle.std.proofs.lemmas.Bool.{cases_lt, and_parts}
use Rattle.std.proofs.lemmas.Bool.Decides.{nat_tests}
use Rattle.std.proofs.lemmas.Grind.{common_steps}
use Rattle.csv_records.specs.Fields.{is_digits}

pub own : IsNumeralModel (λ ds. list_all is_ascii_digit ds ≡ true) (digits_value 10)
own = numerals_by_value _ (search rules)

below_ascii : (ds : List ℕ) (i : ℕ) → list_all is_ascii_digit ds ≡ true → get_or ds i 0 < 128
below_ascii [] i h = grind (arith, common_steps)
below_ascii (d ∷ ds) zero h = grind (arith, nat_tests)
below_ascii (d ∷ ds) (suc i) h = below_ascii ds i (and_parts _ _ h).1

pub IsAscii-digits : (ds : List ℕ) → list_all is_ascii_digit ds ≡ true → IsAscii ds
IsAscii-digits ds h = λ i. below_ascii ds i h

pub digits_parts : (ds : List ℕ) → IsTrue (is_digits ds) → (0 < length ds) × (list_all is_ascii_digit ds ≡ true)
digits_parts ds h = grind (arith, nat_tests)

pub digits_from_parts : (ds : List ℕ) → 0 < length ds → list_all is_ascii_digit ds ≡ true → IsTrue (is_digits ds)
digits_from_parts ds some all = rw all (grind (arith, nat_tests))

no_plus : (ds : List ℕ) → list_all is_ascii_digit ds ≡ true → get_or ds 0 0 ≢ 43
no_plus [] h e = absurd (cc e)
no_plus (d ∷ ds) h e = grind (arith, nat_tests)

-- what is no text is no digits
pub bytes_are_none : (ds : List ℕ) → ¬ (IsUtf8 ds) → ¬ (IsTrue (is_digits ds))
bytes_are_none ds untold h = untold (IsUtf8-from_ascii ds (IsAscii-digits ds (digits_parts ds h).1))

-- what `parse` answers where no plus stands first
pub parsed : {E : Type 0} (ds : List ℕ) (r : Result ℕ E) → ParsesUnsigned 64 10 ds r → (get_or ds 0 0 == 43) ≡ false → OkIff r (IsTrue (is_digits ds) × (digits_value 10 ds < 2 ^ 64)) (digits_value 10 ds)
parsed {E} ds (Ok x) h e = let own_words = parse_plain own {E = E} 64 ds (Ok x) h (grind (arith, nat_tests)) in ((digits_from_parts ds own_words.0.1 own_words.0.0, own_words.0.2), own_words.1)
parsed {E} ds (Err d) h e = λ is. let parts = digits_parts ds is.0 in parse_plain own {E = E} 64 ds (Err d) h (grind (arith, nat_tests)) (parts.1, parts.0, is.1)

pub read_as : {E : Type 0} (ds : List ℕ) (r : Result ℕ E) (o : Option ℕ) → o ≡ result_ok r → OkIff r (IsTrue (is_digits ds) × (digits_value 10 ds < 2 ^ 64)) (digits_value 10 ds) → IfSome o (λ n. IsTrue (is_digits ds) × (n ≡ digits_value 10 ds))
read_as ds (Ok x) o e h = rw e (h.0.0, h.1)
read_as ds (Err d) o e h = rw e tt

pub too_large : {E : Type 0} (ds : List ℕ) (r : Result ℕ E) (o : Option ℕ) → o ≡ result_ok r → OkIff r (IsTrue (is_digits ds) × (digits_value 10 ds < 2 ^ 64)) (digits_value 10 ds) → IfNone o (IsTrue (is_digits ds) → 2 ^ 64 ≤ digits_value 10 ds)
too_large ds (Ok x) o e h = rw e tt
too_large ds (Err d) o e h = rw e (λ is. elim (cases_lt (digits_value 10 ds) (2 ^ 64)) [ inl lt ↦ absurd (h (is, lt)) | inr le ↦ le ])
