-- A number is read digit by digit.
use Rattle.std.proofs.Common.{◌≡◌, ◌∙◌, false, ℕ, zero, suc, ◌+◌, ◌-◌, ◌*◌, ◌^◌, ◌<◌, ◌≤◌, true, List, [], ◌∷◌, length, drop, get_or, refl, sym, ap, arith, rules, lit≤}
use Rattle.std.specs.Prelude.{◌==◌, IsTrue}
use Rattle.std.specs.List.{list_all}
use Rattle.std.specs.Char.{digit_value, is_ascii_digit}
use Rattle.std.specs.Str.Parse.{digits_value, digits_value_after}
use Rattle.std.proofs.Math.Nat.{pow-le-pow_right, pow-suc}
use Rattle.std.proofs.lemmas.List.{drop_more, drop_all}
use Rattle.std.proofs.lemmas.Bool.Decides.{nat_tests}
use Rattle.csv_records.specs.Fields.{is_digits}
use Rattle.csv_records.proofs.Numerals.{digits_from_parts, digits_parts}

-- the bytes before a place have this value, and those from there on go on with it
pub record ReadsOn (ds : List ℕ) (i value : ℕ) : Type 0 where
  pub small : value < 10 ^ i
  pub digits : list_all is_ascii_digit (drop i ds) ≡ list_all is_ascii_digit ds
  pub whole : digits_value_after 10 value (drop i ds) ≡ digits_value 10 ds

pub reads_start : (ds : List ℕ) → ReadsOn ds 0 0
reads_start ds = record { small = lit≤ tt; digits = refl; whole = refl }

decimal : (c : ℕ) → is_ascii_digit c ≡ true → (digit_value c ≡ c - 48) × (48 ≤ c) × (c < 58)
decimal c h = grind (arith, nat_tests)

-- one more digit
pub reads_digit : (ds : List ℕ) (i value : ℕ) → i < length ds → ReadsOn ds i value → is_ascii_digit (get_or ds i 0) ≡ true → ReadsOn ds (i + 1) (value * 10 + (get_or ds i 0 - 48))
reads_digit ds i value inside on digit =
    let byte : ℕ = get_or ds i 0 in
    let begins : drop i ds ≡ byte ∷ drop (i + 1) ds = drop_more ds i 0 inside in
    let tells = decimal byte digit in
    let same : byte - 48 ≡ digit_value byte = sym tells.0 in
    let small = on.small in
    let next : i + 1 ≡ suc i = omega arith in
    let power : 10 ^ suc i ≡ 10 ^ i * 10 = pow-suc 10 i in
    let digits : list_all is_ascii_digit (byte ∷ drop (i + 1) ds) ≡ list_all is_ascii_digit ds = rw begins at on.digits in
    let whole : digits_value_after 10 value (byte ∷ drop (i + 1) ds) ≡ digits_value 10 ds = rw begins at on.whole in
    record {
      small = rw (next, power) (omega (arith, small, tells.1, tells.2));
      digits = rw digit at digits;
      whole = rw same whole;
    }

-- 19 digits at most have less than 64 bits
pub room : (ds : List ℕ) (i value : ℕ) → i < length ds → length ds ≤ 19 → ReadsOn ds i value → value < 10 ^ 18
room ds i value inside short on =
    let small = on.small in
    let most : i ≤ 18 = omega (arith, inside, short) in
    let power : 10 ^ i ≤ 10 ^ 18 = pow-le-pow_right (lit≤ tt) most in
    omega (arith, small, power)

-- a byte that is no digit
pub no_digits : (ds : List ℕ) (i value : ℕ) → i < length ds → ReadsOn ds i value → is_ascii_digit (get_or ds i 0) ≡ false → ¬ IsTrue (is_digits ds)
no_digits ds i value inside on other h =
    let begins : drop i ds ≡ get_or ds i 0 ∷ drop (i + 1) ds = drop_more ds i 0 inside in
    let digits : list_all is_ascii_digit (get_or ds i 0 ∷ drop (i + 1) ds) ≡ list_all is_ascii_digit ds = rw begins at on.digits in
    let none : false ≡ list_all is_ascii_digit ds = rw other at digits in
    absurd (cc (none, (digits_parts ds h).1))

-- all bytes
pub all_digits : (ds : List ℕ) (i value : ℕ) → length ds ≤ i → 0 < length ds → ReadsOn ds i value → IsTrue (is_digits ds) × (value ≡ digits_value 10 ds)
all_digits ds i value end some on =
    let none : drop i ds ≡ [] = drop_all i ds end in
    (digits_from_parts ds some (sym (rw none at on.digits)), rw none at on.whole)
