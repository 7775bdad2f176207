-- Which texts tell bytes.
use Rattle.std.proofs.Common.{◌≡◌, ◌*◌, ℕ, Bool, true, false, not, cond, List, [], ◌∷◌, length, refl, Some, None, Result, Ok, Err, ap, sym, ◌∙◌}
use Rattle.std.specs.Prelude.{◌||◌}
use Rattle.std.specs.List.{list_any}
use Rattle.std.specs.Result.{result_ok}
use Rattle.hex.specs.Hex.{decode_of}
use Rattle.hex.specs.declared.error.FromHexError.{FromHexError}
use Rattle.hex.proofs.HexLemmas.{decode_of-ok, decode_of-digits, decode_of-even, decode_pairs-ok}
use Rattle.decode_text.specs.Digits.{digits_of, is_blank, IsHexadecimal, bytes_told}

-- the result that has this value
ok_of : (r : Result (List ℕ) FromHexError) (bytes : List ℕ) → result_ok r ≡ Some bytes → r ≡ Ok bytes
ok_of (Ok told) bytes is = cc is
ok_of (Err e) bytes is = cc is

pub hexadecimal_if_told : (text bytes : List ℕ) → bytes_told text ≡ Some bytes → IsHexadecimal text
unfolding bytes_told
hexadecimal_if_told text bytes is =
    let facts = decode_of-ok (digits_of text) bytes (ok_of (decode_of (digits_of text)) bytes is) in
    record { digits = facts.1; paired = facts.0 }

pub not_hexadecimal : (text : List ℕ) → bytes_told text ≡ None → IsHexadecimal text → ⊥
unfolding bytes_told
not_hexadecimal text is h =
    let told = decode_of-digits (digits_of text) h.paired h.digits in
    let found : result_ok (decode_of (digits_of text)) ≡ Some told.0 = ap result_ok told.1 in
    cc (sym is ∙ found)

-- without blanks nothing is left out
pub digits_alone : (text : List ℕ) → list_any is_blank text ≡ false → digits_of text ≡ text
unfolding digits_of
digits_alone [] none = refl
digits_alone (c ∷ rest) none = by (is_blank c) none (digits_alone rest)
  where
    by : (blank : Bool) → (blank || list_any is_blank rest) ≡ false → (list_any is_blank rest ≡ false → digits_of rest ≡ rest) → cond (not blank) (c ∷ digits_of rest) (digits_of rest) ≡ c ∷ rest
    by true none same = absurd (cc none)
    by false none same = ap (λ (digits : List ℕ). c ∷ digits) (same none)

-- two digits stand for each byte
pub pairs_if_told : (text bytes : List ℕ) → bytes_told text ≡ Some bytes → length (digits_of text) ≡ 2 * length bytes
unfolding bytes_told
pairs_if_told text bytes is =
    let told : decode_of (digits_of text) ≡ Ok bytes = ok_of (decode_of (digits_of text)) bytes is in
    let even = (decode_of-ok (digits_of text) bytes told).0 in
    (decode_pairs-ok 0 (digits_of text) bytes (sym (decode_of-even (digits_of text) even) ∙ told)).1
