-- Where hexadecimal digits stand for bytes.
use Rattle.std.proofs.Common.{◌≡◌, ◌≤◌, ℕ, Bool, true, false, List, length, Option, None, Result, Ok, Err, refl, sym, arith}
use Rattle.std.specs.Prelude.{◌↔◌, IsSome, nat_le, if◌then◌else◌}
use Rattle.std.specs.Result.{result_ok}
use Rattle.std.proofs.lemmas.Bool.Decides.{nat_tests}
use Rattle.hex.specs.Hex.{decode_of}
use Rattle.hex.specs.declared.error.FromHexError.{FromHexError}
use Rattle.hex.proofs.HexLemmas.{decode_of-digits, decode_of-ok}
use Rattle.csv_records.specs.Fields.{IsHexOf, bytes_in}

-- exactly at most so many digits, in pairs, are bytes
IsSome-bytes_in : (most : ℕ) (field : List ℕ) → IsSome (bytes_in most field) ↔ IsHexOf most field
unfolding bytes_in
IsSome-bytes_in most field = (λ some. short (nat_le (length field) most) refl some, λ is. long is)
  where
    decoded : (answer : Result (List ℕ) FromHexError) → decode_of field ≡ answer → length field ≤ most → IsSome (result_ok answer) → IsHexOf most field
    decoded (Ok bytes) e le some = let ok = decode_of-ok field bytes e in record { short = le; pairs = ok.0; digits = ok.1 }
    decoded (Err why) e le some = absurd (cc some)

    short : (le : Bool) → nat_le (length field) most ≡ le → IsSome (if le then result_ok (decode_of field) else None) → IsHexOf most field
    short true e some = decoded (decode_of field) refl (grind (arith, nat_tests)) some
    short false e some = absurd (cc some)

    long : IsHexOf most field → IsSome (if nat_le (length field) most then result_ok (decode_of field) else None)
    long is =
        let digits = decode_of-digits field is.pairs is.digits in
        let le : nat_le (length field) most ≡ true = grind (arith, nat_tests, is.short) in
        rw (le, digits.1) refl

-- the same of an answer that is what they stand for
pub found_by : (most : ℕ) (field : List ℕ) (answer : Option (List ℕ)) → bytes_in most field ≡ answer → IsSome answer ↔ IsHexOf most field
found_by most field answer e = rw (sym e) (IsSome-bytes_in most field)
