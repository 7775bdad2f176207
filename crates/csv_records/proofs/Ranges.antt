-- What the parts of a record keep.
use Rattle.std.proofs.Common.{◌≡◌, ◌≤◌, ◌*◌, ℕ, Bool, true, false, cond, List, length, Option, Some, None, Result, Ok, Err, refl, sym, arith}
use Rattle.std.specs.Prelude.{IfSome, nat_le, option_map}
use Rattle.std.specs.Option.{ok_or}
use Rattle.std.specs.Result.{result_ok}
use Rattle.std.proofs.lemmas.Bool.Decides.{nat_tests}
use Rattle.csv.specs.Records.{field_at}
use Rattle.hex.specs.Hex.{IsBytes, decode_of}
use Rattle.hex.proofs.HexLemmas.{decode_of-ok}
use Rattle.clock_gate.specs.Trace.{IsFrom}
use Rattle.csv_records.specs.Fields.{bytes_in, number_in}
use Rattle.csv_records.specs.Parts.{bytes_part, number_part, optional_by, optional_part, part_at, part_by}
use Rattle.csv_records.specs.Reason.{◌>>=◌}
use Rattle.csv_records.specs.declared.reason.Reason.{Reason}
use Rattle.csv_records.specs.declared.reason.Reason.TheVariants as reasons

-- what gave something in the end, first gave something that the next step took
pub then_ok : {A B E : Type 0} (r : Result A E) (next : A → Result B E) (y : B) → (r >>= next) ≡ Ok y → (x : A) × (r ≡ Ok x) × (next x ≡ Ok y)
then_ok (Ok x) next y e = (x, refl, e)
then_ok (Err why) next y e = absurd cc

ok_or-some : {A : Type 0} (o : Option A) (reason : Reason) (x : A) → ok_or o reason ≡ Ok x → o ≡ Some x
ok_or-some (Some y) reason x e = cc e
ok_or-some None reason x e = absurd cc

-- a part is what some field says
pub part_at-said : {A : Type 0} (reason : Reason) (says : List ℕ → Option A) (place : ℕ) (fields : List (List ℕ)) (x : A) → part_at reason says place fields ≡ Ok x
    → (field : List ℕ) × (says field ≡ Some x)
part_at-said {A = A} reason says place fields x e = by (field_at fields place) e
  where
    by : (field : Option (List ℕ)) → part_by reason says field ≡ Ok x → (field : List ℕ) × (says field ≡ Some x)
    by None e = absurd cc
    by (Some field) e = (field, ok_or-some (says field) reason x e)

pub number_in-within : (low high : ℕ) (field : List ℕ) (n : ℕ) → number_in low high field ≡ Some n → IsFrom low high n
unfolding number_in
number_in-within low high field n e = grind (arith, nat_tests)

pub number_part-within : (low high place : ℕ) (fields : List (List ℕ)) (n : ℕ) → number_part low high place fields ≡ Ok n → IsFrom low high n
number_part-within low high place fields n e =
    let (field, says) = part_at-said reasons.Number (number_in low high) place fields n e in
    number_in-within low high field n says

told-some : {A : Type 0} (o found : Option A) (reason : Reason) → ok_or (option_map Some o) reason ≡ Ok found → o ≡ found
told-some None found reason e = absurd cc
told-some (Some x) found reason e = cc e

pub optional_part-within : (low high place : ℕ) (fields : List (List ℕ)) (found : Option ℕ) → optional_part low high place fields ≡ Ok found → IfSome found (IsFrom low high)
optional_part-within low high place fields None e = tt
optional_part-within low high place fields (Some n) e = by (field_at fields place) e
  where
    by : (field : Option (List ℕ)) → optional_by reasons.Number (number_in low high) field ≡ Ok (Some n) → IsFrom low high n
    by None e = absurd cc
    by (Some field) e = number_in-within low high field n (told-some _ _ _ e)

-- bytes are no more than half of the digits, and each is a byte
bytes_in-within : (most : ℕ) (field bytes : List ℕ) → bytes_in most field ≡ Some bytes → (2 * length bytes ≤ most) × IsBytes bytes
unfolding bytes_in
bytes_in-within most field bytes e = by (nat_le (length field) most) refl (decode_of field) refl e
  where
    by : (short : Bool) → nat_le (length field) most ≡ short → (r : Result (List ℕ) _) → decode_of field ≡ r → cond short (result_ok r) None ≡ Some bytes
        → (2 * length bytes ≤ most) × IsBytes bytes
    by false is r decoded e = absurd cc
    by true is (Err _) decoded e = absurd cc
    by true is (Ok found) decoded e =
        let same : found ≡ bytes = cc e in
        let ok = decode_of-ok field bytes (rw (sym same) decoded) in
        let short : length field ≤ most = grind (arith, nat_tests, is) in
        (omega (arith, short, ok.2), ok.3)

pub bytes_part-within : (most place : ℕ) (fields : List (List ℕ)) (bytes : List ℕ) → bytes_part most place fields ≡ Ok bytes → (2 * length bytes ≤ most) × IsBytes bytes
bytes_part-within most place fields bytes e =
    let (field, says) = part_at-said reasons.Hex (bytes_in most) place fields bytes e in
    bytes_in-within most field bytes says
