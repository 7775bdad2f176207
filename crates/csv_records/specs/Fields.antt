-- What one field says.
use Rattle.std.specs.Prelude.{◌≡◌, ◌≤◌, ◌%◌, ℕ, Bool, ◌&&◌, List, length, Option, Some, None, nat_le, if◌then◌else◌}
use Rattle.std.specs.Char.{is_ascii_digit}
use Rattle.std.specs.List.{AllPass, list_all}
use Rattle.std.specs.Result.{result_ok}
use Rattle.std.specs.Str.Parse.{digits_value}
use Rattle.hex.specs.Hex.{decode_of, is_hex_digit}

-- one decimal digit or more
abbrev pub is_digits : List ℕ → Bool
is_digits field = nat_le 1 (length field) && list_all is_ascii_digit field

-- 1 to 20 decimal digits
abbrev pub is_numeral : List ℕ → Bool
is_numeral field = is_digits field && nat_le (length field) 20

-- the number that they write, where it is in a range
unfoldable pub number_in : ℕ → ℕ → List ℕ → Option ℕ
number_in low high field =
    let n = digits_value 10 field in
    if is_numeral field && (nat_le low n && nat_le n high) then Some n else None

-- at most so many hexadecimal digits, two for each byte, in either case
pub record IsHexOf (most : ℕ) (field : List ℕ) : Type 0 where
  pub short : length field ≤ most
  pub pairs : length field % 2 ≡ 0
  pub digits : AllPass is_hex_digit field

-- the bytes that at most so many hexadecimal digits stand for, two digits a byte
unfoldable pub bytes_in : ℕ → List ℕ → Option (List ℕ)
bytes_in most field = if nat_le (length field) most then result_ok (decode_of field) else None
