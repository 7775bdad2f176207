-- Hexadecimal text with blanks in it.
use Rattle.std.specs.Prelude.{◌≡◌, ℕ, ◌%◌, Bool, not, ◌||◌, ◌==◌, List, length, filter, Option}
use Rattle.std.specs.List.{AllPass}
use Rattle.std.specs.Result.{result_ok}
use Rattle.hex.specs.Hex.{decode_of, is_hex_digit}

-- a space, a tab, a carriage return or a line feed
abbrev pub is_blank : ℕ → Bool
is_blank byte = (byte == 0x20) || (byte == 0x09) || (byte == 0x0d) || (byte == 0x0a)

-- what is left of a text without its blanks
unfoldable pub digits_of : List ℕ → List ℕ
digits_of text = filter (λ byte. not (is_blank byte)) text

-- pairs of digits, with blanks anywhere
pub record IsHexadecimal (text : List ℕ) : Type 0 where
  pub digits : AllPass is_hex_digit (digits_of text)
  pub paired : length (digits_of text) % 2 ≡ 0

-- the bytes that its digits tell, or `None` where the text is not hexadecimal
unfoldable pub bytes_told : List ℕ → Option (List ℕ)
bytes_told text = result_ok (decode_of (digits_of text))
