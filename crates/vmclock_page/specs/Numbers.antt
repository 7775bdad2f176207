-- Little-endian numbers at their places.
use Rattle.std.specs.Prelude.{ℕ, ◌<◌, List, All, drop}
use Rattle.byteorder.specs.Endian.{little_number, little_bytes}

-- the number in so many bytes from a place on, the lowest first
unfoldable pub number : ℕ → ℕ → List ℕ → ℕ
number size place bytes = little_number size (drop place bytes)

-- a number as so many bytes, the lowest first
unfoldable pub spelled : ℕ → ℕ → List ℕ
spelled size x = little_bytes size x

-- each is a byte
abbrev pub AreBytes : List ℕ → Type 0
AreBytes bytes = All (λ b. b < 256) bytes
