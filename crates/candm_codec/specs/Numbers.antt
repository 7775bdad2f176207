-- Numbers in bytes, the highest byte first.
use Rattle.std.specs.Prelude.{ℕ, List, drop}
use Rattle.byteorder.specs.Endian.{big_number, big_bytes}

-- the number in so many bytes from a place on
unfoldable pub number : ℕ → ℕ → List ℕ → ℕ
number size place bytes = big_number size (drop place bytes)

-- a number as so many bytes
unfoldable pub spelled : ℕ → ℕ → List ℕ
spelled size x = big_bytes size x
