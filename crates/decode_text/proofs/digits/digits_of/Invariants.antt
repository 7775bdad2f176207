use Rattle.std.specs.Prelude.{◌≡◌, take}
use Rattle.decode_text.specs.Digits.{digits_of}
use Rattle.decode_text.proofs.digits.digits_of.Given as goal

abbrev pub invariant-loop-byte : goal.invariant-loop-byte
invariant-loop-byte l = l.digits.items ≡ digits_of (take l.byte-index l.text)
