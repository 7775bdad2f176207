use Rattle.std.specs.Prelude.{◌≡◌, take}
use Rattle.std.specs.List.{list_any}
use Rattle.decode_text.specs.Digits.{is_blank}
use Rattle.decode_text.proofs.digits.has_blank.Given as goal

abbrev pub invariant-bytes : goal.invariant-bytes
invariant-bytes l = l.found ≡ list_any is_blank (take l.byte-index l.text)
