-- What `decode` answers.
use Rattle.std.specs.Prelude.{◌≡◌, ℕ, List, length, Option, Some, None, Result, Ok, Err, ⊤, ◌==◌, if◌then◌else◌}
use Rattle.decode_text.specs.Digits.{digits_of, bytes_told, IsHexadecimal}
use Rattle.decode_text.specs.ImageLines.{image_text}
use Rattle.decode_text.specs.ReplyLines.{reply_text}
use Rattle.decode_text.specs.PageLines.{page_text}
use Rattle.decode_text.specs.declared.what.What.{What}
use Rattle.decode_text.specs.declared.what.What.TheVariants.{Reply, Page, Image}
use Rattle.decode_text.specs.declared.decode_error.DecodeError.{DecodeError}
use Rattle.decode_text.specs.declared.decode_error.DecodeError.TheVariants.{Hex, Memory}

-- what bytes tell; an image has exactly 80 of them
abbrev pub text_of : What → Option (List ℕ) → Option (List ℕ)
text_of Reply (Some bytes) = Some (reply_text bytes)
text_of Page (Some bytes) = Some (page_text bytes)
text_of Image (Some bytes) = if length bytes == 80 then Some (image_text bytes) else None
text_of Reply None = None
text_of Page None = None
text_of Image None = None

-- hexadecimal text, and for an image the digits of 80 bytes
pub record IsTextOf (what : What) (text : List ℕ) : Type 0 where
  pub hexadecimal : IsHexadecimal text
  pub whole : what ≡ Image → length (digits_of text) ≡ 160

-- what a hexadecimal text tells, or `None` where it can't be told
unfoldable pub decode_text : What → List ℕ → Option (List ℕ)
decode_text what text = text_of what (bytes_told text)

-- Ok is the text, `Hex` comes exactly where there is none, and `Memory` is free
abbrev pub Answers : Result (List ℕ) DecodeError → Option (List ℕ) → Type 0
Answers (Ok given) text = text ≡ Some given
Answers (Err Hex) text = text ≡ None
Answers (Err Memory) text = ⊤
