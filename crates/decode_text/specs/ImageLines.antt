-- The line that tells of a segment's image (this project's format), byte for byte. It ends with a line feed.
use Rattle.std.specs.Prelude.{ℕ, ℤ, pos, ◌%◌, ◌^◌, List, ◌++◌, codes, decimal, Option, Some, None, Result, Ok, Err, ◌==◌, if◌then◌else◌}
use Rattle.std.specs.Fmt.{signed_decimal}
use Rattle.clock_gate.specs.ClockStatus.{name_of}
use Rattle.generation_word.specs.declared.layout.Layout.{Layout}
use Rattle.generation_word.specs.declared.layout.Layout.TheVariants.{Two, Three}
use Rattle.generation_word.specs.declared.header.TheConstants.{LOW_HALF_THREE}
use Rattle.segment_layout.specs.Record.{RecordFields}
use Rattle.segment_layout.specs.Words.{flag_of, word_at, words_of_image}
use Rattle.segment_layout.specs.Image.{image_of}
use Rattle.segment_layout.specs.declared.start.Start.{Start}
use Rattle.segment_layout.specs.declared.start.Start.TheVariants.{Fresh, Kept, Torn}
use Rattle.segment_layout.specs.declared.image_fault.ImageFault.{ImageFault}
use Rattle.segment_layout.specs.declared.image_fault.ImageFault.TheVariants as fault

-- the moments of a kept record: `image,kept,GENERATION,ASOF,VOIDAFTER,`
unfoldable pub moments_part : ℕ → RecordFields → List ℕ
moments_part generation rec =
    codes "image,kept," ++ (decimal generation ++ (codes "," ++ (signed_decimal rec.as_of ++ (codes "," ++ (signed_decimal rec.void_after ++ codes ",")))))

-- `BOUND,MARKER,DRIFT,`
unfoldable pub numbers_part : RecordFields → List ℕ
numbers_part rec = signed_decimal rec.bound ++ (codes "," ++ (decimal rec.marker ++ (codes "," ++ (decimal rec.drift ++ codes ","))))

-- `STATUS,SUPPORT`, with 1 for support and 0 for none
unfoldable pub trust_part : RecordFields → List ℕ
trust_part rec = name_of rec.status ++ (codes "," ++ (decimal (flag_of rec.support) ++ codes "\n"))

-- `image,kept,GENERATION,ASOF,VOIDAFTER,BOUND,MARKER,DRIFT,STATUS,SUPPORT`
unfoldable pub kept_line : ℕ → RecordFields → List ℕ
kept_line generation rec = moments_part generation rec ++ (numbers_part rec ++ trust_part rec)

-- the line of what a segment holds
unfoldable pub image_line : Start → List ℕ
image_line Fresh = codes "image,fresh\n"
image_line (Torn generation) = codes "image,torn," ++ (decimal generation ++ codes "\n")
image_line (Kept generation rec) = kept_line generation rec

-- the name of a fault
unfoldable pub fault_name : ImageFault → List ℕ
fault_name fault.Magic = codes "magic"
fault_name (fault.Size size) = codes "size"
fault_name (fault.Version version) = codes "version"
fault_name (fault.Nanoseconds word) = codes "nanoseconds"
fault_name (fault.Bound bound) = codes "bound"
fault_name (fault.Drift drift) = codes "drift"
fault_name (fault.Status status) = codes "status"
fault_name (fault.Flag flag) = codes "flag"
fault_name (fault.Range word) = codes "range"

-- the number that it carries
unfoldable pub fault_number : ImageFault → Option ℤ
fault_number fault.Magic = None
fault_number (fault.Size size) = Some (pos size)
fault_number (fault.Version version) = Some (pos version)
fault_number (fault.Nanoseconds word) = Some (pos word)
fault_number (fault.Bound bound) = Some bound
fault_number (fault.Drift drift) = Some (pos drift)
fault_number (fault.Status status) = Some status
fault_number (fault.Flag flag) = Some (pos flag)
fault_number (fault.Range word) = Some (pos word)

-- the end of a refusal, with the number where there is one
unfoldable pub number_end : Option ℤ → List ℕ
number_end None = codes "\n"
number_end (Some n) = codes "," ++ (signed_decimal n ++ codes "\n")

-- the line of words that are no segment: `refused,NAME` or `refused,NAME,N`
unfoldable pub refused_image : ImageFault → List ℕ
refused_image fault = (codes "refused," ++ fault_name fault) ++ number_end (fault_number fault)

-- the line of what was read
abbrev pub image_lines : Result Start ImageFault → List ℕ
image_lines (Ok start) = image_line start
image_lines (Err fault) = refused_image fault

-- the layout that a header word names: 3 where its low half is layout 3's, else 2
abbrev pub layout_named : ℕ → Layout
layout_named word = if word % 2 ^ 32 == LOW_HALF_THREE then Three else Two

-- what 80 bytes tell as an image
unfoldable pub image_text : List ℕ → List ℕ
image_text bytes = image_lines (image_of (layout_named (word_at 8 bytes)) (words_of_image bytes))
