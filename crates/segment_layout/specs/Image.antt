-- What ten words hold when a segment is opened, and their first fault.
use Rattle.std.specs.Prelude.{◌≡◌, ℕ, ◌/◌, ◌%◌, ◌^◌, ◌<◌, Bool, false, ◌||◌, ◌&&◌, List, [], ◌∷◌, slice_index, Option, Some, None, Result, Ok, Err, ◌⊎◌, nat_lt, nat_le, ◌==◌, if◌then◌else◌}
use Rattle.std.specs.Int.{w32, w64, cast_signed}
use Rattle.clock_gate.specs.FirstFault.{first_fault, unless}
use Rattle.generation_word.specs.declared.layout.Layout.{Layout}
use Rattle.generation_word.specs.declared.layout.Layout.TheVariants.{Two, Three}
use Rattle.generation_word.specs.declared.header.TheConstants.{LOW_HALF_THREE}
use Rattle.generation_word.specs.Header.{word1_of, header_of}
use Rattle.segment_layout.specs.declared.words.TheConstants.{MAGIC}
use Rattle.segment_layout.specs.declared.start.Start.{Start}
use Rattle.segment_layout.specs.declared.start.Start.TheVariants.{Fresh, Kept, Torn}
use Rattle.segment_layout.specs.declared.image_fault.ImageFault.{ImageFault}
use Rattle.segment_layout.specs.declared.image_fault.ImageFault.TheVariants as fault
use Rattle.segment_layout.specs.Record.{RecordFields, KeepsBounds}
use Rattle.segment_layout.specs.Words.{record_words, fields_of_words}

-- the generation that a start tells, 0 for a fresh one
abbrev pub generation_of_start : Start → ℕ
generation_of_start Fresh = 0
generation_of_start (Kept generation rec) = generation
generation_of_start (Torn generation) = generation

-- the word is a header with this generation: of layout 2, which each layout reads, or in layout 3 of its own
abbrev pub IsHeaderFor : Layout → ℕ → ℕ → Type 0
IsHeaderFor Two word generation = word ≡ word1_of Two generation
IsHeaderFor Three word generation = (word ≡ word1_of Two generation) ⊎ (word ≡ word1_of Three generation)

-- word 0 is the magic, and word 1 a header with this generation
pub record HasGeneration (layout : Layout) (words : List ℕ) (generation : ℕ) : Type 0 where
  pub magic : slice_index words 0 ≡ MAGIC
  pub header : IsHeaderFor layout (slice_index words 1) generation

-- the words are those of a record whose publication ended
pub record HoldsRecord (layout : Layout) (words : List ℕ) (generation : ℕ) (rec : RecordFields) : Type 0 where
  pub header : HasGeneration layout words generation
  pub even : generation % 2 ≡ 0
  pub published : 0 < generation
  pub spelled : words ≡ record_words (slice_index words 1) rec
  pub bounds : KeepsBounds rec.as_of rec.void_after rec.bound rec.drift

-- the header is still of version 2 in a run of layout 3
abbrev pub is_old_header : Layout → ℕ → Bool
is_old_header Two header = false
is_old_header Three header = (header_of header).1 == 2

-- nothing was published: word 1 is 0 and word 0 is 0 or the magic, or the generation is 0
abbrev pub HoldsNothing : Layout → List ℕ → Type 0
HoldsNothing layout words =
    ((slice_index words 1 ≡ 0) × ((slice_index words 0 ≡ 0) ⊎ (slice_index words 0 ≡ MAGIC)))
    ⊎ HasGeneration layout words 0

-- what the words hold at a start; the data words of a fresh or a torn image may be any
abbrev pub IsImageOf : Layout → List ℕ → Start → Type 0
IsImageOf layout words Fresh = HoldsNothing layout words
IsImageOf layout words (Kept generation rec) = HoldsRecord layout words generation rec
IsImageOf layout words (Torn generation) = HasGeneration layout words generation × (generation % 2 ≡ 1)

-- a test, with the fault of what does not meet it
abbrev pub Test : Type 0
Test = Bool × ImageFault

-- the magic, or no segment yet
abbrev pub has_magic : List ℕ → Bool
has_magic words = slice_index words 0 == MAGIC || (slice_index words 0 == 0 && slice_index words 1 == 0)

-- each layout reads version 2, and layout 3 a header with its own low half
abbrev pub reads_version : Layout → ℕ → Bool
reads_version Two word = (header_of word).1 == 2
reads_version Three word = (header_of word).1 == 2 || (word % 2 ^ 32 == LOW_HALF_THREE)

-- what the header is tested for, in order
abbrev pub header_tests : Layout → ℕ → List Test
header_tests layout word =
    ((header_of word).0 == 80, fault.Size (header_of word).0)
    ∷ (reads_version layout word, fault.Version (header_of word).1)
    ∷ []

-- what the data words are tested for, in order
abbrev pub data_tests : List ℕ → List Test
data_tests words =
    (nat_lt (slice_index words 3) 1000000000, fault.Nanoseconds 3)
    ∷ (nat_lt (slice_index words 5) 1000000000, fault.Nanoseconds 5)
    ∷ (nat_le (slice_index words 6) (2 ^ 62), fault.Bound (cast_signed w64 (slice_index words 6)))
    ∷ (nat_le (slice_index words 8 % 2 ^ 32) 1000000000, fault.Drift (slice_index words 8 % 2 ^ 32))
    ∷ (nat_le (slice_index words 8 / 2 ^ 32) 3, fault.Status (cast_signed w32 (slice_index words 8 / 2 ^ 32)))
    ∷ (nat_le (slice_index words 9) 1, fault.Flag (slice_index words 9))
    ∷ (nat_le (slice_index words 2) 4000000000, fault.Range 2)
    ∷ (nat_le (slice_index words 4) 4000001000, fault.Range 4)
    ∷ []

-- what a header with this generation leads to: the data words are looked at where it is even and not 0
abbrev pub start_at : List ℕ → ℕ → Result Start ImageFault
start_at words generation =
    if generation == 0 then Ok Fresh
    else if generation % 2 == 1 then Ok (Torn generation)
    else unless (first_fault (data_tests words)) (Ok (Kept generation (fields_of_words words)))

-- what the words hold, or their first fault; where word 1 is 0 nothing after it is looked at
unfoldable pub image_of : Layout → List ℕ → Result Start ImageFault
image_of layout words =
    if has_magic words then
    if slice_index words 1 == 0 then Ok Fresh
    else unless (first_fault (header_tests layout (slice_index words 1))) (start_at words (header_of (slice_index words 1)).2)
    else Err fault.Magic

-- what ten words hold, where they are admitted: word 1 alone tells whether nothing was published, whether an update is open, or under
-- which number a record stands
abbrev pub start_by : List ℕ → (generation : ℕ) → Start
start_by words generation = if generation == 0 then Fresh else if generation % 2 == 1 then Torn generation else Kept generation (fields_of_words words)

abbrev pub start_of : List ℕ → Start
start_of words = start_by words (header_of (slice_index words 1)).2
