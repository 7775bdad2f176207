-- The ten words of a segment (ClockBound's PROTOCOL): word 0 is the magic, word 1 the header with the generation, and
-- words 2 to 9 are those of a record.
use Rattle.std.specs.Prelude.{◌≡◌, ℤ, pos, ℕ, ◌+◌, ◌*◌, ◌/◌, ◌%◌, ◌^◌, ◌<◌, ◌≤◌, Bool, List, [], ◌∷◌, drop, slice_index, unsigned_abs, unwrap_or, ◌==◌, if◌then◌else◌}
use Rattle.byteorder.specs.Endian.{little_number}
use Rattle.clock_gate.specs.declared.clock_status.ClockStatus.{ClockStatus}
use Rattle.clock_gate.specs.declared.clock_status.ClockStatus.TheVariants.{Unknown}
use Rattle.clock_gate.specs.ClockStatus.{code_of, status_of_code}
use Rattle.generation_word.specs.declared.layout.Layout.{Layout}
use Rattle.generation_word.specs.Header.{word1_of}
use Rattle.segment_layout.specs.declared.words.TheConstants.{MAGIC}
use Rattle.segment_layout.specs.Record.{RecordFields}

-- a moment of a record, which is never below 0: its whole seconds, and the nanoseconds that are left
abbrev pub seconds_of : ℤ → ℕ
seconds_of moment = unsigned_abs moment / 1000000000

abbrev pub nanos_of : ℤ → ℕ
nanos_of moment = unsigned_abs moment % 1000000000

-- drift in the low half, the status's code in the high half
abbrev pub drift_and_status : ℕ → ClockStatus → ℕ
drift_and_status drift status = drift + unsigned_abs (code_of status) * 2 ^ 32

abbrev pub flag_of : Bool → ℕ
flag_of support = if support then 1 else 0

-- words 2 to 9 of a record
abbrev pub data_words : RecordFields → List ℕ
data_words rec =
    seconds_of rec.as_of ∷ nanos_of rec.as_of ∷ seconds_of rec.void_after ∷ nanos_of rec.void_after
    ∷ unsigned_abs rec.bound ∷ rec.marker ∷ drift_and_status rec.drift rec.status ∷ flag_of rec.support ∷ []

-- the words of a record under a header, each at its number
abbrev pub record_words : ℕ → RecordFields → List ℕ
record_words header rec = MAGIC ∷ header ∷ data_words rec

-- the words stand for the record, with a layout and a generation
abbrev pub IsRecordWords : Layout → ℕ → RecordFields → List ℕ → Type 0
IsRecordWords layout generation rec words = words ≡ record_words (word1_of layout generation) rec

-- what the word with this number has to meet, each word alone; words 0, 1 and 7 may be any
pub record IsGoodWord (index word : ℕ) : Type 0 where
  pub as_of_seconds : index ≡ 2 → word ≤ 4000000000
  pub as_of_nanos : index ≡ 3 → word < 1000000000
  pub void_after_seconds : index ≡ 4 → word ≤ 4000001000
  pub void_after_nanos : index ≡ 5 → word < 1000000000
  pub bound : index ≡ 6 → word ≤ 2 ^ 62
  pub drift : index ≡ 8 → word % 2 ^ 32 ≤ 1000000000
  pub status : index ≡ 8 → word / 2 ^ 32 ≤ 3
  pub flag : index ≡ 9 → word ≤ 1

-- each data word is a good one
abbrev pub AreGoodWords : List ℕ → Type 0
AreGoodWords words = (index : ℕ) → 2 ≤ index → index < 10 → IsGoodWord index (slice_index words index)

-- the moment of so many seconds and nanoseconds
abbrev pub moment_of : ℕ → ℕ → ℤ
moment_of seconds nanos = pos (seconds * 1000000000 + nanos)

-- the status of a code from 0 to 3
abbrev pub status_with : ℕ → ClockStatus
status_with code = unwrap_or (status_of_code (pos code)) Unknown

-- the record that good words stand for
abbrev pub fields_of_words : List ℕ → RecordFields
fields_of_words words = record {
  as_of = moment_of (slice_index words 2) (slice_index words 3);
  void_after = moment_of (slice_index words 4) (slice_index words 5);
  bound = pos (slice_index words 6);
  marker = slice_index words 7;
  drift = slice_index words 8 % 2 ^ 32;
  status = status_with (slice_index words 8 / 2 ^ 32);
  support = slice_index words 9 == 1;
}

-- the word in eight bytes from a place on, the lowest byte first
unfoldable pub word_at : ℕ → List ℕ → ℕ
word_at place bytes = little_number 8 (drop place bytes)

-- the ten words of a segment's bytes
abbrev pub words_of_image : List ℕ → List ℕ
words_of_image bytes =
    word_at 0 bytes ∷ word_at 8 bytes ∷ word_at 16 bytes ∷ word_at 24 bytes ∷ word_at 32 bytes
    ∷ word_at 40 bytes ∷ word_at 48 bytes ∷ word_at 56 bytes ∷ word_at 64 bytes ∷ word_at 72 bytes ∷ []
