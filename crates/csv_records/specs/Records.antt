-- The records of a text, and those that a reader of one still has ahead.
use Rattle.std.specs.Prelude.{◌≡◌, ◌+◌, ℕ, true, false, List, [], length, Option, Some, unwrap_or, IsSome, ⊤}
use Rattle.std.specs.Borrow.{Bor}
use Rattle.csv.specs.Machine.{ends_at_end}
use Rattle.csv.specs.Reading.{Ready, default_config, is_flexible, reader_config, reader_state, reader_trim, records, records_from, source_of, strip_bom}
use Rattle.csv.specs.declared.error.ErrorKind.{ErrorKind}
use Rattle.csv.specs.declared.error.ErrorKind.TheVariants as kind
use Rattle.csv.specs.declared.parser.State.{State}
use Rattle.csv.specs.declared.reader.Reader.{Reader}
use Rattle.csv.specs.declared.reader.Trim.TheVariants as trim

-- the records of a text after a byte order mark that it may begin with, each the list of its fields
unfoldable pub records_of : List ℕ → List (List (List ℕ))
records_of bytes = records default_config (strip_bom bytes)

-- a reader of a text in memory
abbrev pub TextReader : Type 0
TextReader = Reader (Bor (List ℕ))

-- what is left of a text in memory: all of it, since reading one can't fail
abbrev pub text_left : Bor (List ℕ) → Option (List ℕ)
text_left text = Some text.now

-- the bytes that a reader has still to read
abbrev pub bytes_ahead : TextReader → List ℕ
bytes_ahead reader = unwrap_or (source_of text_left reader) []

-- the records of what is left of a text, at a state of the machine that reads it
unfoldable pub records_left : State → List ℕ → List (List (List ℕ))
records_left state rest = records_from default_config (length rest + 1) state rest

-- the records that a reader has still to read
abbrev pub records_ahead : TextReader → List (List (List ℕ))
records_ahead reader = records_left (reader_state reader) (bytes_ahead reader)

-- a reader that reads as this crate does and stands between two records
pub record GoesOn (reader : TextReader) : Type 0 where
  pub config : reader_config reader ≡ default_config
  pub untrimmed : reader_trim reader ≡ trim.None
  pub flexible : is_flexible reader ≡ true
  pub ready : Ready reader
  pub between : ends_at_end (reader_state reader) ≡ false
  pub told : IsSome (source_of text_left reader)

-- a failure of memory or of the text underneath
abbrev pub IsOutside : ErrorKind → Type 0
IsOutside (kind.Io e) = ⊤
IsOutside kind.OutOfMemory = ⊤
IsOutside (kind.UnequalLengths pos expected len) = ⊥
IsOutside (kind.Utf8 pos err) = ⊥
IsOutside (kind.Serialize why) = ⊥
IsOutside (kind.Deserialize pos err) = ⊥
