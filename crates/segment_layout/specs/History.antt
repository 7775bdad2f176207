-- What was published to a segment, and where a segment stands. Positions here never wrap, and no word is shared: what a load gives is
-- computed from the position, the records and the image.
use Rattle.std.specs.Prelude.{ℕ, ◌+◌, ◌*◌, Bool, List, [], ◌∷◌, slice_index, nat_le, ◌==◌, if◌then◌else◌}
use Rattle.generation_word.specs.declared.layout.Layout.{Layout}
use Rattle.generation_word.specs.Layout.{period_of}
use Rattle.generation_word.specs.Numbering.{generation_at}
use Rattle.generation_word.specs.Header.{word1_of}
use Rattle.segment_layout.specs.declared.publication.Publication.{Publication}
use Rattle.segment_layout.specs.declared.start.Start.{Start}
use Rattle.segment_layout.specs.declared.start.Start.TheVariants.{Fresh, Kept, Torn}
use Rattle.segment_layout.specs.Record.{RecordFields}
use Rattle.segment_layout.specs.Words.{flag_of, record_words}

-- the publications whose even number was stored, the newest last
abbrev pub History : Type 0
History = List Publication

-- the position, which is half of the image's generation and one more for each publication since, and whether an update is open
pub record AbstractSegment : Type 0 where
  pub position : ℕ
  pub is_writing : Bool

-- the changes of word 1 so far: twice the position, and one more while an update is open
abbrev pub point : AbstractSegment → ℕ
point segment = 2 * segment.position + flag_of segment.is_writing

-- the generation that stands in word 1
abbrev pub number_of : ℕ → AbstractSegment → ℕ
number_of period segment = generation_at period segment.position + flag_of segment.is_writing

-- what a load of word 1 sees
abbrev pub header_seen : Layout → AbstractSegment → ℕ
header_seen layout segment = word1_of layout (number_of (period_of layout) segment)

-- what an opening sees, where the last record is this one
abbrev pub start_seen : Layout → AbstractSegment → RecordFields → Start
start_seen layout segment last =
    if segment.is_writing then Torn (number_of (period_of layout) segment)
    else if segment.position == 0 then Fresh
    else Kept (number_of (period_of layout) segment) last

-- a publication that was begun: its record, and how many of its ten stores were made; the k-th stores word k, from
-- the second to the ninth, and the first and the last store word 1
pub record Begun : Type 0 where
  pub rec : RecordFields
  pub stores : ℕ

-- the last value stored to a data word by the publications begun, the newest first and abandoned ones too; that of the
-- image where there is none
abbrev pub last_store : List ℕ → List Begun → ℕ → ℕ
last_store image [] word = slice_index image word
last_store image (begun ∷ older) word = if nat_le word begun.stores then slice_index (record_words 0 begun.rec) word else last_store image older word
