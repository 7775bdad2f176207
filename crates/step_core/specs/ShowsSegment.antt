-- What the shared words show of the segment in the abstract run, and a segment reader of its read.
use Rattle.std.specs.Prelude.{◌≡◌, ℕ, ◌<◌, ◌≤◌, false, List, [], ◌∷◌, length, take, Option, Some, None}
use Rattle.seqlock.specs.Tries.{SeqlockRead}
use Rattle.segment_layout.specs.Image.{IsHeaderFor}
use Rattle.segment_layout.specs.Words.{data_words}
use Rattle.segment_run.specs.SegmentRun.{SegmentRun, number_at, header_shown, published_at}
use Rattle.abstract_run.specs.ClientRun.{SegmentTry, SegmentReading}

-- ---- a read of the segment

-- a try in hand: its first load showed a record that is known, and while nothing was stored since, its words are those of the
-- record there
pub record IsSegmentTry (segment : SegmentRun) (try : SegmentTry) (values : List ℕ) : Type 0 where
  pub known : segment.base < try.from
  pub before : try.from ≤ segment.position
  pub few : length try.seen ≤ 8
  pub same_values : values ≡ try.header ∷ try.seen
  pub header : IsHeaderFor segment.layout try.header (number_at segment try.from)
  pub whole : segment.position ≡ try.from → segment.is_writing ≡ false
      → try.seen ≡ take (length try.seen) (data_words (published_at segment try.from).rec)
  -- an old header is the image's: then nothing was stored in word 1 before
  pub unmoved : segment.position ≡ try.from → segment.is_writing ≡ false → header_shown segment ≡ try.header

abbrev pub IsSegmentTryOf : SegmentRun → Option SegmentTry → List ℕ → Type 0
IsSegmentTryOf segment None values = values ≡ []
IsSegmentTryOf segment (Some try) values = IsSegmentTry segment try values

-- the segment reader's value shows the read
pub record ShowsSegmentRead (segment : SegmentRun) (tries : ℕ) (reading : SegmentReading) (read : SeqlockRead) : Type 0 where
  pub some_left : 0 < reading.left
  pub same_tries : read.tries ≡ tries
  pub same_left : read.left ≡ reading.left
  pub try : IsSegmentTryOf segment reading.try read.values
