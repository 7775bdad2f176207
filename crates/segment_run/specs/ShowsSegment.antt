-- What the shared words show of the segment of a run, and when a segment is a later one.
use Rattle.std.specs.Prelude.{◌≡◌, ◌⊎◌, ℕ, ◌+◌, ◌<◌, ◌≤◌, true, false, List, length, slice_index, ◌++◌}
use Rattle.segment_layout.specs.declared.words.TheConstants.{MAGIC}
use Rattle.segment_layout.specs.Record.{RecordFields, KeepsBounds}
use Rattle.segment_layout.specs.Image.{IsHeaderFor}
use Rattle.segment_layout.specs.Words.{record_words}
use Rattle.segment_layout.specs.History.{last_store, point}
use Rattle.segment_layout.specs.declared.publication.Publication.{Publication}
use Rattle.segment_run.specs.SegmentRun.{SegmentRun, number_shown, header_shown, published_at, abstract_of}

-- the data words that were stored last are those of this record
abbrev pub HoldsWords : SegmentRun → RecordFields → Type 0
HoldsWords segment rec = (word : ℕ) → 2 ≤ word → word < 10 → last_store segment.image segment.begun word ≡ slice_index (record_words 0 rec) word

-- the record of the last publication stands in the data words while no update is open
abbrev pub HasLast : SegmentRun → Type 0
HasLast segment =
    segment.is_writing ≡ false → segment.base < segment.position → HoldsWords segment (published_at segment segment.position).rec

-- each record that was published keeps its bounds
abbrev pub AreRecords : SegmentRun → Type 0
AreRecords segment =
    (position : ℕ) → segment.base < position → position ≤ segment.position
    → KeepsBounds (published_at segment position).rec.as_of (published_at segment position).rec.void_after (published_at segment position).rec.bound (published_at segment position).rec.drift

-- what holds of every segment of a run by itself
pub record IsSegment (segment : SegmentRun) : Type 0 where
  pub known : length segment.history + segment.base ≡ segment.position
  -- at rest nothing was published, or the record at the position is known
  pub calm : segment.is_writing ≡ false → 0 < segment.position → segment.base < segment.position
  pub writes : segment.is_writing ≡ true → (segment.is_headed ≡ true) ⊎ (segment.base ≡ segment.position)
  pub stands : HasLast segment
  pub records : AreRecords segment
  -- word 1 is a header that tells the number, or 0 before the first opening
  pub header : (header_shown segment ≡ 0) ⊎ IsHeaderFor segment.layout (header_shown segment) (number_shown segment)
  pub none : header_shown segment ≡ 0 → (segment.position ≡ 0) × (segment.is_writing ≡ false)

-- words 0 to 9 show the segment
pub record ShowsSegment (segment : SegmentRun) (words : List ℕ) : Type 0 where
  pub is : IsSegment segment
  pub wide : length words ≡ 24
  pub magic : (slice_index words 0 ≡ MAGIC) ⊎ ((slice_index words 0 ≡ 0) × (slice_index words 1 ≡ 0))
  pub header : slice_index words 1 ≡ header_shown segment
  pub data_words : (word : ℕ) → 2 ≤ word → word < 10 → slice_index words word ≡ last_store segment.image segment.begun word

-- a segment that is the same or later
pub record IsSegmentLater (old new : SegmentRun) : Type 0 where
  pub layout : new.layout ≡ old.layout
  pub image : new.image ≡ old.image
  pub base : new.base ≡ old.base
  pub point : point (abstract_of old) ≤ point (abstract_of new)
  pub more : List Publication
  pub history : new.history ≡ old.history ++ more
  pub header : new.position ≡ old.position → new.is_writing ≡ false → 0 < new.position → header_shown new ≡ header_shown old

-- words 0 to 9, and words 10 to 23, are left by a step
pub record KeepsSegment (words after : List ℕ) : Type 0 where
  pub same : (word : ℕ) → word < 10 → slice_index after word ≡ slice_index words word

pub record KeepsRest (words after : List ℕ) : Type 0 where
  pub same : (word : ℕ) → 10 ≤ word → word < 24 → slice_index after word ≡ slice_index words word
