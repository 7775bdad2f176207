-- The segment in the abstract run: a position that never wraps, whether an update is open, and whole records.
use Rattle.std.specs.Prelude.{ℕ, ◌+◌, ◌-◌, ◌/◌, Bool, true, false, not, ◌&&◌, ◌==◌, if◌then◌else◌, List, [], ◌∷◌, ◌++◌, slice_index, slice_index_or}
use Rattle.generation_word.specs.declared.layout.Layout.{Layout}
use Rattle.generation_word.specs.declared.layout.Layout.TheVariants.{Two, Three}
use Rattle.generation_word.specs.Layout.{period_of}
use Rattle.generation_word.specs.Numbering.{generation_at}
use Rattle.generation_word.specs.Header.{header_of}
use Rattle.segment_layout.specs.declared.publication.Publication.{Publication}
use Rattle.segment_layout.specs.declared.start.Start.{Start}
use Rattle.segment_layout.specs.declared.start.Start.TheVariants.{Fresh, Kept, Torn}
use Rattle.segment_layout.specs.Image.{start_of, is_old_header}
use Rattle.segment_layout.specs.Record.{RecordFields}
use Rattle.segment_layout.specs.Words.{fields_of_words}
use Rattle.segment_layout.specs.History.{History, AbstractSegment, Begun, number_of, header_seen, start_seen}

pub record SegmentRun : Type 0 where
  pub layout : Layout
  -- the ten words that stood at first
  pub image : List ℕ
  -- the position just before the first entry of the history, and the position now
  pub base : ℕ
  pub position : ℕ
  -- an update is open
  pub is_writing : Bool
  -- word 1 was stored since the start; before, it is the image's own
  pub is_headed : Bool
  -- the publications whose even number was stored, the newest last
  pub history : History
  -- those whose first store was made, abandoned ones too, the newest first
  pub begun : List Begun

abbrev pub abstract_of : SegmentRun → AbstractSegment
abstract_of segment = record { position = segment.position; is_writing = segment.is_writing }

-- the number that word 1 shows
abbrev pub number_shown : SegmentRun → ℕ
number_shown segment = number_of (period_of segment.layout) (abstract_of segment)

-- word 1: the image's, until it is stored
abbrev pub header_shown : SegmentRun → ℕ
header_shown segment = if segment.is_headed then header_seen segment.layout (abstract_of segment) else slice_index segment.image 1

-- the even number of a position
abbrev pub number_at : SegmentRun → ℕ → ℕ
number_at segment position = generation_at (period_of segment.layout) position

-- the image's record as a publication: of poll 0, at the first row of the clock and on the start page
abbrev pub image_publication : (sequence generation : ℕ) → RecordFields → Publication
image_publication sequence generation rec =
    record { poll = 0; generation = generation; asked = 1; sequence = sequence; replied = 1; base = 0; rec = rec }

-- what stands where nothing was published: zeros
abbrev pub no_publication : Publication
no_publication = image_publication 0 0 (fields_of_words [])

-- the publication at a position
abbrev pub published_at : SegmentRun → ℕ → Publication
published_at segment position = slice_index_or segment.history (position - segment.base - 1) no_publication

-- ---- how it begins

-- a segment of which nothing was stored yet
abbrev pub segment_of_image : Layout → List ℕ → (base position : ℕ) → Bool → History → SegmentRun
segment_of_image layout image base position is_writing history =
    record { layout = layout; image = image; base = base; position = position; is_writing = is_writing; is_headed = false; history = history; begun = [] }

-- two numbers make a position; a record that is kept stands at it, and nothing is known of what was published before
abbrev pub segment_by : Layout → List ℕ → (sequence : ℕ) → Start → SegmentRun
segment_by layout image sequence Fresh = segment_of_image layout image 0 0 false []
segment_by layout image sequence (Torn generation) = segment_of_image layout image (generation / 2) (generation / 2) true []
segment_by layout image sequence (Kept generation rec) =
    segment_of_image layout image (generation / 2 - 1) (generation / 2) false (image_publication sequence generation rec ∷ [])

-- the segment that an image begins with, where the start page has this sequence count
abbrev pub segment_start : Layout → List ℕ → (sequence : ℕ) → SegmentRun
segment_start layout image sequence = segment_by layout image sequence (start_of image)

-- ---- an opening

abbrev pub is_old : SegmentRun → Bool
is_old segment = not segment.is_headed && is_old_header segment.layout (slice_index segment.image 1)

-- what an opening finds
abbrev pub start_found : SegmentRun → Start
start_found segment =
    start_seen segment.layout (abstract_of segment) (published_at segment segment.position).rec

-- how many steps an opening takes that finds this
abbrev pub opening_length : (old : Bool) → Start → ℕ
opening_length old Fresh = 4
opening_length old (Torn generation) = if old then 3 else 2
opening_length old (Kept generation rec) = if old then 12 else 10

-- word 1 is stored, and the segment stays
abbrev pub headed : SegmentRun → SegmentRun
headed segment = record segment { is_headed = true }

-- word 1 is stored with an odd number
abbrev pub opened_update : SegmentRun → SegmentRun
opened_update segment = record segment { is_headed = true; is_writing = true }

-- word 1 is stored with an even number, which ends a publication
abbrev pub ended_update : SegmentRun → Publication → SegmentRun
ended_update segment publication =
    record segment { position = segment.position + 1; is_writing = false; history = segment.history ++ publication ∷ [] }

-- the move publishes the record at the position once more
abbrev pub moved_once : SegmentRun → SegmentRun
moved_once segment = ended_update segment (published_at segment segment.position)

-- the segment after the step of an opening that comes after so many steps of it
abbrev pub opening_effect : Start → (steps : ℕ) → SegmentRun → SegmentRun
opening_effect Fresh steps segment = if steps == 3 then headed segment else segment
opening_effect (Torn generation) steps segment = if steps == 2 then headed segment else segment
opening_effect (Kept generation rec) steps segment =
    if steps == 10 then opened_update segment else if steps == 11 then moved_once segment else segment

-- ---- a publication

abbrev pub one_store_more : List Begun → List Begun
one_store_more [] = []
one_store_more (begun ∷ older) = record begun { stores = begun.stores + 1 } ∷ older

abbrev pub stored_by : SegmentRun → Publication → (stores : ℕ) → SegmentRun
stored_by segment publication stores =
    if stores == 9 then record (ended_update segment publication) { begun = one_store_more segment.begun }
    else record segment { begun = one_store_more segment.begun }

-- the segment after the store of a publication that comes after so many stores of it: the first opens an update, the last
-- ends it
abbrev pub stored : SegmentRun → Publication → (stores : ℕ) → SegmentRun
stored segment publication stores =
    if stores == 0
    then record (opened_update segment) { begun = record { rec = publication.rec; stores = 1 } ∷ segment.begun }
    else stored_by segment publication stores
