-- The load that a client's next turn makes, and when it fails a try of the segment.
use Rattle.std.specs.Prelude.{◌≡◌, ◌≢◌, ℕ, ◌+◌, true, List, [], ◌∷◌, length, Option, Some, None}
use Rattle.segment_run.specs.SegmentRun.{SegmentRun, header_shown, number_shown, number_at}
use Rattle.abstract_run.specs.ClientRun.{SegmentTry, SegmentReading, segment_reading, CallStage, Reading, CallRun}

-- the number of the call that a client's next turn belongs to
abbrev pub next_call : (begun : ℕ) → Option CallRun → ℕ
next_call begun None = begun + 1
next_call begun (Some call) = begun

-- the read of the segment that it loads for, where it does
abbrev pub begun_read : List ℕ → Option SegmentReading
begun_read [] = None
begun_read (tries ∷ left) = Some (segment_reading tries)

abbrev pub read_at : CallStage → Option SegmentReading
read_at (Reading reading) = Some reading
read_at other = None

abbrev pub next_read : (left : List ℕ) → Option CallRun → Option SegmentReading
next_read left None = begun_read left
next_read left (Some call) = read_at call.stage

-- the next load fails the try: the first, where an update is open, so that word 1 shows an odd number; or the last, after the eight
-- data words, where word 1 is another than at the first
abbrev pub IsFailing : SegmentRun → Option SegmentTry → Type 0
IsFailing segment None = segment.is_writing ≡ true
IsFailing segment (Some try) = (length try.seen ≡ 8) × (header_shown segment ≢ try.header)

-- the number that word 1 showed at the first load of the try in hand; where that is to come, the one that it shows now
abbrev pub first_number : SegmentRun → Option SegmentTry → ℕ
first_number segment None = number_shown segment
first_number segment (Some try) = number_at segment try.from
