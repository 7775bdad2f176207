-- A read of the segment in the abstract run, after one load more.
use Rattle.std.proofs.Common.{◌+◌, ◌-◌, [], ◌∷◌, ◌++◌, length}
use Rattle.segment_layout.specs.History.{last_store}
use Rattle.segment_run.specs.SegmentRun.{SegmentRun, header_shown, number_at}
use Rattle.abstract_run.specs.ClientRun.{SegmentTry, WholeRead, record_read}

-- the try that a first load begins
abbrev pub begun_try : SegmentRun → SegmentTry
begun_try segment = record { from = segment.position; header = header_shown segment; seen = [] }

-- the try with one more word
abbrev pub longer_try : SegmentRun → SegmentTry → SegmentTry
longer_try segment try = record try { seen = try.seen ++ last_store segment.image segment.begun (2 + length try.seen) ∷ [] }

-- what a read has read
abbrev pub whole_read : SegmentRun → SegmentTry → WholeRead
whole_read segment try = record { generation = number_at segment try.from; rec = record_read segment try; position = try.from; inside = segment.position - try.from }
