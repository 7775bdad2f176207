-- Where a read of the segment stands among the publications: the position at its first load, and how many ended inside.
use Rattle.std.proofs.Common.{◌≡◌, ℕ, ◌+◌, ◌-◌, ◌≤◌, true, false, Option, Some, None, refl, arith, length}
use Rattle.std.specs.Prelude.{◌==◌, ◌||◌, not, nat_lt, nat_le, if◌then◌else◌, Bool}
use Rattle.segment_run.specs.SegmentRun.{SegmentRun, header_shown, number_shown, number_at}
use Rattle.abstract_run.specs.ClientRun.{SegmentTry, SegmentReading, SegmentAfter, Reads, IsWhole, Unpublished, AllFailed, segment_try_fails, segment_last_load, segment_load_by, segment_load}
use Rattle.abstract_run.proofs.SegmentReads.{begun_try, longer_try, whole_read}
use Rattle.step_core.proofs.SegmentLoad.{word_loaded}

-- the try in hand after a load: one that this load of word 1 began, at the segment's position, or the one before with a data word more
abbrev pub IsTryFrom : SegmentRun → (before after : Option SegmentTry) → Type 0
IsTryFrom segment before None = Unit {0}
IsTryFrom segment None (Some try) = try.from ≡ segment.position
IsTryFrom segment (Some before) (Some try) = (try.from ≡ before.from) × (2 ≤ word_loaded (Some before))

-- a record that was read is that of the try in hand, which loaded word 1 at last
abbrev pub IsWholeFrom : SegmentRun → Option SegmentTry → (position inside : ℕ) → Type 0
IsWholeFrom segment None position inside = ⊥
IsWholeFrom segment (Some try) position inside = (word_loaded (Some try) ≡ 1) × ((position ≡ try.from) × (inside ≡ segment.position - try.from))

abbrev pub IsAfterFrom : SegmentRun → Option SegmentTry → SegmentAfter → Type 0
IsAfterFrom segment before (Reads reading) = IsTryFrom segment before reading.try
IsAfterFrom segment before (IsWhole whole) = IsWholeFrom segment before whole.position whole.inside
IsAfterFrom segment before Unpublished = Unit {0}
IsAfterFrom segment before (AllFailed first last) = Unit {0}

fails_by : (segment : SegmentRun) (before : Option SegmentTry) (left first last : ℕ) (few : Bool) → IsAfterFrom segment before (if few then AllFailed first last else Reads (record { left = left; try = None }))
fails_by segment before left first last true = tt
fails_by segment before left first last false = tt

fails_from : (segment : SegmentRun) (before : Option SegmentTry) (reading : SegmentReading) (first last : ℕ) → IsAfterFrom segment before (segment_try_fails reading first last)
fails_from segment before reading first last = fails_by segment before (reading.left - 1) first last (nat_le reading.left 1)

first_by : (segment : SegmentRun) (reading : SegmentReading) (writes none : Bool) → IsAfterFrom segment None
    (if writes then segment_try_fails reading (number_shown segment) (number_shown segment) else if none then Unpublished else Reads (record reading { try = Some (begun_try segment) }))
first_by segment reading true none = fails_from segment None reading (number_shown segment) (number_shown segment)
first_by segment reading false true = tt
first_by segment reading false false = refl

last_by : (segment : SegmentRun) (reading : SegmentReading) (try : SegmentTry) (fails : Bool) → word_loaded (Some try) ≡ 1 → IsAfterFrom segment (Some try)
    (if fails then segment_try_fails reading (number_at segment try.from) (number_shown segment) else IsWhole (whole_read segment try))
last_by segment reading try true full = fails_from segment (Some try) reading (number_at segment try.from) (number_shown segment)
last_by segment reading try false full = (full, (refl, refl))

try_by : (segment : SegmentRun) (reading : SegmentReading) (try : SegmentTry) (below : Bool) → nat_lt (length try.seen) 8 ≡ below → IsAfterFrom segment (Some try)
    (if below then Reads (record reading { try = Some (longer_try segment try) }) else segment_last_load segment reading try)
try_by segment reading try true test = (refl, (let word : word_loaded (Some try) ≡ 2 + length try.seen = rw test refl in omega (arith, word)))
try_by segment reading try false test =
    last_by segment reading try (segment.is_writing || not (header_shown segment == try.header)) (rw test refl)

from_by : (segment : SegmentRun) (reading : SegmentReading) (before : Option SegmentTry) → IsAfterFrom segment before (segment_load_by segment reading before)
from_by segment reading None = first_by segment reading segment.is_writing (segment.position == 0)
from_by segment reading (Some try) = try_by segment reading try (nat_lt (length try.seen) 8) refl

-- where a load leaves a read
pub segment_load_from : (segment : SegmentRun) (reading : SegmentReading) → IsAfterFrom segment reading.try (segment_load segment reading)
segment_load_from segment reading = from_by segment reading reading.try
