-- Each load of a read brings it nearer to its end, whatever the load shows.
use Rattle.std.proofs.Common.{◌≡◌, ℕ, ◌+◌, ◌-◌, ◌*◌, ◌<◌, Bool, true, false, [], ◌∷◌, ◌++◌, length, Option, Some, None, refl, arith, length-append}
use Rattle.std.specs.Prelude.{◌==◌, ◌||◌, not, nat_le, nat_lt, if◌then◌else◌}
use Rattle.std.proofs.lemmas.Bool.Decides.{nat_tests}
use Rattle.segment_layout.specs.History.{last_store}
use Rattle.segment_run.specs.SegmentRun.{SegmentRun, number_shown, number_at, header_shown}
use Rattle.abstract_run.specs.HostRun.{PageShown, sequence_of}
use Rattle.abstract_run.specs.PageReading.{PageTry, PageReading, PageAfter, Looks, Saw, Missed, page_try_fails, page_last_load, page_load_by}
use Rattle.abstract_run.specs.ClientRun.{SegmentTry, SegmentReading, SegmentAfter, Reads, IsWhole, Unpublished, AllFailed, WholeRead, record_read, segment_try_fails, segment_last_load, segment_load_by}

-- ---- a read of the page

-- the loads that a try has left, and those of a read at most
abbrev pub page_loads : Option PageTry → ℕ
page_loads None = 3
page_loads (Some try) = if try.has_marker then 1 else 2

abbrev pub page_left : PageReading → ℕ
page_left reading = 3 * (reading.left - 1) + page_loads reading.try

-- it goes on with fewer loads left, or it has ended
abbrev pub IsPageNearer : (before : ℕ) → PageAfter → Type 0
IsPageNearer before (Looks reading) = page_left reading < before
IsPageNearer before (Saw page) = Unit {0}
IsPageNearer before (Missed first last) = Unit {0}

page_fails_by : (over : Bool) (left first last before : ℕ) → nat_le left 1 ≡ over → 3 * (left - 1) < before
    → IsPageNearer before (if over then Missed first last else Looks (record { left = left - 1; try = None }))
page_fails_by true left first last before is more = tt
page_fails_by false left first last before is more = (let some : 1 < left = grind (arith, nat_tests) in omega (arith, some, more))

page_fails : (reading : PageReading) (first last before : ℕ) → 3 * (reading.left - 1) < before → IsPageNearer before (page_try_fails reading first last)
page_fails reading first last before more = page_fails_by (nat_le reading.left 1) reading.left first last before refl more

page_first : (writing : Bool) (first page : ℕ) (reading : PageReading)
    → IsPageNearer (3 * (reading.left - 1) + 3)
    (if writing then page_try_fails reading first first else Looks (record reading { try = Some (record { page = page; has_marker = false }) }))
page_first true first page reading = page_fails reading first first (3 * (reading.left - 1) + 3) (omega arith)
page_first false first page reading = omega arith

page_last : (failed : Bool) (first last page : ℕ) (reading : PageReading) → IsPageNearer (3 * (reading.left - 1) + 1) (if failed then page_try_fails reading first last else Saw page)
page_last true first last page reading = page_fails reading first last (3 * (reading.left - 1) + 1) (omega arith)
page_last false first last page reading = tt

page_tries : (loaded : Bool) (start : ℕ) (shown : PageShown) (reading : PageReading) (try : PageTry)
    → IsPageNearer (3 * (reading.left - 1) + (if loaded then 1 else 2))
    (if loaded then page_last_load start shown reading try else Looks (record reading { try = Some (record try { has_marker = true }) }))
page_tries true start shown reading try =
    page_last (shown.is_writing || not (shown.page == try.page)) (sequence_of start (record { page = try.page; is_writing = false })) (sequence_of start shown) try.page reading
page_tries false start shown reading try = omega arith

pub page_nearer : (start : ℕ) (shown : PageShown) (reading : PageReading) (try : Option PageTry)
    → IsPageNearer (3 * (reading.left - 1) + page_loads try) (page_load_by start shown reading try)
page_nearer start shown reading None = page_first shown.is_writing (sequence_of start shown) shown.page reading
page_nearer start shown reading (Some try) = page_tries try.has_marker start shown reading try

some_by : (loaded : Bool) → 0 < (if loaded then 1 else 2)
some_by true = omega arith
some_by false = omega arith

-- a read in hand has a load left

pub page_some : (reading : PageReading) (try : Option PageTry) → 0 < 3 * (reading.left - 1) + page_loads try
page_some reading None = omega arith
page_some reading (Some try) = (let some = some_by try.has_marker in omega (arith, some))

-- ---- a read of the segment

abbrev pub segment_loads : Option SegmentTry → ℕ
segment_loads None = 10
segment_loads (Some try) = 8 - length try.seen + 1

abbrev pub segment_left : SegmentReading → ℕ
segment_left reading = 10 * (reading.left - 1) + segment_loads reading.try

abbrev pub IsSegmentNearer : (before : ℕ) → SegmentAfter → Type 0
IsSegmentNearer before (Reads reading) = segment_left reading < before
IsSegmentNearer before (IsWhole read) = Unit {0}
IsSegmentNearer before Unpublished = Unit {0}
IsSegmentNearer before (AllFailed first last) = Unit {0}

segment_fails_by : (over : Bool) (left first last before : ℕ) → nat_le left 1 ≡ over → 10 * (left - 1) < before
    → IsSegmentNearer before (if over then AllFailed first last else Reads (record { left = left - 1; try = None }))
segment_fails_by true left first last before is more = tt
segment_fails_by false left first last before is more = (let some : 1 < left = grind (arith, nat_tests) in omega (arith, some, more))

segment_fails : (reading : SegmentReading) (first last before : ℕ) → 10 * (reading.left - 1) < before → IsSegmentNearer before (segment_try_fails reading first last)
segment_fails reading first last before more = segment_fails_by (nat_le reading.left 1) reading.left first last before refl more

segment_first_by : (unpublished : Bool) (reading : SegmentReading) (from header : ℕ)
    → IsSegmentNearer (10 * (reading.left - 1) + 10)
    (if unpublished then Unpublished else Reads (record reading { try = Some (record { from = from; header = header; seen = [] }) }))
segment_first_by true reading from header = tt
segment_first_by false reading from header = omega arith

segment_first : (writing : Bool) (segment : SegmentRun) (reading : SegmentReading)
    → IsSegmentNearer (10 * (reading.left - 1) + 10)
    (if writing then segment_try_fails reading (number_shown segment) (number_shown segment)
    else if segment.position == 0 then Unpublished
    else Reads (record reading { try = Some (record { from = segment.position; header = header_shown segment; seen = [] }) }))
segment_first true segment reading = segment_fails reading (number_shown segment) (number_shown segment) (10 * (reading.left - 1) + 10) (omega arith)
segment_first false segment reading = segment_first_by (segment.position == 0) reading segment.position (header_shown segment)

segment_last : (failed : Bool) (reading : SegmentReading) (first last before : ℕ) (read : WholeRead) → 10 * (reading.left - 1) < before
    → IsSegmentNearer before (if failed then segment_try_fails reading first last else IsWhole read)
segment_last true reading first last before read more = segment_fails reading first last before more
segment_last false reading first last before read more = tt

segment_tries : (goes : Bool) (segment : SegmentRun) (reading : SegmentReading) (try : SegmentTry) → nat_lt (length try.seen) 8 ≡ goes
    → IsSegmentNearer (10 * (reading.left - 1) + (8 - length try.seen + 1))
    (if goes then Reads (record reading { try = Some (record try { seen = try.seen ++ last_store segment.image segment.begun (2 + length try.seen) ∷ [] }) })
    else segment_last_load segment reading try)
segment_tries true segment reading try is =
    let low : length try.seen < 8 = grind (arith, nat_tests) in
    let more : length (try.seen ++ last_store segment.image segment.begun (2 + length try.seen) ∷ []) ≡ length try.seen + 1 = length-append _ _ in
    omega (arith, low, more)
segment_tries false segment reading try is =
    segment_last (segment.is_writing || not (header_shown segment == try.header)) reading (number_at segment try.from) (number_shown segment) (10 * (reading.left - 1) + (8 - length try.seen + 1))
    (record { generation = number_at segment try.from; rec = record_read segment try; position = try.from; inside = segment.position - try.from }) (omega arith)

pub segment_nearer : (segment : SegmentRun) (reading : SegmentReading) (try : Option SegmentTry)
    → IsSegmentNearer (10 * (reading.left - 1) + segment_loads try) (segment_load_by segment reading try)
segment_nearer segment reading None = segment_first segment.is_writing segment reading
segment_nearer segment reading (Some try) = segment_tries (nat_lt (length try.seen) 8) segment reading try refl

pub segment_some : (reading : SegmentReading) (try : Option SegmentTry) → 0 < 10 * (reading.left - 1) + segment_loads try
segment_some reading None = omega arith
segment_some reading (Some try) = omega arith
