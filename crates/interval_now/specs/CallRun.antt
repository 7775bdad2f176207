-- The steps of a client call, read by read. This project's own.
use Rattle.std.specs.Prelude.{◌≡◌, ◌⊎◌, ◌≤ℤ◌, pos, ◌+◌, ℕ, Bool, true, false, List, [], ◌∷◌, ◌++◌, slice_index, Option, Some, None}
use Rattle.clock_gate.specs.declared.clock_row.ClockRow.{ClockRow}
use Rattle.clock_gate.specs.declared.clock_row.Reading.{Reading}
use Rattle.clock_gate.specs.Acts.{Touch, Wanted, replayed}
use Rattle.clock_gate.specs.ClockRow.{reading_at, row_at}
use Rattle.seqlock.specs.Tries.{Outcome, Unpublished, AllFailed, Found}
use Rattle.seqlock.specs.TriedRun.{load, Did, FindsWords}
use Rattle.vmclock_page.specs.PageRead.{page_lock}
use Rattle.vmclock_page.specs.Words.{count_in_word}
use Rattle.segment_layout.specs.Record.{RecordFields}
use Rattle.shm_reader.specs.declared.seen.Seen.{Seen}
use Rattle.shm_reader.specs.declared.seen.Seen.TheVariants as seen
use Rattle.shm_reader.specs.SegmentRun.{ReadsRecord, Saw}
use Rattle.interval_now.specs.declared.answers.Answer.{Answer}
use Rattle.interval_now.specs.declared.answers.Answer.TheVariants as answers
use Rattle.interval_now.specs.declared.answers.Timed.{Timed}
use Rattle.interval_now.specs.Call.{started_call, answer_of, act_of, given, end_of}

-- the answer where the segment's tries read no record
abbrev pub answer_without_record : Seen → Option Answer
answer_without_record (seen.Whole generation rec) = None
answer_without_record (seen.Busy tries first last) = Some (answers.Busy tries first last)
answer_without_record seen.NotInitialized = Some answers.NotInitialized

-- the answer by what the page's tries came to; a page is always there
abbrev pub answer_by_page : ℕ → RecordFields → Reading → Outcome → Answer
answer_by_page generation rec reading Unpublished = answers.PageBusy 0 0
answer_by_page generation rec reading (AllFailed first last) = answers.PageBusy first last
answer_by_page generation rec reading (Found word words) = answer_of generation rec reading (Some (slice_index words 0)) (count_in_word word)

-- the steps read this record from the segment in so many tries, then loaded this row of the clock, and then were these
pub record ReadsThenClock (tries : ℕ) (touches : List Touch) (generation : ℕ) (rec : RecordFields) (row : ℕ) (later : List Touch) : Type 0 where
  pub steps : List Touch
  pub reads : ReadsRecord tries steps generation rec
  pub made : touches ≡ steps ++ load 23 row ∷ later

-- the segment's tries read no record
pub record EndsAtSegment (tries : ℕ) (touches : List Touch) (answer : Answer) : Type 0 where
  pub seen : Seen
  pub saw : Saw tries touches seen
  pub is : answer_without_record seen ≡ Some answer

-- without a page the clock's row is the last load
pub record EndsAtClock (clock : List ClockRow) (tries : ℕ) (support : Bool) (touches : List Touch) (answer : Answer) : Type 0 where
  pub no_page : support ≡ false
  pub generation : ℕ
  pub rec : RecordFields
  pub row : ℕ
  pub read : ReadsThenClock tries touches generation rec row []
  pub is : answer ≡ answer_of generation rec (reading_at clock row) None 0

-- with a page the page's tries follow the clock's row
pub record EndsAtPage (clock : List ClockRow) (tries : ℕ) (support : Bool) (touches : List Touch) (answer : Answer) : Type 0 where
  pub has_page : support ≡ true
  pub generation : ℕ
  pub rec : RecordFields
  pub row : ℕ
  pub later : List Touch
  pub read : ReadsThenClock tries touches generation rec row later
  pub outcome : Outcome
  pub did : Did page_lock tries later outcome
  pub is : answer ≡ answer_by_page generation rec (reading_at clock row) outcome

-- what a call did that came to this answer
abbrev pub CallDid : List ClockRow → ℕ → Bool → List Touch → Answer → Type 0
CallDid clock tries support touches answer =
    EndsAtSegment tries touches answer ⊎ (EndsAtClock clock tries support touches answer ⊎ EndsAtPage clock tries support touches answer)

-- a call of so many tries made these steps, each the one that it wanted, and came to this answer
abbrev pub CallCameTo : List ClockRow → ℕ → Bool → List Touch → Answer → Type 0
CallCameTo clock tries support touches answer =
    Wanted act_of (given clock) (started_call tries support) touches
    × (end_of (replayed act_of (given clock) (started_call tries support) touches) ≡ Some answer)

-- the page was read in one of so many tries, by these steps, or there is no page and there are none
abbrev pub PageIsRead : ℕ → Bool → List Touch → Type 0
PageIsRead tries true later = (word : ℕ) × (words : List ℕ) × FindsWords page_lock tries later word words
PageIsRead tries false later = later ≡ []

-- the steps read a record from the segment, then a row of the clock that lies at most 1,000 ns before it, and then the
-- page, where there is one
pub record ReadsAll (clock : List ClockRow) (tries : ℕ) (support : Bool) (touches : List Touch) : Type 0 where
  pub generation : ℕ
  pub rec : RecordFields
  pub row : ℕ
  pub later : List Touch
  pub read : ReadsThenClock tries touches generation rec row later
  pub page : PageIsRead tries support later
  pub in_time : rec.as_of ≤ℤ pos ((row_at clock row).mono + 1000)

-- such steps are those of a call that came to a time
abbrev pub AnswersTime : List ClockRow → ℕ → Bool → List Touch → Type 0
AnswersTime clock tries support touches = (timed : Timed) × CallCameTo clock tries support touches (answers.Time timed)
