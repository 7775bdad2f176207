-- A client call, step by step: the tries to read the segment, the clock, where there is a page the tries to read it, and
-- then the interval. This project's own.
use Rattle.std.specs.Prelude.{◌≡◌, ◌≢◌, ℕ, ◌+◌, ◌*◌, ◌<◌, ◌≤◌, Bool, true, if◌then◌else◌, List, Option, Some, None, IfSome, Result, Ok, Err, length}
use Rattle.clock_gate.specs.declared.act.Act.{Act}
use Rattle.clock_gate.specs.declared.act.Act.TheVariants.{Load, End}
use Rattle.clock_gate.specs.declared.clock_row.ClockRow.{ClockRow}
use Rattle.clock_gate.specs.declared.clock_row.Reading.{Reading}
use Rattle.clock_gate.specs.declared.limits.TheConstants.{LAST_MOMENT, MOST_TRIES}
use Rattle.clock_gate.specs.Acts.{after}
use Rattle.clock_gate.specs.ClockRow.{reading_at}
use Rattle.seqlock.specs.Tries.{SeqlockRead, started}
use Rattle.seqlock.specs.Tries as tries
use Rattle.vmclock_page.specs.declared.page_seen.PageSeen.{PageSeen}
use Rattle.vmclock_page.specs.declared.page_seen.PageSeen.TheVariants as page_seen
use Rattle.vmclock_page.specs.PageRead as page
use Rattle.segment_layout.specs.Record.{RecordFields}
use Rattle.shm_reader.specs.declared.seen.Seen.{Seen}
use Rattle.shm_reader.specs.declared.seen.Seen.TheVariants as seen
use Rattle.shm_reader.specs.SegmentTries as segment
use Rattle.interval_now.specs.declared.answers.Interval.{Interval}
use Rattle.interval_now.specs.declared.answers.Causality.{Causality}
use Rattle.interval_now.specs.declared.answers.Answer.{Answer}
use Rattle.interval_now.specs.declared.answers.Answer.TheVariants as answers
use Rattle.interval_now.specs.declared.stage.Stage.{Stage}
use Rattle.interval_now.specs.declared.stage.Stage.TheVariants.{Segment, Clock, Page, Done}
use Rattle.interval_now.specs.Interval.{interval_of, KeepsEnds}

-- the tries of each read, whether there is a page, and where the call stands
pub record Call : Type 0 where
  pub tries : ℕ
  pub support : Bool
  pub stage : Stage

abbrev pub started_call : ℕ → Bool → Call
started_call tries support = record { tries = tries; support = support; stage = Segment (started tries) }

-- a call that has read this record and this reading, where the first try of the page was given these values
abbrev pub paged : ℕ → ℕ → RecordFields → Reading → List ℕ → Call
paged tries generation rec reading values = record { tries = tries; support = true; stage = Page generation rec reading (record (started tries) { values = values }) }

-- the answer to an interval, or to a reading that lies before the record
abbrev pub timed : ℕ → ℕ → ℕ → Result Interval Causality → Answer
timed generation row sequence (Ok interval) = answers.Time (record { generation = generation; row = row; sequence = sequence; interval = interval })
timed generation row sequence (Err causality) = answers.Causality causality

-- the answer by a record, a reading of the clock, and the marker and the sequence count of the page, where there is one
abbrev pub answer_of : ℕ → RecordFields → Reading → Option ℕ → ℕ → Answer
answer_of generation rec reading marker sequence = timed generation reading.row sequence (interval_of rec reading.mono reading.real marker)

-- the interval of an answer that has one keeps its ends
abbrev pub AnswerKeepsEnds : Answer → Type 0
AnswerKeepsEnds (answers.Time time) = KeepsEnds time.interval
AnswerKeepsEnds (answers.Busy tries first last) = Unit {0}
AnswerKeepsEnds answers.NotInitialized = Unit {0}
AnswerKeepsEnds (answers.PageBusy first last) = Unit {0}
AnswerKeepsEnds (answers.Causality causality) = Unit {0}

-- so does the answer of a call that has ended
abbrev pub StageKeepsEnds : Stage → Type 0
StageKeepsEnds (Segment read) = Unit {0}
StageKeepsEnds (Clock generation rec) = Unit {0}
StageKeepsEnds (Page generation rec reading read) = Unit {0}
StageKeepsEnds (Done answer) = AnswerKeepsEnds answer

abbrev pub act_at : Stage → Act
act_at (Segment read) = segment.act_of read
act_at (Clock generation rec) = Load 23
act_at (Page generation rec reading read) = page.act_of read
act_at (Done answer) = End

abbrev pub act_of : Call → Act
act_of call = act_at call.stage

abbrev pub end_at : Stage → Option Answer
end_at (Segment read) = None
end_at (Clock generation rec) = None
end_at (Page generation rec reading read) = None
end_at (Done answer) = Some answer

abbrev pub end_of : Call → Option Answer
end_of call = end_at call.stage

-- what follows on a step of the segment's tries, by what they have come to
abbrev pub after_segment : SeqlockRead → Option Seen → Stage
after_segment read None = Segment read
after_segment read (Some (seen.Whole generation rec)) = Clock generation rec
after_segment read (Some (seen.Busy tries first last)) = Done (answers.Busy tries first last)
after_segment read (Some seen.NotInitialized) = Done answers.NotInitialized

-- what follows on the clock: the page's tries, where there is a page
abbrev pub after_clock : ℕ → Bool → ℕ → RecordFields → Reading → Stage
after_clock tries support generation rec reading =
    if support then Page generation rec reading (started tries) else Done (answer_of generation rec reading None 0)

-- what follows on a step of the page's tries
abbrev pub after_page : ℕ → RecordFields → Reading → SeqlockRead → Option PageSeen → Stage
after_page generation rec reading read None = Page generation rec reading read
after_page generation rec reading read (Some (page_seen.Marker marker sequence)) = Done (answer_of generation rec reading (Some marker) sequence)
after_page generation rec reading read (Some (page_seen.Busy first last)) = Done (answers.PageBusy first last)

-- the stage after one more value
abbrev pub stage_given : List ClockRow → ℕ → Bool → Stage → ℕ → Stage
stage_given clock tries support (Segment read) value = after_segment (segment.given read value) (segment.end_of (segment.given read value))
stage_given clock tries support (Clock generation rec) row = after_clock tries support generation rec (reading_at clock row)
stage_given clock tries support (Page generation rec reading read) value = after_page generation rec reading (page.given read value) (page.end_of (page.given read value))
stage_given clock tries support (Done answer) value = Done answer

-- the tries in hand with one value more
abbrev pub tried : Stage → ℕ → Stage
tried (Segment read) value = Segment (segment.given read value)
tried (Clock generation rec) value = Clock generation rec
tried (Page generation rec reading read) value = Page generation rec reading (page.given read value)
tried (Done answer) value = Done answer

-- the segment's tries in hand with these words more
abbrev pub words_given : Stage → List ℕ → Stage
words_given (Segment read) words = Segment (after segment.act_of segment.given read words)
words_given (Clock generation rec) words = Clock generation rec
words_given (Page generation rec reading read) words = Page generation rec reading read
words_given (Done answer) words = Done answer

-- so many of the segment's tries fail at once by this word 1, and one is left
abbrev pub StageFailsOdd : Stage → (header count : ℕ) → Type 0
StageFailsOdd (Segment read) header count = segment.FailsOdd read header count
StageFailsOdd (Clock generation rec) header count = ⊥
StageFailsOdd (Page generation rec reading read) header count = ⊥
StageFailsOdd (Done answer) header count = ⊥

-- what follows on tries by what they have come to, and on the clock
abbrev pub followed : List ClockRow → ℕ → Bool → Stage → ℕ → Stage
followed clock tries support (Segment read) value = after_segment read (segment.end_of read)
followed clock tries support (Clock generation rec) row = after_clock tries support generation rec (reading_at clock row)
followed clock tries support (Page generation rec reading read) value = after_page generation rec reading read (page.end_of read)
followed clock tries support (Done answer) value = Done answer

-- tries in hand that want another load
abbrev pub TriesOn : Stage → Type 0
TriesOn (Segment read) = segment.act_of read ≢ End
TriesOn (Clock generation rec) = ⊥
TriesOn (Page generation rec reading read) = page.act_of read ≢ End
TriesOn (Done answer) = ⊥

-- tries that want no load, or none in hand
abbrev pub HasEnded : Stage → Type 0
HasEnded (Segment read) = segment.act_of read ≡ End
HasEnded (Clock generation rec) = Unit {0}
HasEnded (Page generation rec reading read) = page.act_of read ≡ End
HasEnded (Done answer) = Unit {0}

-- a value that is the number of a row of this clock, where the clock was loaded
abbrev pub IsRowAt : List ClockRow → Stage → ℕ → Type 0
IsRowAt clock (Segment read) value = Unit {0}
IsRowAt clock (Clock generation rec) value = (1 ≤ value) × (value ≤ length clock)
IsRowAt clock (Page generation rec reading read) value = Unit {0}
IsRowAt clock (Done answer) value = Unit {0}

abbrev pub given : List ClockRow → Call → ℕ → Call
given clock call value = record call { stage = stage_given clock call.tries call.support call.stage value }

-- the reading that a call has taken and goes on with
abbrev pub reading_taken : Stage → Option Reading
reading_taken (Page generation rec reading read) = Some reading
reading_taken other = None

-- a clock has this reading
abbrev pub Agrees : List ClockRow → Option Reading → Type 0
Agrees clock taken = IfSome taken (λ reading. reading_at clock reading.row ≡ reading)

-- where a call can stand: a read in hand still wants something
abbrev pub IsStage : Stage → Type 0
IsStage (Segment read) = tries.IsStage segment.segment_lock read × (segment.act_of read ≢ End)
IsStage (Clock generation rec) = Unit {0}
IsStage (Page generation rec reading read) = tries.IsStage page.page_lock read × (page.act_of read ≢ End)
IsStage (Done answer) = Unit {0}

-- a reading that was taken lies before the last moment of a trace
abbrev pub IsEarly : Stage → Type 0
IsEarly (Segment read) = Unit {0}
IsEarly (Clock generation rec) = Unit {0}
IsEarly (Page generation rec reading read) = (reading.mono ≤ LAST_MOMENT) × (reading.real ≤ LAST_MOMENT)
IsEarly (Done answer) = Unit {0}

pub record IsCall (call : Call) : Type 0 where
  pub some : 0 < call.tries
  pub most : call.tries ≤ MOST_TRIES
  pub stage : IsStage call.stage
  pub early : IsEarly call.stage

abbrev pub steps_at : ℕ → Stage → ℕ
steps_at most (Segment read) = segment.steps_left read + (1 + 3 * most)
steps_at most (Clock generation rec) = 1 + 3 * most
steps_at most (Page generation rec reading read) = tries.steps_left page.page_lock read
steps_at most (Done answer) = 0

-- the most steps that a call still takes
abbrev pub steps_left : Call → ℕ
steps_left call = steps_at call.tries call.stage

-- a value that is the number of a row of this clock, where the clock is loaded
abbrev pub IsRowNumber : List ClockRow → Act → ℕ → Type 0
IsRowNumber clock act value = act ≡ Load 23 → (1 ≤ value) × (value ≤ length clock)
