-- A client in the abstract run: its reads of the segment, the clock and the page, step by step, and its answers with their trails.
use Rattle.std.specs.Prelude.{ℕ, ◌+◌, ◌-◌, false, not, ◌||◌, nat_le, nat_lt, ◌==◌, if◌then◌else◌, List, [], ◌∷◌, ◌++◌, length, Option, Some, None, Result, Ok, Err}
use Rattle.generation_word.specs.Layout.{period_of}
use Rattle.clock_gate.specs.declared.trace.Trace.{Trace}
use Rattle.clock_gate.specs.ClockRow.{row_at}
use Rattle.vmclock_page.specs.Host.{count_of}
use Rattle.segment_layout.specs.Record.{RecordFields}
use Rattle.segment_layout.specs.Words.{fields_of_words}
use Rattle.segment_layout.specs.History.{last_store}
use Rattle.segment_run.specs.SegmentRun.{SegmentRun, header_shown, number_shown, number_at, published_at}
use Rattle.interval_now.specs.declared.answers.Interval.{Interval}
use Rattle.interval_now.specs.declared.answers.Causality.{Causality}
use Rattle.interval_now.specs.declared.answers.Answer.{Answer}
use Rattle.interval_now.specs.declared.answers.Answer.TheVariants as answers
use Rattle.interval_now.specs.Interval.{interval_of}
use Rattle.abstract_run.specs.declared.event.Trail.{Trail}
use Rattle.abstract_run.specs.HostRun.{HostRun, clocks_at, page_shown, marker_of, sequence_of}
use Rattle.abstract_run.specs.PageReading.{PageReading, PageAfter, Looks, Saw, Missed, page_reading, page_load, is_marker_next}
use Rattle.abstract_run.specs.DaemonRun.{marked_by}

-- ---- a read of the segment

-- a try in hand: the position and the header that its first load showed, and the data words that it saw
pub record SegmentTry : Type 0 where
  pub from : ℕ
  pub header : ℕ
  pub seen : List ℕ

-- a read in hand: the tries that have not failed, and the try in hand
pub record SegmentReading : Type 0 where
  pub left : ℕ
  pub try : Option SegmentTry

abbrev pub segment_reading : ℕ → SegmentReading
segment_reading tries = record { left = tries; try = None }

-- a record that was read: the number under which it stood, its position, and how many publications ended inside the read
pub record WholeRead : Type 0 where
  pub generation : ℕ
  pub rec : RecordFields
  pub position : ℕ
  pub inside : ℕ

-- what one load leaves: the read goes on, or it read a record, or nothing was published, or all its tries failed, the last by these
-- two numbers
pub data SegmentAfter : Type 0 where
  Reads : (reading : SegmentReading) → SegmentAfter
  IsWhole : (read : WholeRead) → SegmentAfter
  Unpublished : SegmentAfter
  AllFailed : (first last : ℕ) → SegmentAfter

abbrev pub segment_try_fails : SegmentReading → ℕ → ℕ → SegmentAfter
segment_try_fails reading first last =
    if nat_le reading.left 1 then AllFailed first last
    else Reads (record { left = reading.left - 1; try = None })

-- the first load: an open update fails the try, and at position 0 nothing was published
abbrev pub segment_first_load : SegmentRun → SegmentReading → SegmentAfter
segment_first_load segment reading =
    if segment.is_writing then segment_try_fails reading (number_shown segment) (number_shown segment)
    else if segment.position == 0 then Unpublished
    else Reads (record reading { try = Some (record { from = segment.position; header = header_shown segment; seen = [] }) })

-- with fewer publications inside than a period the record is the one at the position; else each word is that of the last store
-- before its load
abbrev pub record_read : SegmentRun → SegmentTry → RecordFields
record_read segment try =
    if nat_lt (segment.position - try.from) (period_of segment.layout) then (published_at segment try.from).rec
    else fields_of_words (0 ∷ 0 ∷ try.seen)

-- the last load: an open update or another header fails the try
abbrev pub segment_last_load : SegmentRun → SegmentReading → SegmentTry → SegmentAfter
segment_last_load segment reading try =
    if segment.is_writing || not (header_shown segment == try.header)
    then segment_try_fails reading (number_at segment try.from) (number_shown segment)
    else IsWhole (record {
      generation = number_at segment try.from;
      rec = record_read segment try;
      position = try.from;
      inside = segment.position - try.from;
    })

-- by the try in hand: after its first load each data word is loaded, which gives the last store to it, or the image's word
abbrev pub segment_load_by : SegmentRun → SegmentReading → Option SegmentTry → SegmentAfter
segment_load_by segment reading None = segment_first_load segment reading
segment_load_by segment reading (Some try) =
    if nat_lt (length try.seen) 8
    then Reads (record reading { try = Some (record try { seen = try.seen ++ last_store segment.image segment.begun (2 + length try.seen) ∷ [] }) })
    else segment_last_load segment reading try

-- one load of a read
abbrev pub segment_load : SegmentRun → SegmentReading → SegmentAfter
segment_load segment reading = segment_load_by segment reading reading.try

-- ---- a call

-- what a call has when it has read the clock: the record, the clock row, and the host position then
pub record Clocked : Type 0 where
  pub read : WholeRead
  pub row : ℕ
  pub clock_at : ℕ

-- where a call stands: in the segment tries, before the clock, or in the page tries with the host position at the last load of a
-- marker
pub data CallStage : Type 0 where
  Reading : (reading : SegmentReading) → CallStage
  Clocking : (read : WholeRead) → CallStage
  Paging : (clocked : Clocked) (reading : PageReading) (mark_at : ℕ) → CallStage

-- an answer, and where a call that got an interval stood among the publications and the host's rows
pub record Answered : Type 0 where
  pub answer : Answer
  pub trail : Option Trail

-- what a step of a call leaves
pub data CallAfter : Type 0 where
  Goes : (stage : CallStage) → CallAfter
  Answers : (answered : Answered) → CallAfter

abbrev pub told : Answer → CallAfter
told answer = Answers (record { answer = answer; trail = None })

abbrev pub timed : Clocked → (sequence mark_at : ℕ) → Result Interval Causality → CallAfter
timed clocked sequence mark_at (Ok interval) =
    Answers (record {
      answer = answers.Time (record { generation = clocked.read.generation; row = clocked.row; sequence = sequence; interval = interval });
      trail = Some (record { position = clocked.read.position; inside = clocked.read.inside; clock_at = clocked.clock_at; mark_at = mark_at });
    })
timed clocked sequence mark_at (Err causality) = told (answers.Causality causality)

-- the answer of a call that has read record, clock and, where there is one, page
abbrev pub call_ends : Trace → Clocked → (marker : Option ℕ) → (sequence mark_at : ℕ) → CallAfter
call_ends trace clocked marker sequence mark_at =
    timed clocked sequence mark_at
    (interval_of clocked.read.rec (row_at trace.clock clocked.row).mono (row_at trace.clock clocked.row).real marker)

abbrev pub after_segment : (tries : ℕ) → SegmentAfter → CallAfter
after_segment tries (Reads reading) = Goes (Reading reading)
after_segment tries (IsWhole read) = Goes (Clocking read)
after_segment tries Unpublished = told answers.NotInitialized
after_segment tries (AllFailed first last) = told (answers.Busy tries first last)

-- the clock is loaded: the page comes next, where there is one
abbrev pub clock_by : Trace → (tries : ℕ) → Clocked → Option (List ℕ) → CallAfter
clock_by trace tries clocked None = call_ends trace clocked None 0 clocked.clock_at
clock_by trace tries clocked (Some page) = Goes (Paging clocked (page_reading tries) clocked.clock_at)

abbrev pub after_page : Trace → Clocked → (mark_at : ℕ) → PageAfter → CallAfter
after_page trace clocked mark_at (Looks reading) = Goes (Paging clocked reading mark_at)
after_page trace clocked mark_at (Saw page) =
    call_ends trace clocked (Some (marker_of trace.page trace.host page)) (sequence_of (count_of trace.page) (record { page = page; is_writing = false })) mark_at
after_page trace clocked mark_at (Missed first last) = told (answers.PageBusy first last)

-- one step of a call
abbrev pub call_step : Trace → HostRun → SegmentRun → (tries : ℕ) → CallStage → CallAfter
call_step trace host segment tries (Reading reading) = after_segment tries (segment_load segment reading)
call_step trace host segment tries (Clocking read) =
    clock_by trace tries (record { read = read; row = clocks_at trace.host host.done; clock_at = host.done }) trace.page
call_step trace host segment tries (Paging clocked reading mark_at) =
    after_page trace clocked (marked_by (is_marker_next reading.try) host.done mark_at)
    (page_load (count_of trace.page) (page_shown trace.host host) reading)

-- ---- a client

-- a call in hand: its tries, and where it stands
pub record CallRun : Type 0 where
  pub tries : ℕ
  pub stage : CallStage

-- a client: the tries of its calls that are not begun, how many were begun, and the call in hand
pub record ClientRun : Type 0 where
  pub left : List ℕ
  pub begun : ℕ
  pub call : Option CallRun

-- a client after one turn, and its answer, where the turn ended a call
pub record ClientTurn : Type 0 where
  pub client : ClientRun
  pub answered : Option Answered

abbrev pub after_step : ClientRun → (tries : ℕ) → CallAfter → ClientTurn
after_step client tries (Goes stage) = record { client = record client { call = Some (record { tries = tries; stage = stage }) }; answered = None }
after_step client tries (Answers answered) = record { client = record client { call = None }; answered = Some answered }

abbrev pub client_step : Trace → HostRun → SegmentRun → ClientRun → CallRun → ClientTurn
client_step trace host segment client call = after_step client call.tries (call_step trace host segment call.tries call.stage)

abbrev pub client_begins : Trace → HostRun → SegmentRun → ClientRun → List ℕ → ClientTurn
client_begins trace host segment client [] = record { client = client; answered = None }
client_begins trace host segment client (tries ∷ left) =
    client_step trace host segment (record client { left = left; begun = client.begun + 1 }) (record { tries = tries; stage = Reading (segment_reading tries) })

abbrev pub client_turn_by : Trace → HostRun → SegmentRun → ClientRun → Option CallRun → ClientTurn
client_turn_by trace host segment client None = client_begins trace host segment client client.left
client_turn_by trace host segment client (Some call) = client_step trace host segment client call

-- one turn of a client
abbrev pub client_turn : Trace → HostRun → SegmentRun → ClientRun → ClientTurn
client_turn trace host segment client = client_turn_by trace host segment client client.call
