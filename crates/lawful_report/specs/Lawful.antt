-- A lawful report: each line may stand after those before it. First all lines of the daemon, then those of the clients. Every report of
-- a run by threads is lawful where the trace has fewer polls than the layout's period; threads don't have to be able to give each of them.
use Rattle.std.specs.Prelude.{◌≡◌, ◌≢◌, ℕ, ◌+◌, ◌/◌, ◌≤◌, Bool, false, nat_lt, ◌==◌, if◌then◌else◌, List, [], ◌∷◌, ◌++◌, length, slice_get, Option, Some, None}
use Rattle.std.specs.List.{flat_map}
use Rattle.clock_gate.specs.declared.clock_status.ClockStatus.{ClockStatus}
use Rattle.clock_gate.specs.declared.clock_status.ClockStatus.TheVariants.{Unknown, Synchronized, FreeRunning, Disrupted}
use Rattle.clock_gate.specs.declared.trace.PollRow.{PollRow}
use Rattle.clock_gate.specs.declared.trace.Trace.{Trace}
use Rattle.segment_layout.specs.declared.publication.Publication.{Publication}
use Rattle.segment_layout.specs.declared.start.Start.{Start}
use Rattle.interval_now.specs.declared.answers.Answer.{Answer}
use Rattle.interval_now.specs.declared.answers.Answer.TheVariants as answers
use Rattle.lawful_report.specs.declared.counts.Counts.{Counts}
use Rattle.lawful_report.specs.declared.printed.Printed.{Printed}
use Rattle.lawful_report.specs.declared.printed.Printed.TheVariants.{Header, Opened, Published, Skipped, Stopped, Moved, Answered, Total}
use Rattle.lawful_report.specs.Lines.{line_text}
use Rattle.lawful_report.specs.Pages.{PageTriesFail, page_seen}
use Rattle.lawful_report.specs.Course.{Course, Life, course_start, start_found, next_generation, is_move, opened, moved, poll_at, skipped, stopped, published, ended, IsPublished}
use Rattle.lawful_report.specs.declared.seen.Seen.{Seen}
use Rattle.lawful_report.specs.declared.call.Call.{Call}
use Rattle.lawful_report.specs.Calls.{seen_first, calls_of, MayAnswer}

-- ---- the counts

-- before the first line
abbrev pub no_counts : Counts
no_counts = record { publications = 0; answers = 0; times = 0; unknown = 0; synchronized = 0; free_running = 0; disrupted = 0 }

abbrev pub counts_list : Counts → List ℕ
counts_list c = c.publications ∷ c.answers ∷ c.times ∷ c.unknown ∷ c.synchronized ∷ c.free_running ∷ c.disrupted ∷ []

abbrev pub one_publication : Counts → Counts
one_publication c = record c { publications = c.publications + 1 }

abbrev pub one_time : ClockStatus → Counts → Counts
one_time Unknown c = record c { answers = c.answers + 1; times = c.times + 1; unknown = c.unknown + 1 }
one_time Synchronized c = record c { answers = c.answers + 1; times = c.times + 1; synchronized = c.synchronized + 1 }
one_time FreeRunning c = record c { answers = c.answers + 1; times = c.times + 1; free_running = c.free_running + 1 }
one_time Disrupted c = record c { answers = c.answers + 1; times = c.times + 1; disrupted = c.disrupted + 1 }

abbrev pub one_answer : Answer → Counts → Counts
one_answer (answers.Time timed) c = one_time timed.interval.status c
one_answer (answers.Busy tries first last) c = record c { answers = c.answers + 1 }
one_answer answers.NotInitialized c = record c { answers = c.answers + 1 }
one_answer (answers.PageBusy first last) c = record c { answers = c.answers + 1 }
one_answer (answers.Causality causality) c = record c { answers = c.answers + 1 }

-- ---- what is due

-- the kind of line that stands next: the first; of an opening, and of its move; of a poll, and of its stop after all stores; of the
-- first of these calls, by what the client of the call before has seen, or of the counts where no call is left; or none
pub data Due : Type 0 where
  Heading : Due
  Opening : Due
  Moving : Due
  Polling : Due
  Stopping : Due
  Answering : (seen : Seen) (calls : List Call) → Due
  Finished : Due

-- how far a report has come
pub record Standing : Type 0 where
  pub course : Course
  pub counts : Counts
  pub due : Due

abbrev pub standing_start : Trace → Standing
standing_start trace = record { course = course_start trace; counts = no_counts; due = Heading }

abbrev pub opening_or_poll : Option Life → Due
opening_or_poll None = Opening
opening_or_poll (Some life) = Polling

-- an opening before each poll that has no incarnation, and the clients after the last poll
abbrev pub due_next : Trace → Course → Due
due_next trace course =
    if nat_lt course.polled (length trace.polls) then opening_or_poll course.life else Answering (seen_first trace) (calls_of trace)

abbrev pub going_on : Trace → Counts → Course → Standing
going_on trace counts course = record { course = course; counts = counts; due = due_next trace course }

abbrev pub has_stop : Option ℕ → ℕ → Bool
has_stop None stores = false
has_stop (Some stop) stores = stop == stores

-- what stands after a publication: the stop after all its stores, where the poll has that
abbrev pub after_publication : Trace → Counts → PollRow → Course → Standing
after_publication trace counts row course =
    if has_stop row.stop 10 then record { course = ended course; counts = counts; due = Stopping } else going_on trace counts course

-- ---- the lines

pub record OpensHere (trace : Trace) (standing : Standing) (poll : ℕ) (start : Start) (after : Standing) : Type 0 where
  pub poll_is : poll ≡ standing.course.polled + 1
  pub start_is : start ≡ start_found trace standing.course
  pub after_is :
      after ≡ record {
        course = opened trace standing.course;
        counts = standing.counts;
        due = if is_move trace standing.course then Moving else Polling;
      }

pub record MovesHere (trace : Trace) (standing : Standing) (poll position generation : ℕ) (after : Standing) : Type 0 where
  pub poll_is : poll ≡ standing.course.polled + 1
  pub position_is : position ≡ standing.course.point / 2 + 1
  pub generation_is : generation ≡ next_generation trace standing.course
  pub after_is : after ≡ record { course = moved standing.course; counts = standing.counts; due = Polling }

-- the poll that is due, and the incarnation that it comes in
pub record PollsHere (trace : Trace) (course : Course) (row : PollRow) (life : Life) : Type 0 where
  pub row_is : slice_get trace.polls course.polled ≡ Some row
  pub life_is : course.life ≡ Some life

pub record SkipsHere (trace : Trace) (standing : Standing) (poll first last : ℕ) (after : Standing) : Type 0 where
  pub poll_is : poll ≡ standing.course.polled + 1
  pub fails : PageTriesFail trace standing.course.page first last
  pub after_is : after ≡ going_on trace standing.counts (skipped standing.course (page_seen trace last))

pub record StopsHere (trace : Trace) (standing : Standing) (poll stores : ℕ) (after : Standing) : Type 0 where
  pub row : PollRow
  pub is : slice_get trace.polls standing.course.polled ≡ Some row
  pub poll_is : poll ≡ standing.course.polled + 1
  pub few : stores ≤ 9
  pub stop : row.stop ≡ Some stores
  pub after_is : after ≡ going_on trace standing.counts (stopped standing.course stores)

-- the poll has no stop, or one after all its stores
abbrev pub DoesNotStop : Option ℕ → Type 0
DoesNotStop None = Unit {0}
DoesNotStop (Some stores) = stores ≡ 10

pub record PublishesHere (trace : Trace) (standing : Standing) (position page : ℕ) (p : Publication) (after : Standing) : Type 0 where
  pub row : PollRow
  pub life : Life
  pub here : PollsHere trace standing.course row life
  pub goes_on : DoesNotStop row.stop
  pub is : IsPublished trace standing.course life row position page p
  pub after_is :
      after ≡ after_publication trace (one_publication standing.counts) row
      (published standing.course life (poll_at trace standing.course p.asked page row) p.replied page)

-- the stop after all ten stores of the poll before
pub record StopsAfter (trace : Trace) (standing : Standing) (poll stores : ℕ) (after : Standing) : Type 0 where
  pub poll_is : poll ≡ standing.course.polled
  pub all : stores ≡ 10
  pub after_is : after ≡ going_on trace standing.counts standing.course

-- a client begins with its first call
abbrev pub seen_before : Trace → Seen → Call → Seen
seen_before trace seen call = if call.number == 1 then seen_first trace else seen

pub record AnswersHere (trace : Trace) (standing : Standing) (before : Seen) (due : Call) (left : List Call) (client call page : ℕ) (answer : Answer) (after : Standing) : Type 0 where
  pub client_is : client ≡ due.client
  pub call_is : call ≡ due.number
  pub seen : Seen
  pub may : MayAnswer trace standing.course due.tries (seen_before trace before due) page answer seen
  pub after_is : after ≡ record { course = standing.course; counts = one_answer answer standing.counts; due = Answering seen left }

-- ---- the whole report

-- where this is due, the line may stand, and leads there
abbrev pub FollowsAt : Trace → Standing → Due → Printed → Standing → Type 0
FollowsAt trace s Heading Header after = after ≡ going_on trace s.counts s.course
FollowsAt trace s Opening (Opened poll start) after = OpensHere trace s poll start after
FollowsAt trace s Moving (Moved poll position generation) after = MovesHere trace s poll position generation after
FollowsAt trace s Polling (Skipped poll first last) after = SkipsHere trace s poll first last after
FollowsAt trace s Polling (Stopped poll stores) after = StopsHere trace s poll stores after
FollowsAt trace s Polling (Published position page publication) after = PublishesHere trace s position page publication after
FollowsAt trace s Stopping (Stopped poll stores) after = StopsAfter trace s poll stores after
FollowsAt trace s (Answering seen (due ∷ left)) (Answered client call page answer) after = AnswersHere trace s seen due left client call page answer after
FollowsAt trace s (Answering seen []) (Total counts) after = (counts ≡ counts_list s.counts) × (after ≡ record s { due = Finished })
FollowsAt trace s due line after = ⊥

abbrev pub Follows : Trace → Standing → Printed → Standing → Type 0
Follows trace standing line after = FollowsAt trace standing standing.due line after

-- the lines follow one another, and lead there
abbrev pub Follow : Trace → Standing → List Printed → Standing → Type 0
Follow trace standing [] after = standing ≡ after
Follow trace standing (line ∷ lines) after = (next : Standing) × Follows trace standing line next × Follow trace next lines after

unfoldable pub text_of_lines : List Printed → List ℕ
text_of_lines lines = flat_map line_text lines

-- the report is the text of lines that follow one another, from the first to the counts
pub record IsLawfulReport (trace : Trace) (report : List ℕ) : Type 0 where
  pub lines : List Printed
  pub after : Standing
  pub text : report ≡ text_of_lines lines
  pub follow : Follow trace (standing_start trace) lines after
  pub finished : after.due ≡ Finished

-- no line that may stand here begins these bytes, and these bytes are not the end
pub record IsStuck (trace : Trace) (standing : Standing) (rest : List ℕ) : Type 0 where
  pub no_line : (line : Printed) (after : Standing) (later : List ℕ) → Follows trace standing line after → rest ≡ line_text line ++ later → ⊥
  pub no_end : standing.due ≡ Finished → rest ≢ []

-- the lines before the line with this number follow one another, and it breaks a rule; where the report ends too early, it is the one after the last
pub record IsFirstUnlawful (trace : Trace) (report : List ℕ) (number : ℕ) : Type 0 where
  pub lines : List Printed
  pub standing : Standing
  pub rest : List ℕ
  pub text : report ≡ text_of_lines lines ++ rest
  pub follow : Follow trace (standing_start trace) lines standing
  pub stuck : IsStuck trace standing rest
  pub number_is : number ≡ length lines + 1
