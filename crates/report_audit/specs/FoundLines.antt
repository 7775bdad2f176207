-- What an auditor finds at the head of a text: a line of one kind that may stand there, with what follows it, or that no such
-- line begins the text.
use Rattle.std.specs.Prelude.{◌≡◌, ◌≢◌, ◌≤◌, ◌<◌, ℕ, pos, ◌+◌, ◌/◌, List, ◌∷◌, ◌++◌, Option, Some, None, IfSome}
use Rattle.std.specs.Borrow.{Bor}
use Rattle.clock_gate.specs.declared.trace.Trace.{Trace}
use Rattle.interval_now.specs.declared.answers.Answer.TheVariants.{Time, Busy, NotInitialized, PageBusy, Causality as Early}
use Rattle.interval_now.specs.declared.answers.Answer.{Answer}
use Rattle.interval_now.specs.declared.answers.Interval.{Interval}
use Rattle.clock_gate.specs.ClockRow.{row_at}
use Rattle.clock_gate.specs.declared.clock_row.ClockRow.{ClockRow}
use Rattle.clock_gate.specs.declared.trace.PollRow.{PollRow}
use Rattle.segment_layout.specs.declared.publication.Publication.{Publication}
use Rattle.segment_layout.specs.Record.{RecordFields}
use Rattle.status_machine.specs.declared.daemon.Daemon.{Daemon}
use Rattle.status_machine.specs.declared.heard.Heard.{Heard}
use Rattle.status_machine.specs.Poll.{heard_of, BaseFits}
use Rattle.status_machine.specs.Incarnation.{record_at, base_at}
use Rattle.status_machine.specs.Step.{ShowsPast}
use Rattle.generation_word.specs.Layout.{period_of}
use Rattle.lawful_report.specs.Points.{IsLeast}
use Rattle.report_audit.specs.Leasts.{NoneHas}
use Rattle.lawful_report.specs.Lines.{skipped_line, answered_line, published_line}
use Rattle.lawful_report.specs.Pages.{PageTriesFail, page_seen, marker_of_page}
use Rattle.status_machine.specs.Base.{base_number}
use Rattle.lawful_report.specs.Course.{Course, Life, entry_at, entry_of, poll_at, IsPublished}
use Rattle.lawful_report.specs.declared.entry.Entry.{Entry}
use Rattle.lawful_report.specs.Calls.{GivesInterval, HasAsOf, MayAnswer}
use Rattle.lawful_report.specs.declared.call.Call.{Call}
use Rattle.lawful_report.specs.declared.seen.Seen.{Seen}

-- a skipped poll
pub record SkipsTo (trace : Trace) (poll page : ℕ) (text : List ℕ) (seen : ℕ) (later : List ℕ) : Type 0 where
  pub first : ℕ
  pub last : ℕ
  pub fails : PageTriesFail trace page first last
  pub seen_is : seen ≡ page_seen trace last
  pub begins : text ≡ skipped_line poll first last ++ later

abbrev pub SkipFound : Trace → (poll page : ℕ) → List ℕ → Option (ℕ × Bor (List ℕ)) → Type 0
SkipFound trace poll page text None = (first last : ℕ) (later : List ℕ) → PageTriesFail trace page first last → text ≢ skipped_line poll first last ++ later
SkipFound trace poll page text (Some found) = SkipsTo trace poll page text found.0 found.1.now

-- ---- an answer

-- an answer that may stand begins the text: what its client has seen then, and what follows the line
pub record Answers (trace : Trace) (course : Course) (call : Call) (seen : Seen) (text : List ℕ) (after : Seen) (answer : Answer) (later : List ℕ) : Type 0 where
  pub page : ℕ
  pub may : MayAnswer trace course call.tries seen page answer after
  pub begins : text ≡ answered_line call.client call.number page answer ++ later

-- no answer of a kind that may stand begins the text
abbrev pub NoAnswer : Trace → Course → Call → Seen → List ℕ → (Answer → Type 0) → Type 0
NoAnswer trace course call seen text IsKind =
    (page : ℕ) (answer : Answer) (after : Seen) (later : List ℕ) → IsKind answer → MayAnswer trace course call.tries seen page answer after
    → text ≢ answered_line call.client call.number page answer ++ later

abbrev pub AnswerFound : Trace → Course → Call → Seen → List ℕ → (Answer → Type 0) → Option (Seen × Answer × Bor (List ℕ)) → Type 0
AnswerFound trace course call seen text IsKind None = NoAnswer trace course call seen text IsKind
AnswerFound trace course call seen text IsKind (Some found) = Answers trace course call seen text found.0 found.1 found.2.now

-- the kinds
abbrev pub IsTimeAnswer : Answer → Type 0
IsTimeAnswer (Time timed) = Unit {0}
IsTimeAnswer other = ⊥

abbrev pub IsBusyAnswer : Answer → Type 0
IsBusyAnswer (Busy tries first last) = Unit {0}
IsBusyAnswer other = ⊥

abbrev pub IsNothingAnswer : Answer → Type 0
IsNothingAnswer NotInitialized = Unit {0}
IsNothingAnswer other = ⊥

abbrev pub IsPageBusyAnswer : Answer → Type 0
IsPageBusyAnswer (PageBusy first last) = Unit {0}
IsPageBusyAnswer other = ⊥

abbrev pub IsEarlyAnswer : Answer → Type 0
IsEarlyAnswer (Early causality) = Unit {0}
IsEarlyAnswer other = ⊥

abbrev pub IsAnyAnswer : Answer → Type 0
IsAnyAnswer answer = Unit {0}

-- ---- an answer Time

-- what of a trace and of the daemon's lines is needed to judge an answer Time at this row and page
pub record KnowsTime (trace : Trace) (course : Course) (entries : List Entry) (before row page mono real : ℕ) (marker : Option ℕ) : Type 0 where
  pub entries_are : course.entries ≡ entries
  pub before_is : course.before ≡ before
  pub mono_is : (row_at trace.clock row).mono ≡ mono
  pub real_is : (row_at trace.clock row).real ≡ real
  pub marker_is : marker_of_page trace page ≡ marker

-- the answer Time with this interval
abbrev pub time_said : (generation row : ℕ) → Interval → Answer
time_said generation row interval = Time (record { generation = generation; row = row; sequence = 0; interval = interval })

-- at this point stands a record that gives the interval with which the line begins the text
pub record TimeFits (trace : Trace) (course : Course) (client call generation row page : ℕ) (text : List ℕ) (point : ℕ) : Type 0 where
  pub interval : Interval
  pub gives : GivesInterval trace course generation row page interval point
  pub later : List ℕ
  pub begins : text ≡ answered_line client call page (time_said generation row interval) ++ later

-- the same with what follows, or that it is not so
abbrev pub TimeFitsOrNot : Trace → Course → (client call generation row page : ℕ) → List ℕ → (point : ℕ) → Option (Interval × Bor (List ℕ)) → Type 0
TimeFitsOrNot trace course client call generation row page text point None = TimeFits trace course client call generation row page text point → ⊥
TimeFitsOrNot trace course client call generation row page text point (Some found) =
    GivesInterval trace course generation row page found.0 point × (text ≡ answered_line client call page (time_said generation row found.0) ++ found.1.now)

-- what a search from one point to another knows of a trace: its period too
pub record KnowsRun (trace : Trace) (course : Course) (entries : List Entry) (before row page mono real : ℕ) (marker : Option ℕ) (period : ℕ) : Type 0 where
  pub time : KnowsTime trace course entries before row page mono real marker
  pub period_is : period_of trace.layout ≡ period

-- the least point that fits, its interval and what follows the line, or that no point fits
abbrev pub LeastTime : Trace → Course → (client call generation row page from until : ℕ) → List ℕ → Option (ℕ × (Interval × Bor (List ℕ))) → Type 0
LeastTime trace course client call generation row page from until text None = NoneHas from until (TimeFits trace course client call generation row page text)
LeastTime trace course client call generation row page from until text (Some found) =
    IsLeast from until (TimeFits trace course client call generation row page text) found.0
    × (GivesInterval trace course generation row page found.1.0 found.0 × (text ≡ answered_line client call page (time_said generation row found.1.0) ++ found.1.1.now))

-- a client that has seen this may name these: the generation of a record, a row of so many and a page up to the last
pub record PlaceFits (seen : Seen) (rows last generation row page : ℕ) : Type 0 where
  pub published : 0 < generation
  pub row_kept : seen.row ≤ row
  pub row_done : row ≤ rows
  pub page_kept : seen.page ≤ page
  pub page_done : page ≤ last

-- ---- an answer before its record

-- the least point whose record has this as-of, with the row of its reply, or that there is none
abbrev pub AsOfFound : Course → (as_of from until : ℕ) → Option (ℕ × ℕ) → Type 0
AsOfFound course as_of from until None = NoneHas from until (HasAsOf course (pos as_of))
AsOfFound course as_of from until (Some found) =
    IsLeast from until (HasAsOf course (pos as_of)) found.0 × ((entry : Entry) → entry_at course (found.0 / 2) ≡ Some entry → entry.replied ≡ found.1)

-- a row with this mono
abbrev pub HasMonoAt : List ClockRow → (mono row : ℕ) → Type 0
HasMonoAt clock mono row = (row_at clock row).mono ≡ mono

-- ---- a publication

-- what of a trace and of the daemon's lines is needed to make the publication of a poll with this page
pub record KnowsPoll (trace : Trace) (course : Course) (life : Life) (row : PollRow) (page : ℕ) (clock : List ClockRow) (number : ℕ) (heard : Heard) (marker : Option ℕ) (daemon : Daemon) : Type 0 where
  pub clock_is : trace.clock ≡ clock
  pub number_is : course.polled + 1 ≡ number
  pub heard_is : heard_of row.reply ≡ heard
  pub marker_is : marker_of_page trace page ≡ marker
  pub shows : ShowsPast life.from life.past daemon

-- the record and the base of a poll are those of looking back, and the daemon shows one poll more
pub record Polled (trace : Trace) (course : Course) (life : Life) (row : PollRow) (asked page : ℕ) (rec : RecordFields) (base : ℕ) (daemon : Daemon) : Type 0 where
  pub rec_is : rec ≡ record_at life.from (poll_at trace course asked page row) life.past
  pub base_is : base ≡ base_number (base_at life.from (poll_at trace course asked page row ∷ life.past))
  pub shows : ShowsPast life.from (poll_at trace course asked page row ∷ life.past) daemon

-- a poll may name these after a row and a page that its daemon saw: two rows of so many, and a page up to the last
pub record RowsFit (row seen rows last asked page replied : ℕ) : Type 0 where
  pub asked_kept : row ≤ asked
  pub order : asked ≤ replied
  pub done : replied ≤ rows
  pub page_kept : seen ≤ page
  pub page_done : page ≤ last

-- the publication of a poll begins the text: the entry that it gives, the daemon after it, and what follows
pub record Publishes (trace : Trace) (course : Course) (life : Life) (row : PollRow) (text : List ℕ) (entry : Entry) (daemon : Daemon) (later : List ℕ) : Type 0 where
  pub position : ℕ
  pub page : ℕ
  pub publication : Publication
  pub is : IsPublished trace course life row position page publication
  pub begins : text ≡ published_line position page publication ++ later
  pub entry_is : entry ≡ entry_of life (poll_at trace course publication.asked page row) publication.replied page
  pub shows : ShowsPast life.from (poll_at trace course publication.asked page row ∷ life.past) daemon
  pub base : IfSome daemon.base BaseFits

abbrev pub PublicationFound : Trace → Course → Life → PollRow → List ℕ → Option (Entry × Daemon × Bor (List ℕ)) → Type 0
PublicationFound trace course life row text None =
    (position page : ℕ) (publication : Publication) (later : List ℕ) → IsPublished trace course life row position page publication → text ≢ published_line position page publication ++ later
PublicationFound trace course life row text (Some found) = Publishes trace course life row text found.0 found.1 found.2.now
