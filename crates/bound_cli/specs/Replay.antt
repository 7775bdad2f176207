-- What is reported of a trace: a line for each event of its run, in the order in which they ended, their counts, and whether the
-- promises that its answers rest on were kept.
use Rattle.std.specs.Prelude.{ℕ, ◌+◌, ◌≤◌, List, [], ◌∷◌, ◌++◌, Result, Ok}
use Rattle.std.specs.List.{flat_map}
use Rattle.clock_gate.specs.declared.clock_status.ClockStatus.{ClockStatus}
use Rattle.clock_gate.specs.declared.clock_status.ClockStatus.TheVariants.{Unknown, Synchronized, FreeRunning, Disrupted}
use Rattle.clock_gate.specs.declared.trace.Trace.{Trace}
use Rattle.vmclock_page.specs.Counting.{page_number_of}
use Rattle.vmclock_page.specs.Host.{count_of}
use Rattle.interval_now.specs.declared.answers.Answer.{Answer}
use Rattle.interval_now.specs.declared.answers.Answer.TheVariants as answers
use Rattle.abstract_run.specs.declared.event.Event.{Event}
use Rattle.abstract_run.specs.declared.event.Event.TheVariants as events
use Rattle.abstract_run.specs.RunWhole.{run_of}
use Rattle.run_promises.specs.Judged.{premises_of}
use Rattle.lawful_report.specs.declared.printed.Printed.{Printed}
use Rattle.lawful_report.specs.declared.printed.Printed.TheVariants as lines
use Rattle.lawful_report.specs.Lines.{line_text}
use Rattle.csv_records.specs.Reason.{◌>>=◌}
use Rattle.csv_records.specs.declared.trace_error.TraceFault.{TraceFault}
use Rattle.trace_reader.specs.Grammar.{trace_in}
use Rattle.bound_cli.specs.declared.times.Times.{Times}
use Rattle.bound_cli.specs.declared.totals.Totals.{Totals}
use Rattle.bound_cli.specs.Civil.{line_with}
use Rattle.bound_cli.specs.Premises.{premises_line}

-- the number of the page that an answer saw, among those of the run, where the start page had this sequence count; 0 where it
-- saw none
abbrev pub page_of : (start : ℕ) → Answer → ℕ
page_of start (answers.Time timed) = page_number_of start timed.sequence
page_of start (answers.Busy tries first last) = 0
page_of start answers.NotInitialized = 0
page_of start (answers.PageBusy first last) = 0
page_of start (answers.Causality causality) = 0

-- the line of an event; without a page the counts are 0, and so is the page's number
abbrev pub printed_of : (start : ℕ) → Event → Printed
printed_of start (events.Opened poll found) = lines.Opened poll found
printed_of start (events.Moved poll position generation) = lines.Moved poll position generation
printed_of start (events.Published position publication marked_at replied_at) =
    lines.Published position (page_number_of start publication.sequence) publication
printed_of start (events.Skipped poll first last) = lines.Skipped poll first last
printed_of start (events.Stopped poll stores) = lines.Stopped poll stores
printed_of start (events.Answered client call answer trail) = lines.Answered client call (page_of start answer) answer

-- the lines of these events, one after another
unfoldable pub lines_of : Times → (start : ℕ) → List Event → List ℕ
lines_of times start events = flat_map (λ event. line_with times (printed_of start event)) events

-- ---- the counts

abbrev pub no_totals : Totals
no_totals = record { publications = 0; answers = 0; times = 0; unknown = 0; synchronized = 0; free_running = 0; disrupted = 0 }

-- one answer more with an interval, by its status
abbrev pub timed : Totals → ClockStatus → Totals
timed t Unknown = record t { answers = t.answers + 1; times = t.times + 1; unknown = t.unknown + 1 }
timed t Synchronized = record t { answers = t.answers + 1; times = t.times + 1; synchronized = t.synchronized + 1 }
timed t FreeRunning = record t { answers = t.answers + 1; times = t.times + 1; free_running = t.free_running + 1 }
timed t Disrupted = record t { answers = t.answers + 1; times = t.times + 1; disrupted = t.disrupted + 1 }

abbrev pub answered : Totals → Answer → Totals
answered t (answers.Time found) = timed t found.interval.status
answered t (answers.Busy tries first last) = record t { answers = t.answers + 1 }
answered t answers.NotInitialized = record t { answers = t.answers + 1 }
answered t (answers.PageBusy first last) = record t { answers = t.answers + 1 }
answered t (answers.Causality causality) = record t { answers = t.answers + 1 }

-- one event more
abbrev pub counted : Totals → Event → Totals
counted t (events.Opened poll found) = t
counted t (events.Moved poll position generation) = t
counted t (events.Published position publication marked_at replied_at) = record t { publications = t.publications + 1 }
counted t (events.Skipped poll first last) = t
counted t (events.Stopped poll stores) = t
counted t (events.Answered client call answer trail) = answered t answer

-- these events more
unfoldable pub counted_all : Totals → List Event → Totals
counted_all t [] = t
counted_all t (event ∷ events) = counted_all (counted t event) events

abbrev pub counts_of : Totals → List ℕ
counts_of t =
    t.publications ∷ t.answers ∷ t.times ∷ t.unknown ∷ t.synchronized ∷ t.free_running ∷ t.disrupted ∷ []

-- ---- the report

-- the counts of these events, and whether the promises of their answers were kept
unfoldable pub summary_text : Trace → List Event → List ℕ
summary_text trace events =
    line_text (lines.Total (counts_of (counted_all no_totals events))) ++ premises_line (premises_of trace events)

-- the header, a line for each event, and what they come to
unfoldable pub report_text : Times → Trace → List Event → List ℕ
report_text times trace events =
    (line_text lines.Header ++ lines_of times (count_of trace.page) events) ++ summary_text trace events

-- the report of a trace: of the events of its run
abbrev pub report_of : Times → Trace → List ℕ
report_of times trace = report_text times trace (run_of trace).events

-- the report of a text, or the fault of its first refused line
unfoldable pub replay_report : Times → List ℕ → Result (List ℕ) TraceFault
replay_report times bytes = trace_in bytes >>= λ trace. Ok (report_of times trace)

-- ---- the counts stay small

-- each count is at most this number
pub record AreUpTo (most : ℕ) (t : Totals) : Type 0 where
  pub publications : t.publications ≤ most
  pub answers : t.answers ≤ most
  pub times : t.times ≤ most
  pub unknown : t.unknown ≤ most
  pub synchronized : t.synchronized ≤ most
  pub free_running : t.free_running ≤ most
  pub disrupted : t.disrupted ≤ most
