-- What holds of every run of a trace.
use Rattle.std.specs.Prelude.{◌≡◌, ℕ, ◌<◌, ◌≤◌, List, [], ◌∷◌, ◌++◌, length, Option, Some, None}
use Rattle.std.specs.List.{range_with_len}
use Rattle.clock_gate.specs.declared.clock_row.ClockRow.{ClockRow}
use Rattle.clock_gate.specs.declared.trace.HostRow.{HostRow}
use Rattle.clock_gate.specs.declared.trace.HostRow.TheVariants.{Clock, Page, Disrupt}
use Rattle.clock_gate.specs.declared.trace.Trace.{Trace}
use Rattle.generation_word.specs.Layout.{period_of}
use Rattle.segment_layout.specs.History.{History}
use Rattle.segment_run.specs.SegmentRun.{SegmentRun, published_at}
use Rattle.interval_now.specs.declared.answers.Answer.{Answer}
use Rattle.segment_views.specs.declared.setup.Setup.{Setup}
use Rattle.segment_views.specs.Views.{Step, SeatView, first_segment}
use Rattle.segment_views.specs.Seats.{pages_at_first}
use Rattle.segment_views.specs.Steps.{calls_of}
use Rattle.abstract_run.specs.Given.{IsGiven}
use Rattle.writer_reopen.specs.declared.polled.Polled.{Polled}
use Rattle.writer_reopen.specs.declared.polled.Polled.TheVariants as polls
use Rattle.lawful_report.specs.Lawful.{IsLawfulReport}
use Rattle.live_report.specs.declared.limits.TheConstants.{MOST_LINES}
use Rattle.live_report.specs.declared.line.Line.{Line}
use Rattle.live_report.specs.declared.line.Line.TheVariants as lines
use Rattle.lawful_report.specs.Composed.{tries_of_client}
use Rattle.live_report.specs.DaemonCalls.{DaemonPlace, DaemonCalls, place_first}
use Rattle.live_report.specs.ClientCalls.{ClientCalls, AllClientCalls, client_start}
use Rattle.live_report.specs.LiveRun.{setup_of, IsRunOf}
use Rattle.live_report.specs.LiveReport.{report_of}

-- ---- the report

-- the report of a run's lines is lawful, where the trace has fewer polls than the layout's period
abbrev pub LiveReportsAreLawful : Type 0
LiveReportsAreLawful =
    (trace : Trace) (lines : List Line) (host daemon : SeatView) (clients : List SeatView) → IsGiven trace → IsRunOf trace lines host daemon clients → length trace.polls < period_of trace.layout
    → IsLawfulReport trace (report_of trace lines)

-- there are few lines
abbrev pub RunsHaveFewLines : Type 0
RunsHaveFewLines = (trace : Trace) (lines : List Line) (host daemon : SeatView) (clients : List SeatView) → IsGiven trace → IsRunOf trace lines host daemon clients → length lines ≤ MOST_LINES

-- ---- the history

-- the record that a move publishes once more
abbrev pub moved_record : SegmentRun → Option ℕ → History
moved_record image None = []
moved_record image (Some generation) = published_at image image.position ∷ []

abbrev pub published_by : Polled → History
published_by (polls.Published daemon publication) = publication ∷ []
published_by (polls.Skipped first last) = []
published_by (polls.Stopped stores) = []

-- what a line publishes, where the image began this segment
abbrev pub line_published : SegmentRun → Line → History
line_published image (lines.Opened poll start moved) = moved_record image moved
line_published image (lines.Polled poll polled) = published_by polled
line_published image (lines.Answered client call answer) = []

abbrev pub lines_published : SegmentRun → List Line → History
lines_published image [] = []
lines_published image (line ∷ later) = line_published image line ++ lines_published image later

-- the daemon's history is the image's entry, where there is one, and then what the lines publish, in their order, and nothing else: the
-- record moved from the image, where it was moved, and the publications of the polls
abbrev pub HistoriesAreOfLines : Type 0
HistoriesAreOfLines =
    (trace : Trace) (lines : List Line) (host daemon : SeatView) (clients : List SeatView) → IsGiven trace → IsRunOf trace lines host daemon clients
    → daemon.daemon_part.segment.history ≡ (first_segment (setup_of trace)).history ++ lines_published (first_segment (setup_of trace)) lines

-- ---- the rows

-- the words of the page rows
abbrev pub page_words : List HostRow → List (List ℕ)
page_words [] = []
page_words (Clock number ∷ rows) = page_words rows
page_words (Page words ∷ rows) = words ∷ page_words rows
page_words (Disrupt ∷ rows) = page_words rows

-- the host's view holds all rows of the clock and, after the start page, all page rows, and no page row is in hand
pub record HasAllRows (trace : Trace) (host : SeatView) : Type 0 where
  pub rows : host.host_part.rows ≡ length trace.clock
  pub pages : host.host_part.pages ≡ pages_at_first trace.page ++ page_words trace.host
  pub none_in_hand : host.host_part.stores ≡ 0

abbrev pub HostsDoAllRows : Type 0
HostsDoAllRows = (trace : Trace) (lines : List Line) (host daemon : SeatView) (clients : List SeatView) → IsGiven trace → IsRunOf trace lines host daemon clients → HasAllRows trace host

-- ---- the calls

-- the loads and stores of the daemon's calls, call by call: one call for each of its lines
abbrev pub daemon_made : (trace : Trace) (p : DaemonPlace) (lines : List Line) (q : DaemonPlace) → DaemonCalls trace p lines q → List (List Step)
daemon_made trace p [] q calls = []
daemon_made trace p (line ∷ later) q calls = calls.0.view.steps ∷ daemon_made trace calls.0 later q calls.2

-- and of a client's calls, one for each answer
abbrev pub client_made : (clock : List ClockRow) (tries : List ℕ) (v : SeatView) (answers : List Answer) (w : SeatView) → ClientCalls clock tries v answers w → List (List Step)
client_made clock [] v answers w calls = []
client_made clock (tries ∷ left) v [] w calls = []
client_made clock (tries ∷ left) v (answer ∷ answers) w calls = calls.0.steps ∷ client_made clock left calls.0 answers w calls.2

-- the calls in the views of these clients are those of their answers, in their order
abbrev pub HoldTheirCalls : (trace : Trace) (setup : Setup) (clients : List ℕ) (answers : List (List Answer)) (views : List SeatView) → AllClientCalls trace setup clients answers views → Type 0
HoldTheirCalls trace setup [] [] [] calls = Unit {0}
HoldTheirCalls trace setup (client ∷ clients) (said ∷ answers) (view ∷ views) calls =
    (calls_of view ≡ client_made trace.clock (tries_of_client trace.calls client) (client_start setup client) said view calls.0) × HoldTheirCalls trace setup clients answers views calls.1
HoldTheirCalls trace setup clients answers views calls = Unit {0}

-- the calls in the daemon's view and in the clients' are those of their lines, in their order, and no others
abbrev pub CallsAreOfLines : Type 0
CallsAreOfLines =
    (trace : Trace) (lines : List Line) (host daemon : SeatView) (clients : List SeatView) → IsGiven trace → (run : IsRunOf trace lines host daemon clients)
    → (calls_of daemon ≡ daemon_made trace (place_first (setup_of trace)) run.daemon_lines run.daemon_last run.daemon_calls)
    × HoldTheirCalls trace (setup_of trace) (range_with_len 1 trace.clients) run.answers clients run.client_calls
