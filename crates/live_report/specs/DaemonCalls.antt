-- The daemon's calls on its seat, one after another, each with its line.
use Rattle.std.specs.Prelude.{◌≡◌, ℕ, ◌+◌, ◌<◌, List, [], ◌∷◌, length, slice_get, Option, Some, None, is_some}
use Rattle.clock_gate.specs.declared.trace.PollRow.{PollRow}
use Rattle.clock_gate.specs.declared.trace.Trace.{Trace}
use Rattle.segment_layout.specs.declared.start.Start.{Start}
use Rattle.status_machine.specs.declared.daemon.Daemon.{Daemon}
use Rattle.status_machine.specs.Poll.{heard_of}
use Rattle.status_machine.specs.Step.{daemon_begun}
use Rattle.writer_reopen.specs.declared.polled.Polled.{Polled}
use Rattle.writer_reopen.specs.declared.polled.Polled.TheVariants as polls
use Rattle.segment_views.specs.declared.setup.Setup.{Setup}
use Rattle.segment_views.specs.Views.{SeatView}
use Rattle.segment_views.specs.Seats.{opener, without_host}
use Rattle.segment_rule.specs.Opens.{Reopens}
use Rattle.segment_rule.specs.Polls.{Polls, order_for}
use Rattle.live_report.specs.declared.line.Line.{Line}
use Rattle.live_report.specs.declared.line.Line.TheVariants as lines

-- how far the daemon has come: the view of its seat; how many polls are done; what it holds for the next poll, nothing while it is
-- stopped; and the poll that gave as-of and bound of its last publication, 0 where there is none
pub record DaemonPlace : Type 0 where
  pub view : SeatView
  pub polled : ℕ
  pub daemon : Option Daemon
  pub base : ℕ

-- the daemon's seat as the table gave it, and before its first call
abbrev pub daemon_first : Setup → SeatView
daemon_first setup = without_host (opener setup)

abbrev pub place_first : Setup → DaemonPlace
place_first setup = record { view = daemon_first setup; polled = 0; daemon = None; base = 0 }

-- ---- an opening

-- a record that was moved has no poll of this run behind it
abbrev pub base_opened : Option ℕ → ℕ → ℕ
base_opened None base = base
base_opened (Some generation) base = 0

-- a daemon that is stopped, and has a poll to do, opens the segment, and begins from what it found
pub record OpensNext (trace : Trace) (p : DaemonPlace) (poll : ℕ) (start : Start) (moved : Option ℕ) (q : DaemonPlace) : Type 0 where
  pub stopped : p.daemon ≡ None
  pub due : p.polled < length trace.polls
  pub poll_is : poll ≡ p.polled + 1
  pub reopens : Reopens p.view (record { start = start; moved = moved }) q.view
  pub polled_after : q.polled ≡ p.polled
  pub daemon_after : q.daemon ≡ Some (daemon_begun (record { start = start; drift = trace.drift; support = is_some trace.page; base = base_opened moved p.base }))
  pub base_after : q.base ≡ base_opened moved p.base

-- ---- a poll

-- after a finished publication with a stop the daemon is stopped
abbrev pub unless_stopped : Option ℕ → Daemon → Option Daemon
unless_stopped None daemon = Some daemon
unless_stopped (Some stop) daemon = None

-- what the daemon goes on with: after a stop in between it is stopped too, and after a poll that was skipped it is what it was
abbrev pub goes_on : Option ℕ → Daemon → Polled → Option Daemon
goes_on stop before (polls.Published daemon publication) = unless_stopped stop daemon
goes_on stop before (polls.Skipped first last) = Some before
goes_on stop before (polls.Stopped stores) = None

abbrev pub base_left : ℕ → Polled → ℕ
base_left base (polls.Published daemon publication) = publication.base
base_left base (polls.Skipped first last) = base
base_left base (polls.Stopped stores) = base

-- a daemon that is not stopped does its next poll, with the reply and the stop of the trace's row
pub record PollsNext (trace : Trace) (p : DaemonPlace) (poll : ℕ) (polled : Polled) (q : DaemonPlace) : Type 0 where
  pub daemon : Daemon
  pub goes : p.daemon ≡ Some daemon
  pub row : PollRow
  pub row_is : slice_get trace.polls p.polled ≡ Some row
  pub poll_is : poll ≡ p.polled + 1
  pub polls : Polls trace.clock (order_for p.view daemon poll (heard_of row.reply) row.stop trace.tries) p.view polled q.view
  pub polled_after : q.polled ≡ p.polled + 1
  pub daemon_after : q.daemon ≡ goes_on row.stop daemon polled
  pub base_after : q.base ≡ base_left p.base polled

-- ---- all calls

-- one call, with its line
abbrev pub CallsNext : Trace → DaemonPlace → Line → DaemonPlace → Type 0
CallsNext trace p (lines.Opened poll start moved) q = OpensNext trace p poll start moved q
CallsNext trace p (lines.Polled poll polled) q = PollsNext trace p poll polled q
CallsNext trace p (lines.Answered client call answer) q = ⊥

-- the daemon's calls lead from one place to another, and these are their lines, in their order
abbrev pub DaemonCalls : Trace → DaemonPlace → List Line → DaemonPlace → Type 0
DaemonCalls trace p [] q = p ≡ q
DaemonCalls trace p (line ∷ later) q = (next : DaemonPlace) × CallsNext trace p line next × DaemonCalls trace next later q
