-- What the daemon's worker holds between two polls.
use Rattle.std.specs.Prelude.{◌≡◌, ℕ, ◌+◌, ◌*◌, ◌≤◌, true, is_some, IfSome, length, vec_len, vec_capacity}
use Rattle.clock_gate.specs.declared.trace.Trace.{Trace}
use Rattle.clock_gate.specs.Trace.{IsLawfulTrace}
use Rattle.atomic_table.specs.Seated.{TableId}
use Rattle.feed_queue.specs.Ends.{End}
use Rattle.status_machine.specs.declared.daemon.Daemon.{Daemon}
use Rattle.writer_reopen.specs.PollMachine.{DaemonFits}
use Rattle.segment_rule.specs.Ruled.{TableView}
use Rattle.segment_rule.specs.Opens.{DaemonState}
use Rattle.live_report.specs.DaemonCalls.{DaemonPlace, DaemonCalls, place_first}
use Rattle.live_report.specs.LiveRun.{setup_of}
use Rattle.live_run.specs.declared.publisher.Publisher.{Publisher}

-- a daemon that is running may poll on this seat
pub record CanPoll (trace : Trace) (seat : DaemonState) (daemon : Daemon) : Type 0 where
  pub is_open : seat.is_open ≡ true
  pub support : daemon.support ≡ is_some trace.page
  pub fits : DaemonFits daemon

-- how far it has come
abbrev pub place_of : Publisher → DaemonPlace
place_of p = record { view = p.seat.view; polled = p.polled; daemon = p.running; base = p.base }

-- its lines are those of the calls that its seat has made, and its seat is that of the trace's table
pub record Publishes (trace : Trace) (table : TableView) (p : Publisher) : Type 0 where
  pub of_table : p.seat.table ≡ table.id
  pub of_setup : p.seat.view.setup ≡ setup_of trace
  pub running : IfSome p.running (CanPoll trace p.seat)
  pub calls : DaemonCalls trace (place_first (setup_of trace)) p.lines.items (place_of p)

-- there is room for the lines of so many polls more
abbrev pub HasRoom : ℕ → Publisher → Type 0
HasRoom polls p = vec_len p.lines + 2 * polls ≤ vec_capacity p.lines

-- it has done all polls of the trace, each with at most two lines
pub record HasPublished (trace : Trace) (table : TableView) (old new : Publisher) : Type 0 where
  pub publishes : Publishes trace table new
  pub all : new.polled ≡ length trace.polls
  pub lines : vec_len new.lines ≤ vec_len old.lines + 2 * length trace.polls
  pub room : vec_capacity new.lines ≡ vec_capacity old.lines

-- it has done none, and there is room for the lines of all
pub record PublisherBegins (trace : Trace) (table : TableView) (p : Publisher) : Type 0 where
  pub lawful : IsLawfulTrace trace
  pub publishes : Publishes trace table p
  pub none : p.polled ≡ 0
  pub room : HasRoom (length trace.polls) p

-- the two ends are of this queue, for the polls of the trace, and none was taken
pub record IsFed (trace : Trace) (queue : TableId) (input output : End) : Type 0 where
  pub input_queue : input.queue ≡ queue
  pub input_polls : input.polls ≡ trace.polls
  pub output_queue : output.queue ≡ queue
  pub output_polls : output.polls ≡ trace.polls
  pub none : output.count ≡ 0
