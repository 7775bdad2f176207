-- What the workers of a run did, whatever order their steps took: each party's calls in their order, and what was settled at the end.
use Rattle.std.specs.Prelude.{◌≡◌, List, [], ◌∷◌, ◌++◌, length, drop, All}
use Rattle.std.specs.List.{range_with_len}
use Rattle.clock_gate.specs.declared.trace.HostRow.{HostRow}
use Rattle.clock_gate.specs.declared.trace.Trace.{Trace}
use Rattle.interval_now.specs.declared.answers.Answer.{Answer}
use Rattle.segment_views.specs.declared.setup.Setup.{Setup}
use Rattle.segment_views.specs.Views.{HostPart, SeatView}
use Rattle.segment_views.specs.Seats.{opener, without_daemon, first_host_part}
use Rattle.segment_rule.specs.Hosts.{part_after}
use Rattle.segment_rule.specs.Settled.{IsSameBut, AreSettled}
use Rattle.live_report.specs.declared.line.Line.{Line}
use Rattle.live_report.specs.DaemonCalls.{DaemonPlace, DaemonCalls, place_first}
use Rattle.live_report.specs.ClientCalls.{AllClientCalls, client_lines}

-- the table that is made of a trace
abbrev pub setup_of : Trace → Setup
setup_of trace = record { layout = trace.layout; image = trace.image; page = trace.page; rows = length trace.clock; clients = trace.clients }

-- ---- the host

-- the host's seat as the table gave it
abbrev pub host_first : Setup → SeatView
host_first setup = without_daemon (opener setup)

-- what the host owns after these rows
abbrev pub part_after_rows : List HostRow → HostPart → HostPart
part_after_rows [] part = part
part_after_rows (row ∷ rows) part = part_after_rows rows (part_after row part)

-- and its view: the first row of the clock is in place when it begins, and it did all others
abbrev pub host_done : Trace → SeatView
host_done trace = record (host_first (setup_of trace)) { host_part = part_after_rows (drop 1 trace.host) (first_host_part (setup_of trace)) }

-- ---- the run

-- these lines are those of a run of the trace, which left these views of the seats of the host, the daemon and the clients. First stand
-- the daemon's lines, then those of the first client, of the second, and so on
pub record IsRunOf (trace : Trace) (lines : List Line) (host daemon : SeatView) (clients : List SeatView) : Type 0 where
  -- the host did all rows
  pub host_rows : IsSameBut (host_done trace) host
  -- the daemon did all polls, with an opening before the first one and after each stop
  pub daemon_lines : List Line
  pub daemon_last : DaemonPlace
  pub daemon_calls : DaemonCalls trace (place_first (setup_of trace)) daemon_lines daemon_last
  pub all_polls : daemon_last.polled ≡ length trace.polls
  pub daemon_seat : IsSameBut daemon_last.view daemon
  -- each client did its calls
  pub answers : List (List Answer)
  pub client_calls : AllClientCalls trace (setup_of trace) (range_with_len 1 trace.clients) answers clients
  -- the lines
  pub lines_are : lines ≡ daemon_lines ++ client_lines (range_with_len 1 trace.clients) answers
  -- what each client has seen was settled with the host and the daemon when all had ended
  pub settled : All (λ (client : SeatView). AreSettled host daemon client) clients
