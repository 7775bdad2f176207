-- What is gathered when all workers have ended.
use Rattle.std.specs.Prelude.{◌≡◌, ◌≤◌, [], ◌∷◌, ◌++◌, length, vec_capacity}
use Rattle.clock_gate.specs.declared.trace.Trace.{Trace}
use Rattle.clock_gate.specs.Trace.{IsLawfulTrace}
use Rattle.segment_rule.specs.Ruled.{TableView}
use Rattle.segment_rule.specs.Settled.{IsSameBut, AreSettled}
use Rattle.live_report.specs.DaemonCalls.{DaemonPlace, DaemonCalls, place_first}
use Rattle.live_report.specs.LiveRun.{setup_of, host_done}
use Rattle.live_run.specs.declared.clients.Client.{Client}
use Rattle.live_run.specs.declared.gather.Gathered.{Gathered}

-- the host has done all rows and the daemon all polls, and these are its lines; no client was gathered yet, and there is room for all
pub record Gathering (table : TableView) (trace : Trace) (g : Gathered) : Type 0 where
  pub lawful : IsLawfulTrace trace
  pub host_table : g.host.table ≡ table.id
  pub daemon_table : g.daemon.table ≡ table.id
  pub host : g.host.view ≡ host_done trace
  pub last : DaemonPlace
  pub daemon : g.daemon.view ≡ last.view
  pub calls : DaemonCalls trace (place_first (setup_of trace)) g.lines.items last
  pub polled : last.polled ≡ length trace.polls
  pub none : g.clients.items ≡ []
  pub no_answers : g.answers.items ≡ []
  pub answer_places : trace.clients ≤ vec_capacity g.answers
  pub places : trace.clients ≤ vec_capacity g.clients

-- a client was gathered: its seat is settled, and its answers and its seat stand at the end
pub record WasGathered (client : Client) (g h : Gathered) : Type 0 where
  pub host_table : h.host.table ≡ g.host.table
  pub daemon_table : h.daemon.table ≡ g.daemon.table
  pub host : IsSameBut g.host.view h.host.view
  pub daemon : IsSameBut g.daemon.view h.daemon.view
  pub lines : h.lines ≡ g.lines
  pub answers : h.answers.items ≡ g.answers.items ++ client.answers.items ∷ []
  pub clients : h.clients.items ≡ g.clients.items ++ client.seat ∷ []
  pub settled : AreSettled h.host.view h.daemon.view client.seat.view
  pub answer_places : vec_capacity h.answers ≡ vec_capacity g.answers
  pub places : vec_capacity h.clients ≡ vec_capacity g.clients
