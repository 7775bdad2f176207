-- The abstract run: positions never wrap, records are whole, and no word is shared: what a load gives is computed from where the host and
-- the segment stand. One turn is one step of one party.
use Rattle.std.specs.Prelude.{ℕ, zero, suc, ◌-◌, ◌==◌, List, [], ◌∷◌, ◌++◌, map, filter, slice_get, slice_set, Option, Some, None}
use Rattle.std.specs.List.{range_with_len}
use Rattle.clock_gate.specs.declared.trace.CallRow.{CallRow}
use Rattle.clock_gate.specs.declared.trace.Party.{Party}
use Rattle.clock_gate.specs.declared.trace.Party.TheVariants.{Host, Daemon, Client}
use Rattle.clock_gate.specs.declared.trace.Trace.{Trace}
use Rattle.vmclock_page.specs.Host.{count_of}
use Rattle.segment_run.specs.SegmentRun.{SegmentRun, segment_start}
use Rattle.abstract_run.specs.declared.event.Event.{Event}
use Rattle.abstract_run.specs.declared.event.Event.TheVariants as events
use Rattle.abstract_run.specs.HostRun.{HostRun, host_start, host_turn}
use Rattle.abstract_run.specs.DaemonRun.{DaemonRun, DaemonTurn, daemon_start, daemon_turn}
use Rattle.abstract_run.specs.ClientRun.{ClientRun, ClientTurn, Answered, client_turn}

pub record Run : Type 0 where
  pub host : HostRun
  pub segment : SegmentRun
  pub daemon : DaemonRun
  -- the clients, the first for number 1
  pub clients : List ClientRun
  pub events : List Event

-- ---- how it begins

-- the tries of a client's calls, in order
abbrev pub tries_for : List CallRow → (client : ℕ) → List ℕ
tries_for calls client = map (λ (row : CallRow). row.tries) (filter (λ (row : CallRow). row.client == client) calls)

abbrev pub client_start : List CallRow → (client : ℕ) → ClientRun
client_start calls client = record { left = tries_for calls client; begun = 0; call = None }

abbrev pub start : Trace → Run
start trace =
    record {
      host = host_start;
      segment = segment_start trace.layout trace.image (count_of trace.page);
      daemon = daemon_start;
      clients = map (client_start trace.calls) (range_with_len 1 trace.clients);
      events = [];
    }

-- ---- one turn

abbrev pub with_daemon : Run → DaemonTurn → Run
with_daemon run turn = record run { segment = turn.segment; daemon = turn.daemon; events = run.events ++ turn.events }

abbrev pub answer_events : (client call : ℕ) → Option Answered → List Event
answer_events client call None = []
answer_events client call (Some answered) = events.Answered client call answered.answer answered.trail ∷ []

-- the client's place is one less than its number
abbrev pub with_client : Run → (client : ℕ) → ClientTurn → Run
with_client run client turn =
    record run {
      clients = slice_set run.clients (client - 1) turn.client;
      events = run.events ++ answer_events client turn.client.begun turn.answered;
    }

abbrev pub client_turn_in : Trace → Run → (client : ℕ) → Option ClientRun → Run
client_turn_in trace run client None = run
client_turn_in trace run client (Some state) = with_client run client (client_turn trace run.host run.segment state)

-- the client with a number, from 1
abbrev pub client_at : {Client : Type 0} → List Client → (client : ℕ) → Option Client
client_at clients zero = None
client_at clients (suc place) = slice_get clients place

-- one turn of a party; one that has nothing to do changes nothing
abbrev pub turn : Trace → Run → Party → Run
turn trace run Host = record run { host = host_turn trace.host run.host }
turn trace run Daemon = with_daemon run (daemon_turn trace run.host run.segment run.daemon)
turn trace run (Client client) = client_turn_in trace run client (client_at run.clients client)

-- these turns, one after another
abbrev pub turns_by : Trace → Run → List Party → Run
turns_by trace run [] = run
turns_by trace run (who ∷ later) = turns_by trace (turn trace run who) later
