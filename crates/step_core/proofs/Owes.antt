-- How many events a run still tells: each turn tells no more than was owed, and a publication moves the position by no more than it
-- tells.
use Rattle.std.proofs.Common.{◌≡◌, ℕ, zero, suc, ◌+◌, ◌-◌, ◌*◌, ◌<◌, ◌≤◌, Bool, true, false, List, [], ◌∷◌, length, length-append, refl, ap, arith, Option, Some, None}
use Rattle.std.specs.Prelude.{slice_get, slice_index_or, unwrap_or, is_some, sum_by}
use Rattle.std.proofs.lemmas.List.Sums.{sum_by-set}
use Rattle.clock_gate.specs.declared.trace.Party.{Party}
use Rattle.clock_gate.specs.declared.trace.Party.TheVariants.{Host, Daemon, Client}
use Rattle.clock_gate.specs.declared.trace.PollRow.{PollRow}
use Rattle.clock_gate.specs.declared.trace.Trace.{Trace}
use Rattle.writer_reopen.specs.declared.opening.Opening.{Opening}
use Rattle.writer_reopen.specs.declared.polled.Polled.{Polled}
use Rattle.writer_reopen.specs.declared.polled.Polled.TheVariants as polled
use Rattle.writer_reopen.specs.Opening.{OpenerState, opening_given, opening_end}
use Rattle.writer_reopen.specs.PollMachine.{polling_end}
use Rattle.interval_now.specs.Call.{Call, given, act_of, end_of}
use Rattle.interval_now.specs.declared.answers.Answer.{Answer}
use Rattle.abstract_run.specs.RunWhole.{in_hand}
use Rattle.step_core.specs.declared.hand.Hand.{Hand}
use Rattle.step_core.specs.declared.hand.Hand.TheVariants as hands
use Rattle.step_core.specs.declared.hand.Job.{Job}
use Rattle.step_core.specs.declared.hand.Polling.{Polling}
use Rattle.step_core.specs.declared.hand.Resumed.{Resumed}
use Rattle.step_core.specs.declared.marks.Marks.{Marks}
use Rattle.step_core.specs.declared.marks.Place.{Place}
use Rattle.step_core.specs.SharedWords.{value_of}
use Rattle.step_core.specs.SharedDaemon.{DaemonState, DaemonTurn, job_of, hand_for, daemon_takes, daemon_ready, daemon_ready_by, daemon_act, opening_by, stops_at_last, stop_told, polling_by, polling_after, resting, daemon_after, daemon_after_by}
use Rattle.step_core.specs.SharedClient.{ClientState, client_takes, client_ready, client_ready_by, call_act, call_by, client_after_by, client_turned, noted}
use Rattle.step_core.specs.Shared.{Shared, shared_turn, client_turn, place_of}

-- the most events that are told of what is in hand: an opening tells of itself and of a move, a poll of itself and of a stop
abbrev pub hand_owes : Hand → ℕ
hand_owes hands.Resting = 0
hand_owes (hands.Opening reopening) = 4
hand_owes (hands.Polling polling) = 2

-- the most events of the daemon that are still to come
abbrev pub daemon_owes : Trace → DaemonState → ℕ
daemon_owes trace daemon = 4 * (length trace.polls - daemon.polled) + hand_owes daemon.hand

-- the events of a client that are still to come
abbrev pub client_owes : ClientState → ℕ
client_owes client = length client.left + in_hand client.call

-- the most events that are still to come
abbrev pub owed : Shared → ℕ
owed w = daemon_owes w.trace w.daemon + sum_by client_owes w.clients

-- ---- the daemon takes its next poll

record Takes (trace : Trace) (before after : DaemonState) : Type 0 where
  owes : daemon_owes trace after ≤ daemon_owes trace before
  position : after.position ≡ before.position

slice_get_within : (polls : List PollRow) (k : ℕ) (poll : PollRow) → slice_get polls k ≡ Some poll → k < length polls
slice_get_within [] k poll e = absurd cc
slice_get_within (first ∷ polls) zero poll e = omega arith
slice_get_within (first ∷ polls) (suc k) poll e = let later = slice_get_within polls k poll e in omega arith

hand_few : (trace : Trace) (number : ℕ) (job : Job) (resumed : Option Resumed) → hand_owes (hand_for trace number job resumed) ≤ 4
hand_few trace number job None = omega arith
hand_few trace number job (Some resumed) = omega arith

takes_by : (trace : Trace) (d : DaemonState) (row : Option PollRow) → d.hand ≡ hands.Resting → slice_get trace.polls d.polled ≡ row → Takes trace d (daemon_takes trace d row)
takes_by trace d None rests at = record { owes = omega arith; position = refl }
takes_by trace d (Some poll) rests at =
    let within : d.polled < length trace.polls = slice_get_within trace.polls d.polled poll at in
    let few = hand_few trace (d.polled + 1) (job_of poll) d.resumed in
    record { owes = omega arith; position = refl }

ready_by : (trace : Trace) (d : DaemonState) (hand : Hand) → d.hand ≡ hand → Takes trace d (daemon_ready_by trace d hand)
ready_by trace d hands.Resting same = takes_by trace d (slice_get trace.polls d.polled) same refl
ready_by trace d (hands.Opening reopening) same = record { owes = omega arith; position = refl }
ready_by trace d (hands.Polling polling) same = record { owes = omega arith; position = refl }

-- ---- its step

-- a turn tells no more than what the daemon owes before it, and owes less by that
pub record DaemonSpends (trace : Trace) (before : DaemonState) (turn : DaemonTurn) : Type 0 where
  pub owes : length turn.told + daemon_owes trace turn.daemon ≤ daemon_owes trace before
  pub position : turn.daemon.position ≤ before.position + length turn.told

opening_spends : (trace : Trace) (d : DaemonState) (job : Job) (machine : OpenerState) (found : Option Opening) → hand_owes d.hand ≡ 4 → DaemonSpends trace d (opening_by trace (resting d) job machine found)
opening_spends trace d job machine None four = record { owes = omega arith; position = omega arith }
opening_spends trace d job machine (Some opening) four = moved opening.moved
  where
    moved : (to : Option ℕ) → DaemonSpends trace d (opening_by trace (resting d) job machine (Some (record { start = opening.start; moved = to })))
    moved None = record { owes = omega arith; position = omega arith }
    moved (Some generation) = record { owes = omega arith; position = omega arith }

stop_few : (stops : Bool) (poll : ℕ) → length (stop_told stops poll) ≤ 1
stop_few true poll = omega arith
stop_few false poll = omega arith

polling_spends : (trace : Trace) (d : DaemonState) (polling : Polling) (found : Option Polled) → hand_owes d.hand ≡ 2 → DaemonSpends trace d (polling_by (resting d) polling found)
polling_spends trace d polling None two = record { owes = omega arith; position = omega arith }
polling_spends trace d polling (Some (polled.Published daemon publication)) two =
    let few = stop_few (stops_at_last polling.stop) d.polled in
    record { owes = omega (arith, two, few); position = omega arith }
polling_spends trace d polling (Some (polled.Skipped first last)) two = record { owes = omega arith; position = omega arith }
polling_spends trace d polling (Some (polled.Stopped stores)) two = record { owes = omega arith; position = omega arith }

hand_spends : (trace : Trace) (host_at : ℕ) (d : DaemonState) (value : ℕ) (hand : Hand) → d.hand ≡ hand → DaemonSpends trace d (daemon_after_by trace host_at (resting d) value hand)
hand_spends trace host_at d value hands.Resting same = let none : hand_owes d.hand ≡ 0 = ap hand_owes same in record { owes = omega arith; position = omega arith }
hand_spends trace host_at d value (hands.Opening reopening) same =
    opening_spends trace d reopening.job (opening_given reopening.machine value) (opening_end (opening_given reopening.machine value)) (ap hand_owes same)
hand_spends trace host_at d value (hands.Polling polling) same =
    polling_spends trace d (polling_after trace host_at polling value) (polling_end (polling_after trace host_at polling value).machine) (ap hand_owes same)

pub daemon_spends : (trace : Trace) (host_at : ℕ) (d : DaemonState) (value : ℕ) → DaemonSpends trace d (daemon_after trace host_at (daemon_ready trace d) value)
daemon_spends trace host_at d value =
    let taken = ready_by trace d d.hand refl in
    let step = hand_spends trace host_at (daemon_ready trace d) value (daemon_ready trace d).hand refl in
    record { owes = omega (arith, taken.owes, step.owes); position = omega (arith, taken.position, step.position) }

-- the next poll leaves the position
pub ready_position : (trace : Trace) (d : DaemonState) → (daemon_ready trace d).position ≡ d.position
ready_position trace d = (ready_by trace d d.hand refl).position

-- ---- a client

takes_owes : (support : Bool) (client : ClientState) (left : List ℕ) → client.left ≡ left → client.call ≡ None → client_owes (client_takes support client left) ≤ client_owes client
takes_owes support client [] same none = omega arith
takes_owes support client (tries ∷ left) same none = rw (same, none) (omega arith)

owes_by : (support : Bool) (client : ClientState) (call : Option Call) → client.call ≡ call → client_owes (client_ready_by support client call) ≤ client_owes client
owes_by support client None same = takes_owes support client client.left refl same
owes_by support client (Some call) same = omega arith

call_spends : (client : ClientState) (marks : Marks) (call before : Call) (found : Option Answer) → client.call ≡ Some before
    → length (call_by client marks call found).told + client_owes (call_by client marks call found).client ≤ client_owes client
call_spends client marks call before None same = rw same (omega arith)
call_spends client marks call before (Some answer) same = rw same (omega arith)

step_spends : (trace : Trace) (words : List ℕ) (place : Place) (client : ClientState) (call : Option Call) → client.call ≡ call
    → length (client_after_by trace.clock place client (value_of words (call_act call)) call).told + client_owes (client_after_by trace.clock place client (value_of words (call_act call)) call).client ≤ client_owes client
step_spends trace words place client None same = omega arith
step_spends trace words place client (Some call) same =
    call_spends client (noted place (act_of call) client.marks) (given trace.clock call (value_of words (act_of call))) call (end_of (given trace.clock call (value_of words (act_of call)))) same

pub client_spends : (trace : Trace) (words : List ℕ) (place : Place) (client : ClientState)
    → length (client_turned trace words place client).told + client_owes (client_turned trace words place client).client ≤ client_owes client
client_spends trace words place client =
    let taken = owes_by (is_some trace.page) client client.call refl in
    let step = step_spends trace words place (client_ready (is_some trace.page) client) (client_ready (is_some trace.page) client).call refl in
    omega (arith, taken, step)

-- ---- any turn

pub record Spends (w next : Shared) : Type 0 where
  pub owes : length next.events + owed next ≤ length w.events + owed w
  pub position : next.daemon.position + owed next ≤ w.daemon.position + owed w

some_item : {Item : Type 0} (first item : Item) → Some first ≡ Some item → first ≡ item
some_item first item e = ap (λ x. unwrap_or x first) e

-- the client that is read at a place stands there
pub at_place : (clients : List ClientState) (place : ℕ) (client : ClientState) → slice_get clients place ≡ Some client → (place < length clients) × (slice_index_or clients place client ≡ client)
at_place [] place client e = absurd cc
at_place (first ∷ clients) zero client e = (omega arith, some_item first client e)
at_place (first ∷ clients) (suc place) client e = let later = at_place clients place client e in let within = later.0 in (omega arith, later.1)

found_spends : (w : Shared) (place : ℕ) (found : Option ClientState) → slice_get w.clients place ≡ found → Spends w (client_turn w place found)
found_spends w place None at = record { owes = omega arith; position = omega arith }
found_spends w place (Some client) at =
    let turned = client_turned w.trace w.words (place_of w) client in
    let less = client_spends w.trace w.words (place_of w) client in
    let stands = at_place w.clients place client at in
    let sums = sum_by-set client_owes w.clients place turned.client client stands.0 in
    let was : client_owes (slice_index_or w.clients place client) ≡ client_owes client = ap client_owes stands.1 in
    let more = length-append w.events turned.told in
    record { owes = omega (arith, less, sums, was, more); position = omega (arith, less, sums, was) }

pub turn_spends : (w : Shared) (who : Party) → Spends w (shared_turn w who)
turn_spends w Host = record { owes = omega arith; position = omega arith }
turn_spends w Daemon =
    let turned = daemon_after w.trace w.host.done (daemon_ready w.trace w.daemon) (value_of w.words (daemon_act (daemon_ready w.trace w.daemon))) in
    let less = daemon_spends w.trace w.host.done w.daemon (value_of w.words (daemon_act (daemon_ready w.trace w.daemon))) in
    let more = length-append w.events turned.told in
    record { owes = omega (arith, less.owes, more); position = omega (arith, less.owes, less.position) }
turn_spends w (Client zero) = record { owes = omega arith; position = omega arith }
turn_spends w (Client (suc place)) =
    let less : suc place - 1 ≡ place = omega arith in
    rw less (found_spends w place (slice_get w.clients place) refl)
