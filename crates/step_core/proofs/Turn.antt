-- One turn of a party, and the start: the run over words shows the abstract run.
use Rattle.std.proofs.Common.{◌≡◌, ℕ, zero, suc, ◌+◌, ◌-◌, ◌^◌, ◌<◌, List, [], ◌∷◌, ◌++◌, length, Option, Some, None, Result, Ok, Err, refl, ap, sym, ◌∙◌, subst, arith}
use Rattle.std.specs.Prelude.{slice_get, slice_index, IsOk}
use Rattle.std.proofs.lemmas.List.{get_or_append_left}
use Rattle.generation_word.specs.declared.layout.Layout.{Layout}
use Rattle.clock_gate.specs.declared.trace.Party.{Party}
use Rattle.clock_gate.specs.declared.trace.Party.TheVariants.{Host, Daemon, Client}
use Rattle.clock_gate.specs.declared.trace.Trace.{Trace}
use Rattle.clock_gate.specs.Trace.{IsLawfulTrace}
use Rattle.vmclock_page.specs.Host.{count_of}
use Rattle.segment_layout.specs.declared.start.Start.{Start}
use Rattle.segment_layout.specs.declared.start.Start.TheVariants.{Fresh, Kept, Torn}
use Rattle.segment_layout.specs.declared.image_fault.ImageFault.{ImageFault}
use Rattle.segment_layout.specs.Image.{image_of, start_of}
use Rattle.segment_run.specs.SegmentRun.{segment_by, segment_start}
use Rattle.segment_run.proofs.SegmentLater.{later_same, segment_keeps}
use Rattle.segment_run.proofs.SegmentStart.{segment_start_shows}
use Rattle.abstract_run.specs.declared.event.Event.{Event}
use Rattle.abstract_run.specs.Run as runs
use Rattle.abstract_run.specs.Run.{Run, turn, start}
use Rattle.abstract_run.specs.HostRun.{HostRun, host_start, host_turn}
use Rattle.abstract_run.specs.DaemonRun as run_daemon
use Rattle.abstract_run.specs.DaemonRun.{daemon_turn}
use Rattle.abstract_run.specs.ClientRun as run_client
use Rattle.abstract_run.specs.ClientRun.{ClientRun}
use Rattle.abstract_run.specs.Given.{IsGiven, AreRows}
use Rattle.step_core.specs.declared.marks.Place.{Place}
use Rattle.step_core.specs.Shared as shareds
use Rattle.step_core.specs.Shared.{Shared, shared_turn, shared_start, words_start, page_part, place_of}
use Rattle.step_core.specs.SharedWords.{after_act, value_of}
use Rattle.step_core.specs.SharedHost.{host_ready, host_act}
use Rattle.step_core.specs.SharedDaemon as shared_daemon
use Rattle.step_core.specs.SharedDaemon.{DaemonState, daemon_ready, daemon_act, daemon_after}
use Rattle.step_core.specs.SharedClient as shared_client
use Rattle.step_core.specs.SharedClient.{ClientState, client_turned}
use Rattle.step_core.specs.ShowsClient.{ShowsClient}
use Rattle.step_core.specs.Shows.{Shows}
use Rattle.step_core.proofs.Later.{IsHostLater}
use Rattle.step_core.proofs.HostTurn.{HostTurned, host_state_shows}
use Rattle.step_core.proofs.HostKeeps.{host_keeps}
use Rattle.step_core.proofs.HostStart.{lawful_rows, host_start_shows}
use Rattle.step_core.proofs.DaemonLeaves.{Turned}
use Rattle.step_core.proofs.DaemonTurn.{daemon_turn_shows}
use Rattle.step_core.proofs.DaemonKeeps.{daemon_later, magic_kept, daemon_start_shows, magic_at_start}
use Rattle.step_core.proofs.ClientTurn.{StandsAt, place_at, ClientTurned, client_turn_shows}
use Rattle.step_core.proofs.ClientLater.{clients_later, ShowsClientOf, clients_get, clients_set, clients_start}

-- a host is no earlier than itself
same_host : (trace : Trace) (host : HostRun) → IsHostLater trace.host host host
same_host trace host = record { done = omega arith; pages = omega arith }

-- one turn of the daemon, on these words
abbrev pub daemon_turned : Trace → (done : ℕ) → List ℕ → DaemonState → shared_daemon.DaemonTurn
daemon_turned trace done words ready = daemon_after trace done ready (value_of words (daemon_act ready))

-- ---- a turn

-- what stands of a run that is shown
pub stands_at : (trace : Trace) (run : Run) (w : Shared) → Shows trace run w → StandsAt trace run.host run.segment w.words
stands_at trace run w shows = record { machine = w.host.machine; rows = shows.rows; host_is = shows.host; segment_is = shows.segment }

host_turns_by : (trace : Trace) (run : Run) (w : Shared) → Shows trace run w → HostTurned trace.page trace.host run.host (host_turn trace.host run.host) w.words (host_ready trace.host w.host)
    → Shows trace (turn trace run Host) (shareds.host_steps w (host_ready trace.host w.host))
host_turns_by trace run w shows turned =
    record {
      lawful = shows.lawful;
      same_trace = shows.same_trace;
      rows = shows.rows;
      host = turned.shows;
      same_host = turned.same_done;
      segment = segment_keeps run.segment w.words (after_act w.words (host_act (host_ready trace.host w.host))) shows.segment turned.keeps turned.same_length;
      same_layout = shows.same_layout;
      fits = shows.fits;
      daemon = daemon_later trace run.host (host_turn trace.host run.host) run.segment run.daemon w.daemon turned.later shows.daemon;
      magic = magic_kept run.daemon w.words (after_act w.words (host_act (host_ready trace.host w.host))) turned.keeps shows.magic;
      clients = clients_later trace run.host (host_turn trace.host run.host) run.segment run.segment turned.later (later_same run.segment) shows.segment.is 1 run.clients w.clients shows.clients;
      same_events = shows.same_events;
    }

host_turns : (trace : Trace) (run : Run) (w : Shared) → Shows trace run w → Shows trace (turn trace run Host) (shared_turn w Host)
host_turns trace run w shows =
    subst (λ (given : Trace). Shows trace (turn trace run Host) (shareds.host_steps w (host_ready given.host w.host))) (sym shows.same_trace)
    (host_turns_by trace run w shows (host_state_shows trace.page (length trace.clock) trace.host run.host w.host w.words shows.same_host shows.rows shows.host))

daemon_turns_by : (trace : Trace) (run : Run) (w : Shared) (ready : DaemonState) (next : run_daemon.DaemonTurn) (turned : shared_daemon.DaemonTurn) → Shows trace run w
    → Turned trace run.host run.segment w.words (after_act w.words (daemon_act ready)) next turned → Shows trace (runs.with_daemon run next) (shareds.with_daemon w ready turned)
daemon_turns_by trace run w ready next turned shows is =
    record {
      lawful = shows.lawful;
      same_trace = shows.same_trace;
      rows = shows.rows;
      host = host_keeps trace.page trace.host run.host w.host.machine w.words (after_act w.words (daemon_act ready)) is.rest (is.segment_shown.wide ∙ sym shows.segment.wide) shows.host;
      same_host = shows.same_host;
      segment = is.segment_shown;
      same_layout = is.later.layout ∙ shows.same_layout;
      fits = subst (λ (image : List ℕ). slice_index image 1 < 2 ^ 64) (sym is.later.image) shows.fits;
      daemon = is.leaves.shows;
      magic = is.magic;
      clients = clients_later trace run.host run.host run.segment next.segment (same_host trace run.host) is.later shows.segment.is 1 run.clients w.clients shows.clients;
      same_events = ap (λ (told : List Event). told ++ turned.told) shows.same_events ∙ ap (λ (more : List Event). run.events ++ more) is.leaves.told;
    }

daemon_turns : (trace : Trace) → IsLawfulTrace trace → (run : Run) (w : Shared) → Shows trace run w → Shows trace (turn trace run Daemon) (shared_turn w Daemon)
daemon_turns trace lawful run w shows =
    subst (λ (given : Trace). Shows trace (turn trace run Daemon) (shareds.with_daemon w (daemon_ready given w.daemon) (daemon_turned given w.host.done w.words (daemon_ready given w.daemon)))) (sym shows.same_trace)
    (subst (λ (done : ℕ). Shows trace (turn trace run Daemon) (shareds.with_daemon w (daemon_ready trace w.daemon) (daemon_turned trace done w.words (daemon_ready trace w.daemon)))) (sym shows.same_host)
    (daemon_turns_by trace run w (daemon_ready trace w.daemon) (daemon_turn trace run.host run.segment run.daemon) (daemon_turned trace run.host.done w.words (daemon_ready trace w.daemon)) shows
    (daemon_turn_shows trace run.host w.host.machine run.segment w.words run.daemon w.daemon lawful shows.rows shows.host shows.segment shows.same_layout shows.fits shows.daemon shows.magic)))

client_turns_by : (trace : Trace) (run : Run) (w : Shared) (number : ℕ) (next : run_client.ClientTurn) (turned : shared_client.ClientTurn) → 0 < number → Shows trace run w
    → ClientTurned trace run.host run.segment number next turned → Shows trace (runs.with_client run number next) (shareds.with_client w (number - 1) turned)
client_turns_by trace run w number next turned some shows is =
    let place : number ≡ 1 + (number - 1) = omega arith in
    record {
      lawful = shows.lawful;
      same_trace = shows.same_trace;
      rows = shows.rows;
      host = shows.host;
      same_host = shows.same_host;
      segment = shows.segment;
      same_layout = shows.same_layout;
      fits = shows.fits;
      daemon = shows.daemon;
      magic = shows.magic;
      clients = clients_set trace run.host run.segment 1 run.clients w.clients (number - 1) next.client turned.client shows.clients
          (subst (λ (n : ℕ). ShowsClient trace run.host run.segment n next.client turned.client) place is.shows);
      same_events = ap (λ (told : List Event). told ++ turned.told) shows.same_events ∙ ap (λ (more : List Event). run.events ++ more) is.told;
    }

-- the position and the rows done are the run's
place_is : (trace : Trace) (run : Run) (w : Shared) → Shows trace run w → place_of w ≡ place_at run.segment run.host
place_is trace run w shows = rw (shows.daemon.same_position, shows.same_host) refl

one_client : (trace : Trace) (run : Run) (w : Shared) (number : ℕ) (of_run : ClientRun) (client : ClientState) → 0 < number → Shows trace run w → ShowsClient trace run.host run.segment number of_run client
    → Shows trace (runs.with_client run number (run_client.client_turn trace run.host run.segment of_run)) (shareds.with_client w (number - 1) (client_turned w.trace w.words (place_of w) client))
one_client trace run w number of_run client some shows one =
    client_turns_by trace run w number (run_client.client_turn trace run.host run.segment of_run) (client_turned w.trace w.words (place_of w) client) some shows
    (subst (λ (given : Trace). ClientTurned trace run.host run.segment number (run_client.client_turn trace run.host run.segment of_run) (client_turned given w.words (place_of w) client)) (sym shows.same_trace)
    (subst (λ (place : Place). ClientTurned trace run.host run.segment number (run_client.client_turn trace run.host run.segment of_run) (client_turned trace w.words place client)) (sym (place_is trace run w shows))
    (client_turn_shows trace run.host run.segment w.words number of_run client (stands_at trace run w shows) one)))

either_client : (trace : Trace) (run : Run) (w : Shared) (number : ℕ) (of_run : Option ClientRun) (client : Option ClientState) → 0 < number → Shows trace run w → ShowsClientOf trace run.host run.segment number of_run client
    → Shows trace (runs.client_turn_in trace run number of_run) (shareds.client_turn w (number - 1) client)
either_client trace run w number None None some shows one = shows
either_client trace run w number None (Some client) some shows one = absurd one
either_client trace run w number (Some of_run) None some shows one = absurd one
either_client trace run w number (Some of_run) (Some client) some shows one = one_client trace run w number of_run client some shows one

-- what a client with a number shows of that one in the run
pub client_of : (trace : Trace) (run : Run) (w : Shared) (place : ℕ) → Shows trace run w → ShowsClientOf trace run.host run.segment (suc place) (slice_get run.clients place) (slice_get w.clients place)
client_of trace run w place shows =
    let same : 1 + place ≡ suc place = omega arith in
    subst (λ (n : ℕ). ShowsClientOf trace run.host run.segment n (slice_get run.clients place) (slice_get w.clients place)) same
    (clients_get trace run.host run.segment 1 run.clients w.clients place shows.clients)

client_turns : (trace : Trace) (run : Run) (w : Shared) (number : ℕ) → Shows trace run w → Shows trace (turn trace run (Client number)) (shared_turn w (Client number))
client_turns trace run w zero shows = shows
client_turns trace run w (suc place) shows =
    either_client trace run w (suc place) (slice_get run.clients place) (slice_get w.clients place) (omega arith) shows (client_of trace run w place shows)

-- one turn of a party
pub turn_shows : (trace : Trace) → IsLawfulTrace trace → (run : Run) (w : Shared) (who : Party) → Shows trace run w → Shows trace (turn trace run who) (shared_turn w who)
turn_shows trace lawful run w Host shows = host_turns trace run w shows
turn_shows trace lawful run w Daemon shows = daemon_turns trace lawful run w shows
turn_shows trace lawful run w (Client number) shows = client_turns trace run w number shows

-- ---- the start

-- what an admitted image holds
pub found_by : (found : Result Start ImageFault) → IsOk found → (begins : Start) × (found ≡ Ok begins)
found_by (Ok begins) ok = (begins, refl)
found_by (Err fault) ok = absurd (cc ok)

layout_by : (layout : Layout) (image : List ℕ) (sequence : ℕ) (begins : Start) → (segment_by layout image sequence begins).layout ≡ layout
layout_by layout image sequence Fresh = refl
layout_by layout image sequence (Torn generation) = refl
layout_by layout image sequence (Kept generation rec) = refl

image_by : (layout : Layout) (image : List ℕ) (sequence : ℕ) (begins : Start) → (segment_by layout image sequence begins).image ≡ image
image_by layout image sequence Fresh = refl
image_by layout image sequence (Torn generation) = refl
image_by layout image sequence (Kept generation rec) = refl

-- at the start
pub start_shows : (trace : Trace) → IsGiven trace → Shows trace (start trace) (shared_start trace)
start_shows trace given =
    let rows : AreRows trace.page (length trace.clock) trace.host = lawful_rows trace given.can.lawful given.can.page given.can.rows given.wide in
    let found = found_by (image_of trace.layout trace.image) given.can.image in
    let host = host_start_shows trace rows given.ten in
    record {
      lawful = given.can.lawful;
      same_trace = refl;
      rows = rows;
      host = host;
      same_host = refl;
      segment = segment_start_shows trace.layout trace.image (words_start trace) (count_of trace.page) found.0 given.ten given.fits found.1 host.wide
          (λ word low. get_or_append_left trace.image (page_part trace.page ++ 1 ∷ []) 0 word (let ten = given.ten in omega (arith, ten, low)));
      same_layout = layout_by trace.layout trace.image (count_of trace.page) (start_of trace.image);
      fits = subst (λ (image : List ℕ). slice_index image 1 < 2 ^ 64) (sym (image_by trace.layout trace.image (count_of trace.page) (start_of trace.image))) given.fits;
      daemon = daemon_start_shows trace host_start found.0 given.fits found.1;
      magic = magic_at_start (words_start trace);
      clients = clients_start trace host_start (segment_start trace.layout trace.image (count_of trace.page)) trace.calls given.can.lawful.calls 1 trace.clients;
      same_events = refl;
    }
