-- Every lawful run's events tell what is stated of them: each turn keeps it.
use Rattle.std.proofs.Common.{◌≡◌, ℕ, zero, suc, ◌+◌, ◌-◌, ◌≤◌, ◌<◌, Bool, true, false, List, [], ◌∷◌, ◌++◌, length, take, Option, Some, None, refl, sym, subst, arith}
use Rattle.std.specs.Prelude.{◌==◌, ◌/◌, reverse, slice_get, slice_set, map, if◌then◌else◌}
use Rattle.std.specs.List.{range_with_len}
use Rattle.std.proofs.lemmas.Bool.Decides.{nat_tests}
use Rattle.std.proofs.lemmas.List.{reverse-append}
use Rattle.std.proofs.lemmas.Option.{slice_get_within}
use Rattle.clock_gate.specs.declared.trace.HostRow.{HostRow}
use Rattle.clock_gate.specs.declared.trace.HostRow.TheVariants.{Clock, Page, Disrupt}
use Rattle.clock_gate.specs.declared.trace.Party.{Party}
use Rattle.clock_gate.specs.declared.trace.Party.TheVariants.{Host, Daemon, Client}
use Rattle.clock_gate.specs.declared.trace.Trace.{Trace}
use Rattle.clock_gate.specs.Trace.{IsLawfulTrace}
use Rattle.vmclock_page.specs.Host.{count_of}
use Rattle.segment_layout.specs.declared.start.Start.{Start}
use Rattle.segment_layout.specs.declared.start.Start.TheVariants.{Fresh, Kept, Torn}
use Rattle.segment_layout.specs.Image.{start_of}
use Rattle.segment_run.specs.SegmentRun.{SegmentRun, segment_by}
use Rattle.abstract_run.specs.declared.event.Event.{Event}
use Rattle.abstract_run.specs.declared.event.Event.TheVariants as events
use Rattle.abstract_run.specs.Run.{Run, turn, start, client_start, with_daemon, with_client, answer_events, client_turn_in}
use Rattle.abstract_run.specs.HostRun.{HostRun, row_turn, host_turn}
use Rattle.abstract_run.specs.DaemonRun.{Work, Resting, Opening, Asking, Looking, Taking, Writing, DaemonRun, DaemonTurn, daemon_turn}
use Rattle.abstract_run.specs.ClientRun as run_client
use Rattle.abstract_run.specs.ClientRun.{Answered, ClientRun}
use Rattle.abstract_run.specs.RunWhole.{run_of}
use Rattle.abstract_run.specs.RunFacts.{is_kept_at, AllTell}
use Rattle.abstract_run.proofs.RunKeeps.{run_keeps}
use Rattle.abstract_run.proofs.RunFactsPast.{earlier_more, Stands, stands_later}
use Rattle.abstract_run.proofs.RunFactsDaemon.{next_number, WorkFits, DaemonHolds, Grows, TurnTells, daemon_tells}
use Rattle.abstract_run.proofs.RunFactsClient.{CallFits, call_more, AnswerTells, ClientTells, client_tells}

-- ---- all clients

abbrev pub AllFit : Trace → (base position done : ℕ) → List Event → List ClientRun → Type 0
AllFit trace base position done past [] = Unit {0}
AllFit trace base position done past (client ∷ clients) = CallFits trace base position done past client.call × AllFit trace base position done past clients

all_more : (trace : Trace) (base position done : ℕ) (past : List Event) (later high now : ℕ) (more : List Event) (clients : List ClientRun) → done ≤ now
    → Grows trace base position past later high more → AllFit trace base position done past clients → AllFit trace later high now more clients
all_more trace base position done past later high now more [] le grows fit = tt
all_more trace base position done past later high now more (client ∷ clients) le grows fit =
    (call_more trace base position done past later high now more client.call le grows fit.0, all_more trace base position done past later high now more clients le grows fit.1)

one_of : (trace : Trace) (base position done : ℕ) (past : List Event) (clients : List ClientRun) (place : ℕ) (client : ClientRun) → slice_get clients place ≡ Some client
    → AllFit trace base position done past clients → CallFits trace base position done past client.call
one_of trace base position done past [] place client at fit = absurd (cc at)
one_of trace base position done past (first ∷ clients) zero client at fit =
    let same : first ≡ client = cc at in subst (λ (c : ClientRun). CallFits trace base position done past c.call) same fit.0
one_of trace base position done past (first ∷ clients) (suc place) client at fit = one_of trace base position done past clients place client at fit.1

all_set : (trace : Trace) (base position done : ℕ) (past : List Event) (clients : List ClientRun) (place : ℕ) (client : ClientRun)
    → CallFits trace base position done past client.call → AllFit trace base position done past clients → AllFit trace base position done past (slice_set clients place client)
all_set trace base position done past [] place client new fit = tt
all_set trace base position done past (first ∷ clients) zero client new fit = (new, fit.1)
all_set trace base position done past (first ∷ clients) (suc place) client new fit = (fit.0, all_set trace base position done past clients place client new fit.1)

none_begun : (trace : Trace) (base position done : ℕ) (past : List Event) (numbers : List ℕ) → AllFit trace base position done past (map (client_start trace.calls) numbers)
none_begun trace base position done past [] = tt
none_begun trace base position done past (number ∷ numbers) = (tt, none_begun trace base position done past numbers)

-- ---- a run

pub record Holds (trace : Trace) (host : HostRun) (segment : SegmentRun) (daemon : DaemonRun) (clients : List ClientRun) (past : List Event) : Type 0 where
  pub has_done : (0 < host.done) × (host.done ≤ length trace.host)
  pub daemon_holds : DaemonHolds trace segment.base segment.position segment.is_writing host.done daemon.polled daemon.work past
  pub clients_fit : AllFit trace segment.base segment.position host.done past clients

abbrev pub RunHolds : Trace → Run → Type 0
RunHolds trace run = Holds trace run.host run.segment run.daemon run.clients (reverse run.events)

-- ---- a turn of the host

store_bounds : (rows : List HostRow) (host : HostRun) (last : Bool) → host.done < length rows
    → (host.done ≤ (if last then record { done = host.done + 1; stores = 0 } else record host { stores = host.stores + 1 }).done)
    × ((if last then record { done = host.done + 1; stores = 0 } else record host { stores = host.stores + 1 }).done ≤ length rows)
store_bounds rows host true low = (omega arith, omega (arith, low))
store_bounds rows host false low = (omega arith, omega (arith, low))

row_bounds : (rows : List HostRow) (host : HostRun) (row : HostRow) → host.done < length rows → (host.done ≤ (row_turn host (Some row)).done) × ((row_turn host (Some row)).done ≤ length rows)
row_bounds rows host (Clock number) low = (omega arith, omega (arith, low))
row_bounds rows host (Page words) low = store_bounds rows host (host.stores == 12) low
row_bounds rows host Disrupt low = (omega arith, omega (arith, low))

host_bounds : (rows : List HostRow) (host : HostRun) (row : Option HostRow) → slice_get rows host.done ≡ row → host.done ≤ length rows
    → (host.done ≤ (row_turn host row).done) × ((row_turn host row).done ≤ length rows)
host_bounds rows host None at high = (omega arith, high)
host_bounds rows host (Some row) at high = row_bounds rows host row (slice_get_within rows host.done row at)

work_later : (trace : Trace) (position done more polled : ℕ) (past : List Event) (work : Work) → done ≤ more → WorkFits trace position done polled past work → WorkFits trace position more polled past work
work_later trace position done more polled past Resting le fits = tt
work_later trace position done more polled past (Opening begins old steps) le fits = fits
work_later trace position done more polled past Asking le fits = tt
work_later trace position done more polled past (Looking row reading marked_at) le fits = (fits.0, let before = fits.1 in omega (arith, before, le))
work_later trace position done more polled past (Taking asked) le fits = (fits.0, let before = fits.1 in omega (arith, before, le))
work_later trace position done more polled past (Writing storing) le fits =
    let taken = fits.taken in
    record { asked = fits.asked; marked = fits.marked; replied = fits.replied; taken = omega (arith, taken, le); numbered = fits.numbered; earlier = fits.earlier }

host_holds : (trace : Trace) (host next : HostRun) (segment : SegmentRun) (daemon : DaemonRun) (clients : List ClientRun) (past : List Event) → host.done ≤ next.done → next.done ≤ length trace.host
    → Holds trace host segment daemon clients past → Holds trace next segment daemon clients past
host_holds trace host next segment daemon clients past le high h =
    let some = h.has_done.0 in
    record {
      has_done = (omega (arith, le, some), high);
      daemon_holds = record {
        stands = stands_later trace segment.base segment.position segment.is_writing host.done next.done past le h.daemon_holds.stands;
        earlier = earlier_more (segment.position + 1) (next_number daemon.polled daemon.work) host.done (segment.position + 1) (next_number daemon.polled daemon.work) next.done past
            (omega arith) (omega arith) le h.daemon_holds.earlier;
        fits = work_later trace segment.position host.done next.done daemon.polled past daemon.work le h.daemon_holds.fits;
        tells = h.daemon_holds.tells;
      };
      clients_fit = all_more trace segment.base segment.position host.done past segment.base segment.position next.done past clients le
          (record { same = refl; rises = omega arith; made = omega arith; stood = λ n clock_at low stood. stood }) h.clients_fit;
    }

-- ---- a turn of the daemon

daemon_next : (trace : Trace) (run : Run) (next : DaemonTurn) (has_done : (0 < run.host.done) × (run.host.done ≤ length trace.host))
    → TurnTells trace run.segment.base run.segment.position run.segment.is_writing run.host.done (reverse run.events) has_done next
    → RunHolds trace run → RunHolds trace (with_daemon run next)
daemon_next trace run next has_done is h =
    subst (Holds trace run.host next.segment next.daemon run.clients) (sym (reverse-append run.events next.events))
    (record {
      has_done = has_done;
      daemon_holds = is.holds;
      clients_fit = all_more trace run.segment.base run.segment.position run.host.done (reverse run.events) next.segment.base next.segment.position run.host.done (reverse next.events ++ reverse run.events)
          run.clients (omega arith) is.grows h.clients_fit;
    })

-- ---- a turn of a client

work_answered : (trace : Trace) (position done polled client call : ℕ) (answered : Answered) (past : List Event) (work : Work) → WorkFits trace position done polled past work
    → WorkFits trace position done polled (events.Answered client call answered.answer answered.trail ∷ past) work
work_answered trace position done polled client call answered past Resting fits = tt
work_answered trace position done polled client call answered past (Opening begins old steps) fits = fits
work_answered trace position done polled client call answered past Asking fits = tt
work_answered trace position done polled client call answered past (Looking row reading marked_at) fits = fits
work_answered trace position done polled client call answered past (Taking asked) fits = fits
work_answered trace position done polled client call answered past (Writing storing) fits =
    record { asked = fits.asked; marked = fits.marked; replied = fits.replied; taken = fits.taken; numbered = fits.numbered; earlier = fits.earlier }

answer_holds : (trace : Trace) (host : HostRun) (segment : SegmentRun) (daemon : DaemonRun) (clients : List ClientRun) (past : List Event) (client call : ℕ) (answered : Option Answered)
    (has_done : (0 < host.done) × (host.done ≤ length trace.host)) (h : DaemonHolds trace segment.base segment.position segment.is_writing host.done daemon.polled daemon.work past)
    → AnswerTells trace host segment past has_done.1 h.stands answered → AllFit trace segment.base segment.position host.done past clients
    → Holds trace host segment daemon clients (reverse (answer_events client call answered) ++ past)
answer_holds trace host segment daemon clients past client call None has_done h tells fit = record { has_done = has_done; daemon_holds = h; clients_fit = fit }
answer_holds trace host segment daemon clients past client call (Some answered) has_done h tells fit =
    record {
      has_done = has_done;
      daemon_holds = record {
        stands = record { within = h.stands.within; readable = h.stands.readable; few = h.stands.few; stood = h.stands.stood };
        earlier = h.earlier;
        fits = work_answered trace segment.position host.done daemon.polled client call answered past daemon.work h.fits;
        tells = (tells, h.tells);
      };
      clients_fit = all_more trace segment.base segment.position host.done past segment.base segment.position host.done (events.Answered client call answered.answer answered.trail ∷ past) clients (omega arith)
          (record { same = refl; rises = omega arith; made = omega arith; stood = λ n clock_at low stood. stood }) fit;
    }

client_next : (trace : Trace) (run : Run) (client : ℕ) (old : ClientRun) (h : RunHolds trace run) → CallFits trace run.segment.base run.segment.position run.host.done (reverse run.events) old.call
    → RunHolds trace (with_client run client (run_client.client_turn trace run.host run.segment old))
client_next trace run client old h fits =
    let next = run_client.client_turn trace run.host run.segment old in
    let is : ClientTells trace run.host run.segment (reverse run.events) h.has_done.1 h.daemon_holds.stands next =
    client_tells trace run.host run.segment (reverse run.events) h.has_done.1 h.daemon_holds.stands old fits in
    subst (Holds trace run.host run.segment run.daemon (slice_set run.clients (client - 1) next.client)) (sym (reverse-append run.events (answer_events client next.client.begun next.answered)))
    (answer_holds trace run.host run.segment run.daemon (slice_set run.clients (client - 1) next.client) (reverse run.events) client next.client.begun next.answered h.has_done h.daemon_holds is.tells
    (all_set trace run.segment.base run.segment.position run.host.done (reverse run.events) run.clients (client - 1) next.client is.fits h.clients_fit))

client_holds : (trace : Trace) (run : Run) (place : ℕ) (old : Option ClientRun) → slice_get run.clients place ≡ old → RunHolds trace run → RunHolds trace (client_turn_in trace run (suc place) old)
client_holds trace run place None at h = h
client_holds trace run place (Some old) at h =
    client_next trace run (suc place) old h (one_of trace run.segment.base run.segment.position run.host.done (reverse run.events) run.clients place old at h.clients_fit)

-- ---- the whole run

pub turn_holds : (trace : Trace) (run : Run) (who : Party) → RunHolds trace run → RunHolds trace (turn trace run who)
turn_holds trace run Host h =
    let bounds = host_bounds trace.host run.host (slice_get trace.host run.host.done) refl h.has_done.1 in
    host_holds trace run.host (host_turn trace.host run.host) run.segment run.daemon run.clients (reverse run.events) bounds.0 bounds.1 h
turn_holds trace run Daemon h =
    daemon_next trace run (daemon_turn trace run.host run.segment run.daemon) h.has_done
    (daemon_tells trace run.host run.segment run.daemon (reverse run.events) h.has_done h.daemon_holds) h
turn_holds trace run (Client zero) h = h
turn_holds trace run (Client (suc place)) h = client_holds trace run place (slice_get run.clients place) refl h

-- the image's record stands at its position
kept_stands : (trace : Trace) (generation : ℕ) (found : Start) → start_of trace.image ≡ found → is_kept_at (generation / 2) found ≡ true
    → Stands trace (generation / 2 - 1) (generation / 2) false 1 []
kept_stands trace generation found is kept =
    record {
      within = omega arith;
      readable = λ off some. omega (arith, some);
      few = omega arith;
      stood = λ n low high. (let same : generation / 2 ≡ n = omega (arith, low, high) in subst (λ (k : ℕ). is_kept_at k (start_of trace.image) ≡ true) same (rw is kept));
    }

image_stands : (trace : Trace) (found : Start) → start_of trace.image ≡ found
    → Stands trace (segment_by trace.layout trace.image (count_of trace.page) found).base (segment_by trace.layout trace.image (count_of trace.page) found).position
    (segment_by trace.layout trace.image (count_of trace.page) found).is_writing 1 []
image_stands trace Fresh is = record { within = omega arith; readable = λ off some. absurd (some refl); few = omega arith; stood = λ n low high. absurd (omega (arith, low, high)) }
image_stands trace (Torn generation) is = record { within = omega arith; readable = λ off some. absurd (cc off); few = omega arith; stood = λ n low high. absurd (omega (arith, low, high)) }
image_stands trace (Kept generation rec) is = kept_stands trace generation (Kept generation rec) is (grind (arith, nat_tests))

some_rows : (rows : List HostRow) → take 1 rows ≡ Clock 1 ∷ [] → 1 ≤ length rows
some_rows [] begins = absurd (cc begins)
some_rows (row ∷ rows) begins = omega arith

pub start_holds : (trace : Trace) → IsLawfulTrace trace → RunHolds trace (start trace)
start_holds trace lawful =
    record {
      has_done = (omega arith, some_rows trace.host lawful.host.begins);
      daemon_holds = record { stands = image_stands trace (start_of trace.image) refl; earlier = tt; fits = tt; tells = tt };
      clients_fit = none_begun trace (start trace).segment.base (start trace).segment.position 1 [] (range_with_len 1 trace.clients);
    }

-- what the events of every lawful trace's run tell
pub lawful_runs_tell : (trace : Trace) → IsLawfulTrace trace → AllTell trace (reverse (run_of trace).events)
lawful_runs_tell trace lawful = (run_keeps trace (RunHolds trace) (λ run who h. turn_holds trace run who h) (start trace) (start_holds trace lawful)).daemon_holds.tells
