-- Each turn of any party keeps what the events of a run tell.
use Rattle.std.proofs.Common.{◌≡◌, ℕ, zero, suc, ◌+◌, ◌-◌, ◌<◌, ◌≤◌, Bool, true, false, List, [], ◌∷◌, ◌++◌, length, Option, Some, None, refl, sym, ◌∙◌, subst, arith}
use Rattle.std.specs.Prelude.{◌==◌, ◌/◌, ◌^◌, reverse, slice_get, slice_set, slice_index, slice_index_or, if◌then◌else◌}
use Rattle.std.specs.List.{range_with_len}
use Rattle.std.proofs.lemmas.List.{reverse-append}
use Rattle.generation_word.specs.Header.{header_of}
use Rattle.clock_gate.specs.declared.trace.HostRow.{HostRow}
use Rattle.clock_gate.specs.declared.trace.HostRow.TheVariants.{Clock, Page, Disrupt}
use Rattle.clock_gate.specs.declared.trace.Party.{Party}
use Rattle.clock_gate.specs.declared.trace.Party.TheVariants.{Host, Daemon, Client}
use Rattle.clock_gate.specs.declared.trace.Trace.{Trace}
use Rattle.vmclock_page.specs.Host.{count_of}
use Rattle.segment_layout.specs.declared.publication.Publication.{Publication}
use Rattle.segment_layout.specs.declared.start.Start.{Start}
use Rattle.segment_layout.specs.declared.start.Start.TheVariants.{Fresh, Kept, Torn}
use Rattle.segment_layout.specs.Image.{start_of}
use Rattle.segment_layout.proofs.Admitted.{image_of-start}
use Rattle.segment_run.specs.SegmentRun.{SegmentRun, segment_by, image_publication, no_publication}
use Rattle.segment_run.proofs.SegmentStart.{kept_number}
use Rattle.abstract_run.specs.declared.event.Event.{Event}
use Rattle.abstract_run.specs.declared.event.Event.TheVariants as events
use Rattle.abstract_run.specs.Run.{Run, turn, turns_by, start, with_client, answer_events, client_turn_in}
use Rattle.abstract_run.specs.HostRun.{HostRun, pages_at, row_turn, host_turn}
use Rattle.abstract_run.specs.DaemonRun.{Life, Work, Resting, Opening, Asking, Looking, Taking, Writing, DaemonRun, daemon_turn}
use Rattle.abstract_run.specs.ClientRun as run_client
use Rattle.abstract_run.specs.ClientRun.{Answered, ClientRun, ClientTurn}
use Rattle.abstract_run.specs.Given.{CanRun}
use Rattle.abstract_run.proofs.RunFactsClient.{CallFits}
use Rattle.abstract_run.proofs.RunFactsHold.{AllFit, RunHolds, turn_holds, start_holds}
use Rattle.abstract_run.proofs.RunFactsBaseTurn.{Based, based_same, daemon_based}
use Rattle.run_promises.specs.Told.{KnowsPoll}
use Rattle.run_promises.proofs.PollNumbers.{Numbered, turn_numbered}
use Rattle.run_promises.proofs.PageReads.{turn_pages, look_later}
use Rattle.run_promises.proofs.Segments.{entry_at}
use Rattle.run_promises.proofs.DaemonStates.{WorkMarked, DaemonMarked, daemon_same}
use Rattle.run_promises.proofs.Daemons.{TurnMarked, daemon_marked}
use Rattle.run_promises.proofs.Clients.{CallStands, AllStandIn, all_host, all_later, one_of, all_set, none_begun, AnsweredTells, ClientTold, client_told}

abbrev pub RunBased : Trace → Run → Type 0
RunBased trace run = Based trace run.segment run.daemon (reverse run.events)

pub record Marked (trace : Trace) (host : HostRun) (segment : SegmentRun) (daemon : DaemonRun) (clients : List ClientRun) (past : List Event) : Type 0 where
  pub begun : 0 < host.done
  pub numbered : Numbered trace daemon
  pub layout : segment.layout ≡ trace.layout
  pub daemon_is : DaemonMarked trace host segment daemon past
  pub clients_are : AllStandIn trace host segment clients

abbrev pub RunMarked : Trace → Run → Type 0
RunMarked trace run = Marked trace run.host run.segment run.daemon run.clients (reverse run.events)

-- ---- a turn of the host

store_done : (host : HostRun) (last : Bool) → host.done ≤ (if last then record { done = host.done + 1; stores = 0 } else record host { stores = host.stores + 1 }).done
store_done host true = omega arith
store_done host false = omega arith

row_done : (host : HostRun) (row : Option HostRow) → host.done ≤ (row_turn host row).done
row_done host None = omega arith
row_done host (Some (Clock number)) = omega arith
row_done host (Some (Page words)) = store_done host (host.stores == 12)
row_done host (Some Disrupt) = omega arith

work_host : (trace : Trace) (old host : HostRun) (is_headed : Bool) (past : List Event) (life : Option Life) (number : ℕ) (work : Work) → pages_at trace.host old.done ≤ pages_at trace.host host.done
    → WorkMarked trace old is_headed past life number work → WorkMarked trace host is_headed past life number work
work_host trace old host is_headed past life number Resting more is = is
work_host trace old host is_headed past life number (Opening begins header steps) more is = is
work_host trace old host is_headed past life number Asking more is = is
work_host trace old host is_headed past life number (Looking row reading marked_at) more is = (is.0, is.1, look_later trace.host old host marked_at reading.try more is.2)
work_host trace old host is_headed past life number (Taking asked) more is = is
work_host trace old host is_headed past life number (Writing storing) more is = is

host_marked : (trace : Trace) (run : Run) → RunMarked trace run → Marked trace (host_turn trace.host run.host) run.segment run.daemon run.clients (reverse run.events)
host_marked trace run is =
    let next : HostRun = host_turn trace.host run.host in
    let more = turn_pages trace.host run.host in
    let later = row_done run.host (slice_get trace.host run.host.done) in
    let before = is.begun in
    record {
      begun = omega (arith, before, later);
      numbered = is.numbered;
      layout = is.layout;
      daemon_is = record {
        stands = is.daemon_is.stands;
        work = work_host trace run.host next run.segment.is_headed (reverse run.events) run.daemon.life run.daemon.base run.daemon.work more is.daemon_is.work;
        all = is.daemon_is.all;
      };
      clients_are = all_host trace run.host next (row_done run.host (slice_get trace.host run.host.done)) more run.segment run.clients is.clients_are;
    }

-- ---- a turn of the daemon

daemon_next : (trace : Trace) (run : Run) → RunHolds trace run → RunMarked trace run → RunMarked trace (turn trace run Daemon)
daemon_next trace run holds is =
    let next = daemon_turn trace run.host run.segment run.daemon in
    let told : TurnMarked trace run.host run.segment (reverse run.events) next =
    daemon_marked trace run.host run.segment run.daemon (reverse run.events) is.daemon_is holds.daemon_holds.fits holds.daemon_holds.earlier is.begun is.numbered in
    subst (Marked trace run.host next.segment next.daemon run.clients) (sym (reverse-append run.events next.events))
    (record {
      begun = is.begun;
      numbered = turn_numbered trace run.host run.segment run.daemon is.numbered;
      layout = told.left.later.same_layout ∙ is.layout;
      daemon_is = record { stands = told.left.marked; work = told.work; all = told.all };
      clients_are = all_later trace run.host run.segment next.segment told.left.later is.daemon_is.stands.known told.left.marked.known run.clients is.clients_are;
    })

-- ---- a turn of a client

fits_of : (trace : Trace) (base position done : ℕ) (past : List Event) (clients : List ClientRun) (place : ℕ) (client : ClientRun) → slice_get clients place ≡ Some client
    → AllFit trace base position done past clients → CallFits trace base position done past client.call
fits_of trace base position done past [] place client at fit = absurd (cc at)
fits_of trace base position done past (first ∷ clients) zero client at fit =
    let same : first ≡ client = cc at in subst (λ (c : ClientRun). CallFits trace base position done past c.call) same fit.0
fits_of trace base position done past (first ∷ clients) (suc place) client at fit = fits_of trace base position done past clients place client at fit.1

answer_marked : (trace : Trace) (host : HostRun) (segment : SegmentRun) (daemon : DaemonRun) (clients : List ClientRun) (past : List Event) (client call : ℕ) (answered : Option Answered)
    (begun : 0 < host.done) (numbered : Numbered trace daemon) (layout : segment.layout ≡ trace.layout) (is : DaemonMarked trace host segment daemon past)
    → AnsweredTells trace host segment past layout is.stands.stand answered → AllStandIn trace host segment clients
    → Marked trace host segment daemon clients (reverse (answer_events client call answered) ++ past)
answer_marked trace host segment daemon clients past client call None begun numbered layout is tells stand = record { begun = begun; numbered = numbered; layout = layout; daemon_is = is; clients_are = stand }
answer_marked trace host segment daemon clients past client call (Some answered) begun numbered layout is tells stand =
    record {
      begun = begun;
      numbered = numbered;
      layout = layout;
      daemon_is = daemon_same trace host segment daemon past (events.Answered client call answered.answer answered.trail ∷ past)
          (record { by = λ n. refl; at = λ n. refl }) is.stands.stand (tells, is.all) is;
      clients_are = stand;
    }

client_next : (trace : Trace) (run : Run) (client : ℕ) (old : ClientRun) → CallFits trace run.segment.base run.segment.position run.host.done (reverse run.events) old.call
    → CallStands trace run.host run.segment old.call → RunMarked trace run → RunMarked trace (with_client run client (run_client.client_turn trace run.host run.segment old))
client_next trace run client old fits stands is =
    let next = run_client.client_turn trace run.host run.segment old in
    let told : ClientTold trace run.host run.segment (reverse run.events) is.layout is.daemon_is.stands.stand next =
    client_told trace run.host run.segment (reverse run.events) is.layout is.daemon_is.stands.stand old fits stands in
    subst (Marked trace run.host run.segment run.daemon (slice_set run.clients (client - 1) next.client)) (sym (reverse-append run.events (answer_events client next.client.begun next.answered)))
    (answer_marked trace run.host run.segment run.daemon (slice_set run.clients (client - 1) next.client) (reverse run.events) client next.client.begun next.answered is.begun is.numbered is.layout is.daemon_is told.tells
    (all_set trace run.host run.segment run.clients (client - 1) next.client told.stands is.clients_are))

client_marked : (trace : Trace) (run : Run) (place : ℕ) (old : Option ClientRun) → slice_get run.clients place ≡ old → RunHolds trace run → RunMarked trace run
    → RunMarked trace (client_turn_in trace run (suc place) old)
client_marked trace run place None at holds is = is
client_marked trace run place (Some old) at holds is =
    client_next trace run (suc place) old (fits_of trace run.segment.base run.segment.position run.host.done (reverse run.events) run.clients place old at holds.clients_fit)
    (one_of trace run.host run.segment run.clients place old at is.clients_are) is

turn_marked : (trace : Trace) (run : Run) (who : Party) → RunHolds trace run → RunMarked trace run → RunMarked trace (turn trace run who)
turn_marked trace run Host holds is = host_marked trace run is
turn_marked trace run Daemon holds is = daemon_next trace run holds is
turn_marked trace run (Client zero) holds is = is
turn_marked trace run (Client (suc place)) holds is = client_marked trace run place (slice_get run.clients place) refl holds is

-- ---- bases

answer_based : (trace : Trace) (segment : SegmentRun) (daemon : DaemonRun) (past : List Event) (client call : ℕ) (answered : Option Answered) → Based trace segment daemon past
    → Based trace segment daemon (reverse (answer_events client call answered) ++ past)
answer_based trace segment daemon past client call None h = h
answer_based trace segment daemon past client call (Some answered) h =
    based_same trace segment daemon past (events.Answered client call answered.answer answered.trail ∷ past) (λ n. refl) h.all h

client_based : (trace : Trace) (run : Run) (client : ℕ) (next : ClientTurn) → RunBased trace run → RunBased trace (with_client run client next)
client_based trace run client next h =
    subst (Based trace run.segment run.daemon) (sym (reverse-append run.events (answer_events client next.client.begun next.answered)))
    (answer_based trace run.segment run.daemon (reverse run.events) client next.client.begun next.answered h)

turn_in_based : (trace : Trace) (run : Run) (client : ℕ) (old : Option ClientRun) → RunBased trace run → RunBased trace (client_turn_in trace run client old)
turn_in_based trace run client None h = h
turn_in_based trace run client (Some old) h = client_based trace run client (run_client.client_turn trace run.host run.segment old) h

turn_based : (trace : Trace) (run : Run) (who : Party) → RunHolds trace run → RunBased trace run → RunBased trace (turn trace run who)
turn_based trace run Host holds h = h
turn_based trace run Daemon holds h =
    let next = daemon_turn trace run.host run.segment run.daemon in
    subst (Based trace next.segment next.daemon) (sym (reverse-append run.events next.events))
    (daemon_based trace run.host run.segment run.daemon (reverse run.events) h holds.daemon_holds)
turn_based trace run (Client zero) holds h = h
turn_based trace run (Client (suc place)) holds h = turn_in_based trace run (suc place) (slice_get run.clients place) h

-- ---- the start

module _ (trace : Trace) where
  abbrev begun : Start → SegmentRun
  begun found = segment_by trace.layout trace.image (count_of trace.page) found

  begun_layout : (found : Start) → (begun found).layout ≡ trace.layout
  begun_layout Fresh = refl
  begun_layout (Torn generation) = refl
  begun_layout (Kept generation rec) = refl

  begun_known : (found : Start) → start_of trace.image ≡ found → length (begun found).history + (begun found).base ≡ (begun found).position
  begun_known Fresh is = refl
  begun_known (Torn generation) is = omega arith
  begun_known (Kept generation rec) is =
      let number = kept_number trace.image (header_of (slice_index trace.image 1)).2 generation rec is in
      let even = number.0 in
      let some = number.1 in
      omega (arith, even, some)

  -- the image's record has no base of a poll
  none_based : (place : ℕ) → (slice_index_or [] place no_publication).base ≡ 0
  none_based zero = refl
  none_based (suc place) = refl

  one_based : (publication : Publication) (place : ℕ) → publication.base ≡ 0 → (slice_index_or (publication ∷ []) place no_publication).base ≡ 0
  one_based publication zero is = is
  one_based publication (suc place) is = none_based place

  begun_based : (found : Start) (position : ℕ) → (entry_at (begun found).base (begun found).history position).base ≡ 0
  begun_based Fresh position = none_based (position - 0 - 1)
  begun_based (Torn generation) position = none_based (position - generation / 2 - 1)
  begun_based (Kept generation rec) position = one_based (image_publication (count_of trace.page) generation rec) (position - (generation / 2 - 1) - 1) refl

  -- without a record in the image
  begun_fresh : (found : Start) → found ≡ Fresh → (begun found).position ≡ 0
  begun_fresh found is = subst (λ (f : Start). (begun f).position ≡ 0) (sym is) refl

  begun_knows : (found : Start) → found ≡ Fresh → KnowsPoll (entry_at (begun found).base (begun found).history (begun found).position).rec.status 0
  begun_knows found is =
      subst (λ (f : Start). KnowsPoll (entry_at (begun f).base (begun f).history (begun f).position).rec.status 0) (sym is) (λ known calm. absurd (known refl))

  start_marked : RunMarked trace (start trace)
  start_marked =
      let found = start_of trace.image in
      record {
        begun = omega arith;
        numbered = record { most = omega arith; begun = λ off. absurd (cc off) };
        layout = begun_layout found;
        daemon_is = record {
          stands = record {
            known = begun_known found refl;
            stand = tt;
            top = begun_based found (begun found).position;
            fresh = λ off. refl;
            unheaded = λ none off. begun_fresh found (image_of-start trace.layout trace.image Fresh none);
            knows = λ none. begun_knows found (image_of-start trace.layout trace.image Fresh none);
            others = λ n low high untold. begun_based found n;
            last = λ some. absurd (omega (arith, some));
          };
          work = tt;
          all = tt;
        };
        clients_are = none_begun trace (start trace).host (start trace).segment (range_with_len 1 trace.clients);
      }

  start_based : RunBased trace (start trace)
  start_based =
      record {
        stands = record { known = begun_known (start_of trace.image) refl; last = λ some. absurd (omega (arith, some)) };
        work = tt;
        all = tt;
      }

-- ---- any turns

pub record RunTells (trace : Trace) (run : Run) : Type 0 where
  pub holds : RunHolds trace run
  pub based : RunBased trace run
  pub marked : RunMarked trace run

pub turn_tells : (trace : Trace) (run : Run) (who : Party) → RunTells trace run → RunTells trace (turn trace run who)
turn_tells trace run who is =
    record { holds = turn_holds trace run who is.holds; based = turn_based trace run who is.holds is.based; marked = turn_marked trace run who is.holds is.marked }

pub start_tells : (trace : Trace) → CanRun trace → slice_index trace.image 1 < 2 ^ 64 → RunTells trace (start trace)
start_tells trace can fits = record { holds = start_holds trace can.lawful; based = start_based trace; marked = start_marked trace }

turns_tell : (trace : Trace) (parties : List Party) (run : Run) → RunTells trace run → RunTells trace (turns_by trace run parties)
turns_tell trace [] run is = is
turns_tell trace (who ∷ parties) run is = turns_tell trace parties (turn trace run who) (turn_tells trace run who is)

-- what holds after any turns
pub any_run_tells : (trace : Trace) (parties : List Party) → CanRun trace → slice_index trace.image 1 < 2 ^ 64 → RunTells trace (turns_by trace (start trace) parties)
any_run_tells trace parties can fits = turns_tell trace parties (start trace) (start_tells trace can fits)
