-- The stores of a poll: what is in hand after each shows the run's publication, or its end, or the stop.
use Rattle.std.proofs.Common.{◌≡◌, ◌≢◌, ℕ, ◌+◌, ◌≤◌, ◌<◌, Bool, true, false, [], ◌∷◌, Option, Some, None, refl, ap, sym, ◌∙◌, subst, arith, inl, inr}
use Rattle.std.specs.Prelude.{◌==◌, if◌then◌else◌, IfSome}
use Rattle.std.proofs.lemmas.Bool.{cases_lt, cases_eq}
use Rattle.std.proofs.lemmas.Bool.Decides.{nat_tests}
use Rattle.generation_word.specs.declared.layout.Layout.{Layout}
use Rattle.generation_word.specs.Layout.{period_of}
use Rattle.generation_word.specs.Numbering.{even_after}
use Rattle.clock_gate.specs.declared.trace.Trace.{Trace}
use Rattle.segment_layout.specs.declared.publication.Publication.{Publication}
use Rattle.segment_run.specs.SegmentRun.{SegmentRun, number_shown, number_at}
use Rattle.shm_writer.specs.Publisher.{Publishing}
use Rattle.writer_reopen.specs.declared.order.Order.{Order}
use Rattle.writer_reopen.specs.declared.polled.Polled.{Polled}
use Rattle.writer_reopen.specs.declared.polled.Polled.TheVariants as polled
use Rattle.writer_reopen.specs.declared.stage.Stage.TheVariants as stages
use Rattle.writer_reopen.specs.declared.stage.Taken.{Taken}
use Rattle.writer_reopen.specs.Poll.{storing_of}
use Rattle.writer_reopen.specs.PollMachine.{IsUpdate}
use Rattle.writer_reopen.specs.Progress.{end_of}
use Rattle.writer_reopen.proofs.Cut.{end_published, end_stopped, end_past_ten}
use Rattle.abstract_run.specs.declared.event.Event.TheVariants as events
use Rattle.abstract_run.specs.HostRun.{HostRun}
use Rattle.abstract_run.specs.DaemonRun.{Storing, Resting, Writing, DaemonRun, poll_row, is_stop, stops, published, publication_ends, after_stores}
use Rattle.step_core.specs.declared.hand.Polling.{Polling}
use Rattle.step_core.specs.declared.hand.Hand.TheVariants as hands
use Rattle.step_core.specs.declared.marks.PollMarks.{PollMarks}
use Rattle.step_core.specs.SharedDaemon as shared_daemon
use Rattle.step_core.specs.SharedDaemon.{DaemonState, stops_at_last, resumed_unless, stop_told, polling_by, polling_with}
use Rattle.step_core.specs.ShowsDaemon.{IsAlive, IsOrder, IsStoring, IsMarkedAt}
use Rattle.step_core.proofs.SegmentStore.{IsInStores}
use Rattle.step_core.proofs.DaemonLeaves.{Leaves, resumed_is, order_same}

-- ---- where a poll ends

-- what a poll comes to after so many stores
abbrev pub stores_end : Option ℕ → Taken → ℕ → Option Polled
stores_end stop taken made =
    if made == 10 then Some (polled.Published taken.daemon taken.publication)
    else if is_stop stop made then Some (polled.Stopped made)
    else None

stopped_same : (made stop : ℕ) (taken : Taken) → made ≤ stop → stop < 10 → (if made == stop then Some (polled.Stopped stop) else None) ≡ stores_end (Some stop) taken made
stopped_same made stop taken within few =
    let open_yet : (made == 10) ≡ false = grind (arith, nat_tests) in
    elim (cases_eq made stop) [
      | inl same ↦
          (let here : (made == stop) ≡ true = grind (arith, nat_tests) in
          let there : (stop == made) ≡ true = grind (arith, nat_tests) in
          rw (open_yet, here, there) (ap (λ (n : ℕ). Some (polled.Stopped n)) (sym same)))
      | inr other ↦
          (let here : (made == stop) ≡ false = grind (arith, nat_tests) in
          let there : (stop == made) ≡ false = grind (arith, nat_tests) in
          rw (open_yet, here, there) refl)
    ]

past_same : (made stop : ℕ) (taken : Taken) → made ≤ 10 → 10 ≤ stop
    → (if made == 10 then Some (polled.Published taken.daemon taken.publication) else None) ≡ stores_end (Some stop) taken made
past_same made stop taken most past =
    elim (cases_eq made 10) [
      | inl full ↦ (let here : (made == 10) ≡ true = grind (arith, nat_tests) in rw here refl)
      | inr less ↦
          (let here : (made == 10) ≡ false = grind (arith, nat_tests) in
          let there : (stop == made) ≡ false = grind (arith, nat_tests) in
          rw (here, there) refl)
    ]

ends_by : (order : Order) (taken : Taken) (update : Publishing) (stop : Option ℕ) → IsUpdate order taken update → order.stop ≡ stop
    → end_of (storing_of order taken update.made) ≡ stores_end stop taken update.made
ends_by order taken update None is told = end_published order taken update is told
ends_by order taken update (Some stop) is told =
    let within : update.made ≤ stop = subst (λ (s : Option ℕ). IfSome s (λ n. update.made ≤ n)) told is.until in
    elim (cases_lt stop 10) [
      | inl few ↦ end_stopped order taken update stop is told few ∙ stopped_same update.made stop taken within few
      | inr past ↦ end_past_ten order taken update stop is told past ∙ past_same update.made stop taken is.most past
    ]

-- ---- after so many stores

-- the poll in hand at its stores
abbrev pub in_stores : Order → Taken → Storing → Option ℕ → PollMarks → Polling
in_stores order taken storing stop marks =
    record {
      machine = record { order = order; stage = stages.Storing taken (record { rec = storing.publication.rec; layout = order.layout; generation = order.generation; made = storing.stores }) };
      stop = stop;
      marks = marks;
    }

-- so many stores of a publication are made, of which nothing is told yet
pub record IsMade (trace : Trace) (segment : SegmentRun) (run : DaemonRun) (storing : Storing) (order : Order) (daemon : DaemonState) (taken : Taken) (stop : Option ℕ) (marks : PollMarks) : Type 0 where
  pub order_is : IsOrder trace run order
  pub alive : IsAlive trace run.life taken.daemon
  pub same_layout : order.layout ≡ segment.layout
  pub same_publication : taken.publication ≡ storing.publication
  pub same_stop : stop ≡ (poll_row trace run).stop
  pub marked : IsMarkedAt storing.marked_at marks
  pub replied : marks.replied_at ≡ storing.replied_at
  pub until : IfSome (poll_row trace run).stop (λ s. storing.stores ≤ s)
  pub most : storing.stores ≤ 10
  pub same_polled : daemon.polled ≡ run.polled
  pub same_base : daemon.base ≡ run.base
  pub goes : storing.stores < 10 → IsInStores segment storing.publication order.generation storing.stores
      × ((storing.publication.generation ≡ number_at segment (segment.position + 1)) × (daemon.position ≡ segment.position))
  pub ended : storing.stores ≡ 10 → (storing.publication.generation ≡ number_shown segment) × (daemon.position + 1 ≡ segment.position)

-- a stop that isn't reached lies further on
further : (stop : Option ℕ) (made : ℕ) → IfSome stop (λ s. made ≤ s) → is_stop stop made ≡ false → IfSome stop (λ s. made < s)
further None made within other = tt
further (Some stop) made within other = (let differs : stop ≢ made = grind (arith, nat_tests) in omega (arith, within, differs))

last_same : (stop : Option ℕ) → stops_at_last stop ≡ is_stop stop 10
last_same None = refl
last_same (Some stop) = refl

-- the daemon after its last store
abbrev pub after_last : DaemonState → (at_last : Bool) → PollMarks → Taken → shared_daemon.DaemonTurn
after_last daemon at_last marks taken =
    record {
      daemon = record daemon {
        hand = hands.Resting;
        resumed = resumed_unless at_last (record { daemon = taken.daemon; generation = taken.publication.generation });
        base = taken.publication.base;
        position = daemon.position + 1;
      };
      told = events.Published (daemon.position + 1) taken.publication marks.marked_at marks.replied_at ∷ stop_told at_last daemon.polled;
    }

last_shows : (trace : Trace) (host : HostRun) (segment : SegmentRun) (run : DaemonRun) (storing : Storing) (order : Order) (daemon : DaemonState) (taken : Taken) (stop : Option ℕ) (marks : PollMarks) (at_last : Bool)
    → IsMade trace segment run storing order daemon taken stop marks → storing.stores ≡ 10
    → Leaves trace host
    (if at_last then stops trace segment (record run { base = storing.publication.base }) 10 (published run segment storing ∷ events.Stopped run.polled 10 ∷ [])
    else record { segment = segment; daemon = record run { work = Resting; base = storing.publication.base }; events = published run segment storing ∷ [] })
    (after_last daemon at_last marks taken)
last_shows trace host segment run storing order daemon taken stop marks true is full =
    let place : daemon.position + 1 ≡ segment.position = (is.ended full).1 in
    record {
      shows = record { same_polled = is.same_polled; same_base = ap (λ (p : Publication). p.base) is.same_publication; same_position = place; work = tt; idle = tt };
      told = rw (place, is.same_publication, is.marked.marked, is.replied, is.same_polled) refl;
    }
last_shows trace host segment run storing order daemon taken stop marks false is full =
    let place : daemon.position + 1 ≡ segment.position = (is.ended full).1 in
    record {
      shows = record {
        same_polled = is.same_polled;
        same_base = ap (λ (p : Publication). p.base) is.same_publication;
        same_position = place;
        work = tt;
        idle =
            resumed_is trace segment run.life (record { daemon = taken.daemon; generation = taken.publication.generation }) is.alive
            (ap (λ (p : Publication). p.generation) is.same_publication ∙ (is.ended full).0);
      };
      told = rw (place, is.same_publication, is.marked.marked, is.replied) refl;
    }

ends_shows : (trace : Trace) (host : HostRun) (segment : SegmentRun) (run : DaemonRun) (storing : Storing) (order : Order) (daemon : DaemonState) (taken : Taken) (stop : Option ℕ) (marks : PollMarks)
    → IsMade trace segment run storing order daemon taken stop marks → storing.stores ≡ 10
    → Leaves trace host (publication_ends trace segment run storing) (after_last daemon (stops_at_last stop) marks taken)
ends_shows trace host segment run storing order daemon taken stop marks is full =
    subst (λ (at_last : Bool). Leaves trace host (publication_ends trace segment run storing) (after_last daemon at_last marks taken))
    (sym (last_same stop ∙ ap (λ (s : Option ℕ). is_stop s 10) is.same_stop))
    (last_shows trace host segment run storing order daemon taken stop marks (is_stop (poll_row trace run).stop 10) is full)

storing_is : (trace : Trace) (segment : SegmentRun) (run : DaemonRun) (storing : Storing) (order : Order) (daemon : DaemonState) (taken : Taken) (stop : Option ℕ) (marks : PollMarks)
    → IsMade trace segment run storing order daemon taken stop marks → storing.stores < 10 → is_stop (poll_row trace run).stop storing.stores ≡ false
    → IsStoring trace segment (record run { work = Writing storing }) storing order taken.daemon
storing_is trace segment run storing order daemon taken stop marks is few other =
    let in_stores_is = (is.goes few).0 in
    record {
      order_is = order_same trace run (record run { work = Writing storing }) order refl is.order_is;
      alive = is.alive;
      odd = in_stores_is.odd;
      even = subst (λ (layout : Layout). even_after (period_of layout) order.generation ≡ number_at segment (segment.position + 1)) (sym is.same_layout) in_stores_is.even;
      told = (is.goes few).1.0;
      writes = in_stores_is.writes;
      begun = in_stores_is.begun;
      few = few;
      until = further (poll_row trace run).stop storing.stores is.until other;
      bounds = in_stores_is.bounds;
    }

goes_shows : (trace : Trace) (host : HostRun) (segment : SegmentRun) (run : DaemonRun) (storing : Storing) (order : Order) (daemon : DaemonState) (taken : Taken) (stop : Option ℕ) (marks : PollMarks)
    → IsMade trace segment run storing order daemon taken stop marks → storing.stores < 10 → is_stop (poll_row trace run).stop storing.stores ≡ false
    → Leaves trace host (record { segment = segment; daemon = record run { work = Writing storing }; events = [] })
    (record { daemon = record daemon { hand = hands.Polling (in_stores order taken storing stop marks) }; told = [] })
goes_shows trace host segment run storing order daemon taken stop marks is few other =
    record {
      shows = record {
        same_polled = is.same_polled;
        same_base = is.same_base;
        same_position = (is.goes few).1.1;
        work = (is.same_stop, (storing_is trace segment run storing order daemon taken stop marks is few other, (is.same_publication, (refl, (is.marked, is.replied)))));
        idle = tt;
      };
      told = refl;
    }

stops_shows : (trace : Trace) (host : HostRun) (segment : SegmentRun) (run : DaemonRun) (storing : Storing) (order : Order) (daemon : DaemonState) (taken : Taken) (stop : Option ℕ) (marks : PollMarks)
    → IsMade trace segment run storing order daemon taken stop marks → storing.stores < 10
    → Leaves trace host (stops trace segment run storing.stores (events.Stopped run.polled storing.stores ∷ []))
    (record { daemon = record daemon { hand = hands.Resting; resumed = None }; told = events.Stopped daemon.polled storing.stores ∷ [] })
stops_shows trace host segment run storing order daemon taken stop marks is few =
    record {
      shows = record { same_polled = is.same_polled; same_base = is.same_base; same_position = (is.goes few).1.1; work = tt; idle = tt };
      told = rw is.same_polled refl;
    }

by_tests : (trace : Trace) (host : HostRun) (segment : SegmentRun) (run : DaemonRun) (storing : Storing) (order : Order) (daemon : DaemonState) (taken : Taken) (stop : Option ℕ) (marks : PollMarks) (full reached : Bool)
    → IsMade trace segment run storing order daemon taken stop marks → (storing.stores == 10) ≡ full → is_stop (poll_row trace run).stop storing.stores ≡ reached
    → Leaves trace host
    (if full then publication_ends trace segment run storing
    else if reached then stops trace segment run storing.stores (events.Stopped run.polled storing.stores ∷ [])
    else record { segment = segment; daemon = record run { work = Writing storing }; events = [] })
    (polling_by daemon (in_stores order taken storing stop marks)
    (if full then Some (polled.Published taken.daemon taken.publication) else if reached then Some (polled.Stopped storing.stores) else None))
by_tests trace host segment run storing order daemon taken stop marks true reached is at_end at_stop =
    ends_shows trace host segment run storing order daemon taken stop marks is (grind (arith, nat_tests))
by_tests trace host segment run storing order daemon taken stop marks false true is at_end at_stop =
    let differs : storing.stores ≢ 10 = grind (arith, nat_tests) in
    let most = is.most in
    stops_shows trace host segment run storing order daemon taken stop marks is (omega (arith, differs, most))
by_tests trace host segment run storing order daemon taken stop marks false false is at_end at_stop =
    let differs : storing.stores ≢ 10 = grind (arith, nat_tests) in
    let most = is.most in
    goes_shows trace host segment run storing order daemon taken stop marks is (omega (arith, differs, most)) at_stop

-- what is in hand after so many stores shows what follows on them
pub after_stores_shows : (trace : Trace) (host : HostRun) (segment : SegmentRun) (run : DaemonRun) (storing : Storing) (order : Order) (daemon : DaemonState) (taken : Taken) (stop : Option ℕ) (marks : PollMarks)
    → IsMade trace segment run storing order daemon taken stop marks
    → Leaves trace host (after_stores trace segment run storing) (polling_with daemon (in_stores order taken storing stop marks))
after_stores_shows trace host segment run storing order daemon taken stop marks is =
    let is_update : IsUpdate order taken (record { rec = storing.publication.rec; layout = order.layout; generation = order.generation; made = storing.stores }) =
    record {
      same_record = ap (λ (p : Publication). p.rec) (sym is.same_publication);
      same_layout = refl;
      same_generation = refl;
      most = is.most;
      until = subst (λ (s : Option ℕ). IfSome s (λ n. storing.stores ≤ n)) (sym is.order_is.stop) is.until;
    } in
    let end_is : end_of (storing_of order taken storing.stores) ≡ stores_end (poll_row trace run).stop taken storing.stores =
    ends_by order taken (record { rec = storing.publication.rec; layout = order.layout; generation = order.generation; made = storing.stores }) (poll_row trace run).stop is_update is.order_is.stop in
    subst (λ (found : Option Polled). Leaves trace host (after_stores trace segment run storing) (polling_by daemon (in_stores order taken storing stop marks) found)) (sym end_is)
    (by_tests trace host segment run storing order daemon taken stop marks (storing.stores == 10) (is_stop (poll_row trace run).stop storing.stores) is refl refl)
