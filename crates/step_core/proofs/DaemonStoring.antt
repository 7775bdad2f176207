-- One store of a poll: what is in hand, and the words, show the run after it.
use Rattle.std.proofs.Common.{◌≡◌, ◌≢◌, ℕ, zero, suc, ◌+◌, ◌≤◌, ◌<◌, Bool, true, false, List, [], ◌∷◌, Option, Some, None, refl, ap, sym, ◌∙◌, subst, arith}
use Rattle.std.specs.Prelude.{◌==◌, if◌then◌else◌, slice_index, slice_index_or, IfSome}
use Rattle.std.proofs.lemmas.Bool.Decides.{nat_tests}
use Rattle.generation_word.specs.declared.layout.Layout.{Layout}
use Rattle.generation_word.specs.Layout.{period_of}
use Rattle.generation_word.specs.Numbering.{even_after}
use Rattle.clock_gate.specs.declared.act.Act.{Act}
use Rattle.clock_gate.specs.declared.act.Act.TheVariants.{End}
use Rattle.clock_gate.specs.declared.trace.Trace.{Trace}
use Rattle.segment_layout.specs.declared.publication.Publication.{Publication}
use Rattle.segment_layout.specs.declared.words.TheConstants.{MAGIC}
use Rattle.segment_layout.specs.Record.{RecordFields}
use Rattle.segment_run.specs.SegmentRun.{SegmentRun, number_at, stored_by, stored}
use Rattle.segment_run.specs.ShowsSegment.{ShowsSegment, IsSegmentLater, KeepsRest}
use Rattle.status_machine.specs.declared.daemon.Daemon.{Daemon}
use Rattle.shm_writer.specs.Publisher.{stores}
use Rattle.writer_reopen.specs.declared.order.Order.{Order}
use Rattle.writer_reopen.specs.declared.stage.Taken.{Taken}
use Rattle.writer_reopen.specs.PollMachine.{IsUpdate, polling_act}
use Rattle.writer_reopen.proofs.Cut.{act_before_stop, act_before_ten}
use Rattle.abstract_run.specs.declared.event.Event.TheVariants as events
use Rattle.abstract_run.specs.HostRun.{HostRun}
use Rattle.abstract_run.specs.DaemonRun.{Storing, Resting, Writing, DaemonRun, poll_row, is_stop, stops, published, after_stores, store_step}
use Rattle.step_core.specs.declared.marks.PollMarks.{PollMarks}
use Rattle.step_core.specs.SharedWords.{after_act}
use Rattle.step_core.specs.SharedDaemon.{DaemonState, polling_with, polling_after, noted_poll}
use Rattle.step_core.specs.ShowsDaemon.{IsStoring, IsMarkedAt}
use Rattle.step_core.proofs.SegmentStore.{IsInStores, StoreShows, store_at, store_shows}
use Rattle.step_core.proofs.DaemonLeaves.{Leaves, Turned, magic_while}
use Rattle.step_core.proofs.DaemonStore.{in_stores, IsMade, after_stores_shows}

-- ---- what a store leaves of the marks and of the position

-- a store leaves the marks
store_marks : (host_at : ℕ) (rec : RecordFields) (layout : Layout) (generation made : ℕ) (marks : PollMarks) → noted_poll host_at (slice_index_or (stores rec layout generation) made End) marks ≡ marks
store_marks host_at rec layout generation zero marks = refl
store_marks host_at rec layout generation (suc zero) marks = refl
store_marks host_at rec layout generation (suc (suc zero)) marks = refl
store_marks host_at rec layout generation (suc (suc (suc zero))) marks = refl
store_marks host_at rec layout generation (suc (suc (suc (suc zero)))) marks = refl
store_marks host_at rec layout generation (suc (suc (suc (suc (suc zero))))) marks = refl
store_marks host_at rec layout generation (suc (suc (suc (suc (suc (suc zero)))))) marks = refl
store_marks host_at rec layout generation (suc (suc (suc (suc (suc (suc (suc zero))))))) marks = refl
store_marks host_at rec layout generation (suc (suc (suc (suc (suc (suc (suc (suc zero)))))))) marks = refl
store_marks host_at rec layout generation (suc (suc (suc (suc (suc (suc (suc (suc (suc zero))))))))) marks = refl
store_marks host_at rec layout generation (suc (suc (suc (suc (suc (suc (suc (suc (suc (suc made)))))))))) marks = refl

-- before the last store the position stays
stored_position : (segment : SegmentRun) (publication : Publication) (made : ℕ) → made < 9 → (stored segment publication made).position ≡ segment.position
stored_position segment publication made few =
    let not_last : (made == 9) ≡ false = grind (arith, nat_tests) in
    by_first (made == 0) not_last where
      by_first : (first : Bool) → (made == 9) ≡ false
          → (if first then record segment { is_headed = true; is_writing = true; begun = record { rec = publication.rec; stores = 1 } ∷ segment.begun } else stored_by segment publication made).position ≡ segment.position
      by_first true other = refl
      by_first false other = rw other refl

-- and with it one more publication has ended
stored_last : (segment : SegmentRun) (publication : Publication) (made : ℕ) → made ≡ 9 → (stored segment publication made).position ≡ segment.position + 1
stored_last segment publication made last = rw last refl

-- what follows on a store leaves the segment
by_tests : (trace : Trace) (segment : SegmentRun) (run : DaemonRun) (storing : Storing) (full at_last reached : Bool)
    → (if full then
    (if at_last then stops trace segment (record run { base = storing.publication.base }) 10 (published run segment storing ∷ events.Stopped run.polled 10 ∷ [])
    else record { segment = segment; daemon = record run { work = Resting; base = storing.publication.base }; events = published run segment storing ∷ [] })
    else if reached then stops trace segment run storing.stores (events.Stopped run.polled storing.stores ∷ [])
    else record { segment = segment; daemon = record run { work = Writing storing }; events = [] }).segment ≡ segment
by_tests trace segment run storing true true reached = refl
by_tests trace segment run storing true false reached = refl
by_tests trace segment run storing false at_last true = refl
by_tests trace segment run storing false at_last false = refl

pub after_segment : (trace : Trace) (segment : SegmentRun) (run : DaemonRun) (storing : Storing) → (after_stores trace segment run storing).segment ≡ segment
after_segment trace segment run storing = by_tests trace segment run storing (storing.stores == 10) (is_stop (poll_row trace run).stop 10) (is_stop (poll_row trace run).stop storing.stores)

-- ---- the store

pub in_stores_of : (trace : Trace) (segment : SegmentRun) (run : DaemonRun) (storing : Storing) (order : Order) (taken : Taken) → order.layout ≡ segment.layout
    → IsStoring trace segment run storing order taken.daemon → IsInStores segment storing.publication order.generation storing.stores
in_stores_of trace segment run storing order taken same is =
    record {
      odd = is.odd;
      even = subst (λ (layout : Layout). even_after (period_of layout) order.generation ≡ number_at segment (segment.position + 1)) same is.even;
      writes = is.writes;
      begun = is.begun;
      few = is.few;
      bounds = is.bounds;
    }

reached : (stop : Option ℕ) (made : ℕ) → IfSome stop (λ s. made < s) → IfSome stop (λ s. made + 1 ≤ s)
reached None made before = tt
reached (Some stop) made before = omega (arith, before)

within : (stop : Option ℕ) (made : ℕ) → IfSome stop (λ s. made < s) → IfSome stop (λ s. made ≤ s)
within None made before = tt
within (Some stop) made before = omega (arith, before)

not_reached : (stop : Option ℕ) (made : ℕ) → IfSome stop (λ s. made < s) → stop ≢ Some made
not_reached stop made before same = (let less : made < made = subst (λ (s : Option ℕ). IfSome s (λ n. made < n)) same before in absurd (omega (arith, less)))

update_is : (trace : Trace) (segment : SegmentRun) (run : DaemonRun) (storing : Storing) (order : Order) (taken : Taken) → IsStoring trace segment run storing order taken.daemon → taken.publication ≡ storing.publication
    → IfSome order.stop (λ s. storing.stores < s)
    → IsUpdate order taken (record { rec = storing.publication.rec; layout = order.layout; generation = order.generation; made = storing.stores })
update_is trace segment run storing order taken is same_publication before =
    let few = is.few in
    record {
      same_record = ap (λ (p : Publication). p.rec) (sym same_publication);
      same_layout = refl;
      same_generation = refl;
      most = omega (arith, few);
      until = within order.stop storing.stores before;
    }

stops_later : (trace : Trace) (segment : SegmentRun) (run : DaemonRun) (storing : Storing) (order : Order) (daemon : Daemon) → IsStoring trace segment run storing order daemon → IfSome order.stop (λ s. storing.stores < s)
stops_later trace segment run storing order daemon is = subst (λ (s : Option ℕ). IfSome s (λ n. storing.stores < n)) (sym is.order_is.stop) is.until

-- a poll in its stores wants one more
pub storing_asks : (trace : Trace) (segment : SegmentRun) (run : DaemonRun) (storing : Storing) (order : Order) (taken : Taken) (stop : Option ℕ) (marks : PollMarks)
    → IsStoring trace segment run storing order taken.daemon → taken.publication ≡ storing.publication → polling_act (in_stores order taken storing stop marks).machine ≢ End
storing_asks trace segment run storing order taken stop marks is same_publication =
    let few = is.few in
    let before = stops_later trace segment run storing order taken.daemon is in
    act_before_ten order taken (record { rec = storing.publication.rec; layout = order.layout; generation = order.generation; made = storing.stores }) (update_is trace segment run storing order taken is same_publication before)
    (not_reached order.stop storing.stores before) (λ ten. absurd (omega (arith, few, ten)))

-- the store that it wants
storing_act : (trace : Trace) (segment : SegmentRun) (run : DaemonRun) (storing : Storing) (order : Order) (taken : Taken) (stop : Option ℕ) (marks : PollMarks) → order.layout ≡ segment.layout
    → IsStoring trace segment run storing order taken.daemon → taken.publication ≡ storing.publication
    → polling_act (in_stores order taken storing stop marks).machine ≡ store_at segment storing.publication order.generation storing.stores
storing_act trace segment run storing order taken stop marks same is same_publication =
    let before = stops_later trace segment run storing order taken.daemon is in
    sym (act_before_stop order taken (record { rec = storing.publication.rec; layout = order.layout; generation = order.generation; made = storing.stores }) (update_is trace segment run storing order taken is same_publication before)
    (not_reached order.stop storing.stores before))
    ∙ ap (λ (layout : Layout). slice_index_or (stores storing.publication.rec layout order.generation) storing.stores End) same

-- a store of a poll
pub store_turned : (trace : Trace) (host : HostRun) (segment : SegmentRun) (words : List ℕ) (run : DaemonRun) (storing : Storing) (order : Order) (daemon : DaemonState) (taken : Taken) (stop : Option ℕ) (marks : PollMarks) (value : ℕ)
    → ShowsSegment segment words → slice_index words 0 ≡ MAGIC → order.layout ≡ segment.layout
    → IsStoring trace segment run storing order taken.daemon → taken.publication ≡ storing.publication → IsMarkedAt storing.marked_at marks → marks.replied_at ≡ storing.replied_at → stop ≡ (poll_row trace run).stop
    → daemon.polled ≡ run.polled → daemon.base ≡ run.base → daemon.position ≡ segment.position
    → Turned trace host segment words (after_act words (polling_act (in_stores order taken storing stop marks).machine)) (store_step trace segment run storing)
    (polling_with daemon (polling_after trace host.done (in_stores order taken storing stop marks) value))
store_turned trace host segment words run storing order daemon taken stop marks value shows magic same is same_publication marked replied same_stop same_polled same_base same_position =
    let few = is.few in
    let act_is = storing_act trace segment run storing order taken stop marks same is same_publication in
    let step : StoreShows segment storing.publication order.generation storing.stores words =
    store_shows segment storing.publication order.generation storing.stores words shows magic (in_stores_of trace segment run storing order taken same is) in
    let marks_are : noted_poll host.done (polling_act (in_stores order taken storing stop marks).machine) marks ≡ marks =
    ap (λ (act : Act). noted_poll host.done act marks) act_is ∙ store_marks host.done storing.publication.rec segment.layout order.generation storing.stores marks in
    let same_after : order.layout ≡ (stored segment storing.publication storing.stores).layout = same ∙ sym step.step.later.layout in
    let made : IsMade trace (stored segment storing.publication storing.stores) run (record storing { stores = storing.stores + 1 }) order daemon taken stop marks =
    record {
      order_is = is.order_is;
      alive = is.alive;
      same_layout = same_after;
      same_publication = same_publication;
      same_stop = same_stop;
      marked = marked;
      replied = replied;
      until = reached (poll_row trace run).stop storing.stores is.until;
      most = omega (arith, few);
      same_polled = same_polled;
      same_base = same_base;
      goes = λ below.
          let next = step.next (omega (arith, below)) in (
            next,
            (
              is.told ∙ sym (in_stores_of trace segment run storing order taken same is).even ∙ sym (ap (λ (layout : Layout). even_after (period_of layout) order.generation) step.step.later.layout) ∙ next.even,
              same_position ∙ sym (stored_position segment storing.publication storing.stores (omega (arith, below))),
            ),
          );
      ended = λ full.
          let last : storing.stores ≡ 9 = omega (arith, full) in
          (is.told ∙ sym (step.number last), ap (λ (n : ℕ). n + 1) same_position ∙ sym (stored_last segment storing.publication storing.stores last));
    } in
    let next_segment = after_segment trace (stored segment storing.publication storing.stores) run (record storing { stores = storing.stores + 1 }) in
    let after_is : after_act words (polling_act (in_stores order taken storing stop marks).machine) ≡ after_act words (store_at segment storing.publication order.generation storing.stores) = ap (after_act words) act_is in
    record {
      leaves =
          subst (λ (m : PollMarks). Leaves trace host (store_step trace segment run storing) (polling_with daemon (in_stores order taken (record storing { stores = storing.stores + 1 }) stop m))) (sym marks_are)
          (after_stores_shows trace host (stored segment storing.publication storing.stores) run (record storing { stores = storing.stores + 1 }) order daemon taken stop marks made);
      segment_shown =
          subst (λ (s : SegmentRun). ShowsSegment s (after_act words (polling_act (in_stores order taken storing stop marks).machine))) (sym next_segment)
          (subst (λ (after : List ℕ). ShowsSegment (stored segment storing.publication storing.stores) after) (sym after_is) step.step.shows);
      later = subst (λ (s : SegmentRun). IsSegmentLater segment s) (sym next_segment) step.step.later;
      rest = subst (λ (after : List ℕ). KeepsRest words after) (sym after_is) step.step.rest;
      same_layout = ap (λ (s : SegmentRun). s.layout) next_segment ∙ step.step.later.layout;
      magic =
          magic_while (store_step trace segment run storing).daemon.work (store_step trace segment run storing).daemon.life (after_act words (polling_act (in_stores order taken storing stop marks).machine))
          (ap (λ (after : List ℕ). slice_index after 0) after_is ∙ step.step.magic);
    }
