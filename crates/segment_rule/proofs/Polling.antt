-- A poll that is under way, and what one step more makes of it.
use Rattle.std.proofs.Common.{◌≡◌, ◌≢◌, ℕ, ◌+◌, ◌-◌, ◌*◌, ◌%◌, ◌<◌, ◌≤◌, inl, inr, Bool, true, false, List, [], ◌∷◌, ◌++◌, length, refl, sym, ap, ◌∙◌, subst, ne_eqb, arith, Option, Some, None}
use Rattle.std.specs.Prelude.{◌==◌, if◌then◌else◌, IfSome, is_some}
use Rattle.std.proofs.lemmas.Bool.{cases_eq, eqb-true, eq-eqb}
use Rattle.std.proofs.lemmas.Option.{slice_get-get_or}
use Rattle.clock_gate.specs.declared.act.Act.{Act}
use Rattle.clock_gate.specs.declared.act.Act.TheVariants.{Load, Store}
use Rattle.clock_gate.specs.declared.clock_row.ClockRow.{ClockRow}
use Rattle.clock_gate.specs.declared.clock_row.Reading.{Reading}
use Rattle.clock_gate.specs.declared.limits.TheConstants.{LAST_MOMENT, MOST_DRIFT, MOST_STORES, MOST_TRIES}
use Rattle.clock_gate.specs.Acts.{Touch, Wanted, replayed, act_of_touch}
use Rattle.clock_gate.proofs.Acts.{replayed-append, wanted-append}
use Rattle.generation_word.specs.declared.layout.Layout.{Layout}
use Rattle.generation_word.specs.Layout.{period_of}
use Rattle.generation_word.specs.Header.{generation_in}
use Rattle.generation_word.specs.Numbering.{even_after}
use Rattle.segment_layout.specs.declared.publication.Publication.{Publication}
use Rattle.seqlock.specs.Tries.{SeqlockRead}
use Rattle.seqlock.specs.Tries as tries
use Rattle.seqlock.proofs.Tries as laws
use Rattle.vmclock_page.specs.declared.page_seen.PageSeen.{PageSeen}
use Rattle.vmclock_page.specs.declared.page_seen.PageSeen.TheVariants.{Marker, Busy}
use Rattle.vmclock_page.specs.PageRead.{page_lock}
use Rattle.vmclock_page.specs.PageRead as page
use Rattle.vmclock_page.specs.Host.{count_of}
use Rattle.vmclock_page.specs.Counting.{page_number_of}
use Rattle.status_machine.specs.declared.daemon.Daemon.{Daemon}
use Rattle.status_machine.proofs.Fits.{daemon_step-fits, record_of-fits}
use Rattle.shm_writer.specs.Publisher.{Publishing}
use Rattle.writer_reopen.specs.declared.order.Order.{Order}
use Rattle.writer_reopen.specs.declared.polled.Polled.{Polled}
use Rattle.writer_reopen.specs.declared.polled.Polled.TheVariants.{Published, Skipped, Stopped}
use Rattle.writer_reopen.specs.declared.stage.Sight.{Sight}
use Rattle.writer_reopen.specs.declared.stage.Stage.{Stage}
use Rattle.writer_reopen.specs.declared.stage.Stage.TheVariants as stages
use Rattle.writer_reopen.specs.declared.stage.Taken.{Taken}
use Rattle.writer_reopen.specs.Causes.{IsSkipped, IsStopped, IsPublished}
use Rattle.writer_reopen.specs.Poll.{AreRows, reading_at, row_with, sequence_seen, poll_for, daemon_for, taken_for}
use Rattle.writer_reopen.specs.PollMachine.{Polling, new_polling, looking_by, stage_progress, polling_act, polling_given, polling_end, stage_seen, stage_given, IsUnseen, IsPollStage, OrderFits, StageFits}
use Rattle.writer_reopen.specs.Progress.{act_of}
use Rattle.writer_reopen.proofs.Causes.{skipped, stopped, published}
use Rattle.writer_reopen.proofs.Polls.{stage_nearer}
use Rattle.segment_run.specs.SegmentRun.{SegmentRun, header_shown, number_shown, number_at}
use Rattle.segment_run.proofs.SegmentHeader.{own_header_some, period_positive, number_at_rest}
use Rattle.generation_word.proofs.Laws.{generation_at_most}
use Rattle.segment_views.proofs.Lists.{flag_most}
use Rattle.status_machine.specs.declared.heard.Heard.{Heard}
use Rattle.status_machine.specs.Poll.{BaseFits}
use Rattle.segment_views.specs.declared.setup.Setup.{Setup}
use Rattle.segment_views.specs.Views.{DaemonPart, Seen, SeatView, point_of}
use Rattle.segment_views.specs.Steps.{calls_of, stored, TellsPage, TellsClock, update_begun, update_filled, update_ended}
use Rattle.segment_views.specs.Shown.{touches_of, AddsStore, IsSoundCall, PointsFollow}
use Rattle.segment_views.proofs.Shown.{touches-snoc, ran_first, ran_more, sound_stored, follows_first, follows_load, follows_store}
use Rattle.segment_views.proofs.Told.{daemon_stores}
use Rattle.segment_rule.specs.Ruled.{TellsLoad, MayLoadWord}
use Rattle.segment_rule.specs.Opens.{IsDaemonPart, OpenAt}
use Rattle.segment_rule.specs.Polls.{entry_in, TellsPoll, MayPoll, order_for, MayBegin, history_after, LeavesSegment, OpenAfter, SupportAfter, Polls}
use Rattle.segment_rule.proofs.Stepping.{by_test, loads_told, touch_at, more_touches}
use Rattle.segment_rule.proofs.Opening.{stored_touch}
use Rattle.segment_rule.proofs.PageSeen.{page_found, page_bound, none_bound}
use Rattle.segment_rule.proofs.Causes.{next_store, looking_no_store, has_cause}
use Rattle.segment_rule.proofs.Stores.{StoreOf, store_of, no_load, AfterStores, none_stored, MayPublish, may_store, after_store, even_next}

-- ---- the machine's stage and the view

-- what the machine's stage and the view have in common: nothing is stored before the reply is taken; a sight of the page is not past
-- what was seen of it; and the stores made are those of what was taken
abbrev pub Ties : SeatView → Order → Stage → SeatView → Type 0
Ties v order stages.Asking w = w.daemon_part ≡ v.daemon_part
Ties v order (stages.Looking asked read) w = w.daemon_part ≡ v.daemon_part
Ties v order (stages.Taking asked seen) w = (w.daemon_part ≡ v.daemon_part) × (2 * page_number_of (count_of w.setup.page) (sequence_seen seen) ≤ w.seen.page_point)
Ties v order (stages.Storing taken update) w =
    MayPublish taken.publication w × AfterStores taken.publication update.made v.daemon_part w.daemon_part × (taken.publication.generation ≡ even_after (period_of order.layout) order.generation) × (taken.daemon.support ≡ order.daemon.support)

-- a poll that began with this view, and is under way
pub record IsPolling (clock : List ClockRow) (order : Order) (v : SeatView) (p : Polling) (w : SeatView) : Type 0 where
  pub daemon : w.is_daemon ≡ true
  pub setup : w.setup ≡ v.setup
  pub calls : w.calls ≡ calls_of v
  pub before : w.before ≡ v.seen
  pub same_order : p.order ≡ order
  pub stage : IsPollStage order p.stage
  pub fits : StageFits p.stage
  pub wanted : Wanted polling_act (polling_given clock) (new_polling order) (touches_of w.steps)
  pub now : replayed polling_act (polling_given clock) (new_polling order) (touches_of w.steps) ≡ p
  pub sound : IsSoundCall w
  pub points : PointsFollow (point_of v.daemon_part.segment) w.steps (point_of w.daemon_part.segment)
  pub ties : Ties v order p.stage w

-- ---- one load

same_load : (a b : ℕ) → Load a ≡ Load b → b ≡ a
same_load a b e = cc

looking_wants : (act : Act) (end : Option PageSeen) (word : ℕ) → IsUnseen end → act_of (looking_by act end) ≡ Load word → (act ≡ Load word) × (end ≡ None)
looking_wants act None word unseen e = (e, refl)
looking_wants act (Some (Busy first last)) word unseen e = absurd (cc e)
looking_wants act (Some (Marker marker sequence)) word unseen e = absurd unseen

moment_of : (clock : List ClockRow) (row : ℕ) → AreRows clock → 1 ≤ row → row ≤ length clock → (reading_at clock row).mono ≤ LAST_MOMENT
moment_of clock row rows low high = rows.moments (row - 1) (row_with clock row) (slice_get-get_or clock (row - 1) (record { mono = 0; real = 0; truth = None }) (omega arith))

clock_told : (word n : ℕ) (first : Bool) (w x : SeatView) → word ≡ 23 → TellsLoad first word w n n x → TellsClock first w n n x
clock_told word n first w x at t = subst (λ (i : ℕ). TellsLoad first i w n n x) at t

page_told : (word n : ℕ) (first : Bool) (w x : SeatView) → word ≡ 11 → TellsLoad first word w n n x → TellsPage first w n n x
page_told word n first w x at t = subst (λ (i : ℕ). TellsLoad first i w n n x) at t

-- a row that was loaded is one of the clock's
pub row_of : (clock : List ClockRow) (word n : ℕ) (first : Bool) (w x : SeatView) → length clock ≡ w.setup.rows → Load word ≡ Load 23 → TellsLoad first word w n n x → (1 ≤ n) × (n ≤ length clock)
row_of clock word n first w x rows is t =
    let told = clock_told word n first w x (same_load 23 word (sym is)) t in
    let few = told.few in
    (told.some, omega (arith, few, rows))

-- the first reading
asked_ties : (order : Order) (asked : Reading) (support : Bool) (v x : SeatView) → x.daemon_part ≡ v.daemon_part → support ≡ is_some x.setup.page → asked.mono ≤ LAST_MOMENT
    → StageFits (if support then stages.Looking asked (tries.started order.tries) else stages.Taking asked None)
    × Ties v order (if support then stages.Looking asked (tries.started order.tries) else stages.Taking asked None) x
asked_ties order asked true v x same has moment = (moment, same)
asked_ties order asked false v x same has moment = (moment, (same, none_bound x.setup.page x.seen.page_point (sym has)))

-- a load of the page
seen_ties : (order : Order) (asked : Reading) (read : SeqlockRead) (end : Option PageSeen) (v x : SeatView) → x.daemon_part ≡ v.daemon_part → asked.mono ≤ LAST_MOMENT
    → ((m s : ℕ) → end ≡ Some (Marker m s) → 2 * page_number_of (count_of x.setup.page) s ≤ x.seen.page_point)
    → StageFits (stage_seen asked read end) × Ties v order (stage_seen asked read end) x
seen_ties order asked read None v x same moment bound = (moment, same)
seen_ties order asked read (Some (Busy first last)) v x same moment bound = (moment, same)
seen_ties order asked read (Some (Marker marker sequence)) v x same moment bound = (moment, (same, bound marker sequence refl))

-- the reply is taken
taken_ties : (order : Order) (asked : Reading) (seen : Option Sight) (n : ℕ) (v x : SeatView) → OrderFits order → x.daemon_part ≡ v.daemon_part → asked.mono ≤ LAST_MOMENT
    → n ≤ x.seen.rows → 2 * page_number_of (count_of x.setup.page) (sequence_seen seen) ≤ x.seen.page_point
    → StageFits (stages.Storing (taken_for order asked seen n) (record { rec = (taken_for order asked seen n).publication.rec; layout = order.layout; generation = order.generation; made = 0 }))
    × Ties v order (stages.Storing (taken_for order asked seen n) (record { rec = (taken_for order asked seen n).publication.rec; layout = order.layout; generation = order.generation; made = 0 })) x
taken_ties order asked seen n v x fits same moment rows bound =
    let base = daemon_step-fits order.daemon (poll_for order asked seen) fits.daemon.base moment in (
      record { drift = fits.daemon.drift; base = base },
      (
        record { bounds = record_of-fits (daemon_for order asked seen) (poll_for order asked seen) base moment fits.daemon.drift; rows = rows; page = bound },
        none_stored (taken_for order asked seen n).publication v.daemon_part x.daemon_part same,
        refl,
        refl,
      ),
    )

page_bound_seen : (read : SeqlockRead) (word n m s : ℕ) (first : Bool) (w x : SeatView) → laws.IsOpen page_lock read → page.act_of read ≡ Load word → TellsLoad first word w n n x → page.end_of (page.given read n) ≡ Some (Marker m s)
    → 2 * page_number_of (count_of x.setup.page) s ≤ x.seen.page_point
page_bound_seen read word n m s first w x open_ act t e =
    let found = page_found read word n m s open_ act e in
    let told = page_told word n first w x found.0 t in
    subst (λ (y : SeatView). 2 * page_number_of (count_of y.setup.page) s ≤ y.seen.page_point) (sym told.view)
    (page_bound w.setup told.point n s told.stands found.1)

-- the stage and the view after a load
pub load_ties : (clock : List ClockRow) (order : Order) (stage : Stage) (word n : ℕ) (first : Bool) (v w x : SeatView) → OrderFits order → AreRows clock → length clock ≡ w.setup.rows → order.daemon.support ≡ is_some w.setup.page
    → IsPollStage order stage → StageFits stage → Ties v order stage w → act_of (stage_progress order stage) ≡ Load word → TellsLoad first word w n n x
    → StageFits (stage_given clock order stage n) × Ties v order (stage_given clock order stage n) x
load_ties clock order stages.Asking word n first v w x fits rows all support is was ties act t =
    let l = loads_told first word n w x t in
    let row = row_of clock word n first w x all (sym act) t in
    asked_ties order (reading_at clock n) order.daemon.support v x (l.daemon_part ∙ ties) (support ∙ ap (λ (c : Setup). is_some c.page) (sym l.setup)) (moment_of clock n rows row.0 row.1)
load_ties clock order (stages.Looking asked read) word n first v w x fits rows all support is was ties act t =
    let l = loads_told first word n w x t in
    let wants = looking_wants (page.act_of read) (page.end_of read) word is.1.1 act in
    let open_ = laws.open_act page_lock read is.1.0 (λ e. cc (sym wants.0 ∙ e)) in
    seen_ties order asked (page.given read n) (page.end_of (page.given read n)) v x (l.daemon_part ∙ ties) was (λ m s e. page_bound_seen read word n m s first w x open_ wants.0 t e)
load_ties clock order (stages.Taking asked seen) word n first v w x fits rows all support is was ties act t =
    let l = loads_told first word n w x t in
    let told = clock_told word n first w x (same_load 23 word act) t in
    let row : n ≤ x.seen.rows = subst (λ (y : SeatView). n ≤ y.seen.rows) (sym told.view) (omega arith) in
    let bound : 2 * page_number_of (count_of x.setup.page) (sequence_seen seen) ≤ x.seen.page_point =
    subst (λ (y : SeatView). 2 * page_number_of (count_of y.setup.page) (sequence_seen seen) ≤ y.seen.page_point) (sym told.view) ties.1 in
    taken_ties order asked seen n v x fits (l.daemon_part ∙ ties.0) was row bound
load_ties clock order (stages.Storing taken update) word n first v w x fits rows all support is was ties act t =
    absurd (no_load taken.publication.rec order.layout order.generation update.made word (next_store order taken update (Load word) is act (λ e. cc e)))

-- word 11 is loaded only where there is a page
pub may_load : (order : Order) (stage : Stage) (word : ℕ) (w : SeatView) → order.daemon.support ≡ is_some w.setup.page → IsPollStage order stage → act_of (stage_progress order stage) ≡ Load word → MayLoadWord word w
may_load order stages.Asking word w support is act eleven = absurd (let e = same_load 23 word act in omega (arith, e, eleven))
may_load order (stages.Looking asked read) word w support is act eleven = sym support ∙ is.0
may_load order (stages.Taking asked seen) word w support is act eleven = absurd (let e = same_load 23 word act in omega (arith, e, eleven))
may_load order (stages.Storing taken update) word w support is act eleven =
    absurd (no_load taken.publication.rec order.layout order.generation update.made word (next_store order taken update (Load word) is act (λ e. cc e)))

-- ---- the steps so far

abbrev Replays : List ClockRow → Order → List Touch → Polling → Type 0
Replays clock order touches p = Wanted polling_act (polling_given clock) (new_polling order) touches × (replayed polling_act (polling_given clock) (new_polling order) touches ≡ p)

replays_more : (clock : List ClockRow) (order : Order) (before after : List Touch) (touch : Touch) (p : Polling) → polling_act p ≡ act_of_touch touch → after ≡ before ++ touch ∷ [] → Replays clock order before p
    → Replays clock order after (polling_given clock p touch.value)
replays_more clock order before after touch p act is r = rw is (
  wanted-append polling_act (polling_given clock) (new_polling order) before (touch ∷ []) r.0 (ap polling_act r.1 ∙ act, tt),
  replayed-append polling_act (polling_given clock) (new_polling order) before (touch ∷ []) ∙ ap (λ (m : Polling). polling_given clock m touch.value) r.1,
)

-- ---- the first load

pub polling_first : (clock : List ClockRow) (order : Order) (v x : SeatView) (n : ℕ) → MayBegin clock order v → TellsLoad true 23 v n n x → IsPolling clock order v (polling_given clock (new_polling order) n) x
polling_first clock order v x n may t =
    let l = loads_told true 23 n v x t in
    let ties = load_ties clock order stages.Asking 23 n true v v x may.fits may.rows may.all may.support tt tt refl refl t in
    let steps : touches_of x.steps ≡ touch_at 23 n ∷ [] = ap touches_of l.steps in
    let r : Replays clock order (touches_of x.steps) (polling_given clock (new_polling order) n) = replays_more clock order [] (touches_of x.steps) (touch_at 23 n) (new_polling order) refl steps (tt, refl) in
    record {
      daemon = l.is_daemon ∙ may.daemon;
      setup = l.setup;
      calls = l.calls;
      before = l.before;
      same_order = refl;
      stage = (stage_nearer clock order stages.Asking n tt (λ e. cc e)).0;
      fits = ties.0;
      wanted = r.0;
      now = r.1;
      sound = ran_first v x 23 n l;
      points = follows_first v x 23 n may.daemon l;
      ties = ties.1;
    }

-- ---- one load more

pub polling_load : (clock : List ClockRow) (order : Order) (v w x : SeatView) (p : Polling) (word n : ℕ) → MayBegin clock order v → IsPolling clock order v p w → polling_act p ≡ Load word → TellsLoad false word w n n x
    → IsPolling clock order v (polling_given clock p n) x
polling_load clock order v w x p word n may u act t =
    let l = loads_told false word n w x t in
    let here : act_of (stage_progress order p.stage) ≡ Load word = ap (λ (o : Order). act_of (stage_progress o p.stage)) (sym u.same_order) ∙ act in
    let all : length clock ≡ w.setup.rows = may.all ∙ ap (λ (c : Setup). c.rows) (sym u.setup) in
    let support : order.daemon.support ≡ is_some w.setup.page = may.support ∙ ap (λ (c : Setup). is_some c.page) (sym u.setup) in
    let ties = load_ties clock order p.stage word n false v w x may.fits may.rows all support u.stage u.fits u.ties here t in
    let r : Replays clock order (touches_of x.steps) (polling_given clock p n) = replays_more clock order (touches_of w.steps) (touches_of x.steps) (touch_at word n) p act (more_touches w x word n l) (u.wanted, u.now) in
    let next = (stage_nearer clock order p.stage n u.stage (λ e. cc (sym here ∙ e))).0 in
    let moved = λ (S : Stage → Type 0) (s : S (stage_given clock order p.stage n)). subst (λ (o : Order). S (stage_given clock o p.stage n)) (sym u.same_order) s in
    record {
      daemon = l.is_daemon ∙ u.daemon;
      setup = l.setup ∙ u.setup;
      calls = l.calls ∙ u.calls;
      before = l.before ∙ u.before;
      same_order = u.same_order;
      stage = moved (λ (s : Stage). IsPollStage order s) next;
      fits = moved StageFits ties.0;
      wanted = r.0;
      now = r.1;
      sound = ran_more w x word n l u.sound;
      points = follows_load (point_of v.daemon_part.segment) w x word n u.daemon l u.points;
      ties = moved (λ (s : Stage). Ties v order s x) ties.1;
    }

-- ---- one store more

pub poll_stores : (e : Publication) (word value : ℕ) (v w : SeatView) → TellsPoll e word v value value w → AddsStore word value v w
poll_stores e word value v w =
    by_test (word == 1) _ _ (AddsStore word value v w)
    (λ one t. subst (λ (i : ℕ). AddsStore i value v w) (sym (eqb-true word 1 one))
    (by_test (generation_in value % 2 == 1) _ _ (AddsStore 1 value v w) (λ o h. daemon_stores (update_begun e) 1 value v w h) (λ o h. daemon_stores update_ended 1 value v w h) t))
    (λ other t. daemon_stores (update_filled word) word value v w t)

-- a store that comes: what is published, and which store it is
pub record ComesTo (v w : SeatView) (order : Order) (stage : Stage) (word value : ℕ) : Type 0 where
  pub taken : Taken
  pub update : Publishing
  pub at : stage ≡ stages.Storing taken update
  pub may : MayPublish taken.publication w
  pub after : AfterStores taken.publication update.made v.daemon_part w.daemon_part
  pub number : taken.publication.generation ≡ even_after (period_of order.layout) order.generation
  pub support : taken.daemon.support ≡ order.daemon.support
  pub store : StoreOf taken.publication.rec order.layout order.generation update.made word value

pub comes_to : (order : Order) (stage : Stage) (v w : SeatView) (word value : ℕ) → IsPollStage order stage → Ties v order stage w → act_of (stage_progress order stage) ≡ Store word value → ComesTo v w order stage word value
comes_to order stages.Asking v w word value is ties act = absurd (cc act)
comes_to order (stages.Looking asked read) v w word value is ties act = absurd (looking_no_store read (page.end_of read) word value is.1.1 act)
comes_to order (stages.Taking asked seen) v w word value is ties act = absurd (cc act)
comes_to order (stages.Storing taken update) v w word value is ties act = record {
  taken = taken;
  update = update;
  at = refl;
  may = ties.0;
  after = ties.1;
  number = ties.2;
  support = ties.3;
  store = store_of taken.publication.rec order.layout order.generation update.made word value (next_store order taken update (Store word value) is act (λ e. cc e));
}

module _ (clock : List ClockRow) (order : Order) (v w : SeatView) (p : Polling) (word value : ℕ) (may : MayBegin clock order v) (u : IsPolling clock order v p w) (act : polling_act p ≡ Store word value) where
  here : act_of (stage_progress order p.stage) ≡ Store word value
  here = ap (λ (o : Order). act_of (stage_progress o p.stage)) (sym u.same_order) ∙ act

  comes : ComesTo v w order p.stage word value
  comes = comes_to order p.stage v w word value u.stage u.ties here

  entry_is : entry_in p ≡ comes.taken.publication
  entry_is = ap (λ (s : Stage). entry_in (record { order = p.order; stage = s })) comes.at

  layouts : v.daemon_part.segment.layout ≡ w.setup.layout
  layouts = may.own.layout ∙ ap (λ (c : Setup). c.layout) (sym u.setup)

  order_layout : order.layout ≡ w.setup.layout
  order_layout = may.layout ∙ ap (λ (c : Setup). c.layout) (sym u.setup)

  store : StoreOf comes.taken.publication.rec w.setup.layout order.generation comes.update.made word value
  store = subst (λ (l : Layout). StoreOf comes.taken.publication.rec l order.generation comes.update.made word value) order_layout comes.store

  pub poll_may : MayPoll (entry_in p) word value w
  poll_may = subst (λ (e : Publication). MayPoll e word value w) (sym entry_is)
      (may_store comes.taken.publication v w order.generation comes.update.made word value comes.may layouts may.header may.number comes.after store)

  pub polling_store : (x : SeatView) → TellsPoll (entry_in p) word w value value x → IsPolling clock order v (polling_given clock p value) x
  polling_store x told =
      let t : TellsPoll comes.taken.publication word w value value x = subst (λ (e : Publication). TellsPoll e word w value value x) entry_is told in
      let s = poll_stores comes.taken.publication word value w x t in
      let after = after_store comes.taken.publication v w order.generation comes.update.made word value x layouts may.number comes.after store t in
      let steps : touches_of x.steps ≡ touches_of w.steps ++ stored_touch word value ∷ [] = ap touches_of s.steps ∙ touches-snoc w.steps (stored word value (point_of x.daemon_part.segment)) in
      let r : Replays clock order (touches_of x.steps) (polling_given clock p value) = replays_more clock order (touches_of w.steps) (touches_of x.steps) (stored_touch word value) p act steps (u.wanted, u.now) in
      let next = (stage_nearer clock order p.stage value u.stage (λ e. cc (sym here ∙ e))).0 in
      let fits : StageFits (stage_given clock order p.stage value) =
      subst (λ (st : Stage). StageFits (stage_given clock order st value)) (sym comes.at) (subst StageFits comes.at u.fits) in
      let publish : MayPublish comes.taken.publication x = record {
        bounds = comes.may.bounds;
        rows = subst (λ (y : Seen). comes.taken.publication.replied ≤ y.rows) (sym s.seen) comes.may.rows;
        page = subst (λ (y : Setup × ℕ). 2 * page_number_of (count_of y.0.page) comes.taken.publication.sequence ≤ y.1) (λ j. (sym s.setup j, (sym s.seen j).page_point)) comes.may.page;
      } in
      let ties : Ties v order (stage_given clock order p.stage value) x =
      subst (λ (st : Stage). Ties v order (stage_given clock order st value) x) (sym comes.at) (publish, after, comes.number, comes.support) in
      let moved = λ (S : Stage → Type 0) (st : S (stage_given clock order p.stage value)). subst (λ (o : Order). S (stage_given clock o p.stage value)) (sym u.same_order) st in
      record {
        daemon = s.is_daemon ∙ u.daemon;
        setup = s.setup ∙ u.setup;
        calls = s.calls ∙ u.calls;
        before = s.before ∙ u.before;
        same_order = u.same_order;
        stage = moved (λ (st : Stage). IsPollStage order st) next;
        fits = moved StageFits fits;
        wanted = r.0;
        now = r.1;
        sound = sound_stored w x word value s u.sound;
        points = follows_store (point_of v.daemon_part.segment) w x word value s u.points;
        ties = moved (λ (st : Stage). Ties v order st x) ties;
      }

-- ---- the end

skipped_part : (order : Order) (stage : Stage) (first last : ℕ) (v w : SeatView) → IsSkipped stage first last → Ties v order stage w → w.daemon_part ≡ v.daemon_part
skipped_part order stages.Asking first last v w is ties = absurd is
skipped_part order (stages.Looking asked read) first last v w is ties = ties
skipped_part order (stages.Taking asked seen) first last v w is ties = absurd is
skipped_part order (stages.Storing taken update) first last v w is ties = absurd is

stopped_history : (order : Order) (stage : Stage) (number : ℕ) (v w : SeatView) → IsStopped order stage number → Ties v order stage w → w.daemon_part.segment.history ≡ v.daemon_part.segment.history
stopped_history order stages.Asking number v w is ties = absurd is
stopped_history order (stages.Looking asked read) number v w is ties = absurd is
stopped_history order (stages.Taking asked seen) number v w is ties = absurd is
stopped_history order (stages.Storing taken update) number v w is ties =
    let made = is.1.1 in
    let few = is.1.0 in
    elim (cases_eq update.made 0) [
      | inl none ↦ ap (λ (p : DaemonPart). p.segment.history) (ties.1.before none)
      | inr other ↦ (ties.1.between (omega arith) (omega (arith, made, few))).3
    ]

stopped_at : (order : Order) (stage : Stage) (number : ℕ) → IsStopped order stage number → order.stop ≡ Some number
stopped_at order stages.Asking number is = absurd is
stopped_at order (stages.Looking asked read) number is = absurd is
stopped_at order (stages.Taking asked seen) number is = absurd is
stopped_at order (stages.Storing taken update) number is = is.0

published_part : (order : Order) (stage : Stage) (daemon : Daemon) (publication : Publication) (v w : SeatView) → order.layout ≡ v.daemon_part.segment.layout → order.generation ≡ number_shown v.daemon_part.segment → IsPublished stage daemon publication → Ties v order stage w
    → (w.daemon_part.segment.history ≡ v.daemon_part.segment.history ++ publication ∷ []) × OpenAt publication.generation w × (daemon.support ≡ order.daemon.support)
published_part order stages.Asking daemon publication v w layout number is ties = absurd is
published_part order (stages.Looking asked read) daemon publication v w layout number is ties = absurd is
published_part order (stages.Taking asked seen) daemon publication v w layout number is ties = absurd is
published_part order (stages.Storing taken update) daemon publication v w layout number is ties =
    let after = ties.1 in
    let e = after.ended is.0 in
    let rests = number_at_rest w.daemon_part.segment e.2 in
    let next : even_after (period_of order.layout) order.generation ≡ number_at v.daemon_part.segment (v.daemon_part.segment.position + 1) =
    (λ j. even_after (period_of (layout j)) (number j)) ∙ even_next v.daemon_part.segment in
    let place : number_at w.daemon_part.segment w.daemon_part.segment.position ≡ number_at v.daemon_part.segment (v.daemon_part.segment.position + 1) =
    λ j. number_at (record v.daemon_part.segment { layout = after.layout j }) (e.0 j) in
    let part = subst (λ (q : Publication). (w.daemon_part.segment.history ≡ v.daemon_part.segment.history ++ q ∷ []) × OpenAt q.generation w) is.1.1
    (e.1, (ties.2 ∙ (next ∙ (sym place ∙ sym rests)), headed_some w.daemon_part.segment e.3)) in
    (part.0, part.1, ap (λ (d : Daemon). d.support) (sym is.1.0) ∙ ties.3)
  where
    headed_some : (segment : SegmentRun) → segment.is_headed ≡ true → header_shown segment ≢ 0
    headed_some segment headed = subst (λ (b : Bool). header_shown (record segment { is_headed = b }) ≢ 0) (sym headed) (own_header_some segment.layout (number_shown segment))

ended_by : (polled : Polled) (clock : List ClockRow) (order : Order) (v w : SeatView) (p : Polling) → MayBegin clock order v → IsPolling clock order v p w → polling_end p ≡ Some polled
    → (w.daemon_part.segment.history ≡ history_after polled v.daemon_part.segment.history) × OpenAfter order.stop order.generation polled w × SupportAfter order.daemon.support polled
ended_by (Published daemon publication) clock order v w p may u told =
    let stage : IsPollStage p.order p.stage = subst (λ (o : Order). IsPollStage o p.stage) (sym u.same_order) u.stage in
    let cause = (published p daemon publication stage).0 told in
    published_part order p.stage daemon publication v w (may.layout ∙ sym may.own.layout) may.number cause u.ties
ended_by (Skipped first last) clock order v w p may u told =
    let stage : IsPollStage p.order p.stage = subst (λ (o : Order). IsPollStage o p.stage) (sym u.same_order) u.stage in
    let cause = (skipped p first last stage).0 told in
    let same = skipped_part order p.stage first last v w cause u.ties in
    (ap (λ (q : DaemonPart). q.segment.history) same, subst (λ (q : DaemonPart). (order.generation ≡ number_shown q.segment) × (header_shown q.segment ≢ 0)) (sym same) (may.number, may.header), tt)
ended_by (Stopped number) clock order v w p may u told =
    let stage : IsPollStage p.order p.stage = subst (λ (o : Order). IsPollStage o p.stage) (sym u.same_order) u.stage in
    let cause = (stopped p number stage).0 told in
    (stopped_history p.order p.stage number v w cause (subst (λ (o : Order). Ties v o p.stage w) (sym u.same_order) u.ties), ap (λ (o : Order). o.stop) (sym u.same_order) ∙ stopped_at p.order p.stage number cause, tt)

same_leaves : (a b : DaemonPart) → b ≡ a → (first last : ℕ) → LeavesSegment (Skipped first last) a.segment b.segment
same_leaves a b same first last =
    record {
      layout = ap (λ (p : DaemonPart). p.segment.layout) same;
      image = ap (λ (p : DaemonPart). p.segment.image) same;
      base = ap (λ (p : DaemonPart). p.segment.base) same;
      position = ap (λ (p : DaemonPart). p.segment.position) same;
      writing = ap (λ (p : DaemonPart). p.segment.is_writing) same;
      headed = ap (λ (p : DaemonPart). p.segment.is_headed) same;
    }

stopped_leaves : (order : Order) (stage : Stage) (number : ℕ) (v w : SeatView) → IsStopped order stage number → Ties v order stage w → LeavesSegment (Stopped number) v.daemon_part.segment w.daemon_part.segment
stopped_leaves order stages.Asking number v w is ties = absurd is
stopped_leaves order (stages.Looking asked read) number v w is ties = absurd is
stopped_leaves order (stages.Taking asked seen) number v w is ties = absurd is
stopped_leaves order (stages.Storing taken update) number v w is ties =
    let made = is.1.1 in
    let few = is.1.0 in
    elim (cases_eq update.made 0) [
      | inl none ↦
          let same = same_leaves v.daemon_part w.daemon_part (ties.1.before none) 0 0 in
          let test : (number == 0) ≡ true = (let zero_is : number ≡ 0 = omega (arith, made, none) in eq-eqb number 0 zero_is) in
          record {
            layout = same.layout;
            image = same.image;
            base = same.base;
            position = same.position;
            writing = rw test same.writing;
            headed = rw test same.headed;
          }
      | inr other ↦
          let b = ties.1.between (omega arith) (omega (arith, made, few)) in
          let test : (number == 0) ≡ false = ne_eqb number 0 (λ zero_is. other (made ∙ zero_is)) in
          record {
            layout = ties.1.layout;
            image = ties.1.image;
            base = ties.1.base;
            position = b.2;
            writing = rw test b.4;
            headed = rw test b.5;
          }
    ]

published_leaves : (order : Order) (stage : Stage) (daemon : Daemon) (publication : Publication) (v w : SeatView) → IsPublished stage daemon publication → Ties v order stage w → LeavesSegment (Published daemon publication) v.daemon_part.segment w.daemon_part.segment
published_leaves order stages.Asking daemon publication v w is ties = absurd is
published_leaves order (stages.Looking asked read) daemon publication v w is ties = absurd is
published_leaves order (stages.Taking asked seen) daemon publication v w is ties = absurd is
published_leaves order (stages.Storing taken update) daemon publication v w is ties =
    let e = ties.1.ended is.0 in
    record { layout = ties.1.layout; image = ties.1.image; base = ties.1.base; position = e.0; writing = e.2; headed = e.3 }

-- what a poll leaves of the segment, by its answer
leaves_by : (polled : Polled) (clock : List ClockRow) (order : Order) (v w : SeatView) (p : Polling) → MayBegin clock order v → IsPolling clock order v p w → polling_end p ≡ Some polled → LeavesSegment polled v.daemon_part.segment w.daemon_part.segment
leaves_by polled clock order v w p may u told = by polled told
  where
    stage : IsPollStage p.order p.stage
    stage = subst (λ (o : Order). IsPollStage o p.stage) (sym u.same_order) u.stage

    by : (polled : Polled) → polling_end p ≡ Some polled → LeavesSegment polled v.daemon_part.segment w.daemon_part.segment
    by (Published daemon publication) ends = published_leaves order p.stage daemon publication v w ((published p daemon publication stage).0 ends) u.ties
    by (Skipped first last) ends = same_leaves v.daemon_part w.daemon_part (skipped_part order p.stage first last v w ((skipped p first last stage).0 ends) u.ties) first last
    by (Stopped number) ends = stopped_leaves p.order p.stage number v w ((stopped p number stage).0 ends) (subst (λ (o : Order). Ties v o p.stage w) (sym u.same_order) u.ties)

pub polled_at_end : (clock : List ClockRow) (order : Order) (v w : SeatView) (p : Polling) (polled : Polled) → MayBegin clock order v → IsPolling clock order v p w → polling_end p ≡ Some polled
    → Polls clock order v polled w × OpenAfter order.stop order.generation polled w × SupportAfter order.daemon.support polled
polled_at_end clock order v w p polled may u told =
    let e = ended_by polled clock order v w p may u told in
    (record { setup = u.setup; calls = u.calls; before = u.before; steps = u.wanted; answer = ap polling_end u.now ∙ told; sound = u.sound; points = u.points; history = e.0; segment = leaves_by polled clock order v w p may u told; cause = has_cause clock order (touches_of w.steps) p polled u.wanted u.now (subst (λ (o : Order). IsPollStage o p.stage) (sym u.same_order) u.stage) told }, e.1, e.2)

-- ---- its beginning

-- the number that word 1 shows is one that a poll can begin with
pub number_small : (segment : SegmentRun) → number_shown segment ≤ 2 * period_of segment.layout + 1
number_small segment =
    let most = generation_at_most (period_of segment.layout) segment.position (period_positive segment.layout) in
    let flag = flag_most segment.is_writing in
    omega (arith, most, flag)

pub may_begin : (clock : List ClockRow) (v : SeatView) (daemon : Daemon) (generation number : ℕ) (heard : Heard) (stop : Option ℕ) (tries : ℕ) → v.is_daemon ≡ true → IsDaemonPart v → OpenAt generation v → daemon.support ≡ is_some v.setup.page
    → daemon.drift ≤ MOST_DRIFT → IfSome daemon.base BaseFits → length clock ≡ v.setup.rows → AreRows clock → 0 < tries → tries ≤ MOST_TRIES → IfSome stop (λ s. s ≤ MOST_STORES)
    → MayBegin clock (order_for v daemon number heard stop tries) v
may_begin clock v daemon generation number heard stop tries is own open_is support drift base all rows some_tries most_tries stops =
    let small = number_small v.daemon_part.segment in
    record {
      fits = record {
        daemon = record { drift = drift; base = base };
        numbered = subst (λ (l : Layout). number_shown v.daemon_part.segment ≤ 2 * period_of l + 1) own.layout small;
        stops = stops;
        some_tries = some_tries;
        most_tries = most_tries;
      };
      rows = rows;
      all = all;
      support = support;
      daemon = is;
      own = own;
      layout = refl;
      number = refl;
      header = open_is.1;
    }

-- the number that the seat keeps is that of word 1
pub same_order : (v : SeatView) (daemon : Daemon) (layout : Layout) (generation number : ℕ) (heard : Heard) (stop : Option ℕ) (tries : ℕ) → layout ≡ v.setup.layout → OpenAt generation v
    → record { daemon = daemon; layout = layout; generation = generation; number = number; heard = heard; stop = stop; tries = tries } ≡ order_for v daemon number heard stop tries
same_order v daemon layout generation number heard stop tries same open_is =
    λ j. record { daemon = daemon; layout = same j; generation = open_is.0 j; number = number; heard = heard; stop = stop; tries = tries }

-- what a load may be, and what it finds
pub may_wanted : (clock : List ClockRow) (order : Order) (v w : SeatView) (p : Polling) (word : ℕ) → MayBegin clock order v → IsPolling clock order v p w → polling_act p ≡ Load word → MayLoadWord word w
may_wanted clock order v w p word may u act =
    may_load order p.stage word w (may.support ∙ ap (λ (c : Setup). is_some c.page) (sym u.setup)) u.stage (ap (λ (o : Order). act_of (stage_progress o p.stage)) (sym u.same_order) ∙ act)

pub row_wanted : (clock : List ClockRow) (order : Order) (v w x : SeatView) (p : Polling) (word n : ℕ) → MayBegin clock order v → IsPolling clock order v p w → polling_act p ≡ Load word → TellsLoad false word w n n x
    → polling_act p ≡ Load 23 → (1 ≤ n) × (n ≤ length clock)
row_wanted clock order v w x p word n may u act t is =
    row_of clock word n false w x (may.all ∙ ap (λ (c : Setup). c.rows) (sym u.setup)) (sym act ∙ is) t
