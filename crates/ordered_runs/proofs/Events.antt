-- What is told of each event.
use Rattle.std.proofs.Common.{◌≡◌, ℕ, true, List, [], ◌∷◌, Some, None, IfSome, All, reverse, refl, sym, ap, subst, ◌∙◌, arith}
use Rattle.std.specs.List.{AllByRecursion}
use Rattle.std.proofs.lemmas.Int.{ints}
use Rattle.std.proofs.lemmas.List.Elements.{All-weaker, All-from_recursion, recursion_from_All}
use Rattle.clock_gate.specs.declared.clock_row.ClockRow.{ClockRow}
use Rattle.clock_gate.specs.declared.clock_status.ClockStatus.{ClockStatus}
use Rattle.clock_gate.specs.declared.clock_status.ClockStatus.TheVariants.{Unknown, Synchronized, FreeRunning, Disrupted}
use Rattle.clock_gate.specs.declared.trace.Trace.{Trace}
use Rattle.interval_now.specs.declared.answers.Answer.TheVariants as answers
use Rattle.interval_now.specs.declared.answers.Interval.{Interval}
use Rattle.interval_now.specs.declared.answers.Timed.{Timed}
use Rattle.interval_now.specs.Interval.{KeepsEnds}
use Rattle.bound_order.specs.declared.told.Told.{Told}
use Rattle.bound_order.specs.Ordering.{IsNear, trusted_by, trusted_of}
use Rattle.bound_order.specs.Promises.{AreTrue, HasTruth}
use Rattle.run_promises.specs.Judged.{ContainsTruth, EachTrusted, is_trusted}
use Rattle.abstract_run.specs.declared.event.Event.{Event}
use Rattle.abstract_run.specs.declared.event.Event.TheVariants as events
use Rattle.abstract_run.specs.IntervalEnds.{EventKeepsEnds}
use Rattle.order_text.specs.Told.{answer_told, answers_told, event_told, untimed}
use Rattle.ordered_runs.proofs.Lists.{all_at, all_forwards, all_taken}

-- ---- intervals are near

abbrev pub Near : Told → Type 0
Near t = IfSome t.interval IsNear

near_by : (i : Interval) → KeepsEnds i → IsNear i
near_by i ends =
    let first = ends.first in
    let order = ends.order in
    let last = ends.last in
    record { first = grind (arith, ints); in_order = order; last = grind (arith, ints) }

pub near_event : (clock : List ClockRow) (event : Event) → EventKeepsEnds event → IfSome (event_told clock event) Near
near_event clock (events.Opened poll found) ends = tt
near_event clock (events.Moved poll position generation) ends = tt
near_event clock (events.Published position publication marked_at replied_at) ends = tt
near_event clock (events.Skipped poll first last) ends = tt
near_event clock (events.Stopped poll stores) ends = tt
near_event clock (events.Answered client call (answers.Time time) trail) ends = near_by time.interval ends
near_event clock (events.Answered client call (answers.Busy tries first last) trail) ends = tt
near_event clock (events.Answered client call answers.NotInitialized trail) ends = tt
near_event clock (events.Answered client call (answers.PageBusy first last) trail) ends = tt
near_event clock (events.Answered client call (answers.Causality causality) trail) ends = tt

pub all_near : (clock : List ClockRow) (run : List Event) → All EventKeepsEnds run → All Near (answers_told clock run)
unfolding answers_told
all_near clock run ends =
    let each : All (λ event. IfSome (event_told clock event) Near) run = All-weaker EventKeepsEnds (λ event. IfSome (event_told clock event) Near) (near_event clock) run ends in
    All-from_recursion Near (answers_told clock run) (all_taken Near (event_told clock) run (recursion_from_All (λ event. IfSome (event_told clock event) Near) run each))

-- ---- trusted answers are true

abbrev pub IsTrue : Told → Type 0
IsTrue t = (i : Interval) → trusted_of t ≡ Some i → HasTruth t i

-- by what is known of a time whose status is trusted
true_time : (trace : Trace) (client call : ℕ) (time : Timed) (status : ClockStatus) → time.interval.status ≡ status
    → (is_trusted time.interval.status ≡ true → ContainsTruth trace time) → IsTrue (answer_told trace.clock client call (answers.Time time))
true_time trace client call time Unknown is contains i trusted = let none : None ≡ Some i = ap (λ (s : ClockStatus). trusted_by s time.interval) (sym is) ∙ trusted in absurd (cc none)
true_time trace client call time Synchronized is contains i trusted =
    let known = contains (ap is_trusted is) in
    let same : time.interval ≡ i = (let both : Some time.interval ≡ Some i = ap (λ (s : ClockStatus). trusted_by s time.interval) (sym is) ∙ trusted in cc both) in
    subst (HasTruth (answer_told trace.clock client call (answers.Time time))) same (record { truth = known.truth; is_told = known.told; not_before = known.earliest; not_after = known.latest })
true_time trace client call time FreeRunning is contains i trusted =
    let known = contains (ap is_trusted is) in
    let same : time.interval ≡ i = (let both : Some time.interval ≡ Some i = ap (λ (s : ClockStatus). trusted_by s time.interval) (sym is) ∙ trusted in cc both) in
    subst (HasTruth (answer_told trace.clock client call (answers.Time time))) same (record { truth = known.truth; is_told = known.told; not_before = known.earliest; not_after = known.latest })
true_time trace client call time Disrupted is contains i trusted = let none : None ≡ Some i = ap (λ (s : ClockStatus). trusted_by s time.interval) (sym is) ∙ trusted in absurd (cc none)

abbrev pub Contains : Trace → List Event → Type 0
Contains trace past = EachTrusted (λ before time trail. ContainsTruth trace time) past

abbrev pub TrueEvent : Trace → Event → Type 0
TrueEvent trace event = IfSome (event_told trace.clock event) IsTrue

-- an answer without an interval isn't trusted
untrusted : (client call : ℕ) → IsTrue (untimed client call)
untrusted client call i trusted = absurd (cc trusted)

true_events : (trace : Trace) (past : List Event) → Contains trace past → AllByRecursion (TrueEvent trace) past
true_events trace [] all = tt
true_events trace (events.Opened poll found ∷ past) all = (tt, true_events trace past all)
true_events trace (events.Moved poll position generation ∷ past) all = (tt, true_events trace past all)
true_events trace (events.Published position publication marked_at replied_at ∷ past) all = (tt, true_events trace past all)
true_events trace (events.Skipped poll first last ∷ past) all = (tt, true_events trace past all)
true_events trace (events.Stopped poll stores ∷ past) all = (tt, true_events trace past all)
true_events trace (events.Answered client call (answers.Time time) None ∷ past) all =
    (true_time trace client call time time.interval.status refl (λ trusted. absurd (all.0 trusted)), true_events trace past all.1)
true_events trace (events.Answered client call (answers.Time time) (Some trail) ∷ past) all =
    (true_time trace client call time time.interval.status refl all.0, true_events trace past all.1)
true_events trace (events.Answered client call (answers.Busy tries first last) trail ∷ past) all = (untrusted client call, true_events trace past all)
true_events trace (events.Answered client call answers.NotInitialized trail ∷ past) all = (untrusted client call, true_events trace past all)
true_events trace (events.Answered client call (answers.PageBusy first last) trail ∷ past) all = (untrusted client call, true_events trace past all)
true_events trace (events.Answered client call (answers.Causality causality) trail ∷ past) all = (untrusted client call, true_events trace past all)

pub are_true : (trace : Trace) (run : List Event) → Contains trace (reverse run) → AreTrue (answers_told trace.clock run)
unfolding answers_told
are_true trace run all k t i at trusted =
    let back : All (TrueEvent trace) (reverse run) = All-from_recursion (TrueEvent trace) (reverse run) (true_events trace (reverse run) all) in
    let each : AllByRecursion (TrueEvent trace) run = recursion_from_All (TrueEvent trace) run (all_forwards (TrueEvent trace) run back) in
    all_at IsTrue (answers_told trace.clock run) k t (all_taken IsTrue (event_told trace.clock) run each) at i trusted
