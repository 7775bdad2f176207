-- An interval that keeps its ends has dates.
use Rattle.std.proofs.Common.{◌≡◌, ℕ, List, subst, arith}
use Rattle.std.specs.Prelude.{All}
use Rattle.std.proofs.lemmas.Int.{ints}
use Rattle.std.proofs.lemmas.List.Elements.{All-weaker}
use Rattle.clock_gate.specs.declared.trace.Trace.{Trace}
use Rattle.vmclock_page.specs.Host.{count_of}
use Rattle.interval_now.specs.declared.answers.Interval.{Interval}
use Rattle.interval_now.specs.declared.answers.Answer.TheVariants as answers
use Rattle.interval_now.specs.Interval.{KeepsEnds}
use Rattle.abstract_run.specs.declared.event.Event.{Event}
use Rattle.abstract_run.specs.declared.event.Event.TheVariants as events
use Rattle.abstract_run.specs.IntervalEnds.{EventKeepsEnds}
use Rattle.abstract_run.specs.RunWhole.{run_of}
use Rattle.civil_time.specs.Civil.{IsInstant}
use Rattle.bound_cli.specs.Civil.{HasDates}
use Rattle.bound_cli.specs.Replay.{printed_of}

first_to_last : (i : Interval) → KeepsEnds i → IsInstant i.earliest × IsInstant i.latest
first_to_last i ends =
    let first = ends.first in
    let order = ends.order in
    let last = ends.last in
    ((grind (arith, ints), grind (arith, ints)), (grind (arith, ints), grind (arith, ints)))

event_dated : (start : ℕ) (event : Event) → EventKeepsEnds event → HasDates (printed_of start event)
event_dated start (events.Opened poll found) ends = tt
event_dated start (events.Moved poll position generation) ends = tt
event_dated start (events.Published position publication marked_at replied_at) ends = tt
event_dated start (events.Skipped poll first last) ends = tt
event_dated start (events.Stopped poll stores) ends = tt
event_dated start (events.Answered client call (answers.Time time) trail) ends = first_to_last time.interval ends
event_dated start (events.Answered client call (answers.Busy tries first last) trail) ends = tt
event_dated start (events.Answered client call answers.NotInitialized trail) ends = tt
event_dated start (events.Answered client call (answers.PageBusy first last) trail) ends = tt
event_dated start (events.Answered client call (answers.Causality causality) trail) ends = tt

pub run_dated : (trace : Trace) (events : List Event) → events ≡ (run_of trace).events → All EventKeepsEnds events → All (λ event. HasDates (printed_of (count_of trace.page) event)) (run_of trace).events
run_dated trace events run ends =
    All-weaker EventKeepsEnds (λ event. HasDates (printed_of (count_of trace.page) event)) (event_dated (count_of trace.page)) (run_of trace).events
    (subst (λ (events : List Event). All EventKeepsEnds events) run ends)
