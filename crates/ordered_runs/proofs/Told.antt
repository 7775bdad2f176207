-- The answers of a whole run are as they are asked for.
use Rattle.std.proofs.Common.{◌≡◌, ℕ, List, Option, Some, IfSome, All, slice_index_or, refl, ap, ◌∙◌}
use Rattle.std.proofs.lemmas.List.Elements.{All-from_recursion, recursion_from_All}
use Rattle.clock_gate.specs.declared.clock_row.ClockRow.{ClockRow}
use Rattle.clock_gate.specs.declared.trace.Trace.{Trace}
use Rattle.clock_gate.specs.Trace.{IsClient, IsLawfulTrace}
use Rattle.interval_now.specs.declared.answers.Answer.{Answer}
use Rattle.interval_now.specs.declared.answers.Answer.TheVariants as answers
use Rattle.bound_order.specs.Ordering.{IsTold}
use Rattle.run_theorem.specs.Calls.{AllCallsAnswered}
use Rattle.abstract_run.specs.declared.event.Event.{Event}
use Rattle.abstract_run.specs.declared.event.Event.TheVariants as events
use Rattle.abstract_run.specs.declared.event.Trail.{Trail}
use Rattle.abstract_run.specs.IntervalEnds.{EventKeepsEnds}
use Rattle.abstract_run.specs.RunWhole.{run_of}
use Rattle.order_text.specs.Told.{answers_told, event_told}
use Rattle.ordered_runs.proofs.Clients.{is_client}
use Rattle.ordered_runs.proofs.Events.{near_event}
use Rattle.ordered_runs.proofs.Lists.{all_taken, found_at}

-- an answer of this client, where the client is one
told_event : (clock : List ClockRow) (event : Event) → EventKeepsEnds event
    → ((client call : ℕ) (answer : Answer) (trail : Option Trail) → event ≡ events.Answered client call answer trail → IsClient client) → IfSome (event_told clock event) IsTold
told_event clock (events.Opened poll found) ends client = tt
told_event clock (events.Moved poll position generation) ends client = tt
told_event clock (events.Published position publication marked_at replied_at) ends client = tt
told_event clock (events.Skipped poll first last) ends client = tt
told_event clock (events.Stopped poll stores) ends client = tt
told_event clock (events.Answered who call (answers.Time time) trail) ends client =
    let is = client who call (answers.Time time) trail refl in
    record { first = is.0; last = is.1; near = near_event clock (events.Answered who call (answers.Time time) trail) ends }
told_event clock (events.Answered who call (answers.Busy tries first last) trail) ends client =
    let is = client who call (answers.Busy tries first last) trail refl in record { first = is.0; last = is.1; near = tt }
told_event clock (events.Answered who call answers.NotInitialized trail) ends client =
    let is = client who call answers.NotInitialized trail refl in record { first = is.0; last = is.1; near = tt }
told_event clock (events.Answered who call (answers.PageBusy first last) trail) ends client =
    let is = client who call (answers.PageBusy first last) trail refl in record { first = is.0; last = is.1; near = tt }
told_event clock (events.Answered who call (answers.Causality causality) trail) ends client =
    let is = client who call (answers.Causality causality) trail refl in record { first = is.0; last = is.1; near = tt }

pub all_told : AllCallsAnswered → (trace : Trace) → IsLawfulTrace trace → All EventKeepsEnds (run_of trace).events → All IsTold (answers_told trace.clock (run_of trace).events)
unfolding answers_told
all_told all trace lawful ends =
    let run = (run_of trace).events in
    let each : All (λ event. IfSome (event_told trace.clock event) IsTold) run =
    λ k d below. told_event trace.clock (slice_index_or run k d) (ends k d below) (λ client call answer trail is. is_client all trace lawful client k call answer trail (found_at run k d below ∙ ap Some is)) in
    All-from_recursion IsTold (answers_told trace.clock run)
    (all_taken IsTold (event_told trace.clock) run (recursion_from_All (λ event. IfSome (event_told trace.clock event) IsTold) run each))
