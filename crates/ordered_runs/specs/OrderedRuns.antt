-- What stamps and leases are worth in every run, whatever the order of its parties' turns.
use Rattle.std.specs.Prelude.{◌≡◌, ℕ, List, All}
use Rattle.clock_gate.specs.declared.trace.Party.{Party}
use Rattle.clock_gate.specs.declared.trace.Trace.{Trace}
use Rattle.bound_order.specs.Ordering.{IsTold, order_of}
use Rattle.bound_order.specs.Promises.{AreTrue, KeepsOrder}
use Rattle.run_promises.specs.declared.premises.Premises.TheVariants.{Held}
use Rattle.run_promises.specs.Judged.{premises_of}
use Rattle.abstract_run.specs.declared.event.Event.{Event}
use Rattle.abstract_run.specs.Run.{start, turns_by}
use Rattle.abstract_run.specs.RunWhole.{run_of}
use Rattle.abstract_run.specs.Given.{IsGiven}
use Rattle.order_text.specs.Told.{answers_told}

-- the true time of each trusted answer among these events is told and lies in its interval; so stamps follow true time, and nobody acts under
-- a lease that has ended, by true time, nor is one granted before the last has ended
pub record IsOrdered (length : ℕ) (trace : Trace) (events : List Event) : Type 0 where
  pub are_true : AreTrue (answers_told trace.clock events)
  pub keeps : KeepsOrder (answers_told trace.clock events) (order_of length (answers_told trace.clock events))

-- so it is after any turns where premises held
abbrev pub RunsKeepOrder : Type 0
RunsKeepOrder =
    (length : ℕ) (trace : Trace) (turns : List Party) → IsGiven trace
    → premises_of trace (turns_by trace (start trace) turns).events ≡ Held → IsOrdered length trace (turns_by trace (start trace) turns).events

-- the answers of a whole run are as `order` asks for them
abbrev pub WholeRunsAreTold : Type 0
WholeRunsAreTold = (trace : Trace) → IsGiven trace → All IsTold (answers_told trace.clock (run_of trace).events)
