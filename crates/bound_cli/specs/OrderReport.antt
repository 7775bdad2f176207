-- What stamps and leases are worth where the promises of a run's answers were kept.
use Rattle.std.specs.Prelude.{◌≡◌, ℕ, List, ◌++◌, Ok}
use Rattle.bound_order.specs.declared.step.Step.{Step}
use Rattle.bound_order.specs.declared.told.Told.{Told}
use Rattle.bound_order.specs.Promises.{AreTrue, KeepsOrder}
use Rattle.clock_gate.specs.declared.trace.Party.{Party}
use Rattle.clock_gate.specs.declared.trace.Trace.{Trace}
use Rattle.order_text.specs.Told.{answers_told}
use Rattle.order_text.specs.Lines.{order_text}
use Rattle.ordered_runs.specs.OrderedRuns.{IsOrdered}
use Rattle.run_promises.specs.declared.premises.Premises.TheVariants.{Held}
use Rattle.run_promises.specs.Judged.{premises_of}
use Rattle.abstract_run.specs.Run.{start, turns_by}
use Rattle.abstract_run.specs.RunWhole.{run_of}
use Rattle.trace_reader.specs.Grammar.{trace_in}
use Rattle.bound_cli.specs.Order.{order_report}
use Rattle.bound_cli.specs.Premises.{held_line}

-- a text that ends with this line
abbrev pub EndsWith : List ℕ → List ℕ → Type 0
EndsWith text line = (front : List ℕ) × (text ≡ front ++ line)

-- the printed lines are these, and they keep order of true time
pub record PrintsOrder (trace : Trace) (text : List ℕ) : Type 0 where
  -- the answers of the trace's run in the order in which they ended, with the true time of the clock row that each read, and a step for each
  pub told : List Told
  pub steps : List Step
  pub answers : told ≡ answers_told trace.clock (run_of trace).events
  -- between the header and the last line there is a line or two for each answer, by its step, and the counts
  pub lines : text ≡ order_text told steps ++ held_line
  -- the true time of each trusted answer is told and lies in its interval
  pub are_true : AreTrue told
  -- so a stamp that is drawn after a wait has ended, by true time, is greater than the stamp that waited; an act comes before the expiry of
  -- its grant, and each later grant after it, by true time
  pub keeps : KeepsOrder told steps

-- of the trace that a text is read as, and of leases of any length
pub record OrderHolds (bytes : List ℕ) (trace : Trace) (length : ℕ) : Type 0 where
  -- in every interleaving: after any turns of the parties, where premises held
  pub turns : (turns : List Party) → premises_of trace (turns_by trace (start trace) turns).events ≡ Held → IsOrdered length trace (turns_by trace (start trace) turns).events
  -- the report: where it ends with `premises,held`
  pub printed : (text : List ℕ) → order_report length bytes ≡ Ok text → EndsWith text held_line → PrintsOrder trace text

-- of every text that is read as a trace
abbrev pub TextsAreOrdered : Type 0
TextsAreOrdered = (bytes : List ℕ) (trace : Trace) (length : ℕ) → trace_in bytes ≡ Ok trace → OrderHolds bytes trace length
