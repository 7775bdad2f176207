use Rattle.std.proofs.Common.{◌≡◌, ◌++◌, Result, Ok, refl, sym, ap, subst, ◌∙◌}
use Rattle.bound_order.specs.Ordering.{order_of}
use Rattle.clock_gate.specs.declared.trace.Trace.{Trace}
use Rattle.run_promises.specs.declared.premises.Premises.{Premises}
use Rattle.run_promises.specs.declared.premises.Premises.TheVariants.{Held}
use Rattle.run_promises.specs.Judged.{premises_of}
use Rattle.abstract_run.specs.Run.{Run}
use Rattle.abstract_run.specs.RunWhole.{run_of}
use Rattle.order_text.specs.Told.{answers_told}
use Rattle.ordered_runs.specs.OrderedRuns.{IsOrdered}
use Rattle.csv_records.specs.Reason.{◌>>=◌}
use Rattle.csv_records.specs.declared.trace_error.TraceFault.{TraceFault}
use Rattle.bound_cli.specs.Order.{told_text, ordering_text, order_report}
use Rattle.bound_cli.specs.Premises.{premises_line}
use Rattle.bound_cli.proofs.HeldEnds.{held_by_end}
use Rattle.bound_cli.proofs.order_laws.texts_are_ordered.Goals as goal

pub returns : goal.returns
unfolding ordering_text order_report
returns c bytes trace length read =
    let given = c.read_runs_laws.ensures.traces bytes trace read in
    let whole = c.sound_runs.ensures.whole trace in
    let told = answers_told trace.clock (run_of trace).events in
    let ordered : premises_of trace (run_of trace).events ≡ Held → IsOrdered length trace (run_of trace).events =
    subst (λ (run : Run). premises_of trace run.events ≡ Held → IsOrdered length trace run.events) whole.1 (c.ordered_laws.ensures.turns length trace whole.0 given) in
    record {
      turns = λ turns held. c.ordered_laws.ensures.turns length trace turns given held;
      printed = λ text is ends.
          let both : Ok (ordering_text length trace (run_of trace).events) ≡ Ok text =
          subst (λ (found : Result Trace TraceFault). (found >>= λ t. Ok (ordering_text length t (run_of t).events)) ≡ Ok text) read is in
          let text_is : told_text length told ++ premises_line (premises_of trace (run_of trace).events) ≡ text = cc both in
          let held = held_by_end (premises_of trace (run_of trace).events) (told_text length told) ends.0 (text_is ∙ ends.1) in
          record {
            told = told;
            steps = order_of length told;
            answers = refl;
            lines = sym text_is ∙ ap (λ (premises : Premises). told_text length told ++ premises_line premises) held;
            are_true = (ordered held).are_true;
            keeps = (ordered held).keeps;
          };
    }
