use Rattle.std.proofs.Common.{List, subst, sym}
use Rattle.abstract_run.specs.declared.event.Event.{Event}
use Rattle.run_promises.specs.Runs.{IsRunOf}
use Rattle.bound_cli.proofs.report.premises_of.Goals as goal

pub judged_run-requires-clause-run : goal.judged_run-requires-clause-run
judged_run-requires-clause-run c =
    subst (λ (events : List Event). IsRunOf c.args.trace.now events) (sym c.requires.run) (c.any_run.ensures.whole c.args.trace.now)
