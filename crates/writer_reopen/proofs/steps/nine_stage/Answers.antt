use Rattle.std.proofs.Common.{List, sym, subst}
use Rattle.std.specs.Prelude.{IfSome}
use Rattle.clock_gate.specs.declared.clock_row.ClockRow.{ClockRow}
use Rattle.shm_writer.specs.Leaps.{MakesStores}
use Rattle.writer_reopen.specs.declared.stage.Stage.{Stage}
use Rattle.writer_reopen.specs.declared.stage.Stage.TheVariants.{Storing}
use Rattle.writer_reopen.specs.PollMachine.{polling_act, polling_given, IsPollStage}
use Rattle.writer_reopen.proofs.Leaps.{all_stores_of}
use Rattle.writer_reopen.proofs.steps.nine_stage.Goals as goal

pub returns-in-Storing-clause-stores : goal.returns-in-Storing-clause-stores
returns-in-Storing-clause-stores c =
    let order = c.args.order.now in
    let is = subst (IsPollStage order) c.in-Storing.is c.requires.stage in
    subst (λ (stage : Stage). IfSome c.store_nine.result (λ values. (clock : List ClockRow) → MakesStores polling_act (polling_given clock) 1 values (record { order = order; stage = stage }) (record { order = order; stage = Storing c.in-Storing.taken c.store_nine.new.publisher }))) (sym c.in-Storing.is)
    (all_stores_of order c.in-Storing.taken c.in-Storing.publisher c.store_nine.new.publisher c.store_nine.result is c.store_nine.ensures.stores)
