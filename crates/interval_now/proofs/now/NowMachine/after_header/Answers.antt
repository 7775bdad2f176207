use Rattle.std.proofs.Common.{ap, ◌∙◌, arith}
use Rattle.interval_now.specs.Call.{act_of}
use Rattle.interval_now.proofs.FirstTry.{first_may_be, first_is_no_row, started_asks}
use Rattle.interval_now.proofs.now.NowMachine.after_header.Goals as goal

pub give-requires-clause-good : goal.give-requires-clause-good
give-requires-clause-good c =
    let some = c.requires.some in
    first_may_be (act_of c.new-machine.result) c.args.header (ap act_of c.new-machine.ensures.value ∙ started_asks c.args.tries c.args.support (omega (arith, some)))

pub give-requires-clause-row : goal.give-requires-clause-row
give-requires-clause-row c =
    let some = c.requires.some in
    first_is_no_row c.args.clock.now (act_of c.new-machine.result) c.args.header (ap act_of c.new-machine.ensures.value ∙ started_asks c.args.tries c.args.support (omega (arith, some)))
