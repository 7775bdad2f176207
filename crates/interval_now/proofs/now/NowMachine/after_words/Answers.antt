use Rattle.std.proofs.Common.{ap, ◌∙◌, arith}
use Rattle.interval_now.specs.Call.{act_of}
use Rattle.interval_now.proofs.FirstTry.{asks_words}
use Rattle.interval_now.proofs.now.NowMachine.after_words.Goals as goal

pub give_words-requires-clause-wanted : goal.give_words-requires-clause-wanted
give_words-requires-clause-wanted c =
    let some = c.requires.some in
    ap act_of c.after_header-machine.ensures ∙ asks_words c.args.clock.now c.args.tries c.args.support c.args.header (omega (arith, some)) c.requires.calm
