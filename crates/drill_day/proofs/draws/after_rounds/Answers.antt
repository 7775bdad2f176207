use Rattle.std.proofs.Common.{◌+◌, ◌-◌, arith}
use Rattle.drill_day.specs.Draws.{after_rounds}
use Rattle.drill_day.proofs.Rounds.{after_end, after_step}
use Rattle.drill_day.proofs.draws.after_rounds.Goals as goal

pub rounds-preserved : goal.rounds-preserved
rounds-preserved c =
    after_step c.rounds.last c.after_two-last.result (c.args.count - c.rounds._round) (c.args.count - (c.rounds._round + 1)) (after_rounds c.args.x c.args.count)
    c.after_two-last.ensures (omega arith) c.rounds.invariant

pub returns : goal.returns
returns c = after_end c.rounds.last (c.args.count - c.rounds._round) (after_rounds c.args.x c.args.count) (omega arith) c.rounds.invariant
