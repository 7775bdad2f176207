use Rattle.std.proofs.Common.{sym, subst, arith}
use Rattle.seqlock.specs.Tries.{SeqlockRead}
use Rattle.interval_now.specs.declared.stage.Stage.TheVariants.{Segment}
use Rattle.interval_now.specs.Call.{IsCall}
use Rattle.interval_now.proofs.CallSteps.{started_is_call}
use Rattle.interval_now.proofs.now.NowMachine.new.Goals as goal

pub invariant_of-result : goal.invariant_of-result
invariant_of-result c =
    let some = c.requires.some in (
      subst (λ (read : SeqlockRead). IsCall (record { tries = c.args.tries; support = c.args.support; stage = Segment read })) (sym c.new.ensures.value)
          (started_is_call c.args.tries c.args.support (omega arith) c.requires.most),
      tt,
    )
