use Rattle.std.proofs.Common.{true, sym, subst, arith}
use Rattle.seqlock.specs.Tries.{SeqlockRead}
use Rattle.interval_now.specs.declared.stage.Stage.TheVariants.{Page}
use Rattle.interval_now.specs.Call.{IsCall}
use Rattle.interval_now.proofs.PageTry.{page_is_call}
use Rattle.interval_now.proofs.now.NowMachine.at_page.Goals as goal

pub invariant_of-result : goal.invariant_of-result
invariant_of-result c =
    let some = c.requires.some in (
      subst (λ (read : SeqlockRead). IsCall (record { tries = c.args.tries; support = true; stage = Page c.args.generation c.args.rec.now c.args.reading read })) (sym c.new-reader.ensures.value)
          (page_is_call c.args.tries c.args.generation c.args.rec.now c.args.reading (omega (arith, some)) c.requires.most c.requires.mono c.requires.real),
      tt,
    )
