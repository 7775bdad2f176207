use Rattle.std.proofs.Common.{rules, arith}
use Rattle.seqlock.specs.Tries.{IsCalm}
use Rattle.shm_reader.specs.SegmentTries.{segment_lock}
use Rattle.interval_now.proofs.CallSteps.{started_is_call}
use Rattle.segment_rule.proofs.WholeCall.{first_comes, first_goes_on}
use Rattle.segment_rule.proofs.whole_call.whole_call.Goals as goal

pub returns-then-not-is_calm-clause-comes : goal.returns-then-not-is_calm-clause-comes
returns-then-not-is_calm-clause-comes c =
    let some = c.requires.some in
    first_comes c.args.clock.now c.args.tries c.args.support c.args.seat.now.me.0 _ c.load_first-header.result c.end.result c.after_header.result c.requires.moments c.requires.clock c.requires.support
    (started_is_call c.args.tries c.args.support (omega (arith, some)) c.requires.most) c.load_first-header.ensures.told c.after_header.ensures c.end.ensures.value

pub after_first-requires-clause-going : goal.after_first-requires-clause-going
after_first-requires-clause-going c =
    let some = c.requires.some in
    let calm : IsCalm segment_lock c.load_first-header.result = search rules in
    first_goes_on c.args.clock.now c.args.tries c.args.support c.args.seat.now.me.0 _ c.load_first-header.result c.requires.moments c.requires.clock c.requires.support
    (started_is_call c.args.tries c.args.support (omega (arith, some)) c.requires.most) calm c.load_first-header.ensures.told
