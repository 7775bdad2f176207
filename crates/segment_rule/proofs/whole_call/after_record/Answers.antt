use Rattle.std.proofs.Common.{ap, ◌∙◌}
use Rattle.std.specs.Prelude.{None}
use Rattle.clock_gate.specs.declared.clock_row.Reading.{Reading}
use Rattle.interval_now.specs.Call.{answer_of}
use Rattle.segment_rule.proofs.WholeCall.{clock_comes, page_begins}
use Rattle.segment_rule.proofs.whole_call.after_record.Goals as goal

pub returns-clause-comes : goal.returns-clause-comes
returns-clause-comes c =
    clock_comes c.args.clock.now c.args.tries c.args.support c.args.generation c.args.rec.now c.args.seat.now.me.0 _ c.load_later-row.result c.answer_of.result
    c.if-support.false c.requires.going c.load_later-row.ensures.told
    (c.answer_of.ensures.value ∙ ap (λ (reading : Reading). answer_of c.args.generation c.args.rec.now reading None 0) c.reading-reading.ensures.exact)

pub after_clock-requires-clause-going : goal.after_clock-requires-clause-going
after_clock-requires-clause-going c =
    page_begins c.args.clock.now c.args.tries c.args.support c.args.generation c.args.rec.now c.args.seat.now.me.0 _ c.load_later-row.result c.reading-reading.result
    c.requires.moments c.requires.clock c.if-support.true c.requires.going c.load_later-row.ensures.told c.reading-reading.ensures.exact
