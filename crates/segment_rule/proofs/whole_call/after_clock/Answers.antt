use Rattle.std.proofs.Common.{rules, ◌≡◌, ◌%◌, [], ap, ◌∙◌, arith}
use Rattle.vmclock_page.specs.Words.{count_in_word}
use Rattle.interval_now.specs.Call.{Call, given}
use Rattle.interval_now.proofs.PageTry.{asks_count}
use Rattle.segment_rule.proofs.WholeCall.{page_comes, count_goes_on}
use Rattle.segment_rule.proofs.whole_call.after_clock.Goals as goal

pub returns-then-count_in-eq1-clause-comes : goal.returns-then-count_in-eq1-clause-comes
returns-then-count_in-eq1-clause-comes c =
    let some = c.requires.some in
    page_comes c.args.clock.now c.args.tries c.args.generation c.args.rec.now c.args.reading (omega (arith, some)) c.requires.reading c.requires.moments c.args.seat.now.me.0 c.load_later-first.new.seat.me.0 [] 11 c.load_later-first.result c.end.result c.give.new.self
    c.requires.clock c.requires.going (asks_count c.args.tries c.args.generation c.args.rec.now c.args.reading (omega (arith, some))) c.load_later-first.ensures.told
    (c.give.ensures.value ∙ ap (λ (call : Call). given c.args.clock.now call c.load_later-first.result) c.at_page.ensures) c.end.ensures.value

pub after_count-requires-clause-going : goal.after_count-requires-clause-going
after_count-requires-clause-going c =
    let some = c.requires.some in
    let even : count_in_word c.load_later-first.result % 2 ≡ 0 = search rules in
    count_goes_on c.args.clock.now c.args.tries c.args.generation c.args.rec.now c.args.reading (omega (arith, some)) c.requires.reading c.requires.moments c.load_later-first.result even c.args.seat.now.me.0 c.load_later-first.new.seat.me.0 c.requires.clock c.requires.going c.load_later-first.ensures.told
