use Rattle.std.proofs.Common.{rules, ◌≡◌, [], ◌∷◌, sym, ap, ◌∙◌, arith}
use Rattle.std.specs.Prelude.{Some}
use Rattle.interval_now.specs.Call.{Call, answer_of, act_of, given}
use Rattle.interval_now.proofs.PageTry.{asks_count, asks_marker, asks_count_again, count_given, marker_given}
use Rattle.segment_views.specs.declared.setup.Setup.{Setup}
use Rattle.segment_rule.proofs.LoadedWords.{stays_one}
use Rattle.segment_rule.proofs.WholeCall.{page_good, page_comes, marker_goes_on, page_ends}
use Rattle.segment_rule.proofs.whole_call.after_count.Goals as goal

pub give-requires-clause-good : goal.give-requires-clause-good
give-requires-clause-good c =
    let some = c.requires.some in
    page_good (act_of c.at_page.result) 11 c.args.first (ap act_of c.at_page.ensures ∙ asks_count c.args.tries c.args.generation c.args.rec.now c.args.reading (omega (arith, some))) (omega arith)

pub give-requires-then-count_in-clause-good : goal.give-requires-then-count_in-clause-good
give-requires-then-count_in-clause-good c =
    let some = c.requires.some in
    let one = c.give.ensures.value ∙ ap (λ (call : Call). given c.args.clock.now call c.args.first) c.at_page.ensures ∙ count_given c.args.tries c.args.generation c.args.rec.now c.args.reading (omega (arith, some)) c.args.clock.now c.args.first c.requires.even in
    page_good (act_of c.give.new.self) 12 c.load_later-marker.result (ap act_of one ∙ asks_marker c.args.tries c.args.generation c.args.rec.now c.args.reading (omega (arith, some)) c.args.clock.now c.args.first c.requires.even) (omega arith)

pub give-requires-then-count_in-2-clause-good : goal.give-requires-then-count_in-2-clause-good
give-requires-then-count_in-2-clause-good c =
    let some = c.requires.some in
    let one = c.give.ensures.value ∙ ap (λ (call : Call). given c.args.clock.now call c.args.first) c.at_page.ensures ∙ count_given c.args.tries c.args.generation c.args.rec.now c.args.reading (omega (arith, some)) c.args.clock.now c.args.first c.requires.even in
    let two = c.give-then-count_in.ensures.value ∙ ap (λ (call : Call). given c.args.clock.now call c.load_later-marker.result) one ∙ marker_given c.args.tries c.args.generation c.args.rec.now c.args.reading (omega (arith, some)) c.args.clock.now c.args.first c.requires.even c.load_later-marker.result in
    page_good (act_of c.give-then-count_in.new.self) 11 c.load_later-second.result (ap act_of two ∙ asks_count_again c.args.tries c.args.generation c.args.rec.now c.args.reading (omega (arith, some)) c.args.clock.now c.args.first c.requires.even c.load_later-marker.result) (omega arith)

pub returns-then-count_in-clause-comes : goal.returns-then-count_in-clause-comes
returns-then-count_in-clause-comes c =
    let some = c.requires.some in
    let one = c.give.ensures.value ∙ ap (λ (call : Call). given c.args.clock.now call c.args.first) c.at_page.ensures ∙ count_given c.args.tries c.args.generation c.args.rec.now c.args.reading (omega (arith, some)) c.args.clock.now c.args.first c.requires.even in
    let two = c.give-then-count_in.ensures.value ∙ ap (λ (call : Call). given c.args.clock.now call c.load_later-marker.result) one ∙ marker_given c.args.tries c.args.generation c.args.rec.now c.args.reading (omega (arith, some)) c.args.clock.now c.args.first c.requires.even c.load_later-marker.result in
    let to_marker = stays_one 12 c.load_later-marker.result c.args.seat.now.me.0 c.load_later-marker.new.seat.me.0 c.load_later-marker.ensures.told in
    let going = marker_goes_on c.args.clock.now c.args.tries c.args.generation c.args.rec.now c.args.reading (omega (arith, some)) c.requires.reading c.requires.moments c.args.first c.requires.even c.args.seat.now.me.0 c.load_later-marker.new.seat.me.0 c.load_later-marker.result c.requires.clock c.requires.going c.load_later-marker.ensures.told in
    page_comes c.args.clock.now c.args.tries c.args.generation c.args.rec.now c.args.reading (omega (arith, some)) c.requires.reading c.requires.moments c.load_later-marker.new.seat.me.0 c.load_later-second.new.seat.me.0 (c.args.first ∷ c.load_later-marker.result ∷ []) 11 c.load_later-second.result c.end.result c.give-then-count_in-2.new.self
    (c.requires.clock ∙ ap (λ (setup : Setup). setup.rows) (sym to_marker.setup)) going (asks_count_again c.args.tries c.args.generation c.args.rec.now c.args.reading (omega (arith, some)) c.args.clock.now c.args.first c.requires.even c.load_later-marker.result) c.load_later-second.ensures.told
    (c.give-then-count_in-2.ensures.value ∙ ap (λ (call : Call). given c.args.clock.now call c.load_later-second.result) two) c.end.ensures.value

pub returns-clause-comes : goal.returns-clause-comes
returns-clause-comes c =
    let some = c.requires.some in
    let equal : c.count_in.result ≡ c.count_in-2.result = search rules in
    let going = marker_goes_on c.args.clock.now c.args.tries c.args.generation c.args.rec.now c.args.reading (omega (arith, some)) c.requires.reading c.requires.moments c.args.first c.requires.even c.args.seat.now.me.0 c.load_later-marker.new.seat.me.0 c.load_later-marker.result c.requires.clock c.requires.going c.load_later-marker.ensures.told in
    page_ends c.args.clock.now c.args.tries c.args.generation c.args.rec.now c.args.reading (omega (arith, some)) c.requires.reading c.requires.moments c.args.first c.requires.even c.load_later-marker.new.seat.me.0 c.load_later-second.new.seat.me.0 c.load_later-marker.result c.load_later-second.result c.answer_of.result
    going c.load_later-second.ensures.told (sym c.count_in.ensures ∙ equal ∙ c.count_in-2.ensures)
    (c.answer_of.ensures.value ∙ ap (answer_of c.args.generation c.args.rec.now c.args.reading (Some c.load_later-marker.result)) c.count_in-3.ensures)
