use Rattle.std.proofs.Common.{rules, ◌≡◌, ◌≤◌, false, sym, subst, ap, ◌∙◌, arith, ℕ}
use Rattle.std.specs.Prelude.{is_some}
use Rattle.clock_gate.specs.declared.limits.TheConstants.{MOST_HOST_ROWS}
use Rattle.segment_layout.specs.Record.{RecordFields}
use Rattle.shm_reader.specs.SegmentTries.{record_in}
use Rattle.interval_now.specs.declared.stage.Stage.TheVariants.{Clock}
use Rattle.interval_now.specs.Call.{Call, given}
use Rattle.segment_views.specs.declared.setup.Setup.{Setup}
use Rattle.segment_rule.specs.Ruled.{TellsLoad}
use Rattle.segment_rule.specs.Calls.{Going}
use Rattle.segment_rule.proofs.LoadedWords.{stays, stays_one, stays_more}
use Rattle.segment_rule.proofs.WholeCall.{words_good, words_go_on, try_comes, record_goes_on}
use Rattle.segment_rule.proofs.whole_call.after_first.Goals as goal

pub load_later-last-requires-clause-seated : goal.load_later-last-requires-clause-seated
load_later-last-requires-clause-seated c =
    let to_words = stays 2 c.load_words-words.result c.args.seat.now.me.0 c.load_words-words.new.seat.me.0 c.load_words-words.ensures.told in
    to_words.seated ∙ c.requires.seated

pub after_words-requires-clause-good : goal.after_words-requires-clause-good
after_words-requires-clause-good c =
    let some = c.requires.some in
    words_good c.args.clock.now c.args.tries c.args.support c.args.header (omega (arith, some)) c.requires.calm c.args.seat.now.me.0 c.load_words-words.new.seat.me.0 c.load_words-words.result c.load_words-words.ensures.eight c.requires.going c.load_words-words.ensures.told

pub returns-then-last-header-clause-stays : goal.returns-then-last-header-clause-stays
returns-then-last-header-clause-stays c =
    stays_more c.args.seat.now.me.0 c.load_words-words.new.seat.me.0 c.load_later-last.new.seat.me.0 (stays 2 c.load_words-words.result c.args.seat.now.me.0 c.load_words-words.new.seat.me.0 c.load_words-words.ensures.told) (stays_one 1 c.load_later-last.result c.load_words-words.new.seat.me.0 c.load_later-last.new.seat.me.0 c.load_later-last.ensures.told)

pub returns-then-last-header-clause-comes : goal.returns-then-last-header-clause-comes
returns-then-last-header-clause-comes c =
    let some = c.requires.some in
    let to_words = stays 2 c.load_words-words.result c.args.seat.now.me.0 c.load_words-words.new.seat.me.0 c.load_words-words.ensures.told in
    let going = words_go_on c.args.clock.now c.args.tries c.args.support c.args.header (omega (arith, some)) c.requires.calm c.args.seat.now.me.0 c.load_words-words.new.seat.me.0 c.load_words-words.result c.requires.moments c.requires.clock c.load_words-words.ensures.eight c.requires.going c.load_words-words.ensures.told in
    try_comes c.args.clock.now c.args.tries c.args.support c.args.header (omega (arith, some)) c.requires.calm c.load_words-words.new.seat.me.0 c.load_later-last.new.seat.me.0 c.load_words-words.result c.load_later-last.result c.end.result c.give.new.self
    c.requires.moments (c.requires.clock ∙ ap (λ (setup : Setup). setup.rows) (sym to_words.setup)) c.load_words-words.ensures.eight going c.load_later-last.ensures.told
    (c.give.ensures.value ∙ ap (λ (call : Call). given c.args.clock.now call c.load_later-last.result) c.after_words.ensures.value) c.end.ensures.value

pub after_record-requires-clause-seated : goal.after_record-requires-clause-seated
after_record-requires-clause-seated c =
    let both = stays_more c.args.seat.now.me.0 c.load_words-words.new.seat.me.0 c.load_later-last.new.seat.me.0 (stays 2 c.load_words-words.result c.args.seat.now.me.0 c.load_words-words.new.seat.me.0 c.load_words-words.ensures.told) (stays_one 1 c.load_later-last.result c.load_words-words.new.seat.me.0 c.load_later-last.new.seat.me.0 c.load_later-last.ensures.told) in
    both.seated ∙ c.requires.seated

pub after_record-requires-clause-support : goal.after_record-requires-clause-support
after_record-requires-clause-support c =
    let both = stays_more c.args.seat.now.me.0 c.load_words-words.new.seat.me.0 c.load_later-last.new.seat.me.0 (stays 2 c.load_words-words.result c.args.seat.now.me.0 c.load_words-words.new.seat.me.0 c.load_words-words.ensures.told) (stays_one 1 c.load_later-last.result c.load_words-words.new.seat.me.0 c.load_later-last.new.seat.me.0 c.load_later-last.ensures.told) in
    c.requires.support ∙ ap (λ (setup : Setup). is_some setup.page) (sym both.setup)

pub after_record-requires-clause-clock : goal.after_record-requires-clause-clock
after_record-requires-clause-clock c =
    let both = stays_more c.args.seat.now.me.0 c.load_words-words.new.seat.me.0 c.load_later-last.new.seat.me.0 (stays 2 c.load_words-words.result c.args.seat.now.me.0 c.load_words-words.new.seat.me.0 c.load_words-words.ensures.told) (stays_one 1 c.load_later-last.result c.load_words-words.new.seat.me.0 c.load_later-last.new.seat.me.0 c.load_later-last.ensures.told) in
    c.requires.clock ∙ ap (λ (setup : Setup). setup.rows) (sym both.setup)

pub after_record-requires-clause-rows : goal.after_record-requires-clause-rows
after_record-requires-clause-rows c =
    let both = stays_more c.args.seat.now.me.0 c.load_words-words.new.seat.me.0 c.load_later-last.new.seat.me.0 (stays 2 c.load_words-words.result c.args.seat.now.me.0 c.load_words-words.new.seat.me.0 c.load_words-words.ensures.told) (stays_one 1 c.load_later-last.result c.load_words-words.new.seat.me.0 c.load_later-last.new.seat.me.0 c.load_later-last.ensures.told) in
    subst (λ (setup : Setup). setup.rows ≤ MOST_HOST_ROWS) (sym both.setup) c.requires.rows

pub record_read-generation-requires : goal.record_read-generation-requires
record_read-generation-requires c =
    let some = c.requires.some in
    words_good c.args.clock.now c.args.tries c.args.support c.args.header (omega (arith, some)) c.requires.calm c.args.seat.now.me.0 c.load_words-words.new.seat.me.0 c.load_words-words.result c.load_words-words.ensures.eight c.requires.going c.load_words-words.ensures.told

pub after_record-requires-clause-going : goal.after_record-requires-clause-going
after_record-requires-clause-going c =
    let some = c.requires.some in
    let to_words = stays 2 c.load_words-words.result c.args.seat.now.me.0 c.load_words-words.new.seat.me.0 c.load_words-words.ensures.told in
    let going = words_go_on c.args.clock.now c.args.tries c.args.support c.args.header (omega (arith, some)) c.requires.calm c.args.seat.now.me.0 c.load_words-words.new.seat.me.0 c.load_words-words.result c.requires.moments c.requires.clock c.load_words-words.ensures.eight c.requires.going c.load_words-words.ensures.told in
    let same : c.load_later-last.result ≡ c.args.header = search rules in
    let read = record_goes_on c.args.clock.now c.args.tries c.args.support c.args.header (omega (arith, some)) c.requires.calm c.load_words-words.new.seat.me.0 c.load_later-last.new.seat.me.0 c.load_words-words.result
    c.requires.moments (c.requires.clock ∙ ap (λ (setup : Setup). setup.rows) (sym to_words.setup)) c.load_words-words.ensures.eight going (subst (λ (n : ℕ). TellsLoad false 1 c.load_words-words.new.seat.me.0 n n c.load_later-last.new.seat.me.0) same c.load_later-last.ensures.told) in
    subst (λ (rec : RecordFields). Going c.args.tries (record { tries = c.args.tries; support = c.args.support; stage = Clock c.record_read-generation.result.0 rec }) c.load_later-last.new.seat.me.0) (sym c.record_read-generation.ensures.rec)
    (subst (λ (g : ℕ). Going c.args.tries (record { tries = c.args.tries; support = c.args.support; stage = Clock g (record_in c.load_words-words.result) }) c.load_later-last.new.seat.me.0) (sym c.record_read-generation.ensures.generation) read)

pub returns-clause-stays : goal.returns-clause-stays
returns-clause-stays c =
    let both = stays_more c.args.seat.now.me.0 c.load_words-words.new.seat.me.0 c.load_later-last.new.seat.me.0 (stays 2 c.load_words-words.result c.args.seat.now.me.0 c.load_words-words.new.seat.me.0 c.load_words-words.ensures.told) (stays_one 1 c.load_later-last.result c.load_words-words.new.seat.me.0 c.load_later-last.new.seat.me.0 c.load_later-last.ensures.told) in
    stays_more c.args.seat.now.me.0 c.load_later-last.new.seat.me.0 _ both c.after_record.ensures.stays
