use Rattle.std.proofs.Common.{rules, ◌+◌, false, ◌∙◌, arith, take}
use Rattle.segment_rule.proofs.Allowed.{load_allowed}
use Rattle.segment_rule.proofs.LoadedWords.{stays, told_next}
use Rattle.segment_rule.proofs.loads.load_words.Goals as goal

pub load-requires : goal.load-requires
load-requires c =
    let same = stays 2 (take c.loading.i c.loading.words) c.args.seat.now.me.0 c.loading.seat.me.0 c.loading.invariant.told in
    let few = c.loading-test.true in
    (search rules, search rules, load_allowed c.table.inside.table.shared.key false (2 + c.loading.i) _ _ _ (same.seated ∙ c.requires.seated) (λ eleven. absurd (omega (arith, few, eleven))))

pub loading-preserved : goal.loading-preserved
loading-preserved c =
    let before = c.loading.invariant in
    let few = c.loading-test.true in
    let done = c.load.ensures in
    record {
      table = done.0 ∙ before.table;
      slots = done.2.0 ∙ before.slots;
      few = omega (arith, few);
      eight = search rules;
      told = told_next 2 c.loading.i c.loading.words c.args.seat.now.me.0 c.loading.seat.me.0 c.load.new.seat.me.0 c.load.result few before.eight before.told done.2.1;
    }
