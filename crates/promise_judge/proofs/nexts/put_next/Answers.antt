use Rattle.std.proofs.Common.{◌+◌, ℕ, cond, refl, ap, ◌∙◌, subst}
use Rattle.std.proofs.lemmas.Grind.{get_or_default_zero}
use Rattle.promise_judge.specs.Searching.{AreNext}
use Rattle.promise_judge.proofs.Filling.{next_put}
use Rattle.promise_judge.proofs.nexts.put_next.Goals as goal

pub returns : goal.returns
returns c = λ test from limit is are passes.
    next_put test limit c.args.n c.next_of.result c.args.passes c.args.table.now.items _ c.requires
    (subst (λ (k : ℕ). AreNext test k limit c.args.table.now.items) is are) passes
    (c.next_of.ensures ∙ ap (λ later. cond c.args.passes c.args.n later)
    (c.index-later.ensures ∙ get_or_default_zero c.args.table.now.items (c.args.n + 1) c.index-later.result.now c.requires))
    refl
