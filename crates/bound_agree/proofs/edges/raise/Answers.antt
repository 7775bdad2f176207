use Rattle.bound_agree.proofs.Edits.{raised, keys_insert, rises_from}
use Rattle.bound_agree.specs.Edges.{counts_at}
use Rattle.std.proofs.Common.{rules}
use Rattle.bound_agree.proofs.edges.raise.Goals as goal

pub returns-clause-done : goal.returns-clause-done
unfolding counts_at
returns-clause-done c =
    raised c.args.edge c.args.at.0 c.or_insert-counts.result.now c.one_more.result c.args.edges.now.entries _ c.requires.rises
    (search rules) c.one_more.ensures (search (rules, c.in_ok-edges.ensures.update.1 c.one_more.result))

pub returns-clause-keys : goal.returns-clause-keys
returns-clause-keys c = search (rules, keys_insert, c.in_ok-edges.ensures.update.1 c.one_more.result)

pub returns-clause-rises : goal.returns-clause-rises
returns-clause-rises c = search (rules, rises_from, c.in_ok-edges.ensures.update.2 c.one_more.result)
