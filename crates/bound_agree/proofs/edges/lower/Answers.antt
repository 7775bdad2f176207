use Rattle.bound_agree.proofs.Edits.{emptied, gone, lessened, stays, keys_insert, rises_from}
use Rattle.bound_agree.specs.Edges.{counts_at}
use Rattle.std.proofs.Common.{rules}
use Rattle.bound_agree.proofs.edges.lower.Goals as goal

pub returns-then-eq-clause-done : goal.returns-then-eq-clause-done
unfolding counts_at
returns-then-eq-clause-done c =
    emptied c.args.edge c.args.at.0 c.one_fewer-counts.result c.get.result.now c.args.edges.now.entries _ c.requires.rises
    (search rules) c.one_fewer-counts.ensures (search rules) (search rules)

pub returns-else-eq-clause-done : goal.returns-else-eq-clause-done
unfolding counts_at
returns-else-eq-clause-done c =
    lessened c.args.edge c.args.at.0 c.one_fewer-counts.result c.get.result.now c.args.edges.now.entries _ c.requires.rises
    (search rules) c.one_fewer-counts.ensures (search (rules, c.in-Ok-Occupied.ensures.update.1 c.one_fewer-counts.result))

pub returns-else-eq-clause-keys : goal.returns-else-eq-clause-keys
returns-else-eq-clause-keys c = search (rules, keys_insert, c.in-Ok-Occupied.ensures.update.1 c.one_fewer-counts.result)

pub returns-else-eq-clause-rises : goal.returns-else-eq-clause-rises
returns-else-eq-clause-rises c = search (rules, rises_from, c.in-Ok-Occupied.ensures.update.2 c.one_fewer-counts.result)

pub returns-then-eq-clause-gone : goal.returns-then-eq-clause-gone
returns-then-eq-clause-gone c = gone c.args.at.0 c.args.edges.now.entries _ c.requires.rises (search rules)

pub returns-else-eq-clause-gone : goal.returns-else-eq-clause-gone
returns-else-eq-clause-gone c =
    stays c.args.at.0 c.one_fewer-counts.result c.args.edges.now.entries _ (search rules) (search (rules, c.in-Ok-Occupied.ensures.update.1 c.one_fewer-counts.result))
