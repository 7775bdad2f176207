use Rattle.std.proofs.Common.{rules, false}
use Rattle.segment_rule.proofs.Allowed.{load_allowed}
use Rattle.segment_rule.proofs.loads.load_later.Goals as goal

pub load-requires : goal.load-requires
load-requires c = (search rules, search rules, load_allowed c.table.inside.table.shared.key false c.args.word _ _ _ c.requires.seated c.requires.may)
