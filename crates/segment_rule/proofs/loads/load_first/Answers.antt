use Rattle.std.proofs.Common.{rules, true, arith}
use Rattle.segment_rule.proofs.Allowed.{load_allowed}
use Rattle.segment_rule.proofs.loads.load_first.Goals as goal

pub load-requires : goal.load-requires
load-requires c = (search rules, search rules, load_allowed c.table.inside.table.shared.key true 1 _ _ _ c.requires.seated (λ eleven. absurd (omega (arith, eleven))))
