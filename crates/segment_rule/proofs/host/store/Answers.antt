use Rattle.std.proofs.Common.{rules}
use Rattle.segment_rule.proofs.Allowed.{host_allowed}
use Rattle.segment_rule.proofs.host.store.Goals as goal

pub store-requires : goal.store-requires
store-requires g c = (search rules, search rules, host_allowed c.table.inside.table.shared.key g.A.AnnouncedPage.words c.args.word c.args.value _ _ _ c.requires.host c.requires.may)
