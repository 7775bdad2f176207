use Rattle.std.proofs.Common.{rules, subst}
use Rattle.vmclock_page.specs.Host.{IsHost}
use Rattle.segment_rule.proofs.Hosting.{is_setup}
use Rattle.segment_rule.proofs.table.HostTable.new.Goals as goal

pub of-requires-clause-setup : goal.of-requires-clause-setup
of-requires-clause-setup c = is_setup _ (search rules) (search rules) c.requires.image c.requires.some_rows (subst IsHost c.new-host.ensures.value c.new-host.ensures.kept)
