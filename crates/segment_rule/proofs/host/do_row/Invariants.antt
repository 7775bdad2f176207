use Rattle.std.proofs.Common.{◌≡◌, []}
use Rattle.vmclock_page.specs.Host.{IsHost, stores_left}
use Rattle.segment_rule.specs.Hosts.{words_of_row}
use Rattle.segment_rule.proofs.Hosting.{HostAt, MayHostRow}
use Rattle.segment_rule.proofs.host.do_row.Given as goal

abbrev pub invariant-storing : goal.invariant-storing
invariant-storing l = record {
  table : l.seat.table_id ≡ l.fn.seat.table_id;
  slots : l.seat.me.1 ≡ [];
  may : MayHostRow l.row l.fn.seat.me.0;
  host : IsHost l.machine;
  at : HostAt l.row l.fn.seat.me.0 l.machine l.seat.me.0;
}

abbrev pub decreases-storing : goal.decreases-storing
decreases-storing l = stores_left l.machine

abbrev pub ghosts-store : goal.ghosts-store
ghosts-store a = record { words = words_of_row a._row.now }
