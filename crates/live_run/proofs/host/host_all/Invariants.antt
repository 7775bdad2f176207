use Rattle.std.proofs.Common.{◌≡◌, drop}
use Rattle.live_report.specs.LiveRun.{part_after_rows}
use Rattle.live_run.proofs.HostRows.{Counts}
use Rattle.live_run.proofs.host.host_all.Given as goal

abbrev pub invariant-rows : goal.invariant-rows
invariant-rows g l = record {
  table : l.host.table ≡ l.fn.host.table;
  same : l.host.view ≡ record l.fn.host.view { host_part = l.host.view.host_part };
  counts : Counts l.rows l.done l.host.view.host_part;
  left : part_after_rows (drop l.done l.rows) l.host.view.host_part ≡ part_after_rows (drop 1 l.rows) l.fn.host.view.host_part;
}
