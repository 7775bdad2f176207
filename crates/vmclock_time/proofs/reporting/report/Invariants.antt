use Rattle.std.proofs.Common.{◌≤◌, drop}
use Rattle.std.specs.Prelude.{vec_items}
use Rattle.vmclock_time.proofs.Made.{Shows}
use Rattle.vmclock_time.proofs.reporting.report.Given as goal

abbrev pub invariant-rows : goal.invariant-rows
invariant-rows l = (Shows l.rows (vec_items l.told) l.making (drop l.row-index l.rows)) × (l.making.reads ≤ l.row-index)
