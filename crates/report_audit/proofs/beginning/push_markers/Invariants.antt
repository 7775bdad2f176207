use Rattle.std.proofs.Common.{◌≡◌, ◌++◌, drop}
use Rattle.lawful_report.specs.Pages.{row_markers}
use Rattle.report_audit.proofs.beginning.push_markers.Given as goal

abbrev pub invariant-loop-row : goal.invariant-loop-row
invariant-loop-row l = l.markers.items ++ row_markers (drop l.row-index l.host) ≡ l.fn.markers.items ++ row_markers l.host
