use Rattle.std.proofs.Common.{◌≡◌, ◌+◌, ◌≤◌, length, drop}
use Rattle.lawful_report.specs.Pages.{row_markers}
use Rattle.report_audit.proofs.beginning.page_rows.Given as goal

abbrev pub invariant-loop-row : goal.invariant-loop-row
invariant-loop-row l = (l.pages ≤ l.row-index) × (l.pages + length (row_markers (drop l.row-index l.host)) ≡ length (row_markers l.host))
