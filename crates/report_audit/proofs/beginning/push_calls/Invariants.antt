use Rattle.std.proofs.Common.{◌≡◌, ◌+◌, ◌≤◌, ◌++◌, drop}
use Rattle.std.specs.Prelude.{map, filter, ◌==◌}
use Rattle.clock_gate.specs.declared.trace.CallRow.{CallRow}
use Rattle.lawful_report.specs.Calls.{numbered_from, calls_of_client}
use Rattle.report_audit.proofs.beginning.push_calls.Given as goal

abbrev pub invariant-loop-row : goal.invariant-loop-row
invariant-loop-row l =
    (l.number ≤ l.row-index + 1)
    × (l.calls.items ++ numbered_from l.client l.number (map (λ (row : CallRow). row.tries) (filter (λ (row : CallRow). row.client == l.client) (drop l.row-index l.rows))) ≡ l.fn.calls.items ++ calls_of_client l.rows l.client)
