use Rattle.std.proofs.Common.{◌≡◌, ◌+◌, ◌-◌, ◌≤◌, ◌++◌}
use Rattle.std.specs.List.{range_with_len, flat_map}
use Rattle.lawful_report.specs.Calls.{calls_of, calls_of_client}
use Rattle.report_audit.proofs.beginning.calls_of.Given as goal

abbrev pub invariant-clients : goal.invariant-clients
invariant-clients l =
    (l.client ≤ l.trace.clients)
    × (l.calls.items ++ flat_map (calls_of_client l.trace.calls) (range_with_len (l.client + 1) (l.trace.clients - l.client)) ≡ calls_of l.trace)

abbrev pub decreases-clients : goal.decreases-clients
decreases-clients l = l.trace.clients - l.client
