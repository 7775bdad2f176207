-- What a lawful trace says of its clients and its clock.
use Rattle.std.proofs.Common.{◌≤◌, length, arith}
use Rattle.clock_gate.specs.declared.limits.TheConstants.{MOST_CLIENTS, MOST_HOST_ROWS}
use Rattle.clock_gate.specs.declared.trace.Trace.{Trace}
use Rattle.clock_gate.proofs.Traces.{clock_few}
use Rattle.clock_gate.specs.Trace.{IsLawfulTrace}
use Rattle.abstract_run.proofs.RowCounts.{clocks_most, clocks_some}
use Rattle.live_report.proofs.Clients.{clients_within}

-- a trace has one client at least, and not too many
pub clients_some : (trace : Trace) → IsLawfulTrace trace → 1 ≤ trace.clients
clients_some trace lawful = (clients_within trace lawful).0

pub clients_few : (trace : Trace) → IsLawfulTrace trace → trace.clients ≤ MOST_CLIENTS
clients_few trace lawful = (clients_within trace lawful).1

-- and one row of the clock at least, and not too many
pub rows_some : (trace : Trace) → IsLawfulTrace trace → 1 ≤ length trace.clock
rows_some trace lawful =
    let first = clocks_some (length trace.clock) trace.host 1 lawful.host (omega arith) in
    let most = clocks_most (length trace.clock) trace.host 1 lawful.host in
    omega (arith, first, most)

pub rows_few : (trace : Trace) → IsLawfulTrace trace → length trace.clock ≤ MOST_HOST_ROWS
rows_few trace lawful = clock_few trace lawful
