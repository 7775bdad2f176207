use Rattle.std.proofs.Common.{◌≡◌, List, ◌++◌, ◌+◌, subst, arith}
use Rattle.clock_gate.specs.declared.trace.CallRow.{CallRow}
use Rattle.lawful_report.specs.Calls.{calls_of, calls_of_client}
use Rattle.report_audit.proofs.Beginnings.{clients_on}
use Rattle.report_audit.proofs.TraceLimits.{clients_most}
use Rattle.report_audit.proofs.beginning.calls_of.Goals as goal

pub overflow_add-client : goal.overflow_add-client
overflow_add-client c = omega (arith, c.if-trace-client.false, clients_most c.args.trace.now c.requires.lawful)

pub clients-preserved : goal.clients-preserved
clients-preserved c = clients_on c.args.trace.now.calls c.clients.calls.items c.push_calls.new.calls.items (calls_of c.args.trace.now) c.clients.client c.args.trace.now.clients (omega (arith, c.if-trace-client.false)) c.clients.invariant.1
    (subst (λ (rows : List CallRow). c.push_calls.new.calls.items ≡ c.clients.calls.items ++ calls_of_client rows (c.clients.client + 1)) c.as_slice.ensures c.in_ok-push_calls.ensures)
