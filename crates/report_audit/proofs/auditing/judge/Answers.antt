use Rattle.std.proofs.Common.{arith}
use Rattle.report_audit.proofs.Reached.{sizes_there, reached_first, reached_next}
use Rattle.report_audit.proofs.auditing.judge.Goals as goal

pub lines-init : goal.lines-init
lines-init c = reached_first c.args.trace.now c.args.known.now c.args.report.now c.args.begun c.requires.shows

pub next-requires-clause-sizes : goal.next-requires-clause-sizes
next-requires-clause-sizes c = (sizes_there c.args.trace.now c.args.known.now c.args.report.now c.lines.auditor c.lines.rest.now c.lines.number c.requires.lawful c.requires.small c.lines.invariant).progress

pub next-requires-clause-counts : goal.next-requires-clause-counts
next-requires-clause-counts c = (sizes_there c.args.trace.now c.args.known.now c.args.report.now c.lines.auditor c.lines.rest.now c.lines.number c.requires.lawful c.requires.small c.lines.invariant).counts

pub next-requires-clause-seen : goal.next-requires-clause-seen
next-requires-clause-seen c = (sizes_there c.args.trace.now c.args.known.now c.args.report.now c.lines.auditor c.lines.rest.now c.lines.number c.requires.lawful c.requires.small c.lines.invariant).due

pub overflow_add-number : goal.overflow_add-number
overflow_add-number c =
    let sizes = sizes_there c.args.trace.now c.args.known.now c.args.report.now c.lines.auditor c.lines.rest.now c.lines.number c.requires.lawful c.requires.small c.lines.invariant in
    omega (arith, sizes.number_small)

pub lines-preserved : goal.lines-preserved
lines-preserved c =
    reached_next c.args.trace.now c.args.known.now c.args.report.now c.lines.auditor c.next.new.self c.lines.rest.now c.in-Some.later.now c.lines.number c.lines.invariant
    (rw c.in-Some.is at (c.in_ok-later.ensures c.lines.invariant.standing c.lines.invariant.shows))
