use Rattle.std.proofs.Common.{sym}
use Rattle.report_audit.proofs.TakenLines.{taken_stopping}
use Rattle.report_audit.proofs.auditor.Auditor.stopping.Goals as goal

pub returns : goal.returns
returns c course counts holds =
    taken_stopping c.args.trace.now c.args.known.now course counts c.args.text.now c.in-Some.later.now _ c.args.self.now.progress.polled (sym holds.course_is.polled)
    (record { course_is = holds.course_is; counts_are = holds.counts_are }) (c.due_next-self.ensures course holds.course_is) (rw c.in-Some.is at c.after_line.ensures.found)
