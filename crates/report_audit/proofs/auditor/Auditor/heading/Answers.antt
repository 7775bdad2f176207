use Rattle.report_audit.proofs.TakenLines.{taken_heading}
use Rattle.report_audit.proofs.auditor.Auditor.heading.Goals as goal

pub returns : goal.returns
returns c course counts holds =
    taken_heading c.args.trace.now c.args.known.now course counts c.args.text.now c.in-Some.later.now _
    (record { course_is = holds.course_is; counts_are = holds.counts_are }) (c.due_next-self.ensures course holds.course_is) (rw c.in-Some.is at c.after_line.ensures.found)
