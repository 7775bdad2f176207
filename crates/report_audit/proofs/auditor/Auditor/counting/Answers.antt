use Rattle.std.proofs.Common.{sym, ap}
use Rattle.lawful_report.specs.Lawful.{counts_list}
use Rattle.report_audit.proofs.AuditorSteps.{none_of}
use Rattle.report_audit.proofs.Candidates.{no_counting}
use Rattle.report_audit.proofs.TakenLines.{taken_total}
use Rattle.report_audit.proofs.auditor.Auditor.counting.Goals as goal

pub returns-in_default : goal.returns-in_default
returns-in_default c trace known course counts seen holds =
    no_counting trace course counts seen c.args.text.now (counts_list c.args.self.now.counts) (ap counts_list (sym holds.counts_are)) (rw (none_of c.after_line.result c.in_default.not-Some) at c.after_line.ensures.other)

pub returns : goal.returns
returns c trace known course counts seen holds =
    taken_total trace known course counts c.args.text.now c.in-Some.later.now _ seen (counts_list c.args.self.now.counts) (ap counts_list (sym holds.counts_are))
    (record { course_is = holds.course_is; counts_are = holds.counts_are }) tt (rw c.in-Some.is at c.after_line.ensures.found)
