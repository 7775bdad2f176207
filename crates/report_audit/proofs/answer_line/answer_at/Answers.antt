use Rattle.lawful_report.specs.Course.{Course}
use Rattle.report_audit.specs.Auditor.{ShowsCourse}
use Rattle.report_audit.proofs.AnswerKinds.{last_kind}
use Rattle.report_audit.proofs.answer_line.answer_at.Goals as goal

pub returns-in-Ok-Some-busy_answer : goal.returns-in-Ok-Some-busy_answer
returns-in-Ok-Some-busy_answer c course shows = rw c.in-Ok-Some-busy_answer.field-0-is at (c.in-Ok-Some-busy_answer.ensures course shows.point_is)

pub returns-in-Ok-Some-page_busy_answer : goal.returns-in-Ok-Some-page_busy_answer
returns-in-Ok-Some-page_busy_answer c course shows = rw c.in-Ok-Some-page_busy_answer.field-0-is at (c.in-Ok-Some-page_busy_answer.ensures c.args.trace.now course c.requires.knows.pages)

pub returns-in-Ok-Some : goal.returns-in-Ok-Some
returns-in-Ok-Some c course shows = rw c.in-Ok-Some.field-0-is at (c.in-Ok-Some.ensures c.args.trace.now course)

pub returns : goal.returns
returns c =
    last_kind c.args.trace.now c.args.call c.args.seen c.args.text.now (λ (course : Course). ShowsCourse course c.args.progress.now) c.early_answer.result
    (λ course shows. rw c.in-Ok-None-time_answer.field-0-is at (c.in-Ok-None-time_answer.ensures course shows))
    (λ course shows. rw c.in-Ok-None-busy_answer.field-0-is at (c.in-Ok-None-busy_answer.ensures course shows.point_is))
    (λ course shows. rw c.in-Ok-None-page_busy_answer.field-0-is at (c.in-Ok-None-page_busy_answer.ensures c.args.trace.now course c.requires.knows.pages))
    (λ course shows. rw c.in-Ok-None.field-0-is at (c.in-Ok-None.ensures c.args.trace.now course))
    c.early_answer.ensures
