use Rattle.std.proofs.Common.{◌<◌, ◌≤◌, ◌^◌, Result, subst, arith}
use Rattle.std.specs.Prelude.{All}
use Rattle.segment_layout.specs.declared.image_fault.ImageFault.{ImageFault}
use Rattle.segment_layout.specs.declared.start.Start.{Start}
use Rattle.lawful_report.specs.Course.{course_by}
use Rattle.report_audit.specs.Auditor.{EntryFits}
use Rattle.report_audit.proofs.Beginnings.{entries_fit}
use Rattle.report_audit.proofs.beginning.progress_of.Goals as goal

pub returns-clause-small : goal.returns-clause-small
returns-clause-small c = record {
  entries = subst (λ (found : Result Start ImageFault). All EntryFits (course_by found).entries) c.admit-image.ensures.exact (entries_fit c.args.trace.now.layout c.args.trace.now.image c.admit-image.result c.admit-image.ensures.found);
  before_small = subst (λ (found : Result Start ImageFault). (course_by found).before < 2 ^ 32) c.admit-image.ensures.exact (omega (arith, c.before_of-before.ensures.value, c.before_of-before.ensures.small));
  point_small = subst (λ (found : Result Start ImageFault). (course_by found).point ≤ 2 ^ 32) c.admit-image.ensures.exact (omega (arith, c.point_of-point.ensures.value, c.point_of-point.ensures.small));
}
