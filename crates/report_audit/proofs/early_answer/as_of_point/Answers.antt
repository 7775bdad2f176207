use Rattle.std.proofs.Common.{◌≡◌, pos, Some, sym, ◌∙◌, arith}
use Rattle.std.proofs.lemmas.Bool.{false≢true}
use Rattle.lawful_report.specs.Course.{entry_at}
use Rattle.report_audit.proofs.EntryPoints.{at_position, next_position, found_position}
use Rattle.report_audit.proofs.early_answer.as_of_point.Goals as goal

pub returns-then-has_as_of : goal.returns-then-has_as_of
returns-then-has_as_of c course same first =
    let stands : entry_at course c.positions.position ≡ Some c.in-Some.entry = at_position course c.args.entries.now c.args.before c.positions.position same first ∙ (sym c.entry_at.ensures ∙ c.in-Some.is) in
    found_position course (pos c.args.as_of) c.args.from c.args.until c.positions.position c.in-Some.entry stands
    (c.has_as_of.ensures.0 c.if-has_as_of.true)
    c.positions.invariant.not_before (omega (arith, c.if-until-position.false)) (c.positions.invariant.none course same first)

pub positions-preserved : goal.positions-preserved
positions-preserved c = record {
  not_before = omega (arith, c.positions.invariant.not_before);
  later = omega (arith, c.positions.invariant.later);
  small = omega (arith, c.if-until-position.false, c.requires.until);
  none = λ course same first.
      let stands : entry_at course c.positions.position ≡ Some c.in-Some.entry = at_position course c.args.entries.now c.args.before c.positions.position same first ∙ (sym c.entry_at.ensures ∙ c.in-Some.is) in
      next_position course (pos c.args.as_of) c.args.from c.positions.position c.in-Some.entry stands
      (λ is. false≢true (sym c.if-has_as_of.false ∙ c.has_as_of.ensures.1 is))
      (c.positions.invariant.none course same first);
}
