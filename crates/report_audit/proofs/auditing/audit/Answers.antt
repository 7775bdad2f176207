use Rattle.std.proofs.Common.{◌≡◌, ℕ}
use Rattle.std.specs.Prelude.{◌↔◌}
use Rattle.lawful_report.specs.Lawful.{IsLawfulReport, IsFirstUnlawful}
use Rattle.report_audit.specs.Verdicts.{IsVerdict}
use Rattle.report_audit.specs.declared.verdict.Verdict.{Verdict}
use Rattle.report_audit.specs.declared.verdict.Verdict.TheVariants.{Lawful, Unlawful}
use Rattle.report_audit.proofs.AuditorSteps.{ok_map}
use Rattle.report_audit.proofs.Exactly.{exactly_lawful, exactly_unlawful}
use Rattle.report_audit.proofs.auditing.audit.Goals as goal

pub judge-requires-clause-shows : goal.judge-requires-clause-shows
judge-requires-clause-shows c = c.in_ok-begun.ensures.shows c.in_ok-known.known

pub returns-clause-lawful : goal.returns-clause-lawful
returns-clause-lawful c =
    ok_map (IsVerdict c.args.trace.now c.args.report.now) (λ (verdict : Verdict). (verdict ≡ Lawful) ↔ IsLawfulReport c.args.trace.now c.args.report.now) c.judge.result
    (λ verdict is. exactly_lawful c.args.trace.now c.args.report.now verdict c.requires.lawful c.in_ok-begun.ensures.small is) c.judge.ensures

pub returns-clause-unlawful : goal.returns-clause-unlawful
returns-clause-unlawful c =
    ok_map (IsVerdict c.args.trace.now c.args.report.now) (λ (verdict : Verdict). (number : ℕ) → (verdict ≡ Unlawful number) ↔ IsFirstUnlawful c.args.trace.now c.args.report.now number) c.judge.result
    (λ verdict is. exactly_unlawful c.args.trace.now c.args.report.now verdict c.requires.lawful c.in_ok-begun.ensures.small is) c.judge.ensures
