use Rattle.std.proofs.Common.{◌≡◌, ◌∙◌, refl, sym, ap}
use Rattle.report_audit.specs.declared.verdict.Verdict.{Verdict}
use Rattle.report_audit.specs.declared.verdict.Verdict.TheVariants.{Lawful, Unlawful}
use Rattle.audit_text.specs.Audited.{IsVerdictOn, Reported, verdict_text}
use Rattle.audit_text.proofs.laws.verdict_laws.Goals as goal

same : (reported : Reported) (a b : Verdict) → IsVerdictOn reported a → IsVerdictOn reported b → a ≡ b
same reported Lawful b is also = sym (also.lawful.1 (is.lawful.0 refl))
same reported (Unlawful line) b is also = sym ((also.unlawful line).1 ((is.unlawful line).0 refl))

pub returns : goal.returns
returns c reported a b one other = one.told ∙ ap verdict_text (same reported one.verdict other.verdict one.is other.is) ∙ sym other.told
