-- A report has one verdict.
use Rattle.std.proofs.Common.{◌≡◌, ℕ, List, length, refl, sym, ap, subst, ◌∙◌, arith}
use Rattle.std.specs.Prelude.{◌↔◌}
use Rattle.clock_gate.specs.Trace.{IsLawfulTrace}
use Rattle.clock_gate.specs.declared.trace.Trace.{Trace}
use Rattle.lawful_report.specs.Lawful.{standing_start, IsLawfulReport, IsFirstUnlawful}
use Rattle.report_audit.specs.Auditor.{StartIsSmall}
use Rattle.report_audit.specs.Verdicts.{IsVerdict}
use Rattle.report_audit.specs.declared.verdict.Verdict.{Verdict}
use Rattle.report_audit.specs.declared.verdict.Verdict.TheVariants.{Lawful, Unlawful}
use Rattle.report_audit.proofs.KeptSizes.{kept_start}
use Rattle.report_audit.proofs.OneVerdict.{one_verdict, one_number}
use Rattle.report_audit.proofs.Reached.{start_kept, limits_of}
use Rattle.report_audit.proofs.SmallLines.{KeptAny, keeps_small}

not_both : (trace : Trace) (report : List ℕ) (number : ℕ) → IsLawfulTrace trace → StartIsSmall trace → IsLawfulReport trace report → IsFirstUnlawful trace report number → ⊥
not_both trace report number lawful small one other =
    one_verdict trace report number (KeptAny trace) (keeps_small trace (limits_of trace lawful small)) (0, kept_start trace (start_kept trace small)) one other

same_line : (trace : Trace) (report : List ℕ) (m n : ℕ) → IsLawfulTrace trace → StartIsSmall trace → IsFirstUnlawful trace report m → IsFirstUnlawful trace report n → m ≡ n
same_line trace report m n lawful small one other =
    let lines : length one.lines ≡ length other.lines =
    one_number trace (KeptAny trace) (keeps_small trace (limits_of trace lawful small)) (standing_start trace) (0, kept_start trace (start_kept trace small)) one.lines other.lines one.standing other.standing one.rest other.rest one.follow one.stuck other.follow other.stuck (sym one.text ∙ other.text) in
    omega (arith, one.number_is, other.number_is, lines)

-- the verdict is that the report is lawful exactly where it is
pub exactly_lawful : (trace : Trace) (report : List ℕ) (verdict : Verdict) → IsLawfulTrace trace → StartIsSmall trace → IsVerdict trace report verdict → (verdict ≡ Lawful) ↔ IsLawfulReport trace report
exactly_lawful trace report Lawful lawful small is = (λ same. is, λ report_is. refl)
exactly_lawful trace report (Unlawful number) lawful small is = (λ same. absurd (cc same), λ report_is. absurd (not_both trace report number lawful small report_is is))

number_told : Verdict → ℕ
number_told Lawful = 0
number_told (Unlawful number) = number

number_of : (a b : ℕ) → Unlawful a ≡ Unlawful b → a ≡ b
unfolding number_told
number_of a b same = ap number_told same

-- and names a line exactly where that is the first unlawful one
pub exactly_unlawful : (trace : Trace) (report : List ℕ) (verdict : Verdict) → IsLawfulTrace trace → StartIsSmall trace → IsVerdict trace report verdict → (number : ℕ) → (verdict ≡ Unlawful number) ↔ IsFirstUnlawful trace report number
exactly_unlawful trace report Lawful lawful small is number = (λ same. absurd (cc same), λ other. absurd (not_both trace report number lawful small is other))
exactly_unlawful trace report (Unlawful first) lawful small is number =
    (λ same. subst (IsFirstUnlawful trace report) (number_of first number same) is, λ other. ap Unlawful (same_line trace report first number lawful small is other))
