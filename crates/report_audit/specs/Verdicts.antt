-- What a verdict says of a report.
use Rattle.std.specs.Prelude.{ℕ, List}
use Rattle.clock_gate.specs.declared.trace.Trace.{Trace}
use Rattle.lawful_report.specs.Lawful.{IsLawfulReport, IsFirstUnlawful}
use Rattle.report_audit.specs.declared.verdict.Verdict.{Verdict}
use Rattle.report_audit.specs.declared.verdict.Verdict.TheVariants.{Lawful, Unlawful}

abbrev pub IsVerdict : Trace → List ℕ → Verdict → Type 0
IsVerdict trace report Lawful = IsLawfulReport trace report
IsVerdict trace report (Unlawful number) = IsFirstUnlawful trace report number
