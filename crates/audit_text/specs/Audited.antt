-- What an audit tells of a text: the verdict on a report against its trace, or the fault of the first record that is refused.
use Rattle.std.specs.Prelude.{◌≡◌, ◌↔◌, ℕ, ◌+◌, List, ◌++◌, length, codes, decimal, Option, Some, None, Result, Ok, Err}
use Rattle.clock_gate.specs.declared.trace.Trace.{Trace}
use Rattle.csv_records.specs.Reason.{◌>>=◌}
use Rattle.csv_records.specs.Records.{records_of}
use Rattle.csv_records.specs.TraceError.{Refuses}
use Rattle.csv_records.specs.declared.reason.Reason.TheVariants.{Kind}
use Rattle.csv_records.specs.declared.trace_error.TraceError.{TraceError}
use Rattle.csv_records.specs.declared.trace_error.TraceFault.{TraceFault}
use Rattle.lawful_report.specs.Lawful.{IsLawfulReport, IsFirstUnlawful}
use Rattle.report_audit.specs.declared.verdict.Verdict.{Verdict}
use Rattle.report_audit.specs.declared.verdict.Verdict.TheVariants.{Lawful, Unlawful}
use Rattle.trace_reader.specs.Grammar.{trace_in}
use Rattle.audit_text.specs.Cut.{cut_of, Parts}

-- ---- what is judged

-- a trace, and what is said to be a report of it
pub record Reported : Type 0 where
  pub trace : Trace
  pub report : List ℕ

-- the line `report` is missing after the last record
abbrev pub no_report : List ℕ → Result Reported TraceFault
no_report text = Err (record { line = length (records_of text) + 1; reason = Kind })

-- a text that is read as a trace, and a report after it
abbrev pub reported_after : (text report : List ℕ) → Result Reported TraceFault
reported_after text report = trace_in text >>= λ trace. Ok (record { trace = trace; report = report })

-- a text that is refused: by its first record that is refused, or at its end
abbrev pub unreported : List ℕ → Result Reported TraceFault
unreported text = trace_in text >>= λ trace. no_report text

abbrev pub reported_by : List ℕ → Option Parts → Result Reported TraceFault
reported_by text None = unreported text
reported_by text (Some (before, after)) = reported_after before after

-- the trace before the first line `report` of a text, and the report after that line, or why the text is refused
unfoldable pub reported_in : List ℕ → Result Reported TraceFault
reported_in text = reported_by text (cut_of text)

-- ---- the verdict

-- lawful exactly where the report is; and unlawful at a line exactly where that line is the first to break a rule
pub record IsVerdictOn (reported : Reported) (verdict : Verdict) : Type 0 where
  pub lawful : (verdict ≡ Lawful) ↔ IsLawfulReport reported.trace reported.report
  pub unlawful : (line : ℕ) → (verdict ≡ Unlawful line) ↔ IsFirstUnlawful reported.trace reported.report line

-- `lawful`, or `unlawful,LINE`
unfoldable pub verdict_text : Verdict → List ℕ
verdict_text Lawful = codes "lawful\n"
verdict_text (Unlawful line) = codes "unlawful," ++ (decimal line ++ codes "\n")

-- a text that tells the verdict
pub record TellsVerdict (reported : Reported) (text : List ℕ) : Type 0 where
  pub verdict : Verdict
  pub is : IsVerdictOn reported verdict
  pub told : text ≡ verdict_text verdict

-- which is one
abbrev pub VerdictsAreOne : Type 0
VerdictsAreOne = (reported : Reported) (a b : List ℕ) → TellsVerdict reported a → TellsVerdict reported b → a ≡ b

-- the answer tells the verdict on what is judged, or is the fault that is said; want of memory may come at any time
abbrev pub Judges : Result (List ℕ) TraceError → Result Reported TraceFault → Type 0
Judges (Ok text) said = (reported : Reported) × (said ≡ Ok reported) × TellsVerdict reported text
Judges (Err error) said = Refuses error said
