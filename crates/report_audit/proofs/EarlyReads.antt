-- The numbers of an answer before its record.
use Rattle.std.proofs.Common.{◌≡◌, ℕ, ℤ, pos, negsuc, ◌+◌, ◌-◌, ◌/◌, ◌^◌, ◌<◌, ◌≤◌, List, ◌++◌, length, slice_index_or, refl, ap, subst, ◌∙◌, arith}
use Rattle.std.specs.Prelude.{All, ◌<ℤ◌, ◌≤ℤ◌}
use Rattle.std.proofs.lemmas.Int.{ints}
use Rattle.std.proofs.lemmas.List.Elements.{All-get_or}
use Rattle.clock_gate.specs.ClockRow.{IsClock, KeepsMoments, row_at, no_row}
use Rattle.clock_gate.specs.declared.clock_row.ClockRow.{ClockRow}
use Rattle.clock_gate.specs.declared.trace.Trace.{Trace}
use Rattle.interval_now.specs.declared.answers.Answer.TheVariants.{Causality as Early}
use Rattle.interval_now.specs.declared.answers.Causality.{Causality}
use Rattle.lawful_report.specs.declared.call.Call.{Call}
use Rattle.lawful_report.specs.declared.seen.Seen.{Seen}
use Rattle.lawful_report.specs.Course.{Course}
use Rattle.lawful_report.specs.Calls.{IsEarly}
use Rattle.lawful_report.specs.Lines.{answered_line}
use Rattle.report_audit.specs.Auditor.{EntryFits}
use Rattle.report_audit.specs.Numbers.{numbers_in}
use Rattle.report_audit.proofs.LineNumbers.{early_six}
use Rattle.report_audit.proofs.EntryPoints.{all_entries}

-- an as-of that comes after a moment is a number
record IsNumber (z : ℤ) : Type 0 where
  n : ℕ
  is : z ≡ pos n

number_of : (z : ℤ) (m : ℕ) → pos m <ℤ z → IsNumber z
number_of (pos n) m less = record { n = n; is = refl }
number_of (negsuc n) m less = absurd (omega (arith, ints, less))

-- the moments of a row that is read lie in their bounds
pub row_moments : (clock : List ClockRow) (row : ℕ) → IsClock clock → 1 ≤ row → row ≤ length clock → KeepsMoments (row_at clock row)
row_moments clock row all some last = All-get_or KeepsMoments clock (row - 1) no_row (omega arith) all

pub record EarlyReads (numbers : List ℕ) (causality : Causality) : Type 0 where
  pub as_of : ℕ
  pub as_of_is : causality.as_of ≡ pos as_of
  pub nanos_is : slice_index_or numbers 2 0 ≡ as_of
  pub mono_is : slice_index_or numbers 3 0 ≡ causality.mono
  pub late : causality.mono + 1000 < as_of

pub early_reads : (trace : Trace) (course : Course) (call : Call) (seen after : Seen) (causality : Causality) (numbers text later : List ℕ)
    → numbers ≡ numbers_in 5 text → call.client < 2 ^ 32 → call.number < 2 ^ 32 → IsClock trace.clock → 1 ≤ seen.row → All EntryFits course.entries
    → IsEarly trace course seen causality after → text ≡ answered_line call.client call.number 0 (Early causality) ++ later → EarlyReads numbers causality
early_reads trace course call seen after causality numbers text later same c k clock first fits early is =
    let number = number_of causality.as_of (causality.mono + 1000) early.early in
    let fit : EntryFits early.least.has.entry = all_entries EntryFits course (after.point / 2) early.least.has.entry fits early.least.has.stands in
    let entry_is : early.least.has.entry.rec.as_of ≡ pos number.n = early.least.has.as_of_is ∙ number.is in
    let high : pos number.n ≤ℤ pos 4000000000999999999 = subst (λ (z : ℤ). z ≤ℤ pos 4000000000999999999) entry_is fit.as_of_high in
    let small : number.n < 2 ^ 64 = omega (arith, ints, high) in
    let less : pos (causality.mono + 1000) <ℤ pos number.n = subst (λ (z : ℤ). pos (causality.mono + 1000) <ℤ z) number.is early.early in
    let late : causality.mono + 1000 < number.n = omega (arith, ints, less) in
    let six = early_six call.client call.number 0 number.n causality text later c k number.is small (omega (arith, late, small)) is in
    record {
      as_of = number.n;
      as_of_is = number.is;
      nanos_is = ap (λ (ns : List ℕ). slice_index_or ns 2 0) same ∙ six.0;
      mono_is = ap (λ (ns : List ℕ). slice_index_or ns 3 0) same ∙ six.1;
      late = late;
    }
