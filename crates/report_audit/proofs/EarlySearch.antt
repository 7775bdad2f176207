-- The search for the record and the row of an answer before its record.
use Rattle.std.proofs.Common.{◌≡◌, ℕ, ℤ, pos, ◌+◌, ◌/◌, ◌<◌, ◌≤◌, length, Some, refl, sym, subst, ◌∙◌, arith, rules}
use Rattle.std.specs.Prelude.{◌<ℤ◌}
use Rattle.std.proofs.lemmas.Int.{ints}
use Rattle.clock_gate.specs.declared.trace.Trace.{Trace}
use Rattle.interval_now.specs.declared.answers.Causality.{Causality}
use Rattle.lawful_report.specs.declared.entry.Entry.{Entry}
use Rattle.lawful_report.specs.declared.seen.Seen.{Seen}
use Rattle.lawful_report.specs.Course.{Course, entry_at}
use Rattle.lawful_report.specs.Calls.{IsEarly, HasAsOf}
use Rattle.lawful_report.specs.Points.{IsLeast}
use Rattle.report_audit.specs.FoundLines.{HasMonoAt}
use Rattle.report_audit.proofs.Unique.{one_least}

pub same_least : (course : Course) (from until point : ℕ) (as_of : ℤ) (nanos : ℕ) → course.point ≡ until → as_of ≡ pos nanos → IsLeast from course.point (HasAsOf course as_of) point → IsLeast from until (HasAsOf course (pos nanos)) point
same_least course from until point as_of nanos last is least =
    subst (λ (z : ℤ). IsLeast from until (HasAsOf course z) point) is (subst (λ (n : ℕ). IsLeast from n (HasAsOf course as_of) point) last least)

-- what a search for the record has found
abbrev pub RecordFound : Course → (nanos from until point replied : ℕ) → Type 0
RecordFound course nanos from until point replied =
    IsLeast from until (HasAsOf course (pos nanos)) point × ((entry : Entry) → entry_at course (point / 2) ≡ Some entry → entry.replied ≡ replied)

-- the row of an answer with this as-of and this mono isn't before those that the client and the record give
pub row_of_early : (trace : Trace) (course : Course) (seen after : Seen) (causality : Causality) (until nanos mono point replied : ℕ) → course.point ≡ until → causality.as_of ≡ pos nanos → causality.mono ≡ mono
    → RecordFound course nanos seen.point until point replied → IsEarly trace course seen causality after
    → (seen.row ≤ after.row) × (replied ≤ after.row) × HasMonoAt trace.clock mono after.row
row_of_early trace course seen after causality until nanos mono point replied last is same found early =
    let least : IsLeast seen.point until (HasAsOf course (pos nanos)) after.point = same_least course seen.point until after.point causality.as_of nanos last is early.least in
    let point_is : after.point ≡ point = one_least seen.point until (HasAsOf course (pos nanos)) after.point point least found.0 in
    let replied_is : early.least.has.entry.replied ≡ replied = found.1 early.least.has.entry (subst (λ (n : ℕ). entry_at course (n / 2) ≡ Some early.least.has.entry) point_is early.least.has.stands) in
    (early.row.not_before, omega (arith, replied_is, early.row.has.not_before), early.row.has.mono_is ∙ same)

pub same_causality : (e : Causality) (a : ℤ) (m : ℕ) → e.as_of ≡ a → e.mono ≡ m → e ≡ record { as_of = a; mono = m }
same_causality e a m as_of mono = search rules

-- what a search for the row has found
pub record RowFound (trace : Trace) (first replied mono row : ℕ) : Type 0 where
  pub first_kept : first ≤ row
  pub replied_kept : replied ≤ row
  pub done : row ≤ length trace.clock
  pub mono_is : HasMonoAt trace.clock mono row
  pub none_less : (n : ℕ) → first ≤ n → replied ≤ n → HasMonoAt trace.clock mono n → row ≤ n

pub early_found : (trace : Trace) (course : Course) (seen : Seen) (as_of : ℤ) (nanos mono until point replied row : ℕ) → course.point ≡ until → as_of ≡ pos nanos → mono + 1000 < nanos
    → RecordFound course nanos seen.point until point replied → RowFound trace seen.row replied mono row
    → IsEarly trace course seen (record { as_of = as_of; mono = mono }) (record { point = point; row = row; page = seen.page })
early_found trace course seen as_of nanos mono until point replied row last is late found at =
    let least : IsLeast seen.point course.point (HasAsOf course as_of) point = subst (λ (z : ℤ). IsLeast seen.point course.point (HasAsOf course z) point) (sym is) (subst (λ (n : ℕ). IsLeast seen.point n (HasAsOf course (pos nanos)) point) (sym last) found.0) in
    let replied_is : least.has.entry.replied ≡ replied = found.1 least.has.entry least.has.stands in
    record {
      early = subst (λ (z : ℤ). pos (mono + 1000) <ℤ z) (sym is) (omega (arith, ints, late));
      least = least;
      row = record {
        not_before = at.first_kept;
        not_past = at.done;
        has = record { not_before = omega (arith, replied_is, at.replied_kept); mono_is = at.mono_is };
        none_less = λ n le has. at.none_less n le (omega (arith, replied_is, has.not_before)) has.mono_is;
      };
      page_after = refl;
    }
