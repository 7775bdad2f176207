-- The laws of the grammar.
use Rattle.std.proofs.Common.{◌≡◌, ◌≢◌, ◌⊎◌, ◌∙◌, false, List, [], ◌∷◌, length, Ok, Err, ℕ, refl, sym, ap, arith, inl, inr}
use Rattle.std.specs.Prelude.{◌==◌}
use Rattle.std.proofs.lemmas.Bool.Decides.{nat_tests}
use Rattle.csv_records.specs.Grammar.{Accepts, EndsIn, RefusedAt}
use Rattle.csv_records.specs.declared.reason.Reason.{Reason}
use Rattle.csv_records.specs.declared.reason.Reason.TheVariants as reason
use Rattle.csv_records.specs.declared.trace_error.TraceFault.{TraceFault}
use Rattle.csv_records.proofs.GrammarLaws.{said_fault, said_in_end}
use Rattle.vmclock_time.specs.declared.rows.PageRow.{PageRow}
use Rattle.pagetime_text.specs.Facts.{ends, facts_of, grammar, rows_of}
use Rattle.pagetime_text.specs.Laws.{FaultsAreFirst, HasNone, RowsAreSaid, Says}
use Rattle.pagetime_text.specs.declared.line.Line.{Line}

abbrev Rec : Type 0
Rec = List (List ℕ)

-- the end of a text
counted : (line : Line) (lines : List Line) → (length (line ∷ lines) == 0) ≡ false
counted line lines = grind (arith, nat_tests)

ends_so : (line : Line) (lines : List Line) → ends (facts_of (line ∷ lines)) ≡ Ok (rows_of (line ∷ lines))
ends_so line lines = rw (counted line lines) refl

none_at_end : (recs : List Rec) (lines : List Line) (fault : TraceFault) → Accepts grammar [] recs lines → ends (facts_of lines) ≡ Err fault → HasNone recs fault
unfolding Accepts
none_at_end [] [] fault accepted e =
    let same : record { line = 1; reason = reason.Kind } ≡ fault = cc e in
    record { none = refl; line = ap (λ (f : TraceFault). f.line) (sym same); kind = ap (λ (f : TraceFault). f.reason) (sym same) }
none_at_end (rec ∷ rest) [] fault accepted e = absurd accepted
none_at_end recs (line ∷ lines) fault accepted e = absurd (cc (sym (ends_so line lines) ∙ e))

said_at_end : (recs : List Rec) (lines : List Line) (rows : List PageRow) → Accepts grammar [] recs lines → ends (facts_of lines) ≡ Ok rows → Says recs rows
unfolding Accepts
said_at_end recs [] rows accepted e = absurd (cc e)
said_at_end [] (line ∷ lines) rows accepted e = absurd (cc accepted)
said_at_end (rec ∷ rest) (line ∷ lines) rows accepted e =
    let same : rows_of (line ∷ lines) ≡ rows = cc (sym (ends_so line lines) ∙ e) in
    record { lines = line ∷ lines; some = λ none. absurd (cc none); accepted = accepted; are = sym same }

ok_end : (recs : List Rec) (lines : List Line) → recs ≢ [] → Accepts grammar [] recs lines → ends (facts_of lines) ≡ Ok (rows_of lines)
unfolding Accepts
ok_end [] lines some accepted = absurd (some refl)
ok_end (rec ∷ rest) [] some accepted = absurd accepted
ok_end (rec ∷ rest) (line ∷ lines) some accepted = ends_so line lines

-- a fault without a record
no_record : (fault : TraceFault) → fault.line ≡ 1 → fault.reason ≡ reason.Kind → record { line = 1; reason = reason.Kind } ≡ fault
no_record fault line kind = ap (λ (n : ℕ). with_line n) (sym line) ∙ ap (λ (r : Reason). with_reason r) (sym kind)
  where
    with_line : ℕ → TraceFault
    with_line n = record { line = n; reason = reason.Kind }

    with_reason : Reason → TraceFault
    with_reason r = record { line = fault.line; reason = r }

none_ends : (recs : List Rec) (fault : TraceFault) → HasNone recs fault → EndsIn grammar ends recs (Err fault)
unfolding Accepts
none_ends [] fault h = record { lines = []; accepted = refl; is = ap (λ (f : TraceFault). Err f) (no_record fault h.line h.kind) }
none_ends (rec ∷ recs) fault h = absurd (let none = h.none in cc none)

pub faults_are_first : FaultsAreFirst
faults_are_first recs fault = (λ e. forth ((said_fault grammar ends recs fault).0 e), λ h. (said_fault grammar ends recs fault).1 (back h))
  where
    forth : RefusedAt grammar recs fault ⊎ EndsIn grammar ends recs (Err fault) → RefusedAt grammar recs fault ⊎ HasNone recs fault
    forth (inl r) = inl r
    forth (inr r) = inr (none_at_end recs r.lines fault r.accepted r.is)

    back : RefusedAt grammar recs fault ⊎ HasNone recs fault → RefusedAt grammar recs fault ⊎ EndsIn grammar ends recs (Err fault)
    back (inl r) = inl r
    back (inr none) = inr (none_ends recs fault none)

pub rows_are_said : RowsAreSaid
rows_are_said recs rows = (λ e. forth ((said_in_end grammar ends recs rows).0 e), λ h. (said_in_end grammar ends recs rows).1 (back h))
  where
    forth : EndsIn grammar ends recs (Ok rows) → Says recs rows
    forth r = said_at_end recs r.lines rows r.accepted r.is

    back : Says recs rows → EndsIn grammar ends recs (Ok rows)
    back h = record { lines = h.lines; accepted = h.accepted; is = rw h.are (ok_end recs h.lines h.some h.accepted) }
