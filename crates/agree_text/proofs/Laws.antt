-- What the output of a text and its first fault say of all its records.
use Rattle.std.proofs.Common.{◌≡◌, ◌∙◌, ◌⊎◌, ℕ, false, List, [], ◌∷◌, ◌++◌, length, Result, Ok, Err, refl, sym, ap, arith, inl, inr}
use Rattle.std.specs.Prelude.{◌==◌}
use Rattle.std.proofs.lemmas.Bool.Decides.{nat_tests}
use Rattle.csv_records.specs.Grammar.{Accepts, EndsIn, RefusedAt}
use Rattle.csv_records.specs.Reason.{◌>>=◌}
use Rattle.csv_records.specs.Records.{records_of}
use Rattle.csv_records.specs.TraceError.{Refuses}
use Rattle.csv_records.specs.declared.trace_error.TraceError.{TraceError}
use Rattle.csv_records.specs.declared.trace_error.TraceError.TheVariants as errors
use Rattle.csv_records.specs.declared.trace_error.TraceFault.{TraceFault}
use Rattle.csv_records.proofs.GrammarLaws.{said_fault, said_in_end}
use Rattle.agree_text.specs.declared.line.Line.{Line}
use Rattle.agree_text.specs.Agreement.{HasFault, IsFault, IsOutput, agreement_text, ends, grammar, session_in}
use Rattle.agree_text.specs.Session.{SessionFields, session_of}
use Rattle.agree_text.proofs.Reading.{ends_well}

abbrev Fields : Type 0
Fields = List (List ℕ)

ends_so : (line : Line) (lines : List Line) → ends (session_of (line ∷ lines)) ≡ Ok (session_of (line ∷ lines))
ends_so line lines = ends_well (session_of (line ∷ lines)) counted
  where
    counted : (length (line ∷ lines) == 0) ≡ false
    counted = grind (arith, nat_tests)

-- ---- Where no record is refused

output_at : (records : List Fields) (lines : List Line) (session : SessionFields) (text : List ℕ) → Accepts grammar [] records lines → ends (session_of lines) ≡ Ok session → session.text ≡ text → IsOutput records text
unfolding Accepts
output_at records [] session text accepted is e = absurd (cc is)
output_at [] (line ∷ lines) session text accepted is e = absurd (cc accepted)
output_at (fields ∷ records) (line ∷ lines) session text accepted is e =
    let same : session_of (line ∷ lines) ≡ session = cc (sym (ends_so line lines) ∙ is) in
    record { lines = line ∷ lines; read = accepted; some = λ none. absurd (cc none); is = sym e ∙ ap (λ (s : SessionFields). s.text) (sym same) }

pub output_of : (bytes text : List ℕ) → agreement_text bytes ≡ Ok text → IsOutput (records_of bytes) text
unfolding agreement_text session_in
output_of bytes text e = by (session_in bytes) refl e
  where
    by : (said : Result SessionFields TraceFault) → session_in bytes ≡ said → (said >>= λ session. Ok session.text) ≡ Ok text → IsOutput (records_of bytes) text
    by (Err fault) is e = absurd (cc e)
    by (Ok session) is e =
        let r = (said_in_end grammar ends (records_of bytes) session).0 is in
        output_at (records_of bytes) r.lines session text r.accepted r.is (cc e)

-- ---- Where one is

no_split : (before : List Fields) (fields : Fields) (rest : List Fields) → [] ≡ before ++ fields ∷ rest → ⊥
no_split [] fields rest e = absurd (cc e)
no_split (first ∷ before) fields rest e = absurd (cc e)

end_fault : (records : List Fields) (lines : List Line) (fault : TraceFault) → Accepts grammar [] records lines → ends (session_of lines) ≡ Err fault → IsFault records fault
unfolding Accepts
end_fault [] [] fault accepted is = sym (cc is)
end_fault [] (line ∷ lines) fault accepted is = absurd (cc accepted)
end_fault (fields ∷ records) [] fault accepted is = absurd accepted
end_fault (fields ∷ records) (line ∷ lines) fault accepted is = absurd (cc (sym (ends_so line lines) ∙ is))

record_fault : (records : List Fields) (fault : TraceFault) → RefusedAt grammar records fault → IsFault records fault
record_fault [] fault r = absurd (no_split r.before r.fields r.rest r.split)
record_fault (fields ∷ records) fault r = r

is_fault : (records : List Fields) (fault : TraceFault) → RefusedAt grammar records fault ⊎ EndsIn grammar ends records (Err fault) → IsFault records fault
is_fault records fault (inl r) = record_fault records fault r
is_fault records fault (inr r) = end_fault records r.lines fault r.accepted r.is

fault_at : (bytes : List ℕ) (fault : TraceFault) → agreement_text bytes ≡ Err fault → IsFault (records_of bytes) fault
unfolding agreement_text session_in
fault_at bytes fault e = by (session_in bytes) refl e
  where
    refused : TraceFault → Result SessionFields TraceFault
    refused f = Err f

    by : (said : Result SessionFields TraceFault) → session_in bytes ≡ said → (said >>= λ session. Ok session.text) ≡ Err fault → IsFault (records_of bytes) fault
    by (Ok session) is e = absurd (cc e)
    by (Err other) is e =
        let same : other ≡ fault = cc e in
        is_fault (records_of bytes) fault ((said_fault grammar ends (records_of bytes) fault).0 (is ∙ ap (λ (f : TraceFault). refused f) same))

pub fault_in : (bytes : List ℕ) (e : TraceError) → Refuses e (agreement_text bytes) → HasFault (records_of bytes) e
fault_in bytes (errors.Refused fault) r = fault_at bytes fault r
fault_in bytes errors.Memory r = tt
