-- Where the reading of a text stands: after some of its lines, with the records ahead.
use Rattle.std.proofs.Common.{◌≡◌, ◌∙◌, ℕ, ◌+◌, List, [], ◌∷◌, ◌++◌, length, Result, Ok, Err, refl, sym, ap}
use Rattle.std.specs.Result.{IsErr, IsErrAnd}
use Rattle.csv_records.specs.Grammar.{Grammar, line_after, lines_after, said_by}
use Rattle.csv_records.specs.Reason.{◌>>=◌}
use Rattle.csv_records.specs.Step.{step_by}
use Rattle.csv_records.specs.TraceError.{Gives, Refuses, numbered}
use Rattle.csv_records.specs.declared.reason.Reason.{Reason}
use Rattle.csv_records.specs.declared.trace_error.TraceError.{TraceError}
use Rattle.csv_records.specs.declared.trace_error.TraceError.TheVariants as error
use Rattle.csv_records.specs.declared.trace_error.TraceFault.{TraceFault}

abbrev Fields : Type 0
Fields = List (List ℕ)

-- what is told goes on line by line, and tells how many lines there are
pub record GoesOn {L F : Type 0} (grammar : Grammar L F) (taken : F → L → F) (count : F → ℕ) : Type 0 where
  pub more : (front : List L) (line : L) → grammar.facts_of (front ++ line ∷ []) ≡ taken (grammar.facts_of front) line
  pub counted : (front : List L) → count (grammar.facts_of front) ≡ length front

-- so much is told by lines in front, and the lines of the text are these and those of the records ahead
abbrev pub Stands : {L F : Type 0} → Grammar L F → List Fields → F → List Fields → Type 0
Stands {L} grammar records held ahead = (front : List L) × (held ≡ grammar.facts_of front) × (lines_after grammar [] records ≡ lines_after grammar front ahead)

pub begins : {L F : Type 0} (grammar : Grammar L F) (records : List Fields) (held : F) (ahead : List Fields) → held ≡ grammar.facts_of [] → ahead ≡ records → Stands grammar records held ahead
begins grammar records held ahead none all = ([], none, ap (λ (rs : List Fields). lines_after grammar [] rs) (sym all))

-- a record that is taken
pub reads_on : {L F : Type 0} {grammar : Grammar L F} {taken : F → L → F} {count : F → ℕ} → GoesOn grammar taken count → (records : List Fields) (held new : F) (ahead rest : List Fields) (fields : Fields)
    → Stands grammar records held ahead → ahead ≡ fields ∷ rest → numbered (count held + 1) (step_by grammar taken held fields) ≡ Ok new → Stands grammar records new rest
unfolding lines_after
reads_on {L} {F} {grammar} {taken} {count} goes records held new ahead rest fields (front, shows, is) split makes =
    by (line_after grammar (grammar.facts_of front) fields) refl (rw shows at makes)
  where
    by : (r : Result L Reason) → line_after grammar (grammar.facts_of front) fields ≡ r → numbered (count (grammar.facts_of front) + 1) (r >>= λ line. Ok (taken (grammar.facts_of front) line)) ≡ Ok new
        → Stands grammar records new rest
    by (Err reason) said e = absurd (cc e)
    by (Ok line) said e =
        let same : taken (grammar.facts_of front) line ≡ new = cc e in
        (front ++ line ∷ [], sym same ∙ sym (goes.more front line), is ∙ ap (λ (rs : List Fields). lines_after grammar front rs) split ∙ rw said refl)

-- a record that is refused
reads_fault : {L F : Type 0} {grammar : Grammar L F} {taken : F → L → F} {count : F → ℕ} → GoesOn grammar taken count → (records : List Fields) (held : F) (ahead rest : List Fields) (fields : Fields) (fault : TraceFault)
    → Stands grammar records held ahead → ahead ≡ fields ∷ rest → numbered (count held + 1) (step_by grammar taken held fields) ≡ Err fault → lines_after grammar [] records ≡ Err fault
unfolding lines_after
reads_fault {L} {F} {grammar} {taken} {count} goes records held ahead rest fields fault (front, shows, is) split makes =
    is ∙ ap (λ (rs : List Fields). lines_after grammar front rs) split ∙ by (line_after grammar (grammar.facts_of front) fields) refl (rw (shows, goes.counted front) at makes)
  where
    refused : TraceFault → Result (List L) TraceFault
    refused f = Err f

    by : (r : Result L Reason) → line_after grammar (grammar.facts_of front) fields ≡ r → numbered (length front + 1) (r >>= λ line. Ok (taken (grammar.facts_of front) line)) ≡ Err fault
        → lines_after grammar front (fields ∷ rest) ≡ Err fault
    by (Ok line) said e = absurd (cc e)
    by (Err reason) said e =
        let same : record { line = length front + 1; reason = reason } ≡ fault = cc e in
        rw said (ap refused same)

-- an error of the record is one of the text; want of memory is free
pub reads_refused : {L F X : Type 0} {grammar : Grammar L F} {taken : F → L → F} {count : F → ℕ} → GoesOn grammar taken count → (end : F → Result X TraceFault) (records : List Fields) (held : F) (ahead rest : List Fields) (fields : Fields)
    (e : TraceError) → Stands grammar records held ahead → ahead ≡ fields ∷ rest → Refuses e (numbered (count held + 1) (step_by grammar taken held fields)) → Refuses e (said_by grammar end records)
reads_refused goes end records held ahead rest fields error.Memory at split refuses = tt
reads_refused goes end records held ahead rest fields (error.Refused fault) at split refuses = rw (reads_fault goes records held ahead rest fields fault at split refuses) refl

-- the end of the records
pub reads_end : {L F X : Type 0} (grammar : Grammar L F) (end : F → Result X TraceFault) (records : List Fields) (held : F) (ahead : List Fields) → Stands grammar records held ahead → ahead ≡ [] → said_by grammar end records ≡ end held
unfolding lines_after
reads_end {L} grammar end records held ahead (front, shows, is) none =
    let all : lines_after grammar [] records ≡ Ok front = is ∙ ap (λ (rs : List Fields). lines_after grammar front rs) none in
    rw all (ap end (sym shows))

-- an error that is passed on
pub passed_on : {A B : Type 0} (view : A → B) (r : Result A TraceError) (e : TraceError) (said : Result B TraceFault) → IsErr r → IsErrAnd r (λ d. d ≡ e) → Refuses e said → Gives view r said
passed_on view (Ok x) e said err same refuses = absurd same
passed_on view (Err d) e said err same refuses = rw same refuses
