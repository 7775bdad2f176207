-- The lines of a text: each record says a line by itself, and is tested by what the lines before it tell.
use Rattle.std.specs.Prelude.{◌≡◌, ℕ, ◌+◌, List, [], ◌∷◌, ◌++◌, length, Option, Result, Ok, Err}
use Rattle.csv_records.specs.Reason.{◌>>=◌, unless}
use Rattle.csv_records.specs.TraceError.{numbered}
use Rattle.csv_records.specs.declared.reason.Reason.{Reason}
use Rattle.csv_records.specs.declared.trace_error.TraceFault.{TraceFault}

-- what a record says by itself, what lines tell together, and why a line may not follow lines that tell so much
pub record Grammar (L F : Type 0) : Type 0 where
  pub line_of : List (List ℕ) → Result L Reason
  pub facts_of : List L → F
  pub fault_of : F → L → Option Reason

-- the line that a record is after lines that tell so much, or the first reason against it
abbrev pub line_after : {L F : Type 0} → Grammar L F → F → List (List ℕ) → Result L Reason
line_after grammar facts fields = grammar.line_of fields >>= λ line. unless (grammar.fault_of facts line) line

-- the lines in front and those of the records after them, or the first of these records that is refused
unfoldable pub lines_after : {L F : Type 0} → Grammar L F → List L → List (List (List ℕ)) → Result (List L) TraceFault
lines_after grammar front [] = Ok front
lines_after grammar front (fields ∷ rest) =
    numbered (length front + 1) (line_after grammar (grammar.facts_of front) fields) >>= λ line.
    lines_after grammar (front ++ line ∷ []) rest

-- what the records of a text say by what their lines tell, at whose end there may still be a fault
abbrev pub said_by : {L F X : Type 0} → Grammar L F → (F → Result X TraceFault) → List (List (List ℕ)) → Result X TraceFault
said_by grammar end records = lines_after grammar [] records >>= λ lines. end (grammar.facts_of lines)

-- ---- The same in other words

-- each of these records passes after those before it, and these are their lines
unfoldable pub Accepts : {L F : Type 0} → Grammar L F → List L → List (List (List ℕ)) → List L → Type 0
Accepts grammar front [] lines = lines ≡ []
Accepts grammar front (fields ∷ rest) [] = ⊥
Accepts grammar front (fields ∷ rest) (line ∷ lines) =
    (line_after grammar (grammar.facts_of front) fields ≡ Ok line) × Accepts grammar (front ++ line ∷ []) rest lines

-- one of the records is the first that doesn't pass: by its number, and the first reason against it
pub record RefusedAt {L F : Type 0} (grammar : Grammar L F) (records : List (List (List ℕ))) (fault : TraceFault) : Type 0 where
  pub before : List (List (List ℕ))
  pub fields : List (List ℕ)
  pub rest : List (List (List ℕ))
  pub lines : List L
  pub split : records ≡ before ++ fields ∷ rest
  pub accepted : Accepts grammar [] before lines
  pub why : line_after grammar (grammar.facts_of lines) fields ≡ Err fault.reason
  pub number : fault.line ≡ length before + 1

-- all records pass, and this is what their lines say in the end
pub record EndsIn {L F X : Type 0} (grammar : Grammar L F) (end : F → Result X TraceFault) (records : List (List (List ℕ))) (said : Result X TraceFault) : Type 0 where
  pub lines : List L
  pub accepted : Accepts grammar [] records lines
  pub is : end (grammar.facts_of lines) ≡ said
