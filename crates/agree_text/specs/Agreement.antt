-- The whole output for a text, or the first record that is refused.
use Rattle.std.specs.Prelude.{◌≡◌, ◌≢◌, ⊤, ℕ, ◌==◌, List, [], ◌∷◌, ◌++◌, Result, Ok, Err, if◌then◌else◌}
use Rattle.csv_records.specs.Grammar.{Accepts, Grammar, RefusedAt, said_by}
use Rattle.csv_records.specs.Reason.{◌>>=◌}
use Rattle.csv_records.specs.Records.{records_of}
use Rattle.csv_records.specs.Step.{step_by}
use Rattle.csv_records.specs.declared.reason.Reason.{Reason}
use Rattle.csv_records.specs.declared.reason.Reason.TheVariants.{Kind}
use Rattle.csv_records.specs.declared.trace_error.TraceError.{TraceError}
use Rattle.csv_records.specs.declared.trace_error.TraceError.TheVariants as error
use Rattle.csv_records.specs.declared.trace_error.TraceFault.{TraceFault}
use Rattle.bound_agree.specs.Board.{no_spans}
use Rattle.agree_text.specs.declared.line.Line.{Line}
use Rattle.agree_text.specs.Answers.{header_line}
use Rattle.agree_text.specs.Line.{line_of}
use Rattle.agree_text.specs.Session.{SessionFields, fault_of, session_of, taken, written_of}

-- each record is a line by itself, and is tested by what the lines before it come to
abbrev pub grammar : Grammar Line SessionFields
grammar = record { line_of = line_of; facts_of = session_of; fault_of = fault_of }

-- a text has records
abbrev pub ends : SessionFields → Result SessionFields TraceFault
ends session = if session.lines == 0 then Err (record { line = 1; reason = Kind }) else Ok session

-- what the lines so far come to with one record more, or why it is refused
abbrev pub step_of : SessionFields → List (List ℕ) → Result SessionFields Reason
step_of session fields = step_by grammar taken session fields

-- what the lines of a text come to, or its first record that is refused
unfoldable pub session_in : List ℕ → Result SessionFields TraceFault
session_in bytes = said_by grammar ends (records_of bytes)

-- the output for a text: the header, and the answers in the order of the questions
unfoldable pub agreement_text : List ℕ → Result (List ℕ) TraceFault
agreement_text bytes = session_in bytes >>= λ session. Ok session.text

-- ---- The same said of all records at once

-- no record is refused, and this is written of their lines
pub record IsOutput (records : List (List (List ℕ))) (text : List ℕ) : Type 0 where
  pub lines : List Line
  pub read : Accepts grammar [] records lines
  pub some : records ≢ []
  pub is : text ≡ header_line ++ written_of no_spans lines

-- there is no record, or this is the first that is refused
abbrev pub IsFault : List (List (List ℕ)) → TraceFault → Type 0
IsFault [] fault = fault ≡ record { line = 1; reason = Kind }
IsFault (fields ∷ records) fault = RefusedAt grammar (fields ∷ records) fault

-- an error is the fault of these records, or want of memory
abbrev pub HasFault : List (List (List ℕ)) → TraceError → Type 0
HasFault records (error.Refused fault) = IsFault records fault
HasFault records error.Memory = ⊤
