-- What a reader of a text answers, by what the text says.
use Rattle.std.specs.Prelude.{◌≡◌, ℕ, List, ◌++◌, Result, Ok, Err, ⊤, codes, decimal}
use Rattle.csv_records.specs.Reason.{name_of}
use Rattle.csv_records.specs.declared.reason.Reason.{Reason}
use Rattle.csv_records.specs.declared.trace_error.TraceError.{TraceError}
use Rattle.csv_records.specs.declared.trace_error.TraceError.TheVariants as error
use Rattle.csv_records.specs.declared.trace_error.TraceFault.{TraceFault}

-- `line 3: clockback`; the text is this project's own
unfoldable pub fault_text : TraceFault → List ℕ
fault_text fault = codes "line " ++ (decimal fault.line ++ (codes ": " ++ name_of fault.reason))

-- a reason with the number of its record
abbrev pub numbered : {A : Type 0} → ℕ → Result A Reason → Result A TraceFault
numbered number (Ok x) = Ok x
numbered number (Err reason) = Err (record { line = number; reason = reason })

-- this error is the fault that the text has; want of memory may come at any time
abbrev pub Refuses : {B : Type 0} → TraceError → Result B TraceFault → Type 0
Refuses (error.Refused fault) said = said ≡ Err fault
Refuses error.Memory said = ⊤

-- the answer is what the text says, its value being seen in some way, or its fault
abbrev pub Gives : {A B : Type 0} → (A → B) → Result A TraceError → Result B TraceFault → Type 0
Gives view (Ok x) said = said ≡ Ok (view x)
Gives view (Err e) said = Refuses e said

-- the answer is what the text says, or its fault
abbrev pub Answers : {A : Type 0} → Result A TraceError → Result A TraceFault → Type 0
Answers result said = Gives (λ x. x) result said

-- what a call leaves is what is said, or it answers the fault
abbrev pub Makes : {A : Type 0} → Result (Unit {0}) TraceError → A → Result A TraceFault → Type 0
Makes (Ok done) after said = said ≡ Ok after
Makes (Err e) after said = Refuses e said
