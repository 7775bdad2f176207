-- One line more, by what the lines before it tell.
use Rattle.std.specs.Prelude.{ℕ, List, [], ◌∷◌, ◌++◌, Option, Some, None, Result, Ok}
use Rattle.csv_records.specs.Grammar.{Grammar, line_after}
use Rattle.csv_records.specs.Reason.{◌>>=◌}
use Rattle.csv_records.specs.declared.reason.Reason.{Reason}

-- what is told after one record more, or why it is refused
abbrev pub step_by : {L F : Type 0} → Grammar L F → (F → L → F) → F → List (List ℕ) → Result F Reason
step_by grammar taken facts fields = line_after grammar facts fields >>= λ line. Ok (taken facts line)

-- a list and one item more, if there is one
abbrev pub joined : {X : Type 0} → List X → Option X → List X
joined xs None = xs
joined xs (Some x) = xs ++ x ∷ []
