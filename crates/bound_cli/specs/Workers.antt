-- The number of workers that the words of `threads` name, none where they name none, or the number of the first word that isn't allowed,
-- from 1. A missing word counts as the one after the last.
use Rattle.std.specs.Prelude.{ℕ, List, [], ◌∷◌, codes, Option, Some, None, Result, Ok, Err, if◌then◌else◌}
use Rattle.std.specs.Str.{bytes_eq}
use Rattle.clock_gate.specs.declared.limits.TheConstants.{MOST_CLIENTS}
use Rattle.csv_records.specs.Fields.{number_in}

-- no word follows the number
abbrev pub workers_alone : ℕ → List (List ℕ) → Result (Option ℕ) ℕ
workers_alone workers [] = Ok (Some workers)
workers_alone workers (word ∷ words) = Err 4

abbrev pub workers_for : Option ℕ → List (List ℕ) → Result (Option ℕ) ℕ
workers_for None words = Err 3
workers_for (Some workers) words = workers_alone workers words

-- after `--workers`, a number from 1 to 64
abbrev pub workers_told : List (List ℕ) → Result (Option ℕ) ℕ
workers_told [] = Err 3
workers_told (word ∷ words) = workers_for (number_in 1 MOST_CLIENTS word) words

-- after `threads`
abbrev pub workers_after : List (List ℕ) → Result (Option ℕ) ℕ
workers_after [] = Ok None
workers_after (option ∷ words) = if bytes_eq option (codes "--workers") then workers_told words else Err 2

-- `threads` and `threads --workers NUMBER`
unfoldable pub workers_of : List (List ℕ) → Result (Option ℕ) ℕ
workers_of [] = Err 1
workers_of (first ∷ words) = if bytes_eq first (codes "threads") then workers_after words else Err 1
