-- The kind of a record, by the word that begins it.
use Rattle.std.specs.Prelude.{ℕ, List, Option, Result, find}
use Rattle.std.specs.Str.{bytes_eq}
use Rattle.csv_records.specs.Parts.{part_at}
use Rattle.csv_records.specs.declared.reason.Reason.{Reason}
use Rattle.csv_records.specs.declared.reason.Reason.TheVariants as reasons

-- the first of these kinds whose word a field is
abbrev pub kind_named : {K : Type 0} → (K → List ℕ) → List K → List ℕ → Option K
kind_named word_of kinds field = find (λ kind. bytes_eq field (word_of kind)) kinds

-- the kind that a record's first field names
abbrev pub kind_in : {K : Type 0} → (K → List ℕ) → List K → List (List ℕ) → Result K Reason
kind_in word_of kinds fields = part_at reasons.Kind (kind_named word_of kinds) 0 fields
