-- The parts of a record: what its fields say, by their places counted from 0.
use Rattle.std.specs.Prelude.{ℕ, List, Option, Some, None, Result, Ok, Err, option_map}
use Rattle.std.specs.Option.{ok_or}
use Rattle.csv.specs.Records.{field_at}
use Rattle.csv_records.specs.Fields.{bytes_in, number_in}
use Rattle.csv_records.specs.declared.reason.Reason.{Reason}
use Rattle.csv_records.specs.declared.reason.Reason.TheVariants as reasons

-- what a field says, or this reason where it says nothing or isn't there
abbrev pub part_by : {A : Type 0} → Reason → (List ℕ → Option A) → Option (List ℕ) → Result A Reason
part_by reason says None = Err reason
part_by reason says (Some field) = ok_or (says field) reason

-- what the field at a place says
abbrev pub part_at : {A : Type 0} → Reason → (List ℕ → Option A) → ℕ → List (List ℕ) → Result A Reason
part_at reason says place fields = part_by reason says (field_at fields place)

-- the same where the record may end before that place
abbrev pub optional_by : {A : Type 0} → Reason → (List ℕ → Option A) → Option (List ℕ) → Result (Option A) Reason
optional_by reason says None = Ok None
optional_by reason says (Some field) = ok_or (option_map Some (says field)) reason

abbrev pub optional_at : {A : Type 0} → Reason → (List ℕ → Option A) → ℕ → List (List ℕ) → Result (Option A) Reason
optional_at reason says place fields = optional_by reason says (field_at fields place)

-- the number from `low` to `high` at a place
abbrev pub number_part : ℕ → ℕ → ℕ → List (List ℕ) → Result ℕ Reason
number_part low high place fields = part_at reasons.Number (number_in low high) place fields

abbrev pub optional_part : ℕ → ℕ → ℕ → List (List ℕ) → Result (Option ℕ) Reason
optional_part low high place fields = optional_at reasons.Number (number_in low high) place fields

-- the bytes that at most so many digits at a place stand for
abbrev pub bytes_part : ℕ → ℕ → List (List ℕ) → Result (List ℕ) Reason
bytes_part most place fields = part_at reasons.Hex (bytes_in most) place fields
