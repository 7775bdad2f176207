-- Numbers that may be negative.
use Rattle.std.specs.Prelude.{ℕ, ◌==◌, ◌^◌, List, [], ◌∷◌, Option, None, Result, ℤ, pos, neg_ℤ, option_map, if◌then◌else◌}
use Rattle.csv_records.specs.Fields.{number_in}
use Rattle.csv_records.specs.Parts.{optional_at, part_at}
use Rattle.csv_records.specs.declared.reason.Reason.{Reason}
use Rattle.csv_records.specs.declared.reason.Reason.TheVariants as reasons

-- 1 to 20 digits with or without a minus before them, at most 2^62
unfoldable pub signed_in : List ℕ → Option ℤ
signed_in [] = None
signed_in (c ∷ digits) =
    if c == 45 then option_map (λ n. neg_ℤ (pos n)) (number_in 0 (2 ^ 62) digits)
    else option_map pos (number_in 0 (2 ^ 62) (c ∷ digits))

-- the number at a place
abbrev pub signed_part : ℕ → List (List ℕ) → Result ℤ Reason
signed_part place fields = part_at reasons.Number signed_in place fields

-- the truth of a question, which its record may lack
abbrev pub truth_part : List (List ℕ) → Result (Option ℤ) Reason
truth_part fields = optional_at reasons.Number signed_in 2 fields
