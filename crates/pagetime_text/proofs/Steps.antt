-- One line more.
use Rattle.std.proofs.Common.{◌≡◌, ℕ, ◌+◌, List, [], ◌∷◌, ◌++◌, length, Option, Some, None, refl, ◌∙◌}
use Rattle.std.specs.Prelude.{filter_map}
use Rattle.std.specs.List.{cons_option}
use Rattle.std.proofs.lemmas.List.Elements.{filter_map-append}
use Rattle.std.proofs.lemmas.List.{length-append, append-nil}
use Rattle.csv_records.specs.Step.{joined}
use Rattle.csv_records.proofs.Reading.{GoesOn}
use Rattle.pagetime_text.specs.Facts.{Facts, facts_of, grammar, row_in, rows_of}
use Rattle.pagetime_text.specs.declared.line.Line.{Line}

-- the facts of one line more
abbrev pub taken : Facts → Line → Facts
taken facts line = record { count = facts.count + 1; rows = joined facts.rows (row_in line) }

joined_is : {A : Type 0} (xs : List A) (o : Option A) → xs ++ cons_option o [] ≡ joined xs o
joined_is xs None = append-nil xs
joined_is xs (Some x) = refl

rows_more : (front : List Line) (line : Line) → rows_of (front ++ line ∷ []) ≡ joined (rows_of front) (row_in line)
unfolding rows_of
rows_more front line = filter_map-append row_in front (line ∷ []) ∙ joined_is (filter_map row_in front) (row_in line)

-- are so
pub facts_more : (front : List Line) (line : Line) → facts_of (front ++ line ∷ []) ≡ taken (facts_of front) line
facts_more front line = rw (length-append front (line ∷ []), rows_more front line) refl

pub goes_on : GoesOn grammar taken (λ facts. facts.count)
goes_on = record { more = facts_more; counted = λ front. refl }
