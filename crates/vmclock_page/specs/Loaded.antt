-- The words of a page try as a list, in the order in which they were loaded.
use Rattle.std.specs.Prelude.{◌≡◌, ℕ, ◌<◌, ◌%◌, List, [], ◌∷◌}
use Rattle.vmclock_page.specs.Words.{count_in_word}
use Rattle.vmclock_page.specs.declared.page_reader.Loaded.{Loaded}
use Rattle.vmclock_page.specs.declared.page_reader.Loaded.TheVariants.{Nothing, Count, Marker, Whole}

abbrev pub loaded_values : Loaded → List ℕ
loaded_values Nothing = []
loaded_values (Count first) = first ∷ []
loaded_values (Marker first marker) = first ∷ marker ∷ []
loaded_values (Whole first marker last) = first ∷ marker ∷ last ∷ []

-- the words that a list of at most three values is of
abbrev pub values_loaded : List ℕ → Loaded
values_loaded [] = Nothing
values_loaded (first ∷ []) = Count first
values_loaded (first ∷ marker ∷ []) = Marker first marker
values_loaded (first ∷ marker ∷ last ∷ values) = Whole first marker last

-- a try in hand has an even count first, and is not one after the last
abbrev pub IsLoaded : ℕ → Loaded → Type 0
IsLoaded left Nothing = Unit {0}
IsLoaded left (Count first) = (0 < left) × (count_in_word first % 2 ≡ 0)
IsLoaded left (Marker first marker) = (0 < left) × (count_in_word first % 2 ≡ 0)
IsLoaded left (Whole first marker last) = (0 < left) × ((count_in_word first % 2 ≡ 0) × (count_in_word first ≡ count_in_word last))
