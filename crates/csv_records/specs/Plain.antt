-- What the records of a text are where nothing in it is quoted.
use Rattle.std.specs.Prelude.{◌≢◌, ℕ, Bool, true, false, ◌==◌, if◌then◌else◌, List, [], ◌∷◌, ◌++◌, All, filter, map}
use Rattle.csv.specs.Machine.{carriage_return, line_feed}

-- the bytes that part fields, and that begin and end a quoted field
abbrev pub comma : ℕ
comma = 44

abbrev pub quote : ℕ
quote = 34

-- more bytes at the start of the first part
abbrev pub begun : List ℕ → List (List ℕ) → List (List ℕ)
begun bytes [] = []
begun bytes (part ∷ parts) = (bytes ++ part) ∷ parts

-- the parts of a text between these bytes, at least one
unfoldable pub parted : ℕ → List ℕ → List (List ℕ)
parted at [] = [] ∷ []
parted at (c ∷ rest) = if c == at then [] ∷ parted at rest else begun (c ∷ []) (parted at rest)

abbrev pub is_filled : List ℕ → Bool
is_filled [] = false
is_filled (c ∷ rest) = true

-- the lines of a text that aren't empty, each parted at its commas
abbrev pub rows_of : List ℕ → List (List (List ℕ))
rows_of text = map (parted comma) (filter is_filled (parted line_feed text))

-- a text with neither a quote nor a carriage return
abbrev pub IsPlain : List ℕ → Type 0
IsPlain text = All (λ c. (c ≢ quote) × (c ≢ carriage_return)) text
