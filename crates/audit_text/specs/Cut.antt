-- A text cut at its first line `report`. A line is the bytes up to a line feed; bytes after the last line feed are no line.
use Rattle.std.specs.Prelude.{ℕ, ◌==◌, Bool, true, ◌&&◌, if◌then◌else◌, List, [], ◌∷◌, length, take, drop, codes, Option, Some, None}
use Rattle.std.specs.Str.{bytes_eq}

abbrev pub line_feed : ℕ
line_feed = 10

-- the line, with its line feed
abbrev pub report_line : List ℕ
report_line = codes "report\n"

-- a text goes on with that line
abbrev pub goes_on : List ℕ → Bool
goes_on text = bytes_eq report_line (take (length report_line) text)

-- what stands before the line, and what follows it
abbrev pub Parts : Type 0
Parts = List ℕ × List ℕ

abbrev pub one_before : ℕ → Option Parts → Option Parts
one_before c None = None
one_before c (Some (before, after)) = Some (c ∷ before, after)

-- the parts from a place on, where a line begins or not: one begins after each line feed
unfoldable pub cut_from : (begins : Bool) → List ℕ → Option Parts
cut_from begins [] = None
cut_from begins (c ∷ rest) =
    if begins && goes_on (c ∷ rest) then Some ([], drop (length report_line) (c ∷ rest))
    else one_before c (cut_from (c == line_feed) rest)

-- the parts of a whole text: its first line begins at its start
abbrev pub cut_of : List ℕ → Option Parts
cut_of text = cut_from true text
