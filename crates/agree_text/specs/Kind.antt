-- The kinds of a text's records.
use Rattle.std.specs.Prelude.{ℕ, Bool, ◌||◌, ◌==◌, List, [], ◌∷◌, codes}
use Rattle.agree_text.specs.declared.kind.Kind.{Kind}
use Rattle.agree_text.specs.declared.kind.Kind.TheVariants.{Header, Set, Drop, Ask}

-- the first field of a record of this kind
unfoldable pub word_of : Kind → List ℕ
word_of Header = codes "agree-trace"
word_of Set = codes "set"
word_of Drop = codes "drop"
word_of Ask = codes "ask"

abbrev pub kinds : List Kind
kinds = Header ∷ Set ∷ Drop ∷ Ask ∷ []

-- a record of this kind may have so many fields
abbrev pub allows : Kind → ℕ → Bool
allows Header count = count == 2
allows Set count = count == 4
allows Drop count = count == 2
allows Ask count = (count == 2) || (count == 3)
