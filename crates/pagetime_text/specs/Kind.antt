-- The kinds of records.
use Rattle.std.specs.Prelude.{ℕ, ◌==◌, ◌||◌, Bool, List, [], ◌∷◌, codes}
use Rattle.pagetime_text.specs.declared.kind.Kind.{Kind}
use Rattle.pagetime_text.specs.declared.kind.Kind.TheVariants.{Header, Page, Read}

-- the word that names a kind
unfoldable pub word_of : Kind → List ℕ
word_of Header = codes "pagetime-trace"
word_of Page = codes "page"
word_of Read = codes "read"

abbrev pub kinds : List Kind
kinds = Header ∷ Page ∷ Read ∷ []

-- how many fields a record of a kind may have
abbrev pub allows : Kind → ℕ → Bool
allows Header count = count == 2
allows Page count = (count == 2) || (count == 3)
allows Read count = (count == 2) || (count == 3)
