-- The two layouts of a segment.
use Rattle.std.specs.Prelude.{ℕ}
use Rattle.generation_word.specs.declared.layout.Layout.{Layout}
use Rattle.generation_word.specs.declared.layout.Layout.TheVariants.{Two, Three}

-- the version that the header names
abbrev pub version_of : Layout → ℕ
version_of Two = 2
version_of Three = 3

-- how many publications in a row have even numbers of their own
abbrev pub period_of : Layout → ℕ
period_of Two = 32767
period_of Three = 2147483647
