-- The stores of one publication, and where a publisher stands among them (after ClockBound's PROTOCOL).
use Rattle.std.specs.Prelude.{ℕ, suc, ◌+◌, ◌-◌, ◌*◌, ◌<◌, ◌≤◌, List, [], ◌∷◌, ◌++◌, slice_index_or}
use Rattle.clock_gate.specs.declared.act.Act.{Act}
use Rattle.clock_gate.specs.declared.act.Act.TheVariants.{Load, Store, End}
use Rattle.clock_gate.specs.declared.limits.TheConstants.{MOST_STORES}
use Rattle.generation_word.specs.declared.layout.Layout.{Layout}
use Rattle.generation_word.specs.Layout.{period_of}
use Rattle.generation_word.specs.Numbering.{odd_after, even_after}
use Rattle.generation_word.specs.Header.{word1_of}
use Rattle.segment_layout.specs.Record.{RecordFields, KeepsBounds}
use Rattle.segment_layout.specs.Words.{data_words, IsGoodWord}

-- stores of these values in the words from a number on
abbrev pub stores_from : ℕ → List ℕ → List Act
stores_from word [] = []
stores_from word (value ∷ values) = Store word value ∷ stores_from (suc word) values

-- the stores of one publication, in order: the odd number, words 2 to 9 of the record, the even number
abbrev pub stores : RecordFields → Layout → ℕ → List Act
stores rec layout generation =
    Store 1 (word1_of layout (odd_after generation))
    ∷ (stores_from 2 (data_words rec) ++ Store 1 (word1_of layout (even_after (period_of layout) generation)) ∷ [])

-- a publisher: its record, the layout and the generation that it began on, and how many of its stores were made
pub record Publishing : Type 0 where
  pub rec : RecordFields
  pub layout : Layout
  pub generation : ℕ
  pub made : ℕ

abbrev pub new_publishing : RecordFields → Layout → ℕ → Publishing
new_publishing rec layout generation = record { rec = rec; layout = layout; generation = generation; made = 0 }

-- the act that it wants is the first of its stores that was not made
abbrev pub publishing_act : Publishing → Act
publishing_act p = slice_index_or (stores p.rec p.layout p.generation) p.made End

-- with each step one more store was made, whatever value is given
abbrev pub publishing_given : Publishing → ℕ → Publishing
publishing_given p value = record p { made = p.made + 1 }

-- how many stores are left
abbrev pub stores_left : Publishing → ℕ
stores_left p = MOST_STORES - p.made

-- what holds of every publisher
pub record IsPublishing (p : Publishing) : Type 0 where
  pub most : p.made ≤ MOST_STORES
  pub numbered : p.generation ≤ 2 * period_of p.layout + 1
  pub bounds : KeepsBounds p.rec.as_of p.rec.void_after p.rec.bound p.rec.drift

-- what is stored stands in words 1 to 9 and passes the test of its word
abbrev pub IsGoodStore : Act → Type 0
IsGoodStore (Load word) = Unit {0}
IsGoodStore (Store word value) = (1 ≤ word) × ((word < 10) × IsGoodWord word value)
IsGoodStore End = Unit {0}
