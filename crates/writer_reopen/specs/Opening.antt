-- The opening of a segment, by the values that its steps were given (after ClockBound's PROTOCOL; the move from layout 2
-- to layout 3 is this project's own).
use Rattle.std.specs.Prelude.{◌≡◌, ◌≢◌, ℕ, ◌+◌, ◌-◌, ◌%◌, Bool, false, List, [], ◌∷◌, ◌++◌, length, take, Option, Some, None, IsOk, slice_index, ◌==◌, if◌then◌else◌}
use Rattle.generation_word.specs.declared.layout.Layout.{Layout}
use Rattle.generation_word.specs.declared.layout.Layout.TheVariants.{Two, Three}
use Rattle.generation_word.specs.Layout.{period_of}
use Rattle.generation_word.specs.Numbering.{odd_after, even_after}
use Rattle.generation_word.specs.Header.{word1_of, header_of, generation_in}
use Rattle.clock_gate.specs.declared.act.Act.{Act}
use Rattle.clock_gate.specs.declared.act.Act.TheVariants.{Load, Store}
use Rattle.segment_layout.specs.declared.words.TheConstants.{MAGIC}
use Rattle.segment_layout.specs.declared.start.Start.TheVariants.{Fresh, Kept, Torn}
use Rattle.segment_layout.specs.Words.{fields_of_words}
use Rattle.segment_layout.specs.Image.{image_of, is_old_header}
use Rattle.writer_reopen.specs.declared.opening.Opening.{Opening}
use Rattle.writer_reopen.specs.Progress.{Progress, in_order, act_of, end_of}

-- the version and the generation that a header tells
abbrev pub version_in : ℕ → ℕ
version_in header = (header_of header).1

-- one of three values, by what the generation says: nothing was published, an update was abandoned, or there is a record
abbrev pub by_generation : {Value : Type 0} → ℕ → (fresh torn kept : Value) → Value
by_generation generation fresh torn kept = if generation == 0 then fresh else if generation % 2 == 1 then torn else kept

-- the magic and the header of generation 0
abbrev pub fresh_steps : Layout → List Act
fresh_steps layout = Store 0 MAGIC ∷ Store 1 (word1_of layout 0) ∷ []

-- an old header gets the layout's, with the same odd number
abbrev pub torn_steps : (old : Bool) → ℕ → List Act
torn_steps old generation = if old then Store 1 (word1_of Three generation) ∷ [] else []

-- an old header is moved by one publication without data: the odd number after it, and the even one
abbrev pub move_steps : (old : Bool) → ℕ → List Act
move_steps old generation =
    if old then Store 1 (word1_of Three (odd_after generation)) ∷ Store 1 (word1_of Three (even_after (period_of Three) generation)) ∷ []
    else []

-- the record's words, and the move
abbrev pub kept_steps : (old : Bool) → ℕ → List Act
kept_steps old generation =
    Load 2 ∷ Load 3 ∷ Load 4 ∷ Load 5 ∷ Load 6 ∷ Load 7 ∷ Load 8 ∷ Load 9 ∷ move_steps old generation

-- the steps after the loads of words 0 and 1
abbrev pub later_steps : Layout → (header : ℕ) → List Act
later_steps layout header =
    by_generation (generation_in header)
    (fresh_steps layout)
    (torn_steps (is_old_header layout header) (generation_in header))
    (kept_steps (is_old_header layout header) (generation_in header))

-- the steps of an opening that meets this header, in their order
abbrev pub opening_steps : Layout → (header : ℕ) → List Act
opening_steps layout header = Load 0 ∷ Load 1 ∷ later_steps layout header

-- the even number of the move, where there is one
abbrev pub moved_to : (old : Bool) → ℕ → Option ℕ
moved_to old generation = if old then Some (even_after (period_of Three) generation) else None

-- what an opening answers for the values of all its steps
abbrev pub opening_for : Layout → List ℕ → Opening
opening_for layout values =
    by_generation (generation_in (slice_index values 1))
    (record { start = Fresh; moved = None })
    (record { start = Torn (generation_in (slice_index values 1)); moved = None })
    (record {
      start = Kept (generation_in (slice_index values 1)) (fields_of_words values);
      moved = moved_to (is_old_header layout (slice_index values 1)) (generation_in (slice_index values 1));
    })

-- where an opening stands that was given these values, the first for its first step: what it wants next, or its answer
abbrev pub opening_of : Layout → List ℕ → Progress Opening
opening_of layout values = in_order (opening_steps layout (slice_index values 1)) (opening_for layout values) (length values)

-- an opener: the layout, and the values that it was given
pub record OpenerState : Type 0 where
  pub layout : Layout
  pub values : List ℕ

abbrev pub new_opener : Layout → OpenerState
new_opener layout = record { layout = layout; values = [] }

abbrev pub opening_act : OpenerState → Act
opening_act state = act_of (opening_of state.layout state.values)

abbrev pub opening_given : OpenerState → ℕ → OpenerState
opening_given state value = record state { values = state.values ++ value ∷ [] }

abbrev pub opening_end : OpenerState → Option Opening
opening_end state = end_of (opening_of state.layout state.values)

-- how many steps an opening takes at most from here on
abbrev pub opening_left : OpenerState → ℕ
opening_left state = 12 - length state.values

-- a record of version 2 is moved to layout 3 with this number: the even one after that of its header
pub record IsMoved (layout : Layout) (header number : ℕ) : Type 0 where
  pub layout_three : layout ≡ Three
  pub version_two : version_in header ≡ 2
  pub even : generation_in header % 2 ≡ 0
  pub some_number : generation_in header ≢ 0
  pub next : number ≡ generation_in header + 2

-- how many words an opening loads that meets this header
abbrev pub loads_at : (header : ℕ) → ℕ
loads_at header = by_generation (generation_in header) 2 2 10

-- the words that were loaded, among the values of an opening: the values of its stores are not looked at
abbrev pub loaded_words : List ℕ → List ℕ
loaded_words values = take (loads_at (slice_index values 1)) values

-- the words loaded so far begin an image that is admitted in this layout
pub record IsAdmitted (layout : Layout) (values : List ℕ) : Type 0 where
  pub rest : List ℕ
  pub whole : length (loaded_words values ++ rest) ≡ 10
  pub admitted : IsOk (image_of layout (loaded_words values ++ rest))

-- the words loaded so far are the first of those that the opening of this image loads
abbrev pub LoadsImage : (image values : List ℕ) → Type 0
LoadsImage image values = take (loads_at (slice_index image 1)) values ≡ take (length values) (loaded_words image)
