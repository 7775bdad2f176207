-- A read of the segment in so many tries. A try loads word 1, words 2 to 9 in order, and word 1 again. This project's
-- own, after ClockBound's PROTOCOL.
use Rattle.std.specs.Prelude.{◌≡◌, ℕ, ◌+◌, ◌%◌, ◌<◌, List, [], ◌∷◌, length, slice_index, take, Option, ◌==◌}
use Rattle.std.specs.Option.{option_map}
use Rattle.generation_word.specs.Header.{generation_in}
use Rattle.clock_gate.specs.declared.act.Act.{Act}
use Rattle.clock_gate.specs.declared.act.Act.TheVariants.{Load, Store, End}
use Rattle.seqlock.specs.Tries.{Seqlock, SeqlockRead, Outcome, Unpublished, AllFailed, Found, read_act, read_end}
use Rattle.seqlock.specs.Tries as tries
use Rattle.segment_layout.specs.Record.{RecordFields}
use Rattle.segment_layout.specs.Words.{IsGoodWord, fields_of_words}
use Rattle.shm_reader.specs.declared.seen.Seen.{Seen}
use Rattle.shm_reader.specs.declared.seen.Seen.TheVariants.{Whole, Busy, NotInitialized}

-- words 2 to 9 stand under the generation in word 1; generation 0 says that nothing was published, and word 1 is compared
-- whole, with its size and version
abbrev pub segment_lock : Seqlock
segment_lock = record {
  number_word = 1;
  first_word = 2;
  size = 8;
  number_in = generation_in;
  is_absent = λ word. generation_in word == 0;
  is_same = λ first last. first == last;
}

-- the record that words 2 to 9 stand for
abbrev pub record_in : List ℕ → RecordFields
record_in words = fields_of_words (0 ∷ 0 ∷ words)

-- what a client sees of so many tries that came to this
abbrev pub seen_of : ℕ → Outcome → Seen
seen_of tries Unpublished = NotInitialized
seen_of tries (AllFailed first last) = Busy tries first last
seen_of tries (Found first words) = Whole (generation_in first) (record_in words)

-- the machine: its act, what a value makes of it, and its end
abbrev pub act_of : SeqlockRead → Act
act_of = read_act segment_lock

abbrev pub given : SeqlockRead → ℕ → SeqlockRead
given = tries.given segment_lock

abbrev pub end_of : SeqlockRead → Option Seen
end_of read = option_map (seen_of read.tries) (read_end segment_lock read)

abbrev pub steps_left : SeqlockRead → ℕ
steps_left = tries.steps_left segment_lock

-- where a read stands whose try in hand made so many of these loads
abbrev pub stands : ℕ → ℕ → ℕ → ℕ → ℕ → List ℕ → SeqlockRead
stands tries left first last loaded loads = record { tries = tries; left = left; first = first; last = last; values = take loaded loads }

-- the value can stand where this act loads it
abbrev pub IsGoodLoad : Act → ℕ → Type 0
IsGoodLoad (Load word) value = IsGoodWord word value
IsGoodLoad (Store word stored) value = Unit {0}
IsGoodLoad End value = Unit {0}

-- the values can stand in words 2 to 9
abbrev pub AreGoodLoads : List ℕ → Type 0
AreGoodLoads values = (k : ℕ) → k < length values → IsGoodWord (2 + k) (slice_index values k)

-- so many tries of this read fail at once by this word 1, and one is left: none has begun, and its generation is odd
pub record FailsOdd (read : SeqlockRead) (header count : ℕ) : Type 0 where
  pub none : read.values ≡ []
  pub odd : generation_in header % 2 ≡ 1
  pub left : count < read.left
