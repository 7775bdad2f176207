-- The steps of a read of the segment, try by try. This project's own.
use Rattle.std.specs.Prelude.{◌≡◌, ◌↔◌, ℕ, List, Some}
use Rattle.generation_word.specs.Header.{generation_in}
use Rattle.clock_gate.specs.Acts.{Touch, Wanted, replayed}
use Rattle.seqlock.specs.Tries.{started}
use Rattle.seqlock.specs.TriedRun.{FindsWords, FindsNothing, FailsAlways}
use Rattle.segment_layout.specs.Record.{RecordFields}
use Rattle.shm_reader.specs.declared.seen.Seen.{Seen}
use Rattle.shm_reader.specs.declared.seen.Seen.TheVariants.{Whole, Busy, NotInitialized}
use Rattle.shm_reader.specs.SegmentTries.{segment_lock, record_in, act_of, given, end_of}

-- fewer than so many tries failed; the next one loaded word 1 with this generation, which is even and not 0, the words of
-- this record, and the same word 1 again
pub record ReadsRecord (tries : ℕ) (touches : List Touch) (generation : ℕ) (rec : RecordFields) : Type 0 where
  pub first : ℕ
  pub words : List ℕ
  pub finds : FindsWords segment_lock tries touches first words
  pub generation_is : generation ≡ generation_in first
  pub rec_is : rec ≡ record_in words

-- what a read of so many tries did that saw this: it read a record; or each try failed, by an odd generation or by another
-- word 1 at last, and these are the numbers of the last one; or fewer failed, and the next one loaded generation 0
abbrev pub Saw : ℕ → List Touch → Seen → Type 0
Saw tries touches (Whole generation rec) = ReadsRecord tries touches generation rec
Saw tries touches (Busy so_many first last) = (so_many ≡ tries) × FailsAlways segment_lock tries touches first last
Saw tries touches NotInitialized = FindsNothing segment_lock tries touches

-- a read of so many tries made these steps, each the one that it wanted, and ended with this
abbrev pub EndsWith : ℕ → List Touch → Seen → Type 0
EndsWith tries touches seen = Wanted act_of given (started tries) touches × (end_of (replayed act_of given (started tries) touches) ≡ Some seen)

abbrev pub IsToldByItsTries : Type 0
IsToldByItsTries = (tries : ℕ) (touches : List Touch) (seen : Seen) → EndsWith tries touches seen ↔ Saw tries touches seen
