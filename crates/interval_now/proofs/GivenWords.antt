-- What words 2 to 9 make of a call that wants them next.
use Rattle.std.proofs.Common.{◌≡◌, ◌≢◌, ℕ, zero, suc, ◌+◌, ◌<◌, ◌≤◌, Bool, List, [], ◌∷◌, length, Option, None, refl, ap, sym, ◌∙◌, subst, arith, inl, inr}
use Rattle.std.specs.Prelude.{replicate}
use Rattle.std.specs.Option.{option_map}
use Rattle.generation_word.specs.Header.{generation_in}
use Rattle.std.proofs.lemmas.Bool.{cases_lt}
use Rattle.clock_gate.specs.declared.act.Act.TheVariants.{Load, End}
use Rattle.clock_gate.specs.declared.clock_row.ClockRow.{ClockRow}
use Rattle.clock_gate.specs.Acts.{after}
use Rattle.seqlock.specs.Tries.{SeqlockRead, Outcome, progress, read_end}
use Rattle.seqlock.specs.Tries as tries
use Rattle.seqlock.proofs.Tries as laws
use Rattle.vmclock_page.specs.PageRead.{page_lock}
use Rattle.vmclock_page.specs.PageRead as page
use Rattle.shm_reader.specs.SegmentTries.{segment_lock}
use Rattle.shm_reader.specs.SegmentTries as segment
use Rattle.shm_reader.proofs.GivenWords.{IsAfterWord, after_word, begins_again}
use Rattle.shm_reader.proofs.Stands.{odd_fails}
use Rattle.interval_now.specs.declared.stage.Stage.{Stage}
use Rattle.interval_now.specs.declared.stage.Stage.TheVariants.{Segment, Clock, Page, Done}
use Rattle.interval_now.specs.Call.{IsStage, act_at, act_of, end_at, after_segment, stage_given, words_given, given, StageFailsOdd}

same_load : (a b : ℕ) → Load a ≡ Load b → a ≡ b
same_load a b e = cc

-- the page's tries want none of them
pub page_apart : (read : SeqlockRead) (word : ℕ) → tries.IsStage page_lock read → page.act_of read ≡ Load word → 10 < word
page_apart read word is act = elim (laws.read_word page_lock read word is act) [
  | inl e ↦ omega (arith, e)
  | inr e ↦ let x = e.2 in omega (arith, x)
]

segment_asks : (read : SeqlockRead) (word : ℕ) → IsAfterWord read word → word < 10 → segment.act_of read ≢ End
segment_asks read word next high = elim (cases_lt word 9) [
  | inl less ↦ λ ends. cc (sym (next.other less) ∙ ends)
  | inr full ↦ λ ends. cc (sym (next.last (omega (arith, high, full))) ∙ ends)
]

after_one : (clock : List ClockRow) (most : ℕ) (support : Bool) (read : SeqlockRead) (word value : ℕ) → tries.IsStage segment_lock read → segment.act_of read ≡ Load word → 2 ≤ word → word < 10
    → stage_given clock most support (Segment read) value ≡ Segment (segment.given read value)
after_one clock most support read word value is act low high =
    let asks = segment_asks (segment.given read value) word (after_word read word value is act low high) high in
    let none : read_end segment_lock (segment.given read value) ≡ None = laws.act_none segment_lock (progress segment_lock (segment.given read value)) asks in
    ap (λ (e : Option Outcome). after_segment (segment.given read value) (option_map (segment.seen_of (segment.given read value).tries) e)) none

-- a call that was given one of them goes on with the next one, or with word 1
pub record GoesOn (stage : Stage) (word : ℕ) : Type 0 where
  pub on : end_at stage ≡ None
  pub next : word < 9 → act_at stage ≡ Load (word + 1)

pub goes_on : (clock : List ClockRow) (most : ℕ) (support : Bool) (stage : Stage) (word value : ℕ) → IsStage stage → act_at stage ≡ Load word → 2 ≤ word → word < 10 → GoesOn (stage_given clock most support stage value) word
goes_on clock most support (Segment read) word value is act low high =
    subst (λ (s : Stage). GoesOn s word) (sym (after_one clock most support read word value is.0 act low high))
    (record { on = refl; next = (after_word read word value is.0 act low high).other })
goes_on clock most support (Clock generation rec) word value is act low high = absurd (let e = same_load 23 word act in omega (arith, e, high))
goes_on clock most support (Page generation rec reading read) word value is act low high = absurd (let e = page_apart read word is.0 act in omega (arith, e, high))
goes_on clock most support (Done answer) word value is act low high = absurd (cc act)

-- one after another they come to the same as all at once
words_after : (clock : List ClockRow) (most : ℕ) (support : Bool) (read : SeqlockRead) (word : ℕ) (words : List ℕ) → tries.IsStage segment_lock read → segment.act_of read ≡ Load word → 2 ≤ word → word + length words ≤ 10
    → after act_of (given clock) (record { tries = most; support = support; stage = Segment read }) words ≡ record { tries = most; support = support; stage = Segment (after segment.act_of segment.given read words) }
words_after clock most support read word [] is act low few = refl
words_after clock most support read word (value ∷ []) is act low few =
    ap (λ (s : Stage). record { tries = most; support = support; stage = s }) (after_one clock most support read word value is act low (omega arith))
words_after clock most support read word (value ∷ next ∷ words) is act low few =
    let open_ = laws.open_act segment_lock read is (λ ends. cc (sym act ∙ ends)) in
    ap (λ (s : Stage). after act_of (given clock) (record { tries = most; support = support; stage = s }) (next ∷ words)) (after_one clock most support read word value is act low (omega arith))
    ∙ words_after clock most support (segment.given read value) (word + 1) (next ∷ words) (laws.stage_given segment_lock read value open_)
    ((after_word read word value is act low (omega arith)).other (omega arith)) (omega arith) (omega arith)

pub words_at_once : (clock : List ClockRow) (most : ℕ) (support : Bool) (stage : Stage) (words : List ℕ) → IsStage stage → act_at stage ≡ Load 2 → length words ≡ 8
    → record { tries = most; support = support; stage = words_given stage words } ≡ after act_of (given clock) (record { tries = most; support = support; stage = stage }) words
words_at_once clock most support (Segment read) words is act eight = sym (words_after clock most support read 2 words is.0 act (omega arith) (omega arith))
words_at_once clock most support (Clock generation rec) words is act eight = absurd (let e = same_load 23 2 act in omega (arith, e))
words_at_once clock most support (Page generation rec reading read) words is act eight = absurd (let e = page_apart read 2 is.0 act in omega (arith, e))
words_at_once clock most support (Done answer) words is act eight = absurd (cc act)

pub in_segment : (stage : Stage) → IsStage stage → act_at stage ≡ Load 2 → (read : SeqlockRead) × (stage ≡ Segment read)
in_segment (Segment read) is act = (read, refl)
in_segment (Clock generation rec) is act = absurd (let e = same_load 23 2 act in omega (arith, e))
in_segment (Page generation rec reading read) is act = absurd (let e = page_apart read 2 is.0 act in omega (arith, e))
in_segment (Done answer) is act = absurd (cc act)

-- ---- tries that fail at once

-- a call whose next try fails at once goes on, with one fewer
pub record OddOnce (clock : List ClockRow) (most : ℕ) (support : Bool) (stage : Stage) (header count : ℕ) : Type 0 where
  pub act : act_at stage ≡ Load 1
  pub on : end_at (stage_given clock most support stage header) ≡ None
  pub next : StageFailsOdd (stage_given clock most support stage header) header count

odd_stage : (clock : List ClockRow) (most : ℕ) (support : Bool) (read : SeqlockRead) (header count : ℕ) → segment.FailsOdd read header (suc count)
    → stage_given clock most support (Segment read) header ≡ Segment (tries.failed_try read (generation_in header) (generation_in header))
odd_stage clock most support read header count fails =
    let left = fails.left in
    let later : SeqlockRead = tries.failed_try read (generation_in header) (generation_in header) in
    let again = begins_again later (omega (arith, left)) refl in
    let none : read_end segment_lock later ≡ None = laws.act_none segment_lock (progress segment_lock later) (λ ends. cc (sym again.1 ∙ ends)) in
    ap (λ (r : SeqlockRead). after_segment r (segment.end_of r)) (odd_fails read header fails.none fails.odd)
    ∙ ap (λ (e : Option Outcome). after_segment later (option_map (segment.seen_of later.tries) e)) none

pub odd_once : (clock : List ClockRow) (most : ℕ) (support : Bool) (stage : Stage) (header count : ℕ) → StageFailsOdd stage header (suc count) → OddOnce clock most support stage header count
odd_once clock most support (Segment read) header count fails =
    let left = fails.left in
    let there = odd_stage clock most support read header count fails in
    record {
      act = (begins_again read (omega (arith, left)) fails.none).1;
      on = ap end_at there;
      next = subst (λ (s : Stage). StageFailsOdd s header count) (sym there) (record { none = refl; odd = fails.odd; left = omega (arith, left) });
    }
odd_once clock most support (Clock generation rec) header count fails = absurd fails
odd_once clock most support (Page generation rec reading read) header count fails = absurd fails
odd_once clock most support (Done answer) header count fails = absurd fails

odd_after : (clock : List ClockRow) (most : ℕ) (support : Bool) (count : ℕ) (read : SeqlockRead) (header : ℕ) → segment.FailsOdd read header count
    → after act_of (given clock) (record { tries = most; support = support; stage = Segment read }) (replicate count header)
    ≡ record { tries = most; support = support; stage = Segment (after segment.act_of segment.given read (replicate count header)) }
odd_after clock most support zero read header fails = refl
odd_after clock most support (suc count) read header fails =
    let left = fails.left in
    let later : SeqlockRead = tries.failed_try read (generation_in header) (generation_in header) in
    ap (λ (s : Stage). after act_of (given clock) (record { tries = most; support = support; stage = s }) (replicate count header)) (odd_stage clock most support read header count fails)
    ∙ odd_after clock most support count later header (record { none = refl; odd = fails.odd; left = omega (arith, left) })
    ∙ ap (λ (r : SeqlockRead). record { tries = most; support = support; stage = Segment (after segment.act_of segment.given r (replicate count header)) }) (sym (odd_fails read header fails.none fails.odd))

same_stage : (stage : Stage) → words_given stage [] ≡ stage
same_stage (Segment read) = refl
same_stage (Clock generation rec) = refl
same_stage (Page generation rec reading read) = refl
same_stage (Done answer) = refl

pub odd_at_once : (clock : List ClockRow) (most : ℕ) (support : Bool) (count : ℕ) (stage : Stage) (header : ℕ) → (0 < count → StageFailsOdd stage header count)
    → record { tries = most; support = support; stage = words_given stage (replicate count header) } ≡ after act_of (given clock) (record { tries = most; support = support; stage = stage }) (replicate count header)
odd_at_once clock most support zero stage header fails = ap (λ (s : Stage). record { tries = most; support = support; stage = s }) (same_stage stage)
odd_at_once clock most support (suc count) (Segment read) header fails = sym (odd_after clock most support (suc count) read header (fails (omega arith)))
odd_at_once clock most support (suc count) (Clock generation rec) header fails = absurd (fails (omega arith))
odd_at_once clock most support (suc count) (Page generation rec reading read) header fails = absurd (fails (omega arith))
odd_at_once clock most support (suc count) (Done answer) header fails = absurd (fails (omega arith))
