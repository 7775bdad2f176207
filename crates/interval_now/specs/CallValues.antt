-- What a client call comes to, by all the values that it was given: first those of the tries to read the segment, then a
-- row of the clock, then, where there is a page, those of the tries to read it. This project's own.
use Rattle.std.specs.Prelude.{◌≡◌, ℕ, ◌+◌, ◌*◌, ◌≤◌, Bool, if◌then◌else◌, List, [], ◌∷◌, slice_index, Option, Some, None, length}
use Rattle.generation_word.specs.Header.{generation_in}
use Rattle.clock_gate.specs.declared.act.Act.{Act}
use Rattle.clock_gate.specs.declared.act.Act.TheVariants.{Load, End}
use Rattle.clock_gate.specs.declared.clock_row.ClockRow.{ClockRow}
use Rattle.clock_gate.specs.declared.clock_row.Reading.{Reading}
use Rattle.clock_gate.specs.Acts.{after}
use Rattle.clock_gate.specs.ClockRow.{reading_at}
use Rattle.seqlock.specs.Tries.{Outcome, Unpublished, AllFailed, Found, tries_of}
use Rattle.vmclock_page.specs.PageRead.{page_lock}
use Rattle.vmclock_page.specs.Words.{count_in_word}
use Rattle.segment_layout.specs.Record.{RecordFields}
use Rattle.shm_reader.specs.SegmentTries.{segment_lock, record_in}
use Rattle.interval_now.specs.declared.answers.Answer.{Answer}
use Rattle.interval_now.specs.declared.answers.Answer.TheVariants as answers
use Rattle.interval_now.specs.Call.{started_call, answer_of, act_of, given, end_of}

-- what a call wants next, or its answer
pub data CallProgress : Type 0 where
  Asks : (word : ℕ) → CallProgress
  Answers : (answer : Answer) → CallProgress

abbrev pub act_then : CallProgress → Act
act_then (Asks word) = Load word
act_then (Answers answer) = End

abbrev pub end_then : CallProgress → Option Answer
end_then (Asks word) = None
end_then (Answers answer) = Some answer

-- the page's tries have come to this; a page is always there
abbrev pub after_page_tries : ℕ → RecordFields → Reading → Outcome → List ℕ → CallProgress
after_page_tries generation rec reading Unpublished rest = Answers (answers.PageBusy 0 0)
after_page_tries generation rec reading (AllFailed first last) rest = Answers (answers.PageBusy first last)
after_page_tries generation rec reading (Found word words) rest = Answers (answer_of generation rec reading (Some (slice_index words 0)) (count_in_word word))

-- the values after the segment's tries, which read this record: first the number of a row of the clock
abbrev pub clock_load : List ClockRow → ℕ → Bool → ℕ → RecordFields → List ℕ → CallProgress
clock_load clock tries support generation rec [] = Asks 23
clock_load clock tries support generation rec (row ∷ values) =
    if support then tries_of page_lock Asks (after_page_tries generation rec (reading_at clock row)) tries 0 0 values
    else Answers (answer_of generation rec (reading_at clock row) None 0)

-- the segment's tries have come to this
abbrev pub after_segment_tries : List ClockRow → ℕ → Bool → Outcome → List ℕ → CallProgress
after_segment_tries clock tries support Unpublished rest = Answers answers.NotInitialized
after_segment_tries clock tries support (AllFailed first last) rest = Answers (answers.Busy tries first last)
after_segment_tries clock tries support (Found word words) rest = clock_load clock tries support (generation_in word) (record_in words) rest

-- what a call of so many tries comes to, with a page or without one
abbrev pub call_of : List ClockRow → ℕ → Bool → List ℕ → CallProgress
call_of clock tries support values = tries_of segment_lock Asks (after_segment_tries clock tries support) tries 0 0 values

-- a call of so many tries is what these values come to
pub record FollowsItsValues (clock : List ClockRow) (tries : ℕ) (support : Bool) (values : List ℕ) : Type 0 where
  pub act : act_of (after act_of (given clock) (started_call tries support) values) ≡ act_then (call_of clock tries support values)
  pub end : end_of (after act_of (given clock) (started_call tries support) values) ≡ end_then (call_of clock tries support values)
  pub steps : length values ≤ 13 * tries + 1
