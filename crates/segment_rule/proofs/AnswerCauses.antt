-- Each answer by its cause.
use Rattle.std.proofs.Common.{◌≡◌, ℕ, ◌+◌, ◌<◌, Bool, true, false, List, [], Option, Some, None, Result, Ok, Err, refl, sym, ap, subst, arith, inl, inr}
use Rattle.std.specs.Prelude.{◌↔◌, is_some, slice_index, int_lt, pos, ◌<ℤ◌, if◌then◌else◌, ℤ}
use Rattle.std.proofs.lemmas.Int.{ints}
use Rattle.clock_gate.specs.declared.clock_row.ClockRow.{ClockRow}
use Rattle.clock_gate.specs.Acts.{Touch}
use Rattle.clock_gate.specs.ClockRow.{row_at, reading_at}
use Rattle.seqlock.specs.Tries.{Outcome, Unpublished, AllFailed, Found}
use Rattle.seqlock.specs.TriedRun.{Did}
use Rattle.vmclock_page.specs.PageRead.{page_lock}
use Rattle.vmclock_page.specs.Words.{count_in_word}
use Rattle.segment_layout.specs.Record.{RecordFields}
use Rattle.shm_reader.specs.declared.seen.Seen.{Seen}
use Rattle.shm_reader.specs.declared.seen.Seen.TheVariants as seen
use Rattle.shm_reader.specs.SegmentRun.{Saw}
use Rattle.interval_now.specs.declared.answers.Answer.{Answer}
use Rattle.interval_now.specs.declared.answers.Answer.TheVariants as answers
use Rattle.interval_now.specs.declared.answers.Causality.{Causality}
use Rattle.interval_now.specs.declared.answers.Interval.{Interval}
use Rattle.interval_now.specs.Call.{timed, answer_of}
use Rattle.interval_now.proofs.Statuses.{intervals_have_status}
use Rattle.interval_now.specs.Interval.{interval_of}
use Rattle.interval_now.specs.CallRun.{answer_without_record, answer_by_page, ReadsThenClock, CallCameTo, CallDid, ReadsAll, AnswersTime}
use Rattle.segment_views.specs.Views.{SeatView}
use Rattle.segment_views.specs.Shown.{touches_of, IsSoundCall}
use Rattle.segment_rule.specs.Answered.{IsPageRead, IsAnsweredBy, AnswersStand, ReadsAnswerTime}
use Rattle.segment_rule.proofs.ReadRecord.{has_read}

-- a reading that gives no interval lies before the record
record IsBefore (rec : RecordFields) (mono : ℕ) (causality : Causality) : Type 0 where
  as_of : causality.as_of ≡ rec.as_of
  mono_is : causality.mono ≡ mono
  early : pos (causality.mono + 1000) <ℤ causality.as_of

below_is : (a b : ℤ) → int_lt a b ≡ true → a <ℤ b
below_is a b is = omega (arith, ints, is)

before_by : (early : Bool) (rec : RecordFields) (mono : ℕ) (given : Interval) (causality : Causality) → int_lt (pos (mono + 1000)) rec.as_of ≡ early → (if early then Err (record { as_of = rec.as_of; mono = mono }) else Ok given) ≡ Err causality → IsBefore rec mono causality
before_by true rec mono given causality test is =
    let same : record { as_of = rec.as_of; mono = mono } ≡ causality = cc is in
    record {
      as_of = sym (ap (λ (e : Causality). e.as_of) same);
      mono_is = sym (ap (λ (e : Causality). e.mono) same);
      early = subst (λ (e : Causality). pos (e.mono + 1000) <ℤ e.as_of) same (below_is (pos (mono + 1000)) rec.as_of test);
    }
before_by false rec mono given causality test is = absurd (cc is)

module _ (clock : List ClockRow) (tries : ℕ) (v : SeatView) (sound : IsSoundCall v) where
  -- an interval, or a reading that lies before the record
  timed_by : (generation : ℕ) (rec : RecordFields) (row : ℕ) (later : List Touch) (marker : Option ℕ) (sequence : ℕ) (found : Result Interval Causality)
      → interval_of rec (row_at clock row).mono (row_at clock row).real marker ≡ found → ReadsThenClock tries (touches_of v.steps) generation rec row later → IsPageRead tries (is_some v.setup.page) later marker sequence
      → IsAnsweredBy clock tries v (timed generation row sequence found)
  unfolding interval_of
  timed_by generation rec row later marker sequence (Ok interval) is after page =
      record { rec = rec; read = has_read v tries generation rec row later sound after; later = later; after = after; marker = marker; page = page; interval = is; status = intervals_have_status rec (row_at clock row).mono (row_at clock row).real marker interval is }
  timed_by generation rec row later marker sequence (Err causality) is after page =
      let before = before_by (int_lt (pos ((row_at clock row).mono + 1000)) rec.as_of) rec (row_at clock row).mono _ causality refl is in
      record {
        generation = generation;
        rec = rec;
        row = row;
        read = has_read v tries generation rec row later sound after;
        later = later;
        after = after;
        marker = marker;
        sequence = sequence;
        page = page;
        as_of = before.as_of;
        mono = before.mono_is;
        early = before.early;
      }

  read_by : (generation : ℕ) (rec : RecordFields) (row : ℕ) (later : List Touch) (marker : Option ℕ) (sequence : ℕ) (answer : Answer) → answer ≡ answer_of generation rec (reading_at clock row) marker sequence
      → ReadsThenClock tries (touches_of v.steps) generation rec row later → IsPageRead tries (is_some v.setup.page) later marker sequence → IsAnsweredBy clock tries v answer
  read_by generation rec row later marker sequence answer is after page =
      subst (IsAnsweredBy clock tries v) (sym is) (timed_by generation rec row later marker sequence (interval_of rec (row_at clock row).mono (row_at clock row).real marker) refl after page)

  unread_by : (saw : Seen) (answer : Answer) → Saw tries (touches_of v.steps) saw → answer_without_record saw ≡ Some answer → IsAnsweredBy clock tries v answer
  unread_by (seen.Whole generation rec) answer saw is = absurd (cc is)
  unread_by (seen.Busy so_many first last) answer saw is = let same : answers.Busy so_many first last ≡ answer = cc is in subst (IsAnsweredBy clock tries v) same saw
  unread_by seen.NotInitialized answer saw is = let same : answers.NotInitialized ≡ answer = cc is in subst (IsAnsweredBy clock tries v) same saw

  page_by : (generation : ℕ) (rec : RecordFields) (row : ℕ) (later : List Touch) (outcome : Outcome) (answer : Answer) → is_some v.setup.page ≡ true → answer ≡ answer_by_page generation rec (reading_at clock row) outcome
      → ReadsThenClock tries (touches_of v.steps) generation rec row later → Did page_lock tries later outcome → IsAnsweredBy clock tries v answer
  page_by generation rec row later Unpublished answer has is after did = let never = did.absent in absurd (cc never)
  page_by generation rec row later (AllFailed first last) answer has is after did =
      subst (IsAnsweredBy clock tries v) (sym is)
      (record { generation = generation; rec = rec; row = row; read = has_read v tries generation rec row later sound after; later = later; after = after; fails = did })
  page_by generation rec row later (Found word words) answer has is after did =
      read_by generation rec row later (Some (slice_index words 0)) (count_in_word word) answer is after
      (subst (λ (support : Bool). IsPageRead tries support later (Some (slice_index words 0)) (count_in_word word)) (sym has) (word, words, did, refl, refl))

  caused : (answer : Answer) → CallDid clock tries (is_some v.setup.page) (touches_of v.steps) answer → IsAnsweredBy clock tries v answer
  caused answer (inl segment) = unread_by segment.seen answer segment.saw segment.is
  caused answer (inr (inl ends)) =
      read_by ends.generation ends.rec ends.row [] None 0 answer ends.is ends.read
      (subst (λ (support : Bool). IsPageRead tries support [] None 0) (sym ends.no_page) (refl, refl, refl))
  caused answer (inr (inr ends)) = page_by ends.generation ends.rec ends.row ends.later ends.outcome answer ends.has_page ends.is ends.read ends.did

abbrev pub CallsAreTold : Type 0
CallsAreTold = (clock : List ClockRow) (tries : ℕ) (support : Bool) (touches : List Touch) (answer : Answer) → 0 < tries → CallCameTo clock tries support touches answer ↔ CallDid clock tries support touches answer

pub answers_stand : CallsAreTold → AnswersStand
answers_stand told clock tries answer v some nows = caused clock tries v nows.ran answer ((told clock tries (is_some v.setup.page) (touches_of v.steps) answer some).0 nows.came)

abbrev pub CallsComplete : Type 0
CallsComplete = (clock : List ClockRow) (tries : ℕ) (support : Bool) (touches : List Touch) → 0 < tries → ReadsAll clock tries support touches → AnswersTime clock tries support touches

one_answer : (a b : Answer) (end : Option Answer) → end ≡ Some a → end ≡ Some b → a ≡ b
one_answer a b end first second = cc (first, second)

pub reads_answer_time : CallsComplete → ReadsAnswerTime
reads_answer_time completes clock tries answer v some nows reads =
    let time = completes clock tries (is_some v.setup.page) (touches_of v.steps) some reads in
    (time.0, one_answer answer (answers.Time time.0) _ nows.came.1 time.1.1)
