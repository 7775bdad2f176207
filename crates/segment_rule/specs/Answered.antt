-- What a client's answer stands on: the loads of its own call, what they showed, and the history that its seat has seen.
use Rattle.std.specs.Prelude.{◌≡◌, ℕ, ◌+◌, ◌/◌, ◌%◌, ◌<◌, ◌≤◌, ◌<ℤ◌, pos, Bool, true, false, List, [], ◌∷◌, ◌++◌, length, slice_index, Option, Some, None, Ok, is_some}
use Rattle.clock_gate.specs.declared.clock_row.ClockRow.{ClockRow}
use Rattle.clock_gate.specs.Acts.{Touch}
use Rattle.clock_gate.specs.ClockRow.{row_at}
use Rattle.generation_word.specs.Header.{generation_in}
use Rattle.generation_word.specs.Layout.{period_of}
use Rattle.seqlock.specs.TriedRun.{loads_from, FindsWords, FindsNothing, FailsAlways}
use Rattle.segment_layout.specs.Record.{RecordFields}
use Rattle.vmclock_page.specs.PageRead.{page_lock}
use Rattle.vmclock_page.specs.Words.{count_in_word}
use Rattle.shm_reader.specs.SegmentTries.{segment_lock, record_in}
use Rattle.interval_now.specs.declared.answers.Answer.{Answer}
use Rattle.interval_now.specs.declared.answers.Answer.TheVariants as answers
use Rattle.interval_now.specs.declared.answers.Causality.{Causality}
use Rattle.interval_now.specs.declared.answers.Timed.{Timed}
use Rattle.interval_now.specs.Interval.{interval_of}
use Rattle.interval_now.specs.Status.{IsStatusOf}
use Rattle.interval_now.specs.CallRun.{ReadsThenClock, ReadsAll}
use Rattle.segment_views.specs.Views.{Step, SeatView, base_of, entry_at}
use Rattle.segment_views.specs.Steps.{loaded, StandsPoint}
use Rattle.segment_views.specs.Shown.{touches_of}
use Rattle.segment_rule.specs.Calls.{Nows}

-- the history that a seat has seen has this record at this position, and its reply was taken by this clock row
pub record IsEntry (v : SeatView) (position : ℕ) (rec : RecordFields) (row : ℕ) : Type 0 where
  pub after : base_of v.setup < position
  pub known : position ≤ base_of v.setup + length v.seen.history
  pub same : rec ≡ (entry_at v.setup v.seen.history position).rec
  pub replied : (entry_at v.setup v.seen.history position).replied ≤ row

-- a record was read under this generation, and then the clock at this row. Among the call's steps are the ten loads of one try: word 1, words
-- 2 to 9, which are this record's, and the same word 1 again, with an even generation other than 0; and just after them the load of word 23,
-- and after it these steps.
-- The first load showed a point whose number that is, no lower than any that was seen before the call, and the last one no lower than that.
-- With fewer publications between the two than the layout's period there was none, and the record is that of the history at the front
pub record HasRead (v : SeatView) (generation : ℕ) (rec : RecordFields) (row : ℕ) (later : List Touch) : Type 0 where
  pub front : List Step
  pub between : List Step
  pub back : List Step
  pub word : ℕ
  pub words : List ℕ
  pub first : ℕ
  pub last : ℕ
  pub steps : v.steps ≡ front ++ loaded 1 word first ∷ (between ++ loaded 1 word last ∷ loaded 23 row row ∷ back)
  pub loads : touches_of between ≡ loads_from 2 words
  pub later_is : touches_of back ≡ later
  pub eight : length words ≡ 8
  pub generation_is : generation ≡ generation_in word
  pub even : generation % 2 ≡ 0
  pub published : 0 < generation
  pub rec_is : rec ≡ record_in words
  pub stands : StandsPoint v.setup word first
  pub rises : (v.before.point ≤ first) × (first ≤ last) × (last ≤ v.seen.point)
  pub row_rises : (v.before.rows ≤ row) × (row ≤ v.seen.rows)
  pub whole : last / 2 < first / 2 + period_of v.setup.layout → (last ≡ first) × IsEntry v (first / 2) rec row

-- the page's marker and its sequence count, by the last of these loads; without a page there are none
abbrev pub IsPageRead : (tries : ℕ) (support : Bool) → List Touch → (marker : Option ℕ) → (sequence : ℕ) → Type 0
IsPageRead tries false later marker sequence = (later ≡ []) × (marker ≡ None) × (sequence ≡ 0)
IsPageRead tries true later marker sequence =
    (word : ℕ) × (words : List ℕ) × FindsWords page_lock tries later word words × (marker ≡ Some (slice_index words 0)) × (sequence ≡ count_in_word word)

-- an interval: by the record, the clock's row and the page's marker that were read
pub record IsTimed (clock : List ClockRow) (tries : ℕ) (v : SeatView) (timed : Timed) : Type 0 where
  pub rec : RecordFields
  pub later : List Touch
  pub read : HasRead v timed.generation rec timed.row later
  pub after : ReadsThenClock tries (touches_of v.steps) timed.generation rec timed.row later
  pub marker : Option ℕ
  pub page : IsPageRead tries (is_some v.setup.page) later marker timed.sequence
  pub interval : interval_of rec (row_at clock timed.row).mono (row_at clock timed.row).real marker ≡ Ok timed.interval
  pub status : IsStatusOf rec (row_at clock timed.row).mono marker timed.interval.status

-- the clock's row lies more than 1,000 ns before the record; the page was read too
pub record IsEarly (clock : List ClockRow) (tries : ℕ) (v : SeatView) (causality : Causality) : Type 0 where
  pub generation : ℕ
  pub rec : RecordFields
  pub row : ℕ
  pub later : List Touch
  pub read : HasRead v generation rec row later
  pub after : ReadsThenClock tries (touches_of v.steps) generation rec row later
  pub marker : Option ℕ
  pub sequence : ℕ
  pub page : IsPageRead tries (is_some v.setup.page) later marker sequence
  pub as_of : causality.as_of ≡ rec.as_of
  pub mono : causality.mono ≡ (row_at clock row).mono
  pub early : pos (causality.mono + 1000) <ℤ causality.as_of

-- every try of the page failed, after record and clock were read
pub record IsPageBusy (tries : ℕ) (v : SeatView) (first last : ℕ) : Type 0 where
  pub generation : ℕ
  pub rec : RecordFields
  pub row : ℕ
  pub later : List Touch
  pub read : HasRead v generation rec row later
  pub after : ReadsThenClock tries (touches_of v.steps) generation rec row later
  pub fails : FailsAlways page_lock tries later first last

-- each answer by its cause, whatever others did meanwhile
abbrev pub IsAnsweredBy : List ClockRow → (tries : ℕ) → SeatView → Answer → Type 0
IsAnsweredBy clock tries v (answers.Time timed) = IsTimed clock tries v timed
IsAnsweredBy clock tries v (answers.Busy so_many first last) = (so_many ≡ tries) × FailsAlways segment_lock tries (touches_of v.steps) first last
IsAnsweredBy clock tries v answers.NotInitialized = FindsNothing segment_lock tries (touches_of v.steps)
IsAnsweredBy clock tries v (answers.PageBusy first last) = IsPageBusy tries v first last
IsAnsweredBy clock tries v (answers.Causality causality) = IsEarly clock tries v causality

-- of every call that came to an answer
abbrev pub AnswersStand : Type 0
AnswersStand = (clock : List ClockRow) (tries : ℕ) (answer : Answer) (v : SeatView) → 0 < tries → Nows clock tries answer v → IsAnsweredBy clock tries v answer

-- a call that read a record, a clock row at most 1,000 ns before it and the page, where there is one, answers an interval
abbrev pub ReadsAnswerTime : Type 0
ReadsAnswerTime =
    (clock : List ClockRow) (tries : ℕ) (answer : Answer) (v : SeatView) → 0 < tries → Nows clock tries answer v → ReadsAll clock tries (is_some v.setup.page) (touches_of v.steps)
    → (timed : Timed) × (answer ≡ answers.Time timed)
