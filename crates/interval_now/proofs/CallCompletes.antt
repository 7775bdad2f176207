-- A call that reads a record, a clock row in time and the page answers a time.
use Rattle.std.proofs.Common.{◌≡◌, ◌<◌, ◌≤ℤ◌, ℕ, ◌+◌, ℤ, pos, ◌+ℤ◌, ◌-ℤ◌, Bool, true, false, List, Option, Some, None, Ok, refl, ap, sym, subst, arith, inl, inr}
use Rattle.std.specs.Prelude.{slice_index, int_lt}
use Rattle.std.proofs.lemmas.Int.{ints}
use Rattle.clock_gate.specs.declared.clock_row.ClockRow.{ClockRow}
use Rattle.clock_gate.specs.declared.clock_row.Reading.{Reading}
use Rattle.clock_gate.specs.Acts.{Touch}
use Rattle.clock_gate.specs.ClockRow.{reading_at}
use Rattle.seqlock.specs.Tries.{Found}
use Rattle.vmclock_page.specs.Words.{count_in_word}
use Rattle.segment_layout.specs.Record.{RecordFields}
use Rattle.interval_now.specs.declared.answers.Interval.{Interval}
use Rattle.interval_now.specs.declared.answers.Answer.TheVariants as answers
use Rattle.interval_now.specs.declared.answers.Timed.{Timed}
use Rattle.interval_now.specs.Interval.{interval_of, half_width_of, client_status}
use Rattle.interval_now.specs.Call.{timed, answer_of}
use Rattle.interval_now.specs.CallRun.{ReadsThenClock, PageIsRead, ReadsAll, AnswersTime}
use Rattle.interval_now.proofs.CallRun.{call_did_so}

not_below : (a b : ℤ) → b ≤ℤ a → int_lt a b ≡ false
not_below a b h = by (int_lt a b) refl
  where
    by : (test : Bool) → int_lt a b ≡ test → int_lt a b ≡ false
    by true is = absurd (omega (arith, ints))
    by false is = is

-- the interval at a reading in time
found : (rec : RecordFields) (mono real : ℕ) (marker : Option ℕ) → rec.as_of ≤ℤ pos (mono + 1000) → (interval : Interval) × (interval_of rec mono real marker ≡ Ok interval)
unfolding interval_of
found rec mono real marker in_time =
    let test : int_lt (pos (mono + 1000)) rec.as_of ≡ false = not_below (pos (mono + 1000)) rec.as_of in_time in
    (record { earliest = pos real -ℤ half_width_of rec mono; latest = pos real +ℤ half_width_of rec mono; status = client_status rec mono marker }, rw test refl)

-- the answer at such a reading
told : (generation : ℕ) (rec : RecordFields) (reading : Reading) (marker : Option ℕ) (sequence : ℕ) → rec.as_of ≤ℤ pos (reading.mono + 1000) → (t : Timed) × (answers.Time t ≡ answer_of generation rec reading marker sequence)
told generation rec reading marker sequence in_time =
    let at = found rec reading.mono reading.real marker in_time in
    (record { generation = generation; row = reading.row; sequence = sequence; interval = at.0 }, ap (timed generation reading.row sequence) (sym at.1))

completes_by : (clock : List ClockRow) (most : ℕ) (support with_page : Bool) (touches : List Touch) (all : ReadsAll clock most support touches) → support ≡ with_page → PageIsRead most with_page all.later → 0 < most → AnswersTime clock most support touches
completes_by clock most support true touches all is page some =
    let t = told all.generation all.rec (reading_at clock all.row) (Some (slice_index page.1 0)) (count_in_word page.0) all.in_time in
    (t.0, call_did_so clock most support touches (answers.Time t.0) some (inr (inr (record { has_page = is; generation = all.generation; rec = all.rec; row = all.row; later = all.later; read = all.read; outcome = Found page.0 page.1; did = page.2; is = t.1 }))))
completes_by clock most support false touches all is page some =
    let t = told all.generation all.rec (reading_at clock all.row) None 0 all.in_time in
    let read = subst (λ (later : List Touch). ReadsThenClock most touches all.generation all.rec all.row later) page all.read in
    (t.0, call_did_so clock most support touches (answers.Time t.0) some (inr (inl (record { no_page = is; generation = all.generation; rec = all.rec; row = all.row; read = read; is = t.1 }))))

pub completes : (clock : List ClockRow) (most : ℕ) (support : Bool) (touches : List Touch) → 0 < most → ReadsAll clock most support touches → AnswersTime clock most support touches
completes clock most support touches some all = completes_by clock most support support touches all refl all.page some
