-- A client's view beside what the daemon's lines came to: the entry at a point, and what a record that was read stands for.
use Rattle.std.proofs.Common.{◌≡◌, ℕ, ◌+◌, ◌-◌, ◌*◌, ◌/◌, ◌%◌, ◌<◌, ◌≤◌, Bool, true, false, List, length, get_or, map, sym, ap, ◌∙◌, subst, arith, Some, None, inl, inr}
use Rattle.std.specs.Prelude.{◌==◌, nat_lt, if◌then◌else◌, slice_get}
use Rattle.std.proofs.lemmas.Bool.Decides.{nat_tests}
use Rattle.std.proofs.lemmas.Bool.{cases_lt}
use Rattle.std.proofs.lemmas.Option.{get_or_from_slice_get, slice_get_past}
use Rattle.clock_gate.specs.declared.trace.Trace.{Trace}
use Rattle.clock_gate.specs.Acts.{Touch}
use Rattle.generation_word.specs.Layout.{period_of}
use Rattle.generation_word.specs.Header.{generation_in}
use Rattle.segment_layout.specs.declared.publication.Publication.{Publication}
use Rattle.segment_layout.specs.History.{History}
use Rattle.segment_layout.specs.Record.{RecordFields}
use Rattle.segment_run.specs.SegmentRun.{no_publication}
use Rattle.segment_views.specs.declared.setup.Setup.{Setup}
use Rattle.segment_views.specs.Views.{Begins, SeatView, HostPart, base_of, number_of_point}
use Rattle.segment_views.specs.Views as views
use Rattle.segment_views.proofs.Lists.{begins_at, begins_length}
use Rattle.segment_rule.specs.Answered.{HasRead, IsEntry}
use Rattle.lawful_report.specs.declared.entry.Entry.{Entry}
use Rattle.lawful_report.specs.declared.seen.Seen.{Seen}
use Rattle.lawful_report.specs.Pages.{last_page}
use Rattle.lawful_report.specs.Course.{Course, entry_at, course_start}
use Rattle.live_report.specs.LiveRun.{setup_of}
use Rattle.live_report.proofs.Started.{entry_told}
use Rattle.live_report.proofs.Lists.{get_map}
use Rattle.live_report.proofs.SegmentTries.{number_told, even_point}

-- what the daemon's lines came to, as a client needs it: the entries are those of a history, and no point of the run is a period away
-- from another
pub record CourseTold (trace : Trace) (history : History) (course : Course) : Type 0 where
  pub before : course.before ≡ base_of (setup_of trace)
  pub entries : course.entries ≡ map (entry_told trace) history
  pub near : course.point / 2 < (course_start trace).point / 2 + period_of trace.layout
  pub pages : (i : ℕ) (d : Entry) → i < length course.entries → (get_or course.entries i d).page ≤ last_page trace

-- what a client has seen lies within what host and daemon have done
pub record ClientWithin (trace : Trace) (host : HostPart) (history : History) (course : Course) (v : SeatView) : Type 0 where
  pub setup : v.setup ≡ setup_of trace
  pub history_is : Begins v.seen.history history
  pub point : v.seen.point ≤ course.point
  pub start : (course_start trace).point ≤ v.seen.point
  pub rows : v.seen.rows ≤ length trace.clock
  pub page_point : v.seen.page_point ≤ 2 * last_page trace
  pub pages : Begins v.seen.pages host.pages

-- what a client has seen, as a report counts it
abbrev pub shown_of : SeatView → Seen
shown_of v = record { point = v.seen.point; row = v.seen.rows; page = v.seen.page_point / 2 }

-- the entry at a position that a client knows
pub entry_stands : (trace : Trace) (history seen : History) (course : Course) (position : ℕ) → CourseTold trace history course → Begins seen history → base_of (setup_of trace) < position → position ≤ base_of (setup_of trace) + length seen
    → entry_at course position ≡ Some (entry_told trace (views.entry_at (setup_of trace) seen position))
entry_stands trace history seen course position told begins above known =
    let base : ℕ = base_of (setup_of trace) in
    let more = begins_length seen history begins in
    let test : nat_lt base position ≡ true = grind (arith, nat_tests, above) in
    let place : position - base - 1 < length seen = omega (arith, above, known) in
    (λ j. if nat_lt (told.before j) position then slice_get (told.entries j) (position - told.before j - 1) else None)
    ∙ (ap (λ (b : Bool). if b then slice_get (map (entry_told trace) history) (position - base - 1) else None) test
    ∙ (get_map (entry_told trace) history (position - base - 1) no_publication (omega (arith, place, more))
    ∙ ap (λ (e : Publication). Some (entry_told trace e)) (begins_at seen history (position - base - 1) no_publication begins place)))

-- an entry that stands is of a page of the trace
pub entry_page : (trace : Trace) (history : History) (course : Course) (position : ℕ) (entry : Entry) → CourseTold trace history course → entry_at course position ≡ Some entry → entry.page ≤ last_page trace
entry_page trace history course position entry told is = by (nat_lt course.before position) is
  where
    within : (xs : List Entry) (n : ℕ) → slice_get xs n ≡ Some entry → n < length xs
    within xs n at = elim (cases_lt n (length xs)) [
      | inl below ↦ below
      | inr past ↦ let late = past in absurd (cc (at, slice_get_past xs n (omega (arith, late))))
    ]

    by : (b : Bool) → (if b then slice_get course.entries (position - course.before - 1) else None) ≡ Some entry → entry.page ≤ last_page trace
    by true at =
        subst (λ (e : Entry). e.page ≤ last_page trace) (get_or_from_slice_get course.entries (position - course.before - 1) entry entry at)
        (told.pages (position - course.before - 1) entry (within course.entries (position - course.before - 1) at))
    by false at = absurd (cc at)

-- ---- a record that was read

-- the record is that of an entry, at an even point that was shown after what was seen before
pub record ReadAt (trace : Trace) (course : Course) (w : SeatView) (generation : ℕ) (rec : RecordFields) (row point : ℕ) : Type 0 where
  pub even : point % 2 ≡ 0
  pub number : number_of_point trace.layout point ≡ generation
  pub low : w.before.point ≤ point
  pub high : point ≤ w.seen.point
  pub above : base_of (setup_of trace) < point / 2
  pub known : point / 2 ≤ base_of (setup_of trace) + length w.seen.history
  pub stands : entry_at course (point / 2) ≡ Some (entry_told trace (views.entry_at (setup_of trace) w.seen.history (point / 2)))
  pub rec_is : rec ≡ (views.entry_at (setup_of trace) w.seen.history (point / 2)).rec
  pub replied : (views.entry_at (setup_of trace) w.seen.history (point / 2)).replied ≤ row

pub read_at : (trace : Trace) (host : HostPart) (history : History) (course : Course) (w : SeatView) (generation : ℕ) (rec : RecordFields) (row : ℕ) (later : List Touch) → CourseTold trace history course → ClientWithin trace host history course w
    → (course_start trace).point ≤ w.before.point → (r : HasRead w generation rec row later) → (r.last ≡ r.first) × ReadAt trace course w generation rec row r.first
read_at trace host history course w generation rec row later told within start r =
    let first = r.rises.0 in
    let order = r.rises.1 in
    let last = r.rises.2 in
    let near = told.near in
    let point = within.point in
    let period : period_of w.setup.layout ≡ period_of trace.layout = ap (λ (c : Setup). period_of c.layout) within.setup in
    let whole = r.whole (omega (arith, first, order, last, near, point, start, period)) in
    let entry = subst (λ (c : Setup). IsEntry (record w { setup = c }) (r.first / 2) rec row) within.setup whole.1 in
    let some_word : (generation_in r.word == 0) ≡ false = (let some = r.published in let is = r.generation_is in grind (arith, nat_tests, some, is)) in
    let number : number_of_point trace.layout r.first ≡ generation =
    sym (r.generation_is ∙ (number_told w.setup r.word r.first r.stands some_word ∙ ap (λ (c : Setup). number_of_point c.layout r.first) within.setup)) in
    let even = even_point (setup_of trace) r.first generation number r.even r.published in (
      whole.0,
      record {
        even = even.0;
        number = number;
        low = first;
        high = (let same = whole.0 in omega (arith, order, last));
        above = entry.after;
        known = entry.known;
        stands = entry_stands trace history w.seen.history course (r.first / 2) told within.history_is entry.after entry.known;
        rec_is = entry.same;
        replied = entry.replied;
      },
    )
