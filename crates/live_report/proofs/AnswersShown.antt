-- What the loads of a client's call show of its answer.
use Rattle.std.proofs.Common.{◌≡◌, ℕ, ◌+◌, ◌/◌, ◌<◌, ◌≤◌, Bool, true, false, List, [], ◌∷◌, ◌++◌, refl, sym, ap, ◌∙◌, subst, arith, append_assoc, append-nil, inl, inr, Option, Some, None, Result, Ok, Err}
use Rattle.std.specs.Prelude.{◌⊎◌, is_some}
use Rattle.clock_gate.specs.declared.trace.Trace.{Trace}
use Rattle.clock_gate.specs.ClockRow.{row_at}
use Rattle.clock_gate.specs.Acts.{Touch}
use Rattle.generation_word.specs.Layout.{period_of}
use Rattle.seqlock.specs.TriedRun.{load, FindsNothing, FailsAlways}
use Rattle.vmclock_page.specs.Host.{count_of}
use Rattle.vmclock_page.specs.Counting.{page_number_of}
use Rattle.segment_layout.specs.declared.publication.Publication.{Publication}
use Rattle.segment_layout.specs.History.{History}
use Rattle.segment_layout.specs.Record.{RecordFields}
use Rattle.shm_reader.specs.SegmentTries.{segment_lock}
use Rattle.shm_reader.specs.declared.seen.Seen.{Seen as SegmentSeen}
use Rattle.shm_reader.specs.declared.seen.Seen.TheVariants as reads
use Rattle.interval_now.specs.declared.answers.Answer.{Answer}
use Rattle.interval_now.specs.declared.answers.Answer.TheVariants as answers
use Rattle.interval_now.specs.declared.answers.Causality.{Causality}
use Rattle.interval_now.specs.declared.answers.Interval.{Interval}
use Rattle.interval_now.specs.declared.answers.Timed.{Timed}
use Rattle.interval_now.specs.Call.{timed}
use Rattle.interval_now.specs.CallRun.{answer_without_record, CallDid}
use Rattle.interval_now.specs.Interval.{interval_of}
use Rattle.interval_now.proofs.CallRun.{call_did}
use Rattle.segment_views.specs.declared.setup.Setup.{Setup}
use Rattle.segment_views.specs.Views.{SeatView, HostPart, base_of, number_of_point}
use Rattle.segment_views.specs.Views as views
use Rattle.segment_views.specs.Steps.{ShowsPoint}
use Rattle.segment_views.specs.Shown.{touches_of, Climbs, StandsPage, StandsRow, IsSoundCall}
use Rattle.segment_rule.specs.Calls.{Nows}
use Rattle.segment_rule.specs.Answered.{HasRead, IsPageRead, IsTimed, IsEarly, IsPageBusy, IsAnsweredBy}
use Rattle.segment_rule.proofs.ReadRecord.{to_last}
use Rattle.lawful_report.specs.declared.seen.Seen.{Seen}
use Rattle.lawful_report.specs.Pages.{marker_from}
use Rattle.lawful_report.specs.Course.{Course, course_start}
use Rattle.lawful_report.specs.Showed.{ShowsOdd, ShowsChange, IsNotPast, Shows}
use Rattle.live_report.specs.LiveRun.{setup_of}
use Rattle.live_report.specs.LiveReport.{page_told}
use Rattle.live_report.proofs.Started.{FewPages, entry_told}
use Rattle.live_report.proofs.HostDone.{HostDone}
use Rattle.live_report.proofs.PageTries.{page_fails}
use Rattle.live_report.proofs.PageNumbers.{busy_told}
use Rattle.live_report.proofs.SegmentTries.{FailsOdd, FailsChanged, segment_fails, finds_nothing}
use Rattle.live_report.proofs.PollLines.{no_page}
use Rattle.live_report.proofs.ClientFits.{CourseTold, ClientWithin, shown_of, entry_page, ReadAt, read_at}
use Rattle.live_report.proofs.PageAfter.{PageShown, page_shown}

module _ (trace : Trace) (few : FewPages trace) (host : HostPart) (done : HostDone trace host) (history : History) (course : Course) (told : CourseTold trace history course) (w : SeatView) (within : ClientWithin trace host history course w)
    (sound : IsSoundCall w) (start : (course_start trace).point ≤ w.before.point) (seen : Seen) (point_low : seen.point ≤ w.before.point) (row_low : seen.row ≤ w.before.rows) (page_low : seen.page ≤ w.before.page_point / 2) (tries : ℕ) (some_tries : 0 < tries) where
  -- the answer is shown, and leads to no more than what was seen
  abbrev pub IsShown : Answer → Type 0
  IsShown answer = (after : Seen) × Shows trace course tries seen (page_told trace answer) answer after × IsNotPast after (shown_of w)

  support_is : is_some w.setup.page ≡ is_some trace.page
  support_is = ap (λ (c : Setup). is_some c.page) within.setup

  page_climbs : Climbs 11 (StandsPage (setup_of trace)) w.before.page_point w.steps w.seen.page_point
  page_climbs = subst (λ (c : Setup). Climbs 11 (StandsPage c) w.before.page_point w.steps w.seen.page_point) within.setup sound.page_points

  point_climbs : Climbs 1 (ShowsPoint (setup_of trace)) w.before.point w.steps w.seen.point
  point_climbs = subst (λ (c : Setup). Climbs 1 (ShowsPoint c) w.before.point w.steps w.seen.point) within.setup sound.points

  rises : (w.before.point ≤ w.seen.point) × (w.before.rows ≤ w.seen.rows) × (w.before.page_point ≤ w.seen.page_point)
  rises =
      let points = sound.points in
      let rows = sound.rows in
      let pages = sound.page_points in
      let a = to_last 1 (ShowsPoint w.setup) w.before.point w.steps points.rises in
      let b = to_last 23 StandsRow w.before.rows w.steps rows.rises in
      let c = to_last 11 (StandsPage w.setup) w.before.page_point w.steps pages.rises in
      let at_a = points.last in
      let at_b = rows.last in
      let at_c = pages.last in
      (omega (arith, a, at_a), omega (arith, b, at_b), omega (arith, c, at_c))

  near : w.seen.point / 2 < w.before.point / 2 + period_of (setup_of trace).layout
  near = let far = told.near in let point = within.point in omega (arith, far, point, start)

  -- ---- no record was read

  shown_nothing : FindsNothing segment_lock tries (touches_of w.steps) → IsShown answers.NotInitialized
  shown_nothing finds =
      let none = finds_nothing (setup_of trace) w.before.point w.seen.point w.steps point_climbs sound.steady near tries finds in
      let r = rises in
      let rows = r.1 in
      let pages = r.2 in (
        shown_of w,
        record { at_first = omega (arith, none, point_low); later = record { point_order = (let points = r.0 in omega (arith, points, point_low)); row_order = omega (arith, row_low, rows); page_order = omega (arith, page_low, pages) } },
        record { point_order = omega arith; row_order = omega arith; page_order = omega arith },
      )

  shown_busy : (first last : ℕ) → FailsAlways segment_lock tries (touches_of w.steps) first last → IsShown (answers.Busy tries first last)
  shown_busy first last fails = by (segment_fails (setup_of trace) w.before.point w.seen.point w.steps point_climbs sound.steady near tries first last some_tries fails)
    where
      rows : w.before.rows ≤ w.seen.rows
      rows = rises.1

      pages : w.before.page_point ≤ w.seen.page_point
      pages = rises.2

      shown_by : (point : ℕ) → point ≤ w.seen.point → ShowsOdd (period_of trace.layout) seen.point course.point first last point ⊎ ShowsChange (period_of trace.layout) seen.point course.point first last point → IsShown (answers.Busy tries first last)
      shown_by point high shows = (
        record { point = point; row = w.seen.rows; page = w.seen.page_point / 2 },
        (refl, record { shows = shows; row_after = omega (arith, row_low, rows); page_after = omega (arith, page_low, pages) }),
        record { point_order = high; row_order = omega arith; page_order = omega arith },
      )

      by : FailsOdd (setup_of trace) w.before.point w.seen.point first last ⊎ FailsChanged (setup_of trace) w.before.point w.seen.point first last → IsShown (answers.Busy tries first last)
      by (inl f) =
          let low = f.low in
          let high = f.high in
          let most = within.point in
          shown_by f.point high (inl (record { odd = f.odd; same = f.same; shown = record { not_before = omega (arith, point_low, low); not_past = omega (arith, high, most); has = f.number } }))
      by (inr f) =
          let low = f.low in
          let order = f.order in
          let high = f.high in
          let most = within.point in
          shown_by f.two high (inr (record {
            even = f.even;
            published = f.published;
            other = f.other;
            at = f.one;
            first_shown = record { not_before = omega (arith, point_low, low); not_past = omega (arith, order, high, most); has = f.number_one };
            last_shown = record { not_before = order; not_past = omega (arith, high, most); has = f.number_two };
          }))

  -- ---- a record was read

  -- the page of a timed answer
  page_by : (generation : ℕ) (rec : RecordFields) (row : ℕ) (later : List Touch) (r : HasRead w generation rec row later) → r.last ≡ r.first → ReadAt trace course w generation rec row r.first
      → (support : Bool) (marker : Option ℕ) (sequence : ℕ) → is_some trace.page ≡ support → IsPageRead tries support later marker sequence
      → PageShown trace w marker (page_number_of (count_of trace.page) sequence) (page_number_of (count_of trace.page) (views.entry_at (setup_of trace) w.seen.history (r.first / 2)).sequence)
  page_by generation rec row later r same at false marker sequence support read =
      let missing : trace.page ≡ None = no_page trace.page support in
      let last = done.none missing in
      let none : sequence ≡ 0 = read.2 in
      let number : page_number_of (count_of trace.page) sequence ≡ 0 = (λ j. page_number_of (count_of (missing j)) (none j)) in
      let most = within.page_point in
      let rise = rises in
      let pages = rise.2 in
      let own = entry_page trace history course (r.first / 2) (entry_told trace (views.entry_at (setup_of trace) w.seen.history (r.first / 2))) told at.stands in
      record {
        low = omega (arith, number, pages, most, last);
        high = omega (arith, number);
        not_before = omega (arith, own, last);
        is = (λ j. marker_from (missing j) trace.host (number j)) ∙ sym read.1;
      }
  page_by generation rec row later r same at true marker sequence support read =
      subst (λ (m : Option ℕ × ℕ). PageShown trace w m.0 (page_number_of (count_of trace.page) m.1) (page_number_of (count_of trace.page) (views.entry_at (setup_of trace) w.seen.history (r.first / 2)).sequence)) (λ j. (sym read.3 j, sym read.4 j))
      (page_shown trace few host done history course w within sound generation rec row later r tries read.0 read.1 (views.entry_at (setup_of trace) w.seen.history (r.first / 2)) read.2 same at.above refl)

  shown_time : (t : Timed) → IsTimed trace.clock tries w t → IsShown (answers.Time t)
  shown_time t is =
      let r = is.read in
      let at = read_at trace host history course w t.generation is.rec t.row is.later told within start r in
      let page = page_by t.generation is.rec t.row is.later r at.0 at.1 (is_some w.setup.page) is.marker t.sequence (sym support_is) is.page in
      let number : ℕ = page_number_of (count_of trace.page) t.sequence in
      let own : Publication = views.entry_at (setup_of trace) w.seen.history (r.first / 2) in
      let row_first = r.row_rises.0 in
      let row_last = r.row_rises.1 in
      let rows = within.rows in
      let low = at.1.low in
      let high = at.1.high in
      let most = within.point in
      let page_low_is = page.low in
      let page_high = page.high in
      let page_most = within.page_point in (
        record { point = r.first; row = t.row; page = number },
        record {
          published = r.published;
          row_kept = omega (arith, row_low, row_first);
          row_done = omega (arith, row_last, rows);
          page_kept = omega (arith, page_low, page_low_is);
          page_done = omega (arith, page_high, page_most);
          point = record {
            not_before = omega (arith, point_low, low);
            not_past = omega (arith, high, most);
            has = record {
              even = at.1.even;
              number = at.1.number;
              entry = entry_told trace own;
              stands = at.1.stands;
              replied = at.1.replied;
              page_of = page.not_before;
              is = (λ j. interval_of (sym at.1.rec_is j) (row_at trace.clock t.row).mono (row_at trace.clock t.row).real (page.is j)) ∙ is.interval;
            };
          };
          row_after = omega arith;
          page_after = omega arith;
        },
        record { point_order = high; row_order = row_last; page_order = omega (arith, page_high) },
      )

  shown_early : (e : Causality) → IsEarly trace.clock tries w e → IsShown (answers.Causality e)
  shown_early e is =
      let r = is.read in
      let at = read_at trace host history course w is.generation is.rec is.row is.later told within start r in
      let own : Publication = views.entry_at (setup_of trace) w.seen.history (r.first / 2) in
      let row_first = r.row_rises.0 in
      let row_last = r.row_rises.1 in
      let rows = within.rows in
      let low = at.1.low in
      let high = at.1.high in
      let most = within.point in
      let s = rises in
      let pages = s.2 in (
        record { point = r.first; row = is.row; page = seen.page },
        record {
          early = is.early;
          point = record {
            not_before = omega (arith, point_low, low);
            not_past = omega (arith, high, most);
            has = record { even = at.1.even; entry = entry_told trace own; stands = at.1.stands; as_of_is = sym (is.as_of ∙ ap (λ (x : RecordFields). x.as_of) at.1.rec_is) };
          };
          row = record { not_before = omega (arith, row_low, row_first); not_past = omega (arith, row_last, rows); has = record { not_before = at.1.replied; mono_is = sym is.mono } };
          page_after = omega arith;
        },
        record { point_order = high; row_order = row_last; page_order = omega (arith, page_low, pages) },
      )

  -- ---- the page was busy

  has_page : (first last : ℕ) → CallDid trace.clock tries (is_some w.setup.page) (touches_of w.steps) (answers.PageBusy first last) → is_some w.setup.page ≡ true
  has_page first last (inl ends) = absurd (by ends.seen ends.is)
    where
      by : (s : SegmentSeen) → answer_without_record s ≡ Some (answers.PageBusy first last) → ⊥
      by (reads.Whole generation rec) is = cc is
      by (reads.Busy so_many a b) is = cc is
      by reads.NotInitialized is = cc is
  has_page first last (inr (inl ends)) = absurd (by (interval_of ends.rec (row_at trace.clock ends.row).mono (row_at trace.clock ends.row).real None) ends.is)
    where
      by : (found : Result Interval Causality) → answers.PageBusy first last ≡ timed ends.generation ends.row 0 found → ⊥
      by (Ok interval) is = cc is
      by (Err causality) is = cc is
  has_page first last (inr (inr ends)) = ends.has_page

  shown_page_busy : (first last : ℕ) → is_some w.setup.page ≡ true → IsPageBusy tries w first last → IsShown (answers.PageBusy first last)
  shown_page_busy first last support is =
      let a = is.after in
      let made : touches_of w.steps ≡ (a.steps ++ load 23 is.row ∷ []) ++ (is.later ++ []) =
      a.made ∙ (ap (λ (l : List Touch). a.steps ++ load 23 is.row ∷ l) (sym (append-nil is.later)) ∙ sym (append_assoc a.steps (load 23 is.row ∷ []) (is.later ++ []))) in
      let failed = page_fails (setup_of trace) w.before.page_point w.seen.page_point w.steps page_climbs tries (a.steps ++ load 23 is.row ∷ []) is.later [] first last some_tries made is.fails in
      let tells = busy_told trace few w.before.page_point w.seen.page_point first last seen.page (sym support_is ∙ support) failed (omega (arith, page_low)) within.page_point in
      let most = tells.1 in
      let r = rises in
      let points = r.0 in
      let rows = r.1 in (
        shown_of w,
        record { fails = tells.0; point_after = omega (arith, point_low, points); row_after = omega (arith, row_low, rows); page_after = omega (arith, most) },
        record { point_order = omega arith; row_order = omega arith; page_order = omega arith },
      )

  -- each answer, by its cause
  pub is_shown : (answer : Answer) → Nows trace.clock tries answer w → IsAnsweredBy trace.clock tries w answer → IsShown answer
  is_shown (answers.Time t) nows is = shown_time t is
  is_shown (answers.Busy so_many first last) nows is = subst (λ (n : ℕ). IsShown (answers.Busy n first last)) (sym is.0) (shown_busy first last is.1)
  is_shown answers.NotInitialized nows is = shown_nothing is
  is_shown (answers.PageBusy first last) nows is = shown_page_busy first last (has_page first last (call_did trace.clock tries (is_some w.setup.page) (touches_of w.steps) (answers.PageBusy first last) nows.came)) is
  is_shown (answers.Causality e) nows is = shown_early e is
