-- Each line that may stand keeps the sizes.
use Rattle.std.proofs.Common.{◌≡◌, inl, inr, ℕ, suc, Bool, true, false, ◌+◌, ◌*◌, ◌/◌, ◌%◌, ◌^◌, ◌<◌, ◌≤◌, List, [], ◌∷◌, length, refl, sym, subst, arith}
use Rattle.std.specs.Prelude.{◌==◌, if◌then◌else◌, IfSome}
use Rattle.clock_gate.specs.ClockRow.{IsClock}
use Rattle.clock_gate.specs.declared.trace.Trace.{Trace}
use Rattle.segment_layout.specs.declared.publication.Publication.{Publication}
use Rattle.segment_layout.specs.declared.start.Start.{Start}
use Rattle.status_machine.specs.declared.poll.Poll.{Poll}
use Rattle.status_machine.specs.Incarnation.{base_at}
use Rattle.status_machine.specs.Poll.{BaseFits}
use Rattle.status_machine.proofs.Fits.{begun-fits}
use Rattle.interval_now.specs.declared.answers.Answer.{Answer}
use Rattle.interval_now.specs.declared.answers.Answer.TheVariants.{Time, Busy, NotInitialized, PageBusy, Causality as Early}
use Rattle.generation_word.specs.Layout.{period_of}
use Rattle.generation_word.specs.Numbering.{generation_at}
use Rattle.segment_layout.specs.Words.{flag_of}
use Rattle.lawful_report.specs.declared.call.Call.{Call}
use Rattle.lawful_report.specs.declared.counts.Counts.{Counts}
use Rattle.lawful_report.specs.declared.printed.Printed.{Printed}
use Rattle.lawful_report.specs.declared.printed.Printed.TheVariants.{Header, Opened, Published, Skipped, Stopped, Moved, Answered, Total}
use Rattle.lawful_report.specs.declared.seen.Seen.{Seen}
use Rattle.lawful_report.specs.Calls.{seen_first, MayAnswer, FailsAt}
use Rattle.lawful_report.specs.Course.{Course, last_entry, first_entry, start_found, is_move, life_from, poll_at, entry_of, skipped, stopped, published, ended}
use Rattle.lawful_report.specs.Lawful.{Due, Heading, Opening, Moving, Polling, Stopping, Answering, Finished, Standing, one_publication, going_on, has_stop, seen_before, OpensHere, MovesHere, SkipsHere, StopsHere, PublishesHere, StopsAfter, AnswersHere, FollowsAt, Follow}
use Rattle.lawful_report.specs.Pages.{last_page, page_seen}
use Rattle.report_audit.proofs.EarlyReads.{row_moments}
use Rattle.report_audit.proofs.KeptSizes.{LifeFits, KeptLife, KeptCourse, KeptCounts, KeptSeen, DaemonSizes, ClientSizes, KeptDue, Kept, base_kept, bounds_by, last_fits, seen_fits, push_entry, goes_on, due_opened, counts_more, counts_published, counts_answered}

-- the limits of the trace that the sizes rest on
pub record Limits (trace : Trace) : Type 0 where
  pub clock : IsClock trace.clock
  pub rows_few : length trace.clock ≤ 300000
  pub polls_few : length trace.polls ≤ 100000
  pub drift_most : trace.drift ≤ 1000000000
  pub pages_few : last_page trace < 2 ^ 31
  pub first : KeptSeen trace (seen_first trace)

-- ---- the daemon's lines

heads : (trace : Trace) (n : ℕ) (s after : Standing) → Limits trace → KeptCourse trace s.course → KeptCounts s.course.polled s.counts → KeptDue trace n Heading s.course.polled s.course.point s.counts → after ≡ going_on trace s.counts s.course → Kept trace (suc n) after
heads trace n s after limits kept counted due is =
    subst (Kept trace (suc n)) (sym is) (goes_on trace (suc n) s.counts s.course limits.first kept counted
    (record { few = omega (arith, due.0.few, due.1.0); polled_most = due.0.polled_most; point_most = due.0.point_most; none = due.0.none }) (λ none. due.1.1))

opens : (trace : Trace) (n : ℕ) (s : Standing) (poll : ℕ) (start : Start) (after : Standing) → Limits trace → KeptCourse trace s.course → KeptCounts s.course.polled s.counts → KeptDue trace n Opening s.course.polled s.course.point s.counts → OpensHere trace s poll start after → Kept trace (suc n) after
opens trace n s poll start after limits kept counted due here =
    subst (Kept trace (suc n)) (sym here.after_is) (record {
      course = record {
        entries = kept.entries;
        life = record {
          base = begun-fits (life_from trace (start_found trace s.course) (last_entry s.course).base).from
              (seen_fits (s.course.point % 2 == 1) (s.course.point / 2 == 0) (generation_at (period_of trace.layout) (s.course.point / 2) + flag_of (s.course.point % 2 == 1)) (last_entry s.course).rec (last_fits s.course kept.entries));
          drift = limits.drift_most;
          support = refl;
        };
        before_small = kept.before_small;
        row_some = kept.row_some;
        page_most = kept.page_most;
      };
      counts = counted;
      due = due_opened trace (suc n) s.course (is_move trace s.course) s.counts refl (record { few = omega (arith, due.0.few); polled_most = due.0.polled_most; point_most = due.0.point_most; none = due.0.none }) due.1.0 due.1.1;
    })

moves : (trace : Trace) (n : ℕ) (s : Standing) (poll position generation : ℕ) (after : Standing) → Limits trace → KeptCourse trace s.course → KeptCounts s.course.polled s.counts → KeptDue trace n Moving s.course.polled s.course.point s.counts → MovesHere trace s poll position generation after → Kept trace (suc n) after
moves trace n s poll position generation after limits kept counted due here =
    subst (Kept trace (suc n)) (sym here.after_is) (record {
      course = record {
        entries = push_entry s.course.entries (first_entry (last_entry s.course).rec) kept.entries (last_fits s.course kept.entries);
        life = kept.life;
        before_small = kept.before_small;
        row_some = kept.row_some;
        page_most = kept.page_most;
      };
      counts = counted;
      due = (record { few = omega (arith, due.0.few); polled_most = due.0.polled_most; point_most = omega (arith, due.1.1.1); none = due.0.none }, due.1.0);
    })

skips : (trace : Trace) (n : ℕ) (s : Standing) (poll first last : ℕ) (after : Standing) → Limits trace → KeptCourse trace s.course → KeptCounts s.course.polled s.counts → KeptDue trace n Polling s.course.polled s.course.point s.counts → SkipsHere trace s poll first last after → Kept trace (suc n) after
skips trace n s poll first last after limits kept counted due here =
    subst (Kept trace (suc n)) (sym here.after_is) (goes_on trace (suc n) s.counts (skipped s.course (page_seen trace last)) limits.first
    (record { entries = kept.entries; life = kept.life; before_small = kept.before_small; row_some = kept.row_some; page_most = omega (arith, here.fails.last_done) })
    (counts_more s.course.polled s.counts counted)
    (record { few = omega (arith, due.0.few); polled_most = omega (arith, due.1); point_most = omega (arith, due.0.point_most); none = due.0.none })
    (λ none. absurd (omega (arith, none))))

stopped_point : (point stores : ℕ) (whole : Bool) → (if whole then point else 2 * (point / 2) + 1) ≤ point + 1
stopped_point point stores true = omega arith
stopped_point point stores false = omega arith

stops : (trace : Trace) (n : ℕ) (s : Standing) (poll stores : ℕ) (after : Standing) → Limits trace → KeptCourse trace s.course → KeptCounts s.course.polled s.counts → KeptDue trace n Polling s.course.polled s.course.point s.counts → StopsHere trace s poll stores after → Kept trace (suc n) after
stops trace n s poll stores after limits kept counted due here =
    subst (Kept trace (suc n)) (sym here.after_is) (goes_on trace (suc n) s.counts (stopped s.course stores) limits.first
    (record { entries = kept.entries; life = tt; before_small = kept.before_small; row_some = kept.row_some; page_most = kept.page_most })
    (counts_more s.course.polled s.counts counted)
    (record { few = omega (arith, due.0.few); polled_most = omega (arith, due.1); point_most = omega (arith, due.0.point_most, stopped_point s.course.point stores (stores == 0)); none = due.0.none })
    (λ none. absurd (omega (arith, none))))

goes_after : (trace : Trace) (n : ℕ) (counts : Counts) (course : Course) (stops_too : Bool) → Limits trace → KeptCourse trace course → KeptCounts course.polled counts → DaemonSizes trace n 0 course.polled course.point counts → 0 < course.polled
    → Kept trace n (if stops_too then record { course = ended course; counts = counts; due = Stopping } else going_on trace counts course)
goes_after trace n counts course true limits kept counted sizes some =
    record { course = record { entries = kept.entries; life = tt; before_small = kept.before_small; row_some = kept.row_some; page_most = kept.page_most }; counts = counted; due = (sizes, some) }
goes_after trace n counts course false limits kept counted sizes some =
    goes_on trace n counts course limits.first kept counted (record { few = omega (arith, sizes.few); polled_most = sizes.polled_most; point_most = sizes.point_most; none = sizes.none }) (λ none. absurd (omega (arith, none, some)))

publishes : (trace : Trace) (n : ℕ) (s : Standing) (position page : ℕ) (p : Publication) (after : Standing) → Limits trace → KeptCourse trace s.course → KeptCounts s.course.polled s.counts → KeptDue trace n Polling s.course.polled s.course.point s.counts → PublishesHere trace s position page p after → Kept trace (suc n) after
publishes trace n s position page p after limits kept counted due here =
    let poll : Poll = poll_at trace s.course p.asked page here.row in
    let life : LifeFits trace here.life = subst (KeptLife trace) here.here.life_is kept.life in
    let moments = row_moments trace.clock p.asked limits.clock (omega (arith, kept.row_some, here.is.asked)) (omega (arith, here.is.replied, here.is.done)) in
    let base : IfSome (base_at here.life.from (poll ∷ here.life.past)) BaseFits = base_kept here.life.from poll here.life.past life.base moments.0 in
    subst (Kept trace (suc n)) (sym here.after_is) (goes_after trace (suc n) (one_publication s.counts) (published s.course here.life poll p.replied page) (has_stop here.row.stop 10) limits
    (record {
      entries = push_entry s.course.entries (entry_of here.life poll p.replied page) kept.entries (bounds_by (base_at here.life.from (poll ∷ here.life.past)) poll.reading.mono here.life.from.drift base moments.0 life.drift);
      life = record { base = base; drift = life.drift; support = life.support };
      before_small = kept.before_small;
      row_some = omega (arith, kept.row_some, here.is.asked, here.is.replied);
      page_most = here.is.page_done;
    })
    (counts_published s.course.polled s.counts counted)
    (record { few = omega (arith, due.0.few); polled_most = omega (arith, due.1); point_most = omega (arith, due.0.point_most); none = due.0.none })
    (omega arith))

stops_after : (trace : Trace) (n : ℕ) (s : Standing) (poll stores : ℕ) (after : Standing) → Limits trace → KeptCourse trace s.course → KeptCounts s.course.polled s.counts → KeptDue trace n Stopping s.course.polled s.course.point s.counts → StopsAfter trace s poll stores after → Kept trace (suc n) after
stops_after trace n s poll stores after limits kept counted due here =
    subst (Kept trace (suc n)) (sym here.after_is) (goes_on trace (suc n) s.counts s.course limits.first kept counted
    (record { few = omega (arith, due.0.few); polled_most = due.0.polled_most; point_most = due.0.point_most; none = due.0.none }) (λ none. absurd (omega (arith, none, due.1))))

-- ---- the clients' lines

failing_point : (period from until first last point : ℕ) → FailsAt period from until first last point → point ≤ until
failing_point period from until first last point (inl odd) = odd.least.not_past
failing_point period from until first last point (inr change) = change.least_last.not_past

may_keep : (trace : Trace) (course : Course) (tries : ℕ) (seen : Seen) (page : ℕ) (answer : Answer) (after : Seen) → course.point < 2 ^ 34 → KeptSeen trace seen → MayAnswer trace course tries seen page answer after → KeptSeen trace after
may_keep trace course tries seen page (Time t) after small kept may =
    record { point_small = omega (arith, small, may.least.not_past); row_some = omega (arith, may.row_after, may.row_kept, kept.row_some); page_most = omega (arith, may.page_after, may.page_done) }
may_keep trace course tries seen page (Busy said first last) after small kept may =
    record { point_small = omega (arith, small, failing_point (period_of trace.layout) seen.point course.point first last after.point may.1.found); row_some = omega (arith, may.1.row_after, kept.row_some); page_most = omega (arith, may.1.page_after, kept.page_most) }
may_keep trace course tries seen page NotInitialized after small kept may = subst (KeptSeen trace) (sym may.1) kept
may_keep trace course tries seen page (PageBusy first last) after small kept may =
    subst (KeptSeen trace) (sym may.after_is) (record { point_small = kept.point_small; row_some = kept.row_some; page_most = omega (arith, may.fails.last_done) })
may_keep trace course tries seen page (Early causality) after small kept may =
    record { point_small = omega (arith, small, may.least.not_past); row_some = omega (arith, may.row.not_before, kept.row_some); page_most = omega (arith, may.page_after, kept.page_most) }

pub first_or : (trace : Trace) (seen : Seen) (is_first : Bool) → Limits trace → KeptSeen trace seen → KeptSeen trace (if is_first then seen_first trace else seen)
first_or trace seen true limits kept = limits.first
first_or trace seen false limits kept = kept

answers : (trace : Trace) (n : ℕ) (s : Standing) (seen : Seen) (due : Call) (left : List Call) (client call page : ℕ) (answer : Answer) (after : Standing) → Limits trace → KeptCourse trace s.course → KeptCounts s.course.polled s.counts
    → ClientSizes trace n seen (suc (length left)) s.course.polled s.course.point s.counts → AnswersHere trace s seen due left client call page answer after → Kept trace (suc n) after
answers trace n s seen due left client call page answer after limits kept counted sizes here =
    let before : KeptSeen trace (seen_before trace seen due) = first_or trace seen (due.number == 1) limits sizes.kept_seen in
    let counts = counts_answered s.course.polled answer s.counts counted in
    subst (Kept trace (suc n)) (sym here.after_is) (record {
      course = kept;
      counts = counts.0;
      due = record {
        kept_seen = may_keep trace s.course due.tries (seen_before trace seen due) page answer here.seen (omega (arith, sizes.point_most, sizes.polled_most, limits.polls_few)) before here.may;
        few = omega (arith, sizes.few);
        polled_most = sizes.polled_most;
        point_most = sizes.point_most;
        answers_few = omega (arith, sizes.answers_few, counts.1);
      };
    })

totals : (trace : Trace) (n : ℕ) (s : Standing) (after : Standing) (seen : Seen) → KeptCourse trace s.course → KeptCounts s.course.polled s.counts → ClientSizes trace n seen 0 s.course.polled s.course.point s.counts → after ≡ record s { due = Finished } → Kept trace (suc n) after
totals trace n s after seen kept counted sizes is = subst (Kept trace (suc n)) (sym is) (record { course = kept; counts = counted; due = record { few = omega (arith, sizes.few); polled_most = sizes.polled_most; point_most = sizes.point_most; answers_few = omega (arith, sizes.answers_few) } })

-- ---- any line

pub kept_at : (trace : Trace) (n : ℕ) (s : Standing) (due : Due) (line : Printed) (after : Standing) → Limits trace → KeptCourse trace s.course → KeptCounts s.course.polled s.counts → KeptDue trace n due s.course.polled s.course.point s.counts → FollowsAt trace s due line after → Kept trace (suc n) after
kept_at trace n s Heading Header after limits kept counted sizes is = heads trace n s after limits kept counted sizes is
kept_at trace n s Opening (Opened poll start) after limits kept counted sizes is = opens trace n s poll start after limits kept counted sizes is
kept_at trace n s Moving (Moved poll position generation) after limits kept counted sizes is = moves trace n s poll position generation after limits kept counted sizes is
kept_at trace n s Polling (Skipped poll a b) after limits kept counted sizes is = skips trace n s poll a b after limits kept counted sizes is
kept_at trace n s Polling (Stopped poll stores) after limits kept counted sizes is = stops trace n s poll stores after limits kept counted sizes is
kept_at trace n s Polling (Published position page p) after limits kept counted sizes is = publishes trace n s position page p after limits kept counted sizes is
kept_at trace n s Stopping (Stopped poll stores) after limits kept counted sizes is = stops_after trace n s poll stores after limits kept counted sizes is
kept_at trace n s (Answering seen (due ∷ left)) (Answered client call page answer) after limits kept counted sizes is = answers trace n s seen due left client call page answer after limits kept counted sizes is
kept_at trace n s (Answering seen []) (Total counts) after limits kept counted sizes is = totals trace n s after seen kept counted sizes is.1
kept_at trace n s due line after limits kept counted sizes is = absurd is

pub kept_follow : (trace : Trace) (n : ℕ) (lines : List Printed) (s after : Standing) → Limits trace → Kept trace n s → Follow trace s lines after → Kept trace (n + length lines) after
kept_follow trace n [] s after limits kept is = subst (λ (t : Standing). Kept trace (n + 0) t) is (let same : n ≡ n + 0 = omega arith in subst (λ (k : ℕ). Kept trace k s) same kept)
kept_follow trace n (line ∷ lines) s after limits kept is =
    let next : Kept trace (suc n) is.0 = kept_at trace n s s.due line is.0 limits kept.course kept.counts kept.due is.1 in
    let same : suc n + length lines ≡ n + suc (length lines) = omega arith in
    subst (λ (k : ℕ). Kept trace k after) same (kept_follow trace (suc n) lines is.0 after limits next is.2)
