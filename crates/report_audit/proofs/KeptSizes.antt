-- What lines that follow one another keep: the records within their bounds, and the numbers within their sizes. `n` counts the lines.
use Rattle.std.proofs.Common.{◌≡◌, ℕ, pos, Bool, true, false, ◌+◌, ◌*◌, ◌/◌, ◌^◌, ◌<◌, ◌≤◌, List, [], ◌∷◌, ◌++◌, length, Option, Some, None, refl, arith}
use Rattle.std.specs.Prelude.{◌==◌, ◌&&◌, not, nat_lt, if◌then◌else◌, is_some, All, IfSome, ◌+ℤ◌}
use Rattle.std.proofs.lemmas.Bool.{and_parts}
use Rattle.std.proofs.lemmas.Bool.Decides.{nat_tests}
use Rattle.std.proofs.lemmas.Int.{ints}
use Rattle.std.proofs.lemmas.List.Elements.{All-append, All-cons, All-nil}
use Rattle.clock_gate.specs.declared.clock_status.ClockStatus.{ClockStatus}
use Rattle.clock_gate.specs.declared.clock_status.ClockStatus.TheVariants.{Unknown, Synchronized, FreeRunning, Disrupted}
use Rattle.clock_gate.specs.declared.limits.TheConstants.{LAST_MOMENT}
use Rattle.clock_gate.specs.declared.trace.Trace.{Trace}
use Rattle.segment_layout.specs.Record.{RecordFields, KeepsBounds}
use Rattle.segment_layout.specs.declared.start.Start.TheVariants.{Fresh, Kept as Found, Torn}
use Rattle.status_machine.specs.declared.base.Base.{Base}
use Rattle.status_machine.specs.declared.poll.Poll.{Poll}
use Rattle.status_machine.specs.Incarnation.{Incarnation, base_at, as_of_by, bound_by, is_disrupted}
use Rattle.status_machine.specs.Poll.{BaseFits, is_good, base_of_poll}
use Rattle.status_machine.proofs.Fits.{StartFits, base_of_poll-fits}
use Rattle.interval_now.specs.declared.answers.Answer.{Answer}
use Rattle.interval_now.specs.declared.answers.Answer.TheVariants as answer
use Rattle.lawful_report.specs.declared.counts.Counts.{Counts}
use Rattle.lawful_report.specs.declared.entry.Entry.{Entry}
use Rattle.lawful_report.specs.declared.seen.Seen.{Seen}
use Rattle.lawful_report.specs.Calls.{seen_first, calls_of}
use Rattle.lawful_report.specs.Course.{Course, Life, entry_at, entry_or_none, last_entry, is_move, course_start}
use Rattle.lawful_report.specs.Lawful.{Due, Heading, Opening, Moving, Polling, Stopping, Answering, Finished, Standing, standing_start, one_time, one_answer, one_publication, going_on, opening_or_poll}
use Rattle.lawful_report.specs.Pages.{last_page}
use Rattle.report_audit.specs.Auditor.{EntryFits}
use Rattle.report_audit.proofs.EntryPoints.{all_entries}

-- ---- what is kept

pub record LifeFits (trace : Trace) (life : Life) : Type 0 where
  pub base : IfSome (base_at life.from life.past) BaseFits
  pub drift : life.from.drift ≤ 1000000000
  pub support : life.from.support ≡ is_some trace.page

abbrev pub KeptLife : Trace → Option Life → Type 0
KeptLife trace None = Unit {0}
KeptLife trace (Some life) = LifeFits trace life

pub record KeptCourse (trace : Trace) (course : Course) : Type 0 where
  pub entries : All EntryFits course.entries
  pub life : KeptLife trace course.life
  pub before_small : course.before < 2 ^ 32
  pub row_some : 1 ≤ course.row
  pub page_most : course.page ≤ last_page trace

pub record KeptCounts (polled : ℕ) (counts : Counts) : Type 0 where
  pub publications_few : counts.publications ≤ polled
  pub times_few : counts.times ≤ counts.answers
  pub unknown_few : counts.unknown ≤ counts.answers
  pub synchronized_few : counts.synchronized ≤ counts.answers
  pub free_running_few : counts.free_running ≤ counts.answers
  pub disrupted_few : counts.disrupted ≤ counts.answers

pub record KeptSeen (trace : Trace) (seen : Seen) : Type 0 where
  pub point_small : seen.point < 2 ^ 34
  pub row_some : 1 ≤ seen.row
  pub page_most : seen.page ≤ last_page trace

-- the sizes among the daemon's lines: so many lines and four for each poll; a move raises the point by two
pub record DaemonSizes (trace : Trace) (n lines polled point : ℕ) (counts : Counts) : Type 0 where
  pub few : n ≤ lines + 4 * polled
  pub polled_most : polled ≤ length trace.polls
  pub point_most : point ≤ 2 ^ 32 + 2 + 2 * polled
  pub none : counts.answers ≡ 0

-- and among the clients'
pub record ClientSizes (trace : Trace) (n : ℕ) (seen : Seen) (left polled point : ℕ) (counts : Counts) : Type 0 where
  pub kept_seen : KeptSeen trace seen
  pub few : n + left ≤ 1 + 4 * length trace.polls + length (calls_of trace)
  pub polled_most : polled ≤ length trace.polls
  pub point_most : point ≤ 2 ^ 32 + 2 + 2 * polled
  pub answers_few : counts.answers + left ≤ length (calls_of trace)

-- and after the last line
pub record FinishedSizes (trace : Trace) (n polled point : ℕ) (counts : Counts) : Type 0 where
  pub few : n ≤ 2 + 4 * length trace.polls + length (calls_of trace)
  pub polled_most : polled ≤ length trace.polls
  pub point_most : point ≤ 2 ^ 32 + 2 + 2 * polled
  pub answers_few : counts.answers ≤ length (calls_of trace)

abbrev pub KeptDue : Trace → (n : ℕ) → Due → (polled point : ℕ) → Counts → Type 0
KeptDue trace n Heading polled point counts = DaemonSizes trace n 0 polled point counts × ((polled ≡ 0) × (point ≤ 2 ^ 32))
KeptDue trace n Opening polled point counts = DaemonSizes trace n 1 polled point counts × ((polled < length trace.polls) × (polled ≡ 0 → point ≤ 2 ^ 32))
KeptDue trace n Moving polled point counts = DaemonSizes trace n 2 polled point counts × ((polled < length trace.polls) × ((polled ≡ 0) × (point ≤ 2 ^ 32)))
KeptDue trace n Polling polled point counts = DaemonSizes trace n 3 polled point counts × (polled < length trace.polls)
KeptDue trace n Stopping polled point counts = DaemonSizes trace n 0 polled point counts × (0 < polled)
KeptDue trace n (Answering seen calls) polled point counts = ClientSizes trace n seen (length calls) polled point counts
KeptDue trace n Finished polled point counts = FinishedSizes trace n polled point counts

pub record Kept (trace : Trace) (n : ℕ) (s : Standing) : Type 0 where
  pub course : KeptCourse trace s.course
  pub counts : KeptCounts s.course.polled s.counts
  pub due : KeptDue trace n s.due s.course.polled s.course.point s.counts

-- what the image gives keeps them
pub record KeptStart (trace : Trace) : Type 0 where
  pub course : KeptCourse trace (course_start trace)
  pub point : (course_start trace).point ≤ 2 ^ 32
  pub polled : (course_start trace).polled ≡ 0

-- ---- the start

pub kept_start : (trace : Trace) → KeptStart trace → Kept trace 0 (standing_start trace)
kept_start trace start = record {
  course = start.course;
  counts = record { publications_few = omega arith; times_few = omega arith; unknown_few = omega arith; synchronized_few = omega arith; free_running_few = omega arith; disrupted_few = omega arith };
  due = (record { few = omega arith; polled_most = omega (arith, start.polled); point_most = omega (arith, start.point); none = refl }, (start.polled, start.point));
}

-- ---- records

base_one : (takes : Bool) (base good : Option Base) → IfSome base BaseFits → IfSome good BaseFits → IfSome (if takes then good else base) BaseFits
base_one true base good old new = new
base_one false base good old new = old

-- a poll leaves a base within the bounds
pub base_kept : (from : Incarnation) (poll : Poll) (past : List Poll) → IfSome (base_at from past) BaseFits → poll.reading.mono ≤ LAST_MOMENT → IfSome (base_at from (poll ∷ past)) BaseFits
base_kept from poll past fits most = base_one (not (is_disrupted from.start (poll ∷ past)) && is_good poll) (base_at from past) (base_of_poll poll) fits (base_of_poll-fits poll most)

pub bounds_by : (base : Option Base) (mono drift : ℕ) → IfSome base BaseFits → mono ≤ LAST_MOMENT → drift ≤ 1000000000
    → KeepsBounds (as_of_by base mono) (as_of_by base mono +ℤ pos 1000000000000) (bound_by base) drift
bounds_by None mono drift fits most slow =
    record { as_of_low = omega (arith, ints); as_of_high = omega (arith, ints); void_after_low = omega (arith, ints); void_after_high = omega (arith, ints); bound_low = omega (arith, ints); bound_high = omega (arith, ints); drift_high = slow }
bounds_by (Some base) mono drift fits most slow =
    let low = fits.as_of_low in
    let high = fits.as_of_high in
    record {
      as_of_low = low;
      as_of_high = high;
      void_after_low = omega (arith, ints, low, high);
      void_after_high = omega (arith, ints, low, high);
      bound_low = fits.bound_low;
      bound_high = fits.bound_high;
      drift_high = slow;
    }

-- a record that stood before is within its bounds, and so is one that says nothing
found_fits : (found : Option Entry) → ((entry : Entry) → found ≡ Some entry → EntryFits entry) → EntryFits (entry_or_none found)
found_fits (Some entry) fits = fits entry refl
found_fits None fits = record { as_of_low = omega (arith, ints); as_of_high = omega (arith, ints); void_after_low = omega (arith, ints); void_after_high = omega (arith, ints); bound_low = omega (arith, ints); bound_high = omega (arith, ints); drift_high = omega arith }

pub last_fits : (course : Course) → All EntryFits course.entries → EntryFits (last_entry course)
last_fits course all = found_fits (entry_at course (course.point / 2)) (λ entry is. all_entries EntryFits course (course.point / 2) entry all is)

pub seen_fits : (writing none : Bool) (generation : ℕ) (rec : RecordFields) → KeepsBounds rec.as_of rec.void_after rec.bound rec.drift → StartFits (if writing then Torn generation else if none then Fresh else Found generation rec)
seen_fits true none generation rec fits = tt
seen_fits false true generation rec fits = tt
seen_fits false false generation rec fits = fits

pub push_entry : (entries : List Entry) (entry : Entry) → All EntryFits entries → EntryFits entry → All EntryFits (entries ++ entry ∷ [])
push_entry entries entry all fits = All-append EntryFits entries (entry ∷ []) all (All-cons EntryFits entry [] fits (All-nil EntryFits))

-- ---- what follows

due_going : (trace : Trace) (n : ℕ) (more : Bool) (life : Option Life) (polled point : ℕ) (counts : Counts) → nat_lt polled (length trace.polls) ≡ more → KeptSeen trace (seen_first trace) → DaemonSizes trace n 1 polled point counts → (polled ≡ 0 → point ≤ 2 ^ 32)
    → KeptDue trace n (if more then opening_or_poll life else Answering (seen_first trace) (calls_of trace)) polled point counts
due_going trace n true None polled point counts test first sizes start = (sizes, (grind (arith, nat_tests), start))
due_going trace n true (Some life) polled point counts test first sizes start = (record { few = omega (arith, sizes.few); polled_most = sizes.polled_most; point_most = sizes.point_most; none = sizes.none }, grind (arith, nat_tests))
due_going trace n false life polled point counts test first sizes start =
    record { kept_seen = first; few = omega (arith, sizes.few, sizes.polled_most); polled_most = sizes.polled_most; point_most = sizes.point_most; answers_few = omega (arith, sizes.none) }

pub goes_on : (trace : Trace) (n : ℕ) (counts : Counts) (course : Course) → KeptSeen trace (seen_first trace) → KeptCourse trace course → KeptCounts course.polled counts → DaemonSizes trace n 1 course.polled course.point counts → (course.polled ≡ 0 → course.point ≤ 2 ^ 32) → Kept trace n (going_on trace counts course)
goes_on trace n counts course first kept counted sizes start =
    record { course = kept; counts = counted; due = due_going trace n (nat_lt course.polled (length trace.polls)) course.life course.polled course.point counts refl first sizes start }

pub due_opened : (trace : Trace) (n : ℕ) (course : Course) (moves : Bool) (counts : Counts) → is_move trace course ≡ moves → DaemonSizes trace n 2 course.polled course.point counts → course.polled < length trace.polls → (course.polled ≡ 0 → course.point ≤ 2 ^ 32)
    → KeptDue trace n (if moves then Moving else Polling) course.polled course.point counts
due_opened trace n course true counts is sizes less first =
    let zero_polled : (course.polled == 0) ≡ true = (and_parts _ _ is).0 in
    let none : course.polled ≡ 0 = grind (arith, nat_tests) in
    (sizes, (less, (none, first none)))
due_opened trace n course false counts is sizes less first = (record { few = omega (arith, sizes.few); polled_most = sizes.polled_most; point_most = sizes.point_most; none = sizes.none }, less)

pub counts_more : (polled : ℕ) (counts : Counts) → KeptCounts polled counts → KeptCounts (polled + 1) counts
counts_more polled counts k = record { publications_few = omega (arith, k.publications_few); times_few = k.times_few; unknown_few = k.unknown_few; synchronized_few = k.synchronized_few; free_running_few = k.free_running_few; disrupted_few = k.disrupted_few }

pub counts_published : (polled : ℕ) (counts : Counts) → KeptCounts polled counts → KeptCounts (polled + 1) (one_publication counts)
counts_published polled counts k = record { publications_few = omega (arith, k.publications_few); times_few = k.times_few; unknown_few = k.unknown_few; synchronized_few = k.synchronized_few; free_running_few = k.free_running_few; disrupted_few = k.disrupted_few }

counts_timed : (polled : ℕ) (status : ClockStatus) (counts : Counts) → KeptCounts polled counts → KeptCounts polled (one_time status counts) × ((one_time status counts).answers ≡ counts.answers + 1)
counts_timed polled Unknown c k = (record { publications_few = k.publications_few; times_few = omega (arith, k.times_few); unknown_few = omega (arith, k.unknown_few); synchronized_few = omega (arith, k.synchronized_few); free_running_few = omega (arith, k.free_running_few); disrupted_few = omega (arith, k.disrupted_few) }, refl)
counts_timed polled Synchronized c k = (record { publications_few = k.publications_few; times_few = omega (arith, k.times_few); unknown_few = omega (arith, k.unknown_few); synchronized_few = omega (arith, k.synchronized_few); free_running_few = omega (arith, k.free_running_few); disrupted_few = omega (arith, k.disrupted_few) }, refl)
counts_timed polled FreeRunning c k = (record { publications_few = k.publications_few; times_few = omega (arith, k.times_few); unknown_few = omega (arith, k.unknown_few); synchronized_few = omega (arith, k.synchronized_few); free_running_few = omega (arith, k.free_running_few); disrupted_few = omega (arith, k.disrupted_few) }, refl)
counts_timed polled Disrupted c k = (record { publications_few = k.publications_few; times_few = omega (arith, k.times_few); unknown_few = omega (arith, k.unknown_few); synchronized_few = omega (arith, k.synchronized_few); free_running_few = omega (arith, k.free_running_few); disrupted_few = omega (arith, k.disrupted_few) }, refl)

counts_failed : (polled : ℕ) (c : Counts) → KeptCounts polled c → KeptCounts polled (record c { answers = c.answers + 1 })
counts_failed polled c k = record { publications_few = k.publications_few; times_few = omega (arith, k.times_few); unknown_few = omega (arith, k.unknown_few); synchronized_few = omega (arith, k.synchronized_few); free_running_few = omega (arith, k.free_running_few); disrupted_few = omega (arith, k.disrupted_few) }

pub counts_answered : (polled : ℕ) (a : Answer) (counts : Counts) → KeptCounts polled counts → KeptCounts polled (one_answer a counts) × ((one_answer a counts).answers ≡ counts.answers + 1)
counts_answered polled (answer.Time timed) c k = counts_timed polled timed.interval.status c k
counts_answered polled (answer.Busy tries first last) c k = (counts_failed polled c k, refl)
counts_answered polled answer.NotInitialized c k = (counts_failed polled c k, refl)
counts_answered polled (answer.PageBusy first last) c k = (counts_failed polled c k, refl)
counts_answered polled (answer.Causality causality) c k = (counts_failed polled c k, refl)
