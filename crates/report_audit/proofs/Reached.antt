-- Where an audit has come, and what it may count on there.
use Rattle.std.proofs.Common.{◌≡◌, ℕ, ◌+◌, ◌*◌, ◌^◌, ◌<◌, ◌≤◌, List, [], ◌∷◌, ◌++◌, length, length-append, append_assoc, append-nil, Option, Some, None, Result, Ok, Err, refl, sym, ap, subst, ◌∙◌, arith}
use Rattle.std.specs.Prelude.{All, IfSome}
use Rattle.std.specs.List.{flat_map}
use Rattle.clock_gate.specs.Trace.{IsLawfulTrace}
use Rattle.clock_gate.specs.declared.trace.Trace.{Trace}
use Rattle.segment_layout.specs.declared.image_fault.ImageFault.{ImageFault}
use Rattle.segment_layout.specs.declared.start.Start.{Start}
use Rattle.segment_layout.specs.declared.start.Start.TheVariants.{Fresh, Kept as Found, Torn}
use Rattle.segment_layout.specs.Image.{image_of}
use Rattle.status_machine.specs.declared.base.Base.{Base}
use Rattle.status_machine.specs.declared.daemon.Daemon.{Daemon}
use Rattle.status_machine.specs.Poll.{BaseFits}
use Rattle.status_machine.specs.Step.{ShowsPast}
use Rattle.lawful_report.specs.declared.counts.Counts.{Counts}
use Rattle.lawful_report.specs.declared.entry.Entry.{Entry}
use Rattle.lawful_report.specs.declared.printed.Printed.{Printed}
use Rattle.lawful_report.specs.declared.seen.Seen.{Seen}
use Rattle.lawful_report.specs.Calls.{calls_of}
use Rattle.lawful_report.specs.Course.{Life, course_by}
use Rattle.lawful_report.specs.Lawful.{Due, Heading, Opening, Moving, Polling, Stopping, Answering, Finished, Standing, standing_start, Follow, Follows, text_of_lines, IsLawfulReport, IsFirstUnlawful}
use Rattle.lawful_report.specs.Lines.{line_text}
use Rattle.lawful_report.specs.Pages.{last_page}
use Rattle.report_audit.specs.Auditor.{ShowsLife, EntryFits, KeepsSizes, CountsFit, SeenFits, DueFits, CanStep, StartIsSmall}
use Rattle.report_audit.specs.NextLine.{ShowsDue, ShowsStanding, NoLine, Taken}
use Rattle.report_audit.specs.declared.auditor.Auditor.{Auditor}
use Rattle.report_audit.specs.declared.due.Due.{Due as Kind}
use Rattle.report_audit.specs.declared.due.Due.TheVariants as dues
use Rattle.report_audit.specs.declared.known.Known.{Known}
use Rattle.report_audit.proofs.KeptSizes.{KeptCourse, KeptSeen, KeptLife, KeptDue, Kept, KeptStart, kept_start}
use Rattle.report_audit.proofs.KeptLines.{Limits, kept_follow}
use Rattle.report_audit.proofs.TraceLimits.{clock_of_trace, rows_few, pages_few, calls_few}

-- ---- the start

course_kept : (trace : Trace) (found : Result Start ImageFault) → All EntryFits (course_by found).entries → (course_by found).before < 2 ^ 32 → KeptCourse trace (course_by found)
course_kept trace (Ok Fresh) entries before = record { entries = entries; life = tt; before_small = before; row_some = omega arith; page_most = omega arith }
course_kept trace (Ok (Torn generation)) entries before = record { entries = entries; life = tt; before_small = before; row_some = omega arith; page_most = omega arith }
course_kept trace (Ok (Found generation rec)) entries before = record { entries = entries; life = tt; before_small = before; row_some = omega arith; page_most = omega arith }
course_kept trace (Err fault) entries before = record { entries = entries; life = tt; before_small = before; row_some = omega arith; page_most = omega arith }

none_polled : (found : Result Start ImageFault) → (course_by found).polled ≡ 0
none_polled (Ok Fresh) = refl
none_polled (Ok (Torn generation)) = refl
none_polled (Ok (Found generation rec)) = refl
none_polled (Err fault) = refl

pub start_kept : (trace : Trace) → StartIsSmall trace → KeptStart trace
start_kept trace small = record {
  course = course_kept trace (image_of trace.layout trace.image) small.entries small.before_small;
  point = small.point_small;
  polled = none_polled (image_of trace.layout trace.image);
}

pub limits_of : (trace : Trace) → IsLawfulTrace trace → StartIsSmall trace → Limits trace
limits_of trace lawful small = record {
  clock = clock_of_trace trace lawful;
  rows_few = rows_few trace lawful;
  polls_few = lawful.polls_few;
  drift_most = lawful.drift;
  pages_few = omega (arith, pages_few trace lawful);
  first = record { point_small = omega (arith, small.point_small); row_some = omega arith; page_most = omega arith };
}

-- ---- where it has come

pub record Reached (trace : Trace) (known : Known) (report : List ℕ) (auditor : Auditor) (rest : List ℕ) (number : ℕ) : Type 0 where
  pub lines : List Printed
  pub standing : Standing
  pub text : report ≡ text_of_lines lines ++ rest
  pub follow : Follow trace (standing_start trace) lines standing
  pub number_is : number ≡ length lines + 1
  pub shows : ShowsStanding known standing auditor

pub kept_there : (trace : Trace) (known : Known) (report : List ℕ) (auditor : Auditor) (rest : List ℕ) (number : ℕ) → IsLawfulTrace trace → StartIsSmall trace → (at : Reached trace known report auditor rest number) → Kept trace (length at.lines) at.standing
kept_there trace known report auditor rest number lawful small at =
    let count : 0 + length at.lines ≡ length at.lines = omega arith in
    subst (λ (n : ℕ). Kept trace n at.standing) count (kept_follow trace 0 at.lines (standing_start trace) at.standing (limits_of trace lawful small) (kept_start trace (start_kept trace small)) at.follow)

pub record DueSizes (trace : Trace) (n polled point : ℕ) (counts : Counts) : Type 0 where
  pub few : n ≤ 3 + 4 * length trace.polls + length (calls_of trace)
  pub polled_most : polled ≤ length trace.polls
  pub point_most : point ≤ 2 ^ 32 + 2 + 2 * polled
  pub answers_few : counts.answers ≤ length (calls_of trace)

due_sizes : (trace : Trace) (n : ℕ) (due : Due) (polled point : ℕ) (counts : Counts) → KeptDue trace n due polled point counts → DueSizes trace n polled point counts
due_sizes trace n Heading polled point counts kept = record { few = omega (arith, kept.0.few, kept.0.polled_most); polled_most = kept.0.polled_most; point_most = kept.0.point_most; answers_few = omega (arith, kept.0.none) }
due_sizes trace n Opening polled point counts kept = record { few = omega (arith, kept.0.few, kept.0.polled_most); polled_most = kept.0.polled_most; point_most = kept.0.point_most; answers_few = omega (arith, kept.0.none) }
due_sizes trace n Moving polled point counts kept = record { few = omega (arith, kept.0.few, kept.0.polled_most); polled_most = kept.0.polled_most; point_most = kept.0.point_most; answers_few = omega (arith, kept.0.none) }
due_sizes trace n Polling polled point counts kept = record { few = omega (arith, kept.0.few, kept.0.polled_most); polled_most = kept.0.polled_most; point_most = kept.0.point_most; answers_few = omega (arith, kept.0.none) }
due_sizes trace n Stopping polled point counts kept = record { few = omega (arith, kept.0.few, kept.0.polled_most); polled_most = kept.0.polled_most; point_most = kept.0.point_most; answers_few = omega (arith, kept.0.none) }
due_sizes trace n (Answering seen calls) polled point counts kept = record { few = omega (arith, kept.few); polled_most = kept.polled_most; point_most = kept.point_most; answers_few = omega (arith, kept.answers_few) }
due_sizes trace n Finished polled point counts kept = record { few = omega (arith, kept.few); polled_most = kept.polled_most; point_most = kept.point_most; answers_few = kept.answers_few }

can_step : (trace : Trace) (life : Life) (daemon : Daemon) → ShowsPast life.from life.past daemon → KeptLife trace (Some life) → CanStep trace daemon
can_step trace life daemon shows kept = record {
  base = subst (λ (b : Option Base). IfSome b BaseFits) (sym shows.base) kept.base;
  drift = omega (arith, shows.same_drift, kept.drift);
  support = shows.same_support ∙ kept.support;
}

life_fits : (trace : Trace) (life : Option Life) (daemon : Option Daemon) → ShowsLife life daemon → KeptLife trace life → IfSome daemon (CanStep trace)
life_fits trace None None shows kept = tt
life_fits trace None (Some daemon) shows kept = absurd shows
life_fits trace (Some life) None shows kept = tt
life_fits trace (Some life) (Some daemon) shows kept = can_step trace life daemon shows kept

seen_fits : (trace : Trace) (seen view : Seen) → last_page trace < 2 ^ 31 → seen ≡ view → KeptSeen trace seen → SeenFits view
seen_fits trace seen view few same kept = subst SeenFits same (record { row_some = kept.row_some; page_small = omega (arith, kept.page_most, few); point_small = omega (arith, kept.point_small) })

due_fits : (trace : Trace) (known : Known) (n : ℕ) (due : Due) (kind : Kind) (polled point : ℕ) (counts : Counts) → last_page trace < 2 ^ 31 → ShowsDue known due kind → KeptDue trace n due polled point counts → DueFits kind
due_fits trace known n due dues.Heading polled point counts few shows kept = tt
due_fits trace known n due dues.Opening polled point counts few shows kept = tt
due_fits trace known n due dues.Moving polled point counts few shows kept = tt
due_fits trace known n due dues.Polling polled point counts few shows kept = tt
due_fits trace known n due dues.Stopping polled point counts few shows kept = tt
due_fits trace known n due dues.Finished polled point counts few shows kept = tt
due_fits trace known n (Answering seen calls) (dues.Answering view place) polled point counts few shows kept = seen_fits trace seen view few shows.0 kept.kept_seen
due_fits trace known n Heading (dues.Answering view place) polled point counts few shows kept = absurd shows
due_fits trace known n Opening (dues.Answering view place) polled point counts few shows kept = absurd shows
due_fits trace known n Moving (dues.Answering view place) polled point counts few shows kept = absurd shows
due_fits trace known n Polling (dues.Answering view place) polled point counts few shows kept = absurd shows
due_fits trace known n Stopping (dues.Answering view place) polled point counts few shows kept = absurd shows
due_fits trace known n Finished (dues.Answering view place) polled point counts few shows kept = absurd shows

-- what the auditor may count on
pub record Sizes (trace : Trace) (auditor : Auditor) (number : ℕ) : Type 0 where
  pub progress : KeepsSizes trace auditor.progress
  pub counts : CountsFit auditor.counts
  pub due : DueFits auditor.due
  pub number_small : number < 2 ^ 31

pub sizes_there : (trace : Trace) (known : Known) (report : List ℕ) (auditor : Auditor) (rest : List ℕ) (number : ℕ) → IsLawfulTrace trace → StartIsSmall trace → Reached trace known report auditor rest number → Sizes trace auditor number
sizes_there trace known report auditor rest number lawful small at =
    let kept = kept_there trace known report auditor rest number lawful small at in
    let limits = limits_of trace lawful small in
    let course = at.shows.holds.course_is in
    let sizes = due_sizes trace (length at.lines) at.standing.due at.standing.course.polled at.standing.course.point at.standing.counts kept.due in
    let counts : CountsFit at.standing.counts = record {
      publications_few = omega (arith, kept.counts.publications_few, sizes.polled_most, limits.polls_few);
      answers_few = omega (arith, sizes.answers_few, calls_few trace lawful);
      times_few = omega (arith, kept.counts.times_few, sizes.answers_few, calls_few trace lawful);
      unknown_few = omega (arith, kept.counts.unknown_few, sizes.answers_few, calls_few trace lawful);
      synchronized_few = omega (arith, kept.counts.synchronized_few, sizes.answers_few, calls_few trace lawful);
      free_running_few = omega (arith, kept.counts.free_running_few, sizes.answers_few, calls_few trace lawful);
      disrupted_few = omega (arith, kept.counts.disrupted_few, sizes.answers_few, calls_few trace lawful);
    } in
    record {
      progress = record {
        polled_few = omega (arith, course.polled, sizes.polled_most, limits.polls_few);
        before_small = omega (arith, course.before_is, kept.course.before_small);
        point_small = omega (arith, course.point_is, sizes.point_most, sizes.polled_most, limits.polls_few);
        row_some = omega (arith, course.row_is, kept.course.row_some);
        page_small = omega (arith, course.page_is, kept.course.page_most, limits.pages_few);
        entries = subst (λ (es : List Entry). All EntryFits es) course.entries_are kept.course.entries;
        life = life_fits trace at.standing.course.life auditor.progress.life course.life_is kept.course.life;
      };
      counts = subst CountsFit at.shows.holds.counts_are counts;
      due = due_fits trace known (length at.lines) at.standing.due auditor.due at.standing.course.polled at.standing.course.point at.standing.counts limits.pages_few at.shows.due_is kept.due;
      number_small = omega (arith, at.number_is, sizes.few, limits.polls_few, calls_few trace lawful);
    }

-- ---- a line more

text_last : (lines : List Printed) (line : Printed) (rest : List ℕ) → text_of_lines lines ++ (line_text line ++ rest) ≡ text_of_lines (lines ++ line ∷ []) ++ rest
unfolding text_of_lines
text_last [] line rest = sym (append_assoc (line_text line) [] rest)
text_last (head ∷ lines) line rest =
    append_assoc (line_text head) (flat_map line_text lines) (line_text line ++ rest)
    ∙ (ap (λ (t : List ℕ). line_text head ++ t) (text_last lines line rest)
    ∙ sym (append_assoc (line_text head) (flat_map line_text (lines ++ line ∷ [])) rest))

follow_last : (trace : Trace) (s : Standing) (lines : List Printed) (line : Printed) (middle after : Standing) → Follow trace s lines middle → Follows trace middle line after → Follow trace s (lines ++ line ∷ []) after
follow_last trace s [] line middle after follow follows = (after, subst (λ (t : Standing). Follows trace t line after) (sym follow) follows, refl)
follow_last trace s (head ∷ lines) line middle after follow follows = (follow.0, follow.1, follow_last trace follow.0 lines line middle after follow.2 follows)

pub reached_next : (trace : Trace) (known : Known) (report : List ℕ) (auditor later_auditor : Auditor) (rest later : List ℕ) (number : ℕ) → (at : Reached trace known report auditor rest number) → Taken trace known at.standing rest later_auditor later → Reached trace known report later_auditor later (number + 1)
reached_next trace known report auditor later_auditor rest later number at taken = record {
  lines = at.lines ++ taken.line ∷ [];
  standing = taken.after;
  text = at.text ∙ (ap (λ (t : List ℕ). text_of_lines at.lines ++ t) taken.begins ∙ text_last at.lines taken.line later);
  follow = follow_last trace (standing_start trace) at.lines taken.line at.standing taken.after at.follow taken.follows;
  number_is = omega (arith, at.number_is, length-append at.lines (taken.line ∷ []));
  shows = taken.shows;
}

-- ---- a verdict

pub unlawful_there : (trace : Trace) (known : Known) (report : List ℕ) (auditor : Auditor) (rest : List ℕ) (number : ℕ) → (at : Reached trace known report auditor rest number) → NoLine trace at.standing rest → (at.standing.due ≡ Finished → rest ≡ [] → ⊥) → IsFirstUnlawful trace report number
unlawful_there trace known report auditor rest number at none more = record {
  lines = at.lines;
  standing = at.standing;
  rest = rest;
  text = at.text;
  follow = at.follow;
  stuck = record { no_line = λ line after later follows is. none line after later follows is; no_end = λ finished empty. more finished empty };
  number_is = at.number_is;
}

pub lawful_there : (trace : Trace) (known : Known) (report : List ℕ) (auditor : Auditor) (rest : List ℕ) (number : ℕ) → (at : Reached trace known report auditor rest number) → at.standing.due ≡ Finished → rest ≡ [] → IsLawfulReport trace report
lawful_there trace known report auditor rest number at finished empty = record {
  lines = at.lines;
  after = at.standing;
  text = at.text ∙ (ap (λ (t : List ℕ). text_of_lines at.lines ++ t) empty ∙ append-nil (text_of_lines at.lines));
  follow = at.follow;
  finished = finished;
}

pub reached_first : (trace : Trace) (known : Known) (report : List ℕ) (auditor : Auditor) → ShowsStanding known (standing_start trace) auditor → Reached trace known report auditor report 1
unfolding text_of_lines
reached_first trace known report auditor shows = record { lines = []; standing = standing_start trace; text = refl; follow = refl; number_is = refl; shows = shows }
