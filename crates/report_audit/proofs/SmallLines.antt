-- The numbers of a line that may stand have 64 bits.
use Rattle.std.proofs.Common.{ℕ, ℤ, suc, pos, ◌+◌, ◌/◌, [], ◌∷◌, subst, arith}
use Rattle.std.specs.Prelude.{◌≤ℤ◌, ◌==◌}
use Rattle.std.proofs.lemmas.Int.{ints}
use Rattle.clock_gate.specs.ClockRow.{row_at}
use Rattle.clock_gate.specs.declared.trace.Trace.{Trace}
use Rattle.segment_layout.specs.declared.publication.Publication.{Publication}
use Rattle.interval_now.specs.declared.answers.Answer.{Answer}
use Rattle.interval_now.specs.declared.answers.Answer.TheVariants.{Time, Busy, NotInitialized, PageBusy, Causality as Early}
use Rattle.lawful_report.specs.declared.printed.Printed.{Printed}
use Rattle.lawful_report.specs.declared.printed.Printed.TheVariants.{Header, Opened, Published, Skipped, Stopped, Moved, Answered, Total}
use Rattle.lawful_report.specs.declared.seen.Seen.{Seen}
use Rattle.lawful_report.specs.Calls.{MayAnswer}
use Rattle.lawful_report.specs.Course.{Course}
use Rattle.lawful_report.specs.Lawful.{Due, Heading, Opening, Moving, Polling, Stopping, Answering, Standing, seen_before, PublishesHere, FollowsAt}
use Rattle.lawful_report.specs.Pages.{marker_of_page}
use Rattle.report_audit.specs.Auditor.{EntryFits}
use Rattle.report_audit.proofs.EarlyReads.{row_moments}
use Rattle.report_audit.proofs.EntryPoints.{all_entries}
use Rattle.report_audit.proofs.IntervalEnds.{small_between, small_ends}
use Rattle.report_audit.proofs.KeptLines.{Limits, first_or, kept_at}
use Rattle.report_audit.proofs.KeptSizes.{KeptCourse, KeptSeen, KeptDue, Kept}
use Rattle.report_audit.proofs.OneNext.{AnswerIsSmall, PublicationIsSmall}
use Rattle.report_audit.proofs.OneVerdict.{LineIsSmall, KeepsSmall}
use Rattle.report_audit.proofs.PublicationReads.{generation_small}
use Rattle.report_audit.proofs.SmallNumbers.{number_small, failing_small}

small_publication : (trace : Trace) (n : ℕ) (s : Standing) (position page : ℕ) (p : Publication) (after : Standing) → Limits trace → KeptDue trace n Polling s.course.polled s.course.point s.counts → PublishesHere trace s position page p after → PublicationIsSmall position page p
small_publication trace n s position page p after limits due here = record {
  at = omega (arith, here.is.position_is, due.0.point_most, due.1, limits.polls_few);
  poll = omega (arith, here.is.poll, due.1, limits.polls_few);
  generation = omega (arith, here.is.generation, generation_small trace.layout (s.course.point / 2 + 1));
  asked = omega (arith, here.is.replied, here.is.done, limits.rows_few);
  page_is = omega (arith, here.is.page_done, limits.pages_few);
  replied = omega (arith, here.is.done, limits.rows_few);
}

small_answer : (trace : Trace) (course : Course) (tries : ℕ) (seen : Seen) (page : ℕ) (answer : Answer) (after : Seen) → Limits trace → KeptCourse trace course → KeptSeen trace seen → MayAnswer trace course tries seen page answer after → AnswerIsSmall page answer
small_answer trace course tries seen page (Time t) after limits kept view may =
    let entry : EntryFits may.least.has.entry = all_entries EntryFits course (after.point / 2) may.least.has.entry kept.entries may.least.has.stands in
    let moments = row_moments trace.clock t.row limits.clock (omega (arith, may.row_kept, view.row_some)) may.row_done in
    record {
      generation = omega (arith, number_small trace.layout t.generation after.point may.least.has.number);
      row = omega (arith, may.row_done, limits.rows_few);
      page_is = omega (arith, may.page_done, limits.pages_few);
      ends = small_ends may.least.has.entry.rec (row_at trace.clock t.row).mono (row_at trace.clock t.row).real (marker_of_page trace page) t.interval entry moments.0 moments.1 may.least.has.is;
    }
small_answer trace course tries seen page (Busy said first last) after limits kept view may =
    let small = failing_small trace.layout seen.point course.point first last after.point may.1.found in
    (omega (arith, small.0), omega (arith, small.1))
small_answer trace course tries seen page NotInitialized after limits kept view may = tt
small_answer trace course tries seen page (PageBusy first last) after limits kept view may = (omega (arith, may.fails.first_fits), omega (arith, may.fails.last_fits))
small_answer trace course tries seen page (Early causality) after limits kept view may =
    let entry : EntryFits may.least.has.entry = all_entries EntryFits course (after.point / 2) may.least.has.entry kept.entries may.least.has.stands in
    let low : pos 0 ≤ℤ causality.as_of = subst (λ (z : ℤ). pos 0 ≤ℤ z) may.least.has.as_of_is entry.as_of_low in
    let high : causality.as_of ≤ℤ pos 4000000000999999999 = subst (λ (z : ℤ). z ≤ℤ pos 4000000000999999999) may.least.has.as_of_is entry.as_of_high in
    let moments = row_moments trace.clock after.row limits.clock (omega (arith, may.row.not_before, view.row_some)) may.row.not_past in
    (small_between causality.as_of (omega (arith, ints, low)) (omega (arith, ints, high)), omega (arith, may.row.has.mono_is, moments.0))

pub small_at : (trace : Trace) (n : ℕ) (s : Standing) (due : Due) (line : Printed) (after : Standing) → Limits trace → KeptCourse trace s.course → KeptDue trace n due s.course.polled s.course.point s.counts → FollowsAt trace s due line after → LineIsSmall line
small_at trace n s Heading Header after limits kept sizes is = tt
small_at trace n s Opening (Opened poll start) after limits kept sizes is = tt
small_at trace n s Moving (Moved poll position generation) after limits kept sizes is = tt
small_at trace n s Polling (Skipped poll a b) after limits kept sizes is =
    (omega (arith, is.poll_is, sizes.1, limits.polls_few), omega (arith, is.fails.first_fits), omega (arith, is.fails.last_fits))
small_at trace n s Polling (Stopped poll stores) after limits kept sizes is = tt
small_at trace n s Polling (Published position page p) after limits kept sizes is = small_publication trace n s position page p after limits sizes is
small_at trace n s Stopping (Stopped poll stores) after limits kept sizes is = tt
small_at trace n s (Answering seen (due ∷ left)) (Answered client call page answer) after limits kept sizes is =
    small_answer trace s.course due.tries (seen_before trace seen due) page answer is.seen limits kept (first_or trace seen (due.number == 1) limits sizes.kept_seen) is.may
small_at trace n s (Answering seen []) (Total counts) after limits kept sizes is = tt
small_at trace n s due line after limits kept sizes is = absurd is

-- what standings that lines lead to keep
abbrev pub KeptAny : Trace → Standing → Type 0
KeptAny trace s = (n : ℕ) × Kept trace n s

pub keeps_small : (trace : Trace) → Limits trace → KeepsSmall trace (KeptAny trace)
keeps_small trace limits s line after kept follows =
    (small_at trace kept.0 s s.due line after limits kept.1.course kept.1.due follows, (suc kept.0, kept_at trace kept.0 s s.due line after limits kept.1.course kept.1.counts kept.1.due follows))
