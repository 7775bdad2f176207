use Rattle.std.proofs.Common.{◌≡◌, ℕ, pos, ◌≤◌, List, ◌++◌, length, slice_index_or, arith, rules, ap, sym, subst, ◌∙◌}
use Rattle.std.specs.Prelude.{All}
use Rattle.clock_gate.specs.declared.clock_row.ClockRow.{ClockRow}
use Rattle.interval_now.specs.declared.answers.Answer.TheVariants.{Causality as Early}
use Rattle.interval_now.specs.declared.answers.Causality.{Causality}
use Rattle.lawful_report.specs.declared.entry.Entry.{Entry}
use Rattle.lawful_report.specs.Calls.{HasAsOf}
use Rattle.lawful_report.specs.Points.{IsLeast}
use Rattle.lawful_report.specs.Lines.{answered_line}
use Rattle.report_audit.specs.Auditor.{EntryFits}
use Rattle.report_audit.specs.FoundLines.{HasMonoAt}
use Rattle.report_audit.proofs.AnswerKinds.{no_early}
use Rattle.report_audit.proofs.EarlyReads.{early_reads}
use Rattle.report_audit.proofs.EarlySearch.{same_least, row_of_early, early_found, same_causality, RowFound}
use Rattle.report_audit.proofs.early_answer.early_answer.Goals as goal

pub returns-in_default : goal.returns-in_default
returns-in_default c course shows = no_early c.args.trace.now course c.args.call c.args.seen c.args.text.now (λ causality after later early begins.
    let is = early_reads c.args.trace.now course c.args.call c.args.seen after causality c.args.numbers c.args.text.now later c.requires.numbers (search rules) (search rules) c.requires.clock c.requires.row (subst (λ (es : List Entry). All EntryFits es) (sym shows.entries_are) c.requires.entries) early begins in
    absurd (omega (arith, is.late, is.nanos_is, is.mono_is, c.in_default.ensures.late)))

pub returns-in_default-found : goal.returns-in_default-found
returns-in_default-found c course shows = no_early c.args.trace.now course c.args.call c.args.seen c.args.text.now (λ causality after later early begins.
    let is = early_reads c.args.trace.now course c.args.call c.args.seen after causality c.args.numbers c.args.text.now later c.requires.numbers (search rules) (search rules) c.requires.clock c.requires.row (subst (λ (es : List Entry). All EntryFits es) (sym shows.entries_are) c.requires.entries) early begins in
    let least : IsLeast c.args.seen.point c.args.progress.now.point (HasAsOf course (pos (slice_index_or c.args.numbers 2 0))) after.point = same_least course c.args.seen.point c.args.progress.now.point after.point causality.as_of (slice_index_or c.args.numbers 2 0) shows.point_is (is.as_of_is ∙ ap (λ (n : ℕ). pos n) (sym is.nanos_is)) early.least in
    c.in_default-found.ensures course (shows.entries_are ∙ sym c.as_slice-entries.ensures.value) shows.before_is after.point least.not_before least.not_past least.has)

pub returns-in_default-mono_row : goal.returns-in_default-mono_row
returns-in_default-mono_row c course shows = no_early c.args.trace.now course c.args.call c.args.seen c.args.text.now (λ causality after later early begins.
    let is = early_reads c.args.trace.now course c.args.call c.args.seen after causality c.args.numbers c.args.text.now later c.requires.numbers (search rules) (search rules) c.requires.clock c.requires.row (subst (λ (es : List Entry). All EntryFits es) (sym shows.entries_are) c.requires.entries) early begins in
    let found = c.in-Some-found.ensures course (shows.entries_are ∙ sym c.as_slice-entries.ensures.value) shows.before_is in
    let row = row_of_early c.args.trace.now course c.args.seen after causality c.args.progress.now.point (slice_index_or c.args.numbers 2 0) (slice_index_or c.args.numbers 3 0) c.in-Some-found.point c.in-Some-found.replied shows.point_is (is.as_of_is ∙ ap (λ (n : ℕ). pos n) (sym is.nanos_is)) (sym is.mono_is) found early in
    c.in_default-mono_row.ensures after.row (c.later_of.ensures.least after.row row.0 row.1) (subst (λ (rows : List ClockRow). after.row ≤ length rows) (sym c.as_slice.ensures) early.row.not_past) (subst (λ (rows : List ClockRow). HasMonoAt rows (slice_index_or c.args.numbers 3 0) after.row) (sym c.as_slice.ensures) row.2))

pub returns-in-Some-after_answer : goal.returns-in-Some-after_answer
returns-in-Some-after_answer c course shows =
    let found = c.in-Some-found.ensures course (shows.entries_are ∙ sym c.as_slice-entries.ensures.value) shows.before_is in
    let at : RowFound c.args.trace.now c.args.seen.row c.in-Some-found.replied (slice_index_or c.args.numbers 3 0) c.in-Some-mono_row.row = record {
      first_kept = omega (arith, c.later_of.ensures.first, c.in-Some-mono_row.ensures.not_before);
      replied_kept = omega (arith, c.later_of.ensures.second, c.in-Some-mono_row.ensures.not_before);
      done = subst (λ (rows : List ClockRow). c.in-Some-mono_row.row ≤ length rows) c.as_slice.ensures c.in-Some-mono_row.ensures.not_past;
      mono_is = subst (λ (rows : List ClockRow). HasMonoAt rows (slice_index_or c.args.numbers 3 0) c.in-Some-mono_row.row) c.as_slice.ensures c.in-Some-mono_row.ensures.has;
      none_less = λ n first replied has. c.in-Some-mono_row.ensures.none_less n (c.later_of.ensures.least n first replied) (subst (λ (rows : List ClockRow). HasMonoAt rows (slice_index_or c.args.numbers 3 0) n) (sym c.as_slice.ensures) has);
    } in
    record {
      page = 0;
      may = early_found c.args.trace.now course c.args.seen c.in-Some.as_of (slice_index_or c.args.numbers 2 0) (slice_index_or c.args.numbers 3 0) c.args.progress.now.point c.in-Some-found.point c.in-Some-found.replied c.in-Some-mono_row.row shows.point_is c.in-Some.ensures.found.1 c.in-Some.ensures.found.0 found at;
      begins = rw c.in-Some-after_answer.is at c.after_answer.ensures.found;
    }

pub returns-in-None : goal.returns-in-None
returns-in-None c course shows = no_early c.args.trace.now course c.args.call c.args.seen c.args.text.now (λ causality after later early begins.
    let is = early_reads c.args.trace.now course c.args.call c.args.seen after causality c.args.numbers c.args.text.now later c.requires.numbers (search rules) (search rules) c.requires.clock c.requires.row (subst (λ (es : List Entry). All EntryFits es) (sym shows.entries_are) c.requires.entries) early begins in
    (rw c.in-None.is at c.after_answer.ensures.other) later (subst (λ (e : Causality). c.args.text.now ≡ answered_line c.args.call.client c.args.call.number 0 (Early e) ++ later) (same_causality causality c.in-Some.as_of (slice_index_or c.args.numbers 3 0) (is.as_of_is ∙ (ap (λ (n : ℕ). pos n) (sym is.nanos_is) ∙ sym c.in-Some.ensures.found.1)) (sym is.mono_is)) begins))
