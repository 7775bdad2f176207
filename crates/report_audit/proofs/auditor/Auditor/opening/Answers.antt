use Rattle.std.proofs.Common.{◌≡◌, ℕ, ◌+◌, rules, sym, ap, ◌∙◌}
use Rattle.std.specs.Prelude.{slice_index, is_some}
use Rattle.lawful_report.specs.declared.entry.Entry.{Entry}
use Rattle.lawful_report.specs.Course.{start_found, last_entry, is_move}
use Rattle.report_audit.proofs.AuditorSteps.{found_alike, resumed, move_alike, due_moving}
use Rattle.report_audit.proofs.TakenLines.{taken_opening}
use Rattle.report_audit.proofs.auditor.Auditor.opening.Goals as goal

pub returns : goal.returns
returns c known course counts holds =
    let shows = holds.course_is in
    let last : c.last_entry-last.result ≡ last_entry course = c.last_entry-last.ensures course shows in
    let start : c.start_at-start.result ≡ start_found c.args.trace.now course = c.start_at-start.ensures ∙ found_alike c.args.trace.now.layout c.args.self.now.progress.point course.point c.last_entry-last.result (last_entry course) (sym shows.point_is) last in
    taken_opening c.args.trace.now known course counts c.args.text.now c.in-Some.later.now _ (c.args.self.now.progress.polled + 1) c.start_at-start.result (ap (λ (n : ℕ). n + 1) (sym shows.polled)) start
    (record {
      course_is = record {
        polled = shows.polled;
        before_is = shows.before_is;
        entries_are = shows.entries_are;
        point_is = shows.point_is;
        row_is = shows.row_is;
        page_is = shows.page_is;
        life_is = resumed c.start_at-start.result (start_found c.args.trace.now course) c.args.trace.now.drift c.is_some.result (is_some c.args.trace.now.page) c.last_entry-last.result.base (last_entry course).base c.resume-daemon.result start (search rules) (ap (λ (e : Entry). e.base) last) c.resume-daemon.ensures.shows;
      };
      counts_are = holds.counts_are;
    })
    (due_moving known c.moves.result (is_move c.args.trace.now course) c.due_opened-due.result c.due_opened-due.ensures (c.moves.ensures ∙ move_alike c.args.trace.now.layout (slice_index c.args.trace.now.image 1) c.args.self.now.progress.polled course.polled c.start_at-start.result (start_found c.args.trace.now course) (sym shows.polled) start))
    (rw c.in-Some.is at c.after_line.ensures.found)
