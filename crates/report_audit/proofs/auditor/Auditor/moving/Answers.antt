use Rattle.std.proofs.Common.{◌≡◌, ℕ, ◌+◌, ◌*◌, ◌/◌, sym, ap, ◌∙◌}
use Rattle.lawful_report.specs.declared.entry.Entry.{Entry}
use Rattle.generation_word.specs.Layout.{period_of}
use Rattle.generation_word.specs.Numbering.{generation_at}
use Rattle.lawful_report.specs.Course.{first_entry, last_entry}
use Rattle.report_audit.proofs.AuditorSteps.{pushed_entries}
use Rattle.report_audit.proofs.TakenLines.{taken_moving}
use Rattle.report_audit.proofs.auditor.Auditor.moving.Goals as goal

pub returns : goal.returns
returns c known course counts holds =
    let shows = holds.course_is in
    let last : first_entry (last_entry course).rec ≡ first_entry c.last_entry-rec.result.rec = ap (λ (e : Entry). first_entry e.rec) (sym (c.last_entry-rec.ensures course shows)) in
    let place : c.args.self.now.progress.point / 2 + 1 ≡ course.point / 2 + 1 = ap (λ (n : ℕ). n / 2 + 1) (sym shows.point_is) in
    taken_moving c.args.trace.now known course counts c.args.text.now c.in-Some.later.now _ (c.args.self.now.progress.polled + 1) (c.args.self.now.progress.point / 2 + 1) c.generation.result (ap (λ (n : ℕ). n + 1) (sym shows.polled)) place
    (c.generation.ensures.value ∙ ap (λ (n : ℕ). generation_at (period_of c.args.trace.now.layout) n) place)
    (record {
      course_is = record {
        polled = shows.polled;
        before_is = shows.before_is;
        entries_are = pushed_entries course.entries c.args.self.now.progress.entries.items c.push_entry.new.entries.items (first_entry (last_entry course).rec) (first_entry c.last_entry-rec.result.rec) shows.entries_are last c.in_ok-push_entry.ensures;
        point_is = ap (λ (n : ℕ). 2 * n) (sym place);
        row_is = shows.row_is;
        page_is = shows.page_is;
        life_is = shows.life_is;
      };
      counts_are = holds.counts_are;
    })
    tt
    (rw c.in-Some.is at c.after_line.ensures.found)
