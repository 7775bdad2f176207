use Rattle.std.proofs.Common.{◌≡◌, ℕ, ◌+◌, Some, sym, ap, subst, ◌∙◌}
use Rattle.std.specs.Prelude.{slice_get}
use Rattle.report_audit.specs.Auditor.{ShowsCourse}
use Rattle.lawful_report.specs.Course.{stopped, point_stopped}
use Rattle.report_audit.proofs.TakenLines.{taken_stop}
use Rattle.report_audit.proofs.auditor.Auditor.stopped.Goals as goal

pub returns : goal.returns
returns c course counts row holds is stop no_skip =
    let shows = holds.course_is in
    let course_is : ShowsCourse (stopped course c.args.stores) _ = record {
      polled = ap (λ (n : ℕ). n + 1) shows.polled;
      before_is = shows.before_is;
      entries_are = shows.entries_are;
      point_is = ap (λ (n : ℕ). point_stopped n c.args.stores) shows.point_is ∙ sym c.point_stopped-self.ensures;
      row_is = shows.row_is;
      page_is = shows.page_is;
      life_is = tt;
    } in
    taken_stop c.args.trace.now c.args.known.now course counts c.args.text.now c.in-Some.later.now _ row (c.args.self.now.progress.polled + 1) c.args.stores (subst (λ (n : ℕ). slice_get c.args.trace.now.polls n ≡ Some row) (sym shows.polled) is) (ap (λ (n : ℕ). n + 1) (sym shows.polled)) c.requires.few stop
    (record { course_is = course_is; counts_are = holds.counts_are })
    (c.due_next-self.ensures (stopped course c.args.stores) course_is)
    (rw c.in-Some.is at c.after_line.ensures.found)
