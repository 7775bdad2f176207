use Rattle.std.proofs.Common.{ℕ, ◌+◌, sym, ap, subst}
use Rattle.report_audit.specs.Auditor.{ShowsCourse}
use Rattle.lawful_report.specs.Course.{skipped}
use Rattle.lawful_report.specs.Pages.{PageTriesFail, page_seen}
use Rattle.report_audit.specs.FoundLines.{SkipsTo}
use Rattle.report_audit.proofs.TakenLines.{taken_skip}
use Rattle.report_audit.proofs.auditor.Auditor.polling.Goals as goal

pub returns : goal.returns
returns c course counts holds =
    let shows = holds.course_is in
    let found : SkipsTo c.args.trace.now (c.args.self.now.progress.polled + 1) c.args.self.now.progress.page c.args.text.now c.in-Some.page c.in-Some.later.now = rw c.in-Some.is at (c.in_ok-found.ensures c.args.trace.now c.requires.knows.pages) in
    let course_is : ShowsCourse (skipped course (page_seen c.args.trace.now found.last)) _ = record {
      polled = ap (λ (n : ℕ). n + 1) shows.polled;
      before_is = shows.before_is;
      entries_are = shows.entries_are;
      point_is = shows.point_is;
      row_is = shows.row_is;
      page_is = sym found.seen_is;
      life_is = shows.life_is;
    } in
    taken_skip c.args.trace.now c.args.known.now course counts c.args.text.now c.in-Some.later.now _ (c.args.self.now.progress.polled + 1) found.first found.last (ap (λ (n : ℕ). n + 1) (sym shows.polled))
    (subst (λ (n : ℕ). PageTriesFail c.args.trace.now n found.first found.last) (sym shows.page_is) found.fails)
    (record { course_is = course_is; counts_are = holds.counts_are })
    (c.due_next-self.ensures (skipped course (page_seen c.args.trace.now found.last)) course_is)
    found.begins
