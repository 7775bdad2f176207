use Rattle.std.proofs.Common.{ℕ, ◌+◌, ◌*◌, ◌/◌, sym, ap}
use Rattle.lawful_report.specs.declared.entry.Entry.{Entry}
use Rattle.report_audit.specs.Auditor.{ShowsCourse}
use Rattle.lawful_report.specs.Course.{entry_of, published}
use Rattle.lawful_report.specs.Lawful.{one_publication}
use Rattle.report_audit.proofs.AuditorSteps.{pushed_entries}
use Rattle.report_audit.proofs.auditor.Auditor.publish.Goals as goal

pub returns : goal.returns
returns c course counts life poll replied page holds entry_is past =
    let shows = holds.course_is in
    let course_is : ShowsCourse (published course life poll replied page) _ = record {
      polled = ap (λ (n : ℕ). n + 1) shows.polled;
      before_is = shows.before_is;
      entries_are = pushed_entries course.entries c.args.self.now.progress.entries.items c.push_entry.new.entries.items (entry_of life poll replied page) c.args.entry shows.entries_are (sym entry_is) c.in_ok-push_entry.ensures;
      point_is = ap (λ (n : ℕ). 2 * (n / 2 + 1)) shows.point_is;
      row_is = ap (λ (e : Entry). e.replied) (sym entry_is);
      page_is = ap (λ (e : Entry). e.page) (sym entry_is);
      life_is = past;
    } in
    rw c.if-stops.false (record {
      holds = record { course_is = course_is; counts_are = ap one_publication holds.counts_are };
      due_is = c.due_next-self.ensures (published course life poll replied page) course_is;
    })
