use Rattle.std.proofs.Common.{◌≡◌, ℕ, Bool, List, Some, sym, ap, subst, ◌∙◌}
use Rattle.std.specs.Prelude.{slice_get}
use Rattle.status_machine.specs.Poll.{heard_of}
use Rattle.lawful_report.specs.Course.{published, poll_at}
use Rattle.lawful_report.specs.Lawful.{one_publication}
use Rattle.report_audit.specs.FoundLines.{Publishes}
use Rattle.report_audit.specs.NextLine.{ShowsStanding, published_by}
use Rattle.report_audit.proofs.AuditorSteps.{LifeThere, life_there}
use Rattle.report_audit.proofs.TakenLines.{taken_publication}
use Rattle.report_audit.proofs.TraceLimits.{rows_few}
use Rattle.report_audit.proofs.auditor.Auditor.publishing.Goals as goal

pub publication_at-requires-clause-rows : goal.publication_at-requires-clause-rows
publication_at-requires-clause-rows c = rows_few c.args.trace.now c.requires.lawful

pub returns-in_ok-publish-in-Ok-Some : goal.returns-in_ok-publish-in-Ok-Some
returns-in_ok-publish-in-Ok-Some c course counts holds row_is goes_on stops_is no_skip =
    let shows = holds.course_is in
    let there : LifeThere course.life c.in-Some.daemon = life_there course.life c.args.self.now.progress.life c.in-Some.daemon c.in-Some.is shows.life_is in
    let heard : heard_of c.args.row.now.reply ≡ c.hear-heard.result = ap (λ (bytes : List ℕ). heard_of bytes) (sym c.as_slice.ensures) ∙ sym c.hear-heard.ensures in
    let found : Publishes c.args.trace.now course there.life_at c.args.row.now c.args.text.now c.in-Ok-Some.entry c.in-Ok-Some.daemon c.in-Ok-Some.later.now = rw c.in-Ok-Some.field-0-is at (c.in-Ok-Some.ensures course there.life_at c.args.row.now shows there.past heard) in
    let next = c.in_ok-publish-in-Ok-Some.ensures course counts there.life_at (poll_at c.args.trace.now course found.publication.asked found.page c.args.row.now) found.publication.replied found.page holds found.entry_is found.shows in
    taken_publication c.args.trace.now c.args.known.now course counts c.args.text.now c.in-Ok-Some.later.now c.publish.new.self c.args.row.now there.life_at found.position found.page found.publication
    (record { row_is = subst (λ (n : ℕ). slice_get c.args.trace.now.polls n ≡ Some c.args.row.now) (sym shows.polled) row_is; life_is = there.is })
    goes_on found.is
    (subst (λ (stops : Bool). ShowsStanding c.args.known.now (published_by c.args.trace.now (one_publication counts) stops (published course there.life_at (poll_at c.args.trace.now course found.publication.asked found.page c.args.row.now) found.publication.replied found.page)) c.publish.new.self) (sym stops_is) next)
    found.begins
