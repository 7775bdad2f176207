use Rattle.std.proofs.Common.{refl, ap}
use Rattle.promise_judge.proofs.MorePages.{seen_page, seen_other, is_page}
use Rattle.promise_judge.proofs.paging.MarkersSeen.take.Goals as goal

pub returns-in_ok-insert-in-Page-clause-seen : goal.returns-in_ok-insert-in-Page-clause-seen
returns-in_ok-insert-in-Page-clause-seen c = λ start rows are.
    seen_page start rows c.args.row.now c.in-Page.words c.marker_in-marker.result c.args.self.now _ c.in-Page.is c.marker_in-marker.ensures are refl (λ q. c.in_ok-insert-in-Page.ensures.updates.0 q)

pub returns-in-Clock-clause-seen : goal.returns-in-Clock-clause-seen
returns-in-Clock-clause-seen c = λ start rows are. seen_other start rows c.args.row.now c.args.self.now (ap is_page c.in-Clock.is) are

pub returns-in-Disrupt-clause-seen : goal.returns-in-Disrupt-clause-seen
returns-in-Disrupt-clause-seen c = λ start rows are. seen_other start rows c.args.row.now c.args.self.now (ap is_page c.in-Disrupt.is) are
