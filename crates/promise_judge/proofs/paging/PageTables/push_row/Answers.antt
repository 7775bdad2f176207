use Rattle.std.proofs.Common.{take, refl}
use Rattle.promise_judge.proofs.PagedNext.{tables_next}
use Rattle.promise_judge.proofs.paging.PageTables.push_row.Goals as goal

pub returns : goal.returns
returns c = λ start host done are lt is.
    let told = c.in_ok-found.ensures.told start (take done host) are.markers in
    let seen = c.in_ok-found.ensures.seen start (take done host) are.markers in
    tables_next start host done c.args.self.now _ c.args.row.now c.in_ok-found.found.0 c.in_ok-found.found.1 are lt is seen
    told.0 told.1 c.latest_change-self.ensures c.first_repeat-self.ensures c.in_ok-push.ensures.items refl
