use Rattle.promise_judge.specs.Paging.{ArePageTables}
use Rattle.promise_judge.proofs.paging.PageTables.of.Given as goal

abbrev pub invariant-rows : goal.invariant-rows
invariant-rows l = ArePageTables l.fn.start l.host l.row-index l.tables
