use Rattle.std.proofs.Common.{◌≤◌, ◌+◌, length}
use Rattle.promise_judge.specs.Offsets.{is_untold}
use Rattle.promise_judge.specs.Searching.{AreNext}
use Rattle.promise_judge.proofs.nexts.untold_table.Given as goal

abbrev pub invariant-rows : goal.invariant-rows
invariant-rows l = record {
  least : 1 ≤ l.n;
  most : l.n ≤ length l.clock + 1;
  next : AreNext (is_untold l.clock) l.n (length l.clock + 1) l.table.items;
}

abbrev pub decreases-rows : goal.decreases-rows
decreases-rows l = l.n
