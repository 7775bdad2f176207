use Rattle.std.proofs.Common.{◌≤◌, ◌+◌, length}
use Rattle.promise_judge.specs.Positions.{is_disrupt_at}
use Rattle.promise_judge.specs.Searching.{AreNext}
use Rattle.promise_judge.proofs.nexts.disrupt_table.Given as goal

abbrev pub invariant-rows : goal.invariant-rows
invariant-rows l = record {
  least : 1 ≤ l.n;
  most : l.n ≤ length l.host + 1;
  next : AreNext (is_disrupt_at l.host) l.n (length l.host + 1) l.table.items;
}

abbrev pub decreases-rows : goal.decreases-rows
decreases-rows l = l.n
