use Rattle.std.proofs.Common.{◌≤◌, ◌+◌, length}
use Rattle.promise_judge.specs.Disruptions.{is_drifting}
use Rattle.promise_judge.specs.Searching.{AreNext}
use Rattle.promise_judge.proofs.nexts.drifting_table.Given as goal

abbrev pub invariant-rows : goal.invariant-rows
invariant-rows l = record {
  most : l.n ≤ length l.trace.clock + 1;
  next : AreNext (is_drifting l.trace.drift l.trace.clock l.trace.host 0) l.n (length l.trace.clock + 1) l.table.items;
}

abbrev pub decreases-rows : goal.decreases-rows
decreases-rows l = l.n
