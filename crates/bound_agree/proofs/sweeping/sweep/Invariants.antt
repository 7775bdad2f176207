use Rattle.std.proofs.Common.{◌≡◌, ◌++◌, None}
use Rattle.bound_agree.proofs.OneSweep.{sweep, IsSwept}
use Rattle.bound_agree.proofs.sweeping.sweep.Given as goal

abbrev pub invariant-edges : goal.invariant-edges
invariant-edges l = record {
  can : IsSwept l.need l.held l.run l.at-iterator;
  all : l.runs.items ++ sweep l.need l.held l.run l.at-iterator ≡ sweep l.need 0 None l.edges.entries;
}
