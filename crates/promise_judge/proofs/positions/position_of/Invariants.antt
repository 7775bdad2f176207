use Rattle.std.proofs.Common.{◌≡◌, ◌≤◌, ◌-◌, length}
use Rattle.promise_judge.specs.Positions.{position_of}
use Rattle.promise_judge.proofs.Walking.{position_left}
use Rattle.promise_judge.proofs.positions.position_of.Given as goal

abbrev pub invariant-rows : goal.invariant-rows
invariant-rows l = (l.done ≤ length l.host) × (position_left l.host l.done l.number ≡ position_of l.host l.number)

abbrev pub decreases-rows : goal.decreases-rows
decreases-rows l = length l.host - l.done
