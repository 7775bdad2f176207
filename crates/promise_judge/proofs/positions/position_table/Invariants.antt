use Rattle.std.proofs.Common.{◌≡◌}
use Rattle.promise_judge.specs.Shown.{ArePositions}
use Rattle.promise_judge.specs.Telling.{clock_at}
use Rattle.promise_judge.proofs.positions.position_table.Given as goal

abbrev pub invariant-rows : goal.invariant-rows
invariant-rows l = (l.at ≡ l.row-index) × ArePositions l.host (clock_at l.host l.row-index) l.positions.items
