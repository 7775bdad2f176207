use Rattle.std.proofs.Common.{◌≡◌, ◌≤◌, take}
use Rattle.bound_agree.specs.Board.{missed_by}
use Rattle.bound_agree.proofs.board.missed.Given as goal

abbrev pub invariant-spans : goal.invariant-spans
invariant-spans l = record { counted : l.count ≡ missed_by (take l.span-index l.spans) l.point.0; few : l.count ≤ l.span-index }
