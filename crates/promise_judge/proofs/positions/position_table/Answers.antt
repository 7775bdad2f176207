use Rattle.std.proofs.Common.{ℕ, List, refl, sym, subst}
use Rattle.promise_judge.specs.Shown.{ArePositions}
use Rattle.promise_judge.specs.Telling.{clock_at}
use Rattle.promise_judge.proofs.Placing.{positions_begin}
use Rattle.promise_judge.proofs.positions.position_table.Goals as goal

pub rows-init : goal.rows-init
rows-init c =
    (refl, subst (λ (items : List ℕ). ArePositions c.args.host.now (clock_at c.args.host.now 0) items) (sym c.in_ok-positions.ensures.items) (positions_begin c.args.host.now))
