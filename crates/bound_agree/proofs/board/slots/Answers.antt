use Rattle.std.proofs.Common.{rules}
use Rattle.std.proofs.lemmas.Result.{IfOk-weaker}
use Rattle.bound_agree.proofs.board.slots.Goals as goal

pub returns : goal.returns
returns c = IfOk-weaker c.vec.result _ _ (λ v h. h (λ y same. search rules)) c.vec.ensures.items_if_clones_equal
