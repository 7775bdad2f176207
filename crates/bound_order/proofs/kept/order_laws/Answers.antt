use Rattle.bound_order.proofs.Laws.{kept_order}
use Rattle.bound_order.proofs.kept.order_laws.Goals as goal

pub returns : goal.returns
returns c = record { kept = kept_order }
