use Rattle.std.proofs.Common.{None, refl}
use Rattle.std.proofs.lemmas.List.{get_or-replicate}
use Rattle.bound_order.proofs.ordering.Ordering.new.Goals as goal

pub returns-clause-none : goal.returns-clause-none
returns-clause-none c = record { length_is = refl; waits = λ client here. rw c.in_ok-waiting.ensures (get_or-replicate 65 client None None here); lease = refl }
