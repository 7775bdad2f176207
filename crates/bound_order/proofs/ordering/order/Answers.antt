use Rattle.std.proofs.Common.{All, List}
use Rattle.std.proofs.lemmas.List.Elements.{All-weaker}
use Rattle.bound_order.specs.declared.told.Told.{Told}
use Rattle.bound_order.specs.Ordering.{IsTold}
use Rattle.bound_order.proofs.Laws.{Near, stamps_follow_time, acts_end_first, grants_come_later, kept_order}
use Rattle.bound_order.proofs.ordering.order.Goals as goal

near_all : (told : List Told) → All IsTold told → All Near told
near_all told all = All-weaker IsTold Near (λ t is. is.near) told all

pub returns-clause-stamps : goal.returns-clause-stamps
returns-clause-stamps c = rw c.from_vec.ensures (rw c.in_ok-steps_of.ensures (stamps_follow_time c.args.length c.args.told.now))

pub returns-clause-acts : goal.returns-clause-acts
returns-clause-acts c = rw c.from_vec.ensures (rw c.in_ok-steps_of.ensures (acts_end_first c.args.length c.args.told.now))

pub returns-clause-grants : goal.returns-clause-grants
returns-clause-grants c = rw c.from_vec.ensures (rw c.in_ok-steps_of.ensures (grants_come_later c.args.length c.args.told.now (near_all c.args.told.now c.requires.told)))

pub returns-clause-kept : goal.returns-clause-kept
returns-clause-kept c true_all =
    rw c.from_vec.ensures (rw c.in_ok-steps_of.ensures (kept_order c.args.length c.args.told.now (near_all c.args.told.now c.requires.told) true_all))
