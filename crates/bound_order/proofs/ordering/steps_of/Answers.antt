use Rattle.std.proofs.Common.{rules, ◌<◌, [], ◌∷◌, get_or, length, refl}
use Rattle.std.specs.Prelude.{None}
use Rattle.std.proofs.lemmas.List.{drop_more}
use Rattle.bound_order.specs.declared.told.Told.{Told}
use Rattle.bound_order.proofs.Steps.{steps_more}
use Rattle.bound_order.proofs.ordering.steps_of.Goals as goal

pub loop-answer-init : goal.loop-answer-init
loop-answer-init c = (c.in_ok-ordering.ensures.ready, [], c.in_ok-ordering.ensures.none, rw c.in_ok-steps.ensures.items refl)

pub loop-answer-preserved : goal.loop-answer-preserved
loop-answer-preserved c =
    let was = c.loop-answer.invariant in
    let none : Told = record { client = 0; call = 0; interval = None; truth = None } in
    let t : Told = get_or c.args.told.now c.loop-answer.answer-index none in
    let inside : c.loop-answer.answer-index < length c.args.told.now = search rules in
    let turn = c.next-next.ensures in (
      turn.ready,
      t ∷ was.1,
      turn.stands c.args.length was.1 was.2,
      rw c.in_ok-push.ensures.items (steps_more c.args.length was.1 _ _ t c.loop-answer.steps.items c.next-next.result _ (drop_more _ _ _ inside) (turn.step c.args.length was.1 was.2) was.3),
    )
