use Rattle.std.proofs.Common.{◌≡◌, ◌++◌, ◌+◌, ◌∷◌, List, Some, drop, ap, sym, subst, ◌∙◌}
use Rattle.std.specs.Prelude.{vec_items, All, None}
use Rattle.std.proofs.lemmas.List.Elements.{All-head}
use Rattle.bound_order.specs.declared.step.Step.{Step}
use Rattle.bound_order.specs.declared.told.Told.{Told}
use Rattle.bound_order.specs.Ordering.{IsTold, order_of, step_of}
use Rattle.order_text.specs.declared.counts.TheConstants.{NONE}
use Rattle.order_text.specs.Counted.{all_counted, counted}
use Rattle.order_text.specs.Lines.{header_line, step_lines, steps_text}
use Rattle.order_text.specs.Told.{answers_told}
use Rattle.order_text.proofs.Texts.{Leaves, leaves_more, leaves_text, leaves_counts, up_more, answers_front, answers_none, all_text}
use Rattle.order_text.proofs.whole.put_order.Goals as goal
use Rattle.order_text.proofs.whole.put_order.Goals.{in-Some+in_ok-put_step, in_default}

pub next-step-requires-clause-told : goal.next-step-requires-clause-told
next-step-requires-clause-told c =
    let clock = c.args.clock.now in
    let events = c.args.events.now in
    let i = c.events.event-index in
    let later = answers_told clock (drop (i + 1) events) in
    let front : answers_told clock (drop i events) ≡ c.in-Some.answer ∷ later =
    answers_front clock events i c.event-item.result (Some c.in-Some.answer) c.events-test.true c.event-item.is (sym c.event_told.ensures ∙ c.in-Some.is) in
    All-head IsTold c.in-Some.answer later (subst (All IsTold) front c.events.invariant.3.told)

pub events-preserved : goal.events-preserved
events-preserved c =
    let clock = c.args.clock.now in
    let events = c.args.events.now in
    let n = c.args.length in
    let i = c.events.event-index in
    let later = answers_told clock (drop (i + 1) events) in
    let was = c.events.invariant in
    let whole = (vec_items c.args.text.now ++ header_line) ++ steps_text (answers_told clock events) (order_of n (answers_told clock events)) in
    let all = all_counted NONE (order_of n (answers_told clock events)) in
    elim c.match-event_told.branch [
      | in-Some+in_ok-put_step w ↦
          let t : Told = w.in-Some.answer in
          let front : answers_told clock (drop i events) ≡ t ∷ later =
          answers_front clock events i c.event-item.result (Some t) c.events-test.true c.event-item.is (sym c.event_told.ensures ∙ w.in-Some.is) in
          let left : Leaves n was.2 (t ∷ later) whole all c.events.ordering c.events.counts (vec_items c.events.text) =
          subst (λ (l : List Told). Leaves n was.2 l whole all c.events.ordering c.events.counts (vec_items c.events.text)) front was.3 in
          let step : w.next-step.result ≡ step_of n was.2 t = w.next-step.ensures.step n was.2 left.stands in
          rw w.text-is (rw w.ordering-is (rw w.counts-is (
            w.next-step.ensures.ready,
            w.count.ensures.next i was.1,
            t ∷ was.2,
            leaves_more n was.2 later whole all c.events.ordering w.next-step.new.self c.events.counts w.count.new.self (vec_items c.events.text) (vec_items w.put_step.new.text) t left
                (w.next-step.ensures.stands n was.2 left.stands)
                (w.in_ok-put_step.ensures ∙ ap (λ (s : Step). vec_items c.events.text ++ step_lines t s) step)
                (w.count.ensures.counted ∙ ap (λ (s : Step). counted s c.events.counts) step),
          )))
      | in_default w ↦
          let same : answers_told clock (drop i events) ≡ later =
          answers_front clock events i c.event-item.result None c.events-test.true c.event-item.is (sym c.event_told.ensures ∙ w.in_default.is) in
          rw w.text-is (rw w.ordering-is (rw w.counts-is (
            was.0,
            up_more i c.events.counts was.1,
            was.2,
            subst (λ (l : List Told). Leaves n was.2 l whole all c.events.ordering c.events.counts (vec_items c.events.text)) same was.3,
          )))
    ]

pub returns : goal.returns
returns c =
    let clock = c.args.clock.now in
    let events = c.args.events.now in
    let steps = order_of c.args.length (answers_told clock events) in
    let was = c.events.invariant in
    let none = answers_none clock events c.events.event-index c.events-test.false in
    let left = subst (λ (l : List Told). Leaves c.args.length was.2 l ((vec_items c.args.text.now ++ header_line) ++ steps_text (answers_told clock events) steps)
    (all_counted NONE steps) c.events.ordering c.events.counts (vec_items c.events.text)) none was.3 in
    all_text c.put_total.result (vec_items c.put_total.new.text) (vec_items c.args.text.now) (vec_items c.events.text) (answers_told clock events) steps (leaves_text left) (c.put_total.ensures steps (leaves_counts left))
