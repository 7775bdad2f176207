use Rattle.std.proofs.Common.{◌++◌, List, drop}
use Rattle.std.specs.Prelude.{vec_items}
use Rattle.bound_order.specs.declared.told.Told.{Told}
use Rattle.bound_order.specs.Ordering.{order_of}
use Rattle.bound_order.specs.Standing.{IsReady}
use Rattle.order_text.specs.declared.counts.TheConstants.{NONE}
use Rattle.order_text.specs.Counted.{AreUpTo, all_counted}
use Rattle.order_text.specs.Lines.{header_line, steps_text}
use Rattle.order_text.specs.Told.{answers_told}
use Rattle.order_text.proofs.Texts.{Leaves}
use Rattle.order_text.proofs.whole.put_order.Given as goal

abbrev pub invariant-events : goal.invariant-events
invariant-events l =
    IsReady l.ordering × AreUpTo l.event-index l.counts × (past : List Told)
    × Leaves l.length past (answers_told l.clock (drop l.event-index l.events))
    ((vec_items l.fn.text ++ header_line) ++ steps_text (answers_told l.clock l.events) (order_of l.length (answers_told l.clock l.events)))
    (all_counted NONE (order_of l.length (answers_told l.clock l.events))) l.ordering l.counts (vec_items l.text)
