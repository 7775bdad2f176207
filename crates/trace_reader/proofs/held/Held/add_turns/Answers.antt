use Rattle.std.proofs.Common.{◌≡◌, ◌∙◌, sym, ap, List, None, subst}
use Rattle.clock_gate.specs.Trace.{turns_of}
use Rattle.clock_gate.specs.declared.trace.Turn.{Turn}
use Rattle.trace_reader.specs.Checks.{fault_of}
use Rattle.trace_reader.specs.Facts.{Facts}
use Rattle.trace_reader.specs.declared.line.Line.TheVariants as lines
use Rattle.trace_reader.proofs.Last.{turns_more}
use Rattle.trace_reader.proofs.Within.{turn_within}
use Rattle.trace_reader.proofs.held.Held.add_turns.Goals as goal

pub invariant_of-self-2 : goal.invariant_of-self-2
invariant_of-self-2 c =
    let none = subst (λ (f : Facts). fault_of f (lines.Turns c.args.turn) ≡ None) (sym c.self.view_is) c.requires in
    let items = c.in_ok-push.ensures.items in
    let within = turn_within _ c.args.turn c.self.invariant.0 none in (
      rw (sym items) at within,
      c.self.invariant.1,
      c.self.invariant.2,
      rw (c.self.invariant.3, c.turns_in-turns.ensures.value) (sym (turns_more c.self.inside.turns.items c.args.turn) ∙ sym (ap (λ (turns : List Turn). turns_of turns) items)),
    )
