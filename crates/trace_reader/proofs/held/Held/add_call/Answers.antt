use Rattle.std.proofs.Common.{rules, ◌∙◌, sym, ap, ℕ, List}
use Rattle.clock_gate.specs.Trace.{larger, largest_client}
use Rattle.clock_gate.specs.declared.trace.CallRow.{CallRow}
use Rattle.trace_reader.proofs.Last.{largest_more}
use Rattle.trace_reader.proofs.held.Held.add_call.Goals as goal

pub invariant_of-self-in_err-push-2 : goal.invariant_of-self-in_err-push-2
invariant_of-self-in_err-push-2 c = (
  search rules,
  c.self.invariant.1,
  c.larger-clients.ensures
      ∙ ap (λ (n : ℕ). larger n c.args.client) c.self.invariant.2
      ∙ sym (largest_more 1 c.self.inside.calls.items (record { client = c.args.client; tries = c.tries_of-tries.result }))
      ∙ sym (ap (λ (rows : List CallRow). largest_client rows) c.in_ok-push.ensures.items),
  c.self.invariant.3,
)

pub invariant_of-self-2 : goal.invariant_of-self-2
invariant_of-self-2 c = (
  search rules,
  c.self.invariant.1,
  c.larger-clients.ensures
      ∙ ap (λ (n : ℕ). larger n c.args.client) c.self.invariant.2
      ∙ sym (largest_more 1 c.self.inside.calls.items (record { client = c.args.client; tries = c.tries_of-tries.result }))
      ∙ sym (ap (λ (rows : List CallRow). largest_client rows) c.in_ok-push.ensures.items),
  c.self.invariant.3,
)
