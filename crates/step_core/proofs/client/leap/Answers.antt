use Rattle.std.proofs.Common.{refl, ap, ◌∙◌, inl}
use Rattle.clock_gate.specs.Acts.{after}
use Rattle.interval_now.specs.Call.{act_of, given}
use Rattle.step_core.proofs.client.leap.Goals as goal

pub returns-then-wants_words-clause-leaps : goal.returns-then-wants_words-clause-leaps
returns-then-wants_words-clause-leaps c = λ clock.
    inl (refl, refl, c.wants_words.ensures.0 c.if-wants_words.true, c.give_words.ensures.value clock ∙ ap (after act_of (given clock) c.args.call.now) c.data_words.ensures)
