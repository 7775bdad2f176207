use Rattle.std.proofs.Common.{◌≡◌, sym, subst, ap, ◌∙◌}
use Rattle.clock_gate.specs.declared.act.Act.TheVariants.{Load}
use Rattle.clock_gate.specs.Acts.{after}
use Rattle.interval_now.specs.declared.stage.Stage.{Stage}
use Rattle.interval_now.specs.Call.{Call, act_of, given, words_given}
use Rattle.interval_now.proofs.GivenWords.{words_at_once}
use Rattle.interval_now.proofs.now.NowMachine.give_words.Goals as goal

pub returns-clause-value : goal.returns-clause-value
returns-clause-value c = λ clock.
    let m = c.self.inside in
    ap (λ (s : Stage). record { tries = m.tries; support = m.support; stage = s }) c.give_segment.ensures.value
    ∙ subst (λ (call : Call). record { tries = m.tries; support = m.support; stage = words_given m.stage c.args.words.now } ≡ after act_of (given clock) call c.args.words.now) c.self.view_is
    (words_at_once clock m.tries m.support m.stage c.args.words.now c.self.invariant.0.stage (subst (λ (call : Call). act_of call ≡ Load 2) (sym c.self.view_is) c.requires.wanted) c.told-words)
