use Rattle.std.proofs.Common.{◌≡◌, ◌<◌, sym, subst, ap, ◌∙◌}
use Rattle.std.specs.Prelude.{replicate}
use Rattle.clock_gate.specs.Acts.{after}
use Rattle.interval_now.specs.declared.stage.Stage.{Stage}
use Rattle.interval_now.specs.Call.{Call, act_of, given, words_given, StageFailsOdd}
use Rattle.interval_now.proofs.GivenWords.{odd_at_once}
use Rattle.interval_now.proofs.now.NowMachine.fail_odd.Goals as goal

pub returns-clause-value : goal.returns-clause-value
returns-clause-value c = λ clock.
    let m = c.self.inside in
    ap (λ (s : Stage). record { tries = m.tries; support = m.support; stage = s }) c.fail_segment.ensures.value
    ∙ subst (λ (call : Call). record { tries = m.tries; support = m.support; stage = words_given m.stage (replicate c.fail_segment.result c.args.header) } ≡ after act_of (given clock) call (replicate c.fail_segment.result c.args.header)) c.self.view_is
    (odd_at_once clock m.tries m.support c.fail_segment.result m.stage c.args.header c.fail_segment.ensures.fails)
