use Rattle.std.proofs.Common.{◌≢◌, ◌<◌, sym, subst}
use Rattle.clock_gate.specs.declared.act.Act.TheVariants.{End}
use Rattle.interval_now.specs.declared.stage.Stage.{Stage}
use Rattle.interval_now.specs.Call.{Call, IsCall, IsRowNumber, act_of, given, steps_left}
use Rattle.interval_now.proofs.CallSteps.{call_nearer, early_at}
use Rattle.interval_now.proofs.now.NowMachine.give.Goals as goal
use Rattle.interval_now.proofs.now.NowMachine.give.Goals.{After-give_stage}

-- where the call stands
abbrev here : After-give_stage → Call
here c = record { tries = c.self.inside.tries; support = c.self.inside.support; stage = c.self.inside.stage }

next : (c : After-give_stage) → IsCall (given c.args.clock.now (here c) c.args.value) × (steps_left (given c.args.clock.now (here c) c.args.value) < steps_left (here c))
next c =
    call_nearer c.args.clock.now (here c) c.args.value c.self.invariant.0 (subst (λ (call : Call). act_of call ≢ End) (sym c.self.view_is) c.requires.open)
    (early_at c.args.clock.now (act_of (here c)) c.args.value c.requires.moments (subst (λ (call : Call). IsRowNumber c.args.clock.now (act_of call) c.args.value) (sym c.self.view_is) c.requires.row))

pub invariant_of-self : goal.invariant_of-self
invariant_of-self c =
    let s = (goal.at.invariant_of-self c).After-give_stage in
    (subst (λ (z : Stage). IsCall (record { tries = c.self.inside.tries; support = c.self.inside.support; stage = z })) (sym s.give_stage.ensures.value) (next s).0, s.give_stage.ensures.ends)

pub returns-clause-nearer : goal.returns-clause-nearer
returns-clause-nearer c =
    let s = (goal.at.returns-clause-nearer c).After-give_stage in
    rw (← c.self.view_is)
    (subst (λ (z : Stage). steps_left (record { tries = c.self.inside.tries; support = c.self.inside.support; stage = z }) < steps_left (here s)) (sym s.give_stage.ensures.value) (next s).1)
