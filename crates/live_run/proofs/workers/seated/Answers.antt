use Rattle.std.proofs.Common.{rules, ◌≡◌, ◌+◌, ℕ, List, length, vec_len, subst}
use Rattle.live_run.specs.declared.workers.Plan.{Plan}
use Rattle.live_run.specs.Dealt.{IsPlan, ArePlans, IsReady}
use Rattle.live_run.proofs.Plans.{plans_less, plan_ready}
use Rattle.live_run.proofs.workers.seated.Goals as goal

pub returns-clause-ready : goal.returns-clause-ready
returns-clause-ready c = λ table trace sits are.
    let less = plans_less trace.calls 1 c.pop.new.self.items c.in-Some.plan (subst (λ (l : List Plan). ArePlans trace.calls 1 l) c.in-Some.ensures.items are) in
    let place : 1 + length c.pop.new.self.items ≡ vec_len c.args.plans.now = search rules in
    let number : vec_len c.args.plans.now ≡ c.len-number.result = search rules in
    subst (λ (n : ℕ). IsReady table trace (vec_len c.args.plans.now) (record { number = n; seat = c.args.seat; calls = c.in-Some.plan.calls; answers = c.in-Some.plan.answers })) number
    (plan_ready table trace (vec_len c.args.plans.now) c.in-Some.plan c.args.seat c.requires.few sits (subst (λ (n : ℕ). IsPlan trace.calls n c.in-Some.plan) place less.1))

pub returns-clause-plans : goal.returns-clause-plans
returns-clause-plans c = λ rows are. (plans_less rows 1 c.pop.new.self.items c.in-Some.plan (subst (λ (l : List Plan). ArePlans rows 1 l) c.in-Some.ensures.items are)).0
