use Rattle.std.proofs.Common.{◌≡◌, ◌-◌, ◌+◌, ℕ, true, false, ◌∙◌, sym, ap, arith, rules}
use Rattle.clock_gate.specs.declared.trace.Party.TheVariants.{Daemon}
use Rattle.abstract_run.specs.Schedule as schedule
use Rattle.step_core.specs.Shared.{shared_turn, jobs_ended, has_job}
use Rattle.step_core.proofs.Schedules.{until_less, until_stops}
use Rattle.step_core.proofs.world.World.daemon_until.Goals as goal

pub returns-then-is_done : goal.returns-then-is_done
returns-then-is_done c =
    let done : c.is_done.result ≡ true = search rules in
    sym (until_stops c.turns.left Daemon c.args.jobs c.turns.self (sym c.is_done.ensures ∙ done)) ∙ c.turns.invariant.1

pub turns-preserved : goal.turns-preserved
turns-preserved c =
    let goes : schedule.is_done shared_turn jobs_ended has_job Daemon c.args.jobs c.turns.self ≡ false = sym c.is_done.ensures ∙ c.if-is_done.false in
    let some = c.turns-test.true in
    let leaps = c.daemon_leap-leapt.ensures.leaps in
    let most = c.daemon_leap-leapt.ensures.most in
    let counted = c.turns.invariant.0 in
    let split : c.daemon_leap-leapt.result + (1 + (c.turns.left - (c.daemon_leap-leapt.result + 1))) ≡ c.turns.left = omega (arith, some, most) in
    let one : 1 + (c.turns.left - (c.daemon_leap-leapt.result + 1)) - 1 ≡ c.turns.left - (c.daemon_leap-leapt.result + 1) = omega arith in
    let turned : schedule.until_done shared_turn jobs_ended has_job c.turns.left Daemon c.args.jobs c.turns.self ≡ schedule.until_done shared_turn jobs_ended has_job (c.turns.left - (c.daemon_leap-leapt.result + 1)) Daemon c.args.jobs c.turn.new.self =
    ap (λ (n : ℕ). schedule.until_done shared_turn jobs_ended has_job n Daemon c.args.jobs c.turns.self) (sym split)
    ∙ (leaps.until (1 + (c.turns.left - (c.daemon_leap-leapt.result + 1))) c.args.jobs goes
    ∙ (until_less (1 + (c.turns.left - (c.daemon_leap-leapt.result + 1))) Daemon c.args.jobs c.daemon_leap-leapt.new.self (omega arith) (leaps.done c.args.jobs ∙ goes)
    ∙ (ap (λ (n : ℕ). schedule.until_done shared_turn jobs_ended has_job n Daemon c.args.jobs (shared_turn c.daemon_leap-leapt.new.self Daemon)) one
    ∙ ap (schedule.until_done shared_turn jobs_ended has_job (c.turns.left - (c.daemon_leap-leapt.result + 1)) Daemon c.args.jobs) (sym c.turn.ensures)))) in
    (omega (arith, counted), sym turned ∙ c.turns.invariant.1)
