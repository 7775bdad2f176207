use Rattle.std.proofs.Common.{◌≡◌, ◌-◌, ◌+◌, ℕ, ◌∙◌, sym, ap, arith, rules}
use Rattle.clock_gate.specs.declared.trace.Party.TheVariants.{Daemon}
use Rattle.abstract_run.specs.Schedule as schedule
use Rattle.step_core.specs.Shared.{shared_turn, jobs_ended, has_job}
use Rattle.step_core.proofs.Idle.{still_turns}
use Rattle.step_core.proofs.Schedules.{turns_less}
use Rattle.step_core.proofs.world.World.daemon_turns.Goals as goal

pub returns-then-is_idle : goal.returns-then-is_idle
returns-then-is_idle c =
    let still : shared_turn c.turns.self Daemon ≡ c.turns.self = search rules in
    sym (still_turns c.turns.left Daemon c.turns.self still) ∙ c.turns.invariant.1

pub turns-preserved : goal.turns-preserved
turns-preserved c =
    let some = c.turns-test.true in
    let leaps = c.daemon_leap-leapt.ensures.leaps in
    let most = c.daemon_leap-leapt.ensures.most in
    let counted = c.turns.invariant.0 in
    let split : c.daemon_leap-leapt.result + (1 + (c.turns.left - (c.daemon_leap-leapt.result + 1))) ≡ c.turns.left = omega (arith, some, most) in
    let one : 1 + (c.turns.left - (c.daemon_leap-leapt.result + 1)) - 1 ≡ c.turns.left - (c.daemon_leap-leapt.result + 1) = omega arith in
    let turned : schedule.turns_of shared_turn jobs_ended has_job c.turns.left Daemon c.turns.self ≡ schedule.turns_of shared_turn jobs_ended has_job (c.turns.left - (c.daemon_leap-leapt.result + 1)) Daemon c.turn.new.self =
    ap (λ (n : ℕ). schedule.turns_of shared_turn jobs_ended has_job n Daemon c.turns.self) (sym split)
    ∙ (leaps.turned (1 + (c.turns.left - (c.daemon_leap-leapt.result + 1)))
    ∙ (turns_less (1 + (c.turns.left - (c.daemon_leap-leapt.result + 1))) Daemon c.daemon_leap-leapt.new.self (omega arith)
    ∙ (ap (λ (n : ℕ). schedule.turns_of shared_turn jobs_ended has_job n Daemon (shared_turn c.daemon_leap-leapt.new.self Daemon)) one
    ∙ ap (schedule.turns_of shared_turn jobs_ended has_job (c.turns.left - (c.daemon_leap-leapt.result + 1)) Daemon) (sym c.turn.ensures)))) in
    (omega (arith, counted), sym turned ∙ c.turns.invariant.1)
