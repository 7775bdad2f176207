use Rattle.std.proofs.Common.{◌≡◌, ◌≤◌}
use Rattle.clock_gate.specs.declared.trace.Party.TheVariants.{Daemon}
use Rattle.abstract_run.specs.Schedule as schedule
use Rattle.step_core.specs.Shared.{shared_turn, jobs_ended, has_job}
use Rattle.step_core.proofs.world.World.daemon_turns.Given as goal

abbrev pub invariant-turns : goal.invariant-turns
invariant-turns l =
    (l.left ≤ l.count)
    × (schedule.turns_of shared_turn jobs_ended has_job l.left Daemon l.self ≡ schedule.turns_of shared_turn jobs_ended has_job l.fn.count Daemon l.fn.self)

abbrev pub decreases-turns : goal.decreases-turns
decreases-turns l = l.left
