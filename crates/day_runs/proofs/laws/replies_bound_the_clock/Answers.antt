use Rattle.day_runs.proofs.Kept.{replies_bound}
use Rattle.day_runs.proofs.laws.replies_bound_the_clock.Goals as goal

pub returns : goal.returns
returns c = record { reached = replies_bound }
