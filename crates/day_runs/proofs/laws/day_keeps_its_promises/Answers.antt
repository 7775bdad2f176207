use Rattle.day_runs.proofs.Kept.{day_keeps}
use Rattle.day_runs.proofs.laws.day_keeps_its_promises.Goals as goal

pub returns : goal.returns
returns c = record { kept = day_keeps }
