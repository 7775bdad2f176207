use Rattle.live_run.proofs.Planning.{none_known}
use Rattle.live_run.proofs.workers.bare_plans.Goals as goal

pub returns-clause-planned : goal.returns-clause-planned
returns-clause-planned c = λ rows. none_known rows c.clients.plans.items c.clients.invariant.1
