use Rattle.std.proofs.Common.{◌≡◌, vec_len}
use Rattle.std.specs.Prelude.{All}
use Rattle.live_run.proofs.Planning.{IsBare}
use Rattle.live_run.proofs.workers.bare_plans.Given as goal

abbrev pub invariant-clients : goal.invariant-clients
invariant-clients l = (vec_len l.plans ≡ l.counter) × All IsBare l.plans.items
