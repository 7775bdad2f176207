use Rattle.std.proofs.Common.{◌≡◌, vec_len}
use Rattle.live_run.proofs.Gathering.{HasGathered}
use Rattle.live_run.proofs.gather.gather.Given as goal

abbrev pub invariant-clients : goal.invariant-clients
invariant-clients l = (vec_len l.workers ≡ vec_len l.fn.workers) × HasGathered l.table l.trace l.place l.workers.items l.gathered
