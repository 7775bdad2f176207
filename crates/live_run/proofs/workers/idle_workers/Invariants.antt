use Rattle.std.proofs.Common.{◌≡◌, [], vec_len}
use Rattle.std.specs.Prelude.{All}
use Rattle.live_run.specs.declared.clients.ClientWorker.{ClientWorker}
use Rattle.live_run.specs.Dealt.{HasPlaces}
use Rattle.live_run.proofs.workers.idle_workers.Given as goal

abbrev pub invariant-workers : goal.invariant-workers
invariant-workers l = record {
  len : vec_len l.workers ≡ l.counter;
  idle : All (λ (w : ClientWorker). w.clients.items ≡ []) l.workers.items;
  places : All (HasPlaces l.clients) l.workers.items;
}
