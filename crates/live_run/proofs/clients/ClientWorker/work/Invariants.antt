use Rattle.std.proofs.Common.{◌≡◌, vec_len, All}
use Rattle.live_run.specs.Work.{CanTurn}
use Rattle.live_run.proofs.Turns.{Turned}
use Rattle.live_run.proofs.clients.ClientWorker.work.Given as goal

abbrev pub invariant-rounds : goal.invariant-rounds
invariant-rounds g l = record {
  len : vec_len l.self.clients ≡ vec_len l.fn.self.clients;
  can : All (CanTurn l.table l.clock) l.self.clients.items;
  turned : Turned l.clock (vec_len l.fn.self.clients) l.fn.self.clients.items l.self.clients.items;
}
