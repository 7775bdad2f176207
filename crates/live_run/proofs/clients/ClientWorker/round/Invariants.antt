use Rattle.std.proofs.Common.{◌≡◌, vec_len, false, All}
use Rattle.live_run.specs.Work.{CanTurn}
use Rattle.live_run.proofs.Turns.{Turned, Idle}
use Rattle.live_run.proofs.clients.ClientWorker.round.Given as goal

abbrev pub invariant-clients : goal.invariant-clients
invariant-clients g l = record {
  len : vec_len l.self.clients ≡ vec_len l.fn.self.clients;
  can : All (CanTurn l.table l.clock) l.self.clients.items;
  turned : Turned l.clock l.place l.fn.self.clients.items l.self.clients.items;
  idle : l.busy ≡ false → Idle l.place l.self.clients.items;
}
