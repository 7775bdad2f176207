use Rattle.std.proofs.Common.{◌≡◌, [], List, vec_len}
use Rattle.clock_gate.specs.declared.trace.CallRow.{CallRow}
use Rattle.live_run.specs.Dealt.{ArePlanned}
use Rattle.live_run.proofs.Planning.{HaveRoom}
use Rattle.live_run.proofs.workers.with_room.Given as goal

abbrev pub invariant-plans : goal.invariant-plans
invariant-plans l = record {
  len : vec_len l.plans ≡ vec_len l.fn.plans;
  planned : (rows : List CallRow) → ArePlanned rows [] l.fn.plans.items → ArePlanned rows [] l.plans.items;
  room : HaveRoom l.place l.plans.items;
}
