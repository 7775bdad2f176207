use Rattle.std.proofs.Common.{◌≡◌, ◌+◌, vec_len, false, true}
use Rattle.std.specs.Prelude.{All}
use Rattle.live_report.specs.ClientCalls.{client_first}
use Rattle.live_report.specs.LiveRun.{setup_of}
use Rattle.live_run.specs.Work.{IsWorker}
use Rattle.live_run.specs.Dealt.{ArePlans, HasPlaces}
use Rattle.live_run.proofs.Dealing.{DealtFrom}
use Rattle.live_run.proofs.workers.dealt.Given as goal

abbrev pub invariant-dealing : goal.invariant-dealing
invariant-dealing l = record {
  table : l.first.table ≡ l.table.id;
  view : l.first.view ≡ client_first (setup_of l.trace);
  first : (l.first.is_first ≡ true) × (l.first.splits + 1 ≡ l.counter) × (l.first.in_hand ≡ false);
  plans : ArePlans l.trace.calls 1 l.plans.items;
  left : vec_len l.plans + l.counter ≡ l.clients + 1;
  len : vec_len l.workers ≡ vec_len l.fn.workers;
  places : All (HasPlaces (vec_len l.plans)) l.workers.items;
  work : All (IsWorker l.table l.trace.clock) l.workers.items;
  dealt : DealtFrom l.table l.trace (vec_len l.plans) l.workers.items;
}
