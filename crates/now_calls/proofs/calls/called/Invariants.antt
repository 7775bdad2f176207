use Rattle.std.proofs.Common.{◌≡◌, false}
use Rattle.now_calls.proofs.calls.called.Given as goal

abbrev pub invariant-calling : goal.invariant-calling
invariant-calling l = record {
  table : l.client.table ≡ l.fn.client.table;
  setup : l.client.view.setup ≡ l.fn.client.view.setup;
  hand : l.client.in_hand ≡ false;
}
