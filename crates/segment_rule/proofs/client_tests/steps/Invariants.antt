use Rattle.std.proofs.Common.{◌≡◌, true}
use Rattle.interval_now.specs.Call.{Agrees}
use Rattle.segment_rule.proofs.client_tests.steps.Given as goal

abbrev pub invariant-steps : goal.invariant-steps
invariant-steps l = record {
  table : l.client.table ≡ l.fn.client.table;
  setup : l.client.view.setup ≡ l.fn.client.view.setup;
  hand : l.client.in_hand ≡ true;
  reading : Agrees l.clock l.client.reading;
}
