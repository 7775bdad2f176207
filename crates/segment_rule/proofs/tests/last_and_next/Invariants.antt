use Rattle.std.proofs.Common.{◌≡◌, true, false}
use Rattle.writer_reopen.specs.PollMachine.{DaemonFits}
use Rattle.segment_rule.proofs.tests.last_and_next.Given as goal

abbrev pub invariant-polls : goal.invariant-polls
invariant-polls l = record {
  table : l.seat.table ≡ l.fn.seat.table;
  is_open : l.seat.is_open ≡ true;
  setup : l.seat.view.setup ≡ l.fn.seat.view.setup;
  support : l.state.support ≡ false;
  fits : DaemonFits l.state;
}
