use Rattle.std.proofs.Common.{◌≡◌, true}
use Rattle.writer_reopen.specs.PollMachine.{DaemonFits}
use Rattle.now_calls.proofs.calls.published.Given as goal

abbrev pub invariant-polling : goal.invariant-polling
invariant-polling l = record {
  table : l.daemon.table ≡ l.fn.daemon.table;
  is_open : l.daemon.is_open ≡ true;
  setup : l.daemon.view.setup ≡ l.fn.daemon.view.setup;
  support : l.state.support ≡ l.fn.support;
  fits : DaemonFits l.state;
}
