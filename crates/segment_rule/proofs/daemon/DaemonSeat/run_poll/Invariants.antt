use Rattle.std.proofs.Common.{◌≡◌, false}
use Rattle.writer_reopen.specs.PollMachine.{stage_steps}
use Rattle.segment_rule.specs.Polls.{entry_in}
use Rattle.segment_rule.proofs.Polling.{IsPolling}
use Rattle.segment_rule.proofs.daemon.DaemonSeat.run_poll.Given as goal

abbrev pub invariant-polling : goal.invariant-polling
invariant-polling l = record {
  table : l.self.table ≡ l.fn.self.table;
  shut : l.self.is_open ≡ false;
  polling : IsPolling l.clock l.fn.machine.order l.fn.self.view l.machine l.self.view;
}

abbrev pub decreases-polling : goal.decreases-polling
decreases-polling l = stage_steps l.machine.order l.machine.stage

abbrev pub ghosts-poll_store : goal.ghosts-poll_store
ghosts-poll_store a = record { entry = entry_in a._machine.now }
