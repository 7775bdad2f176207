use Rattle.std.proofs.Common.{◌≡◌, false}
use Rattle.writer_reopen.specs.Opening.{opening_left}
use Rattle.segment_rule.proofs.Opening.{IsUnderWay}
use Rattle.segment_rule.proofs.daemon.DaemonSeat.run_opener.Given as goal

abbrev pub invariant-opening : goal.invariant-opening
invariant-opening l = record { table : l.self.table ≡ l.fn.self.table; shut : l.self.is_open ≡ false; under : IsUnderWay l.fn.self.view l.machine l.self.view }

abbrev pub decreases-opening : goal.decreases-opening
decreases-opening l = opening_left l.machine
