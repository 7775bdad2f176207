use Rattle.std.proofs.Common.{◌≡◌, ◌-◌, ◌≤◌, drop}
use Rattle.live_report.specs.declared.limits.TheConstants.{MOST_LINES}
use Rattle.live_report.specs.Counted.{AreUpTo, answers_in, clients_counted}
use Rattle.live_report.proofs.counts.clients_counted.Given as goal

abbrev pub invariant-clients : goal.invariant-clients
invariant-clients l = record {
  counted : clients_counted l.counts (drop l.mine-index l.answers) ≡ clients_counted l.fn.counts l.answers;
  few : answers_in (drop l.mine-index l.answers) ≤ MOST_LINES;
  room : AreUpTo (MOST_LINES - answers_in (drop l.mine-index l.answers)) l.counts;
}
