use Rattle.std.proofs.Common.{◌≡◌, ◌≤◌, ◌+◌, ◌-◌, ◌^◌, drop}
use Rattle.std.specs.Prelude.{min}
use Rattle.live_report.specs.Counted.{answers_in}
use Rattle.live_report.proofs.lines.answers_in.Given as goal

abbrev pub invariant-clients : goal.invariant-clients
invariant-clients l =
    (l.count ≤ 2 ^ 64 - 1) × (min (l.count + answers_in (drop l.mine-index l.answers)) (2 ^ 64 - 1) ≡ min (answers_in l.answers) (2 ^ 64 - 1))
