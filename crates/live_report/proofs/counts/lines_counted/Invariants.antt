use Rattle.std.proofs.Common.{◌≡◌, drop}
use Rattle.lawful_report.specs.Lawful.{no_counts}
use Rattle.live_report.specs.Counted.{AreUpTo}
use Rattle.live_report.specs.LiveReport.{lines_counted}
use Rattle.live_report.proofs.counts.lines_counted.Given as goal

abbrev pub invariant-counting : goal.invariant-counting
invariant-counting l = (lines_counted l.counts (drop l.line-index l.lines) ≡ lines_counted no_counts l.lines) × AreUpTo l.line-index l.counts
