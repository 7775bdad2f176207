use Rattle.std.proofs.Common.{◌≡◌, drop}
use Rattle.bound_cli.specs.Replay.{AreUpTo, counted_all, no_totals}
use Rattle.bound_cli.proofs.totals.totals_of.Given as goal

abbrev pub invariant-counting : goal.invariant-counting
invariant-counting l = (counted_all l.totals (drop l.event-index l.events) ≡ counted_all no_totals l.events) × AreUpTo l.event-index l.totals
