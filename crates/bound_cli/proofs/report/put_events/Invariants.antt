use Rattle.std.proofs.Common.{◌≡◌, ◌++◌, drop}
use Rattle.std.specs.Prelude.{vec_items}
use Rattle.bound_cli.specs.Replay.{lines_of}
use Rattle.bound_cli.proofs.report.put_events.Given as goal

abbrev pub invariant-events : goal.invariant-events
invariant-events l = vec_items l.text ++ lines_of l.fn.times l.fn.start (drop l.event-index l.events) ≡ vec_items l.fn.text ++ lines_of l.fn.times l.fn.start l.events
