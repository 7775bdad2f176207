use Rattle.std.proofs.Common.{◌-◌, ◌≤◌, length, take}
use Rattle.bound_cli.specs.Stream.{Appended}
use Rattle.bound_cli.proofs.stream.write_all.Given as goal

abbrev pub invariant-writing : goal.invariant-writing
invariant-writing g l = (l.at ≤ length l.text) × (g.K.Sink.faults l.fn.sink ≤ g.K.Sink.faults l.sink) × Appended (g.K.Sink.held l.fn.sink) (g.K.Sink.held l.sink) (take l.at l.text)

abbrev pub decreases-writing : goal.decreases-writing
decreases-writing g l = length l.text - l.at
