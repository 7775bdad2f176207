use Rattle.std.proofs.Common.{◌+◌, ◌-◌, ◌<◌, ◌≤◌, length, vec_len}
use Rattle.clock_gate.specs.declared.limits.TheConstants.{INPUT_LIMIT}
use Rattle.bound_cli.specs.Stream.{Taken}
use Rattle.bound_cli.proofs.stream.read_through.Given as goal

abbrev pub invariant-reading : goal.invariant-reading
invariant-reading g l = (0 < length l.block) × (g.S.Source.faults l.fn.source ≤ g.S.Source.faults l.source) × Taken (g.S.Source.left l.fn.source) (g.S.Source.left l.source) l.bytes.items

abbrev pub decreases-reading : goal.decreases-reading
decreases-reading g l = INPUT_LIMIT + 1 - vec_len l.bytes
