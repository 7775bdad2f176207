use Rattle.std.proofs.Common.{◌≡◌, ◌≤◌, length, take}
use Rattle.promise_judge.specs.Markers.{has_stood}
use Rattle.promise_judge.proofs.markers.has_stood.Given as goal

abbrev pub invariant-back : goal.invariant-back
invariant-back l = (l.left ≤ length l.host) × (has_stood l.start (take l.left l.host) l.marker ≡ has_stood l.start (take l.done l.host) l.marker)

abbrev pub decreases-back : goal.decreases-back
decreases-back l = l.left
