use Rattle.std.proofs.Common.{◌≡◌, ◌≤◌, length, take}
use Rattle.promise_judge.specs.Markers.{marker_after}
use Rattle.promise_judge.proofs.markers.marker_after.Given as goal

abbrev pub invariant-back : goal.invariant-back
invariant-back l = (l.left ≤ length l.host) × (marker_after l.start (take l.left l.host) ≡ marker_after l.start (take l.done l.host))

abbrev pub decreases-back : goal.decreases-back
decreases-back l = l.left
