-- A claim without a fault has the truth of its clock row in its interval.
use Rattle.std.specs.Prelude.{◌≡◌, ℕ, ◌+◌, ◌-◌, ◌*◌, ◌≤◌, take, Option, Some, None, pos, ◌+ℤ◌, ◌-ℤ◌, ◌≤ℤ◌}
use Rattle.clock_gate.specs.ClockRow.{row_at}
use Rattle.clock_gate.specs.Trace.{NeverFalls}
use Rattle.clock_gate.specs.declared.trace.Trace.{Trace}
use Rattle.promise_judge.specs.declared.claim.Claim.{Claim}
use Rattle.promise_judge.specs.Markers.{start_marker, marker_after}
use Rattle.promise_judge.specs.Promises.{broken_promise_of}
use Rattle.promise_judge.specs.Telling.{FitsRows}

-- the marker that the page shows at a host position
abbrev pub marker_at : Trace → ℕ → Option ℕ
marker_at trace p = marker_after (start_marker trace.page) (take p trace.host)

-- what a run tells of a time with this as-of and half width, in nanoseconds, whose status is synchronized or free running
pub record IsTrusted (trace : Trace) (claim : Claim) (as_of half : ℕ) : Type 0 where
  -- the half width covers the bound, and the drift since as-of, in parts per billion
  pub covers : claim.bound * 1000000000 + ((row_at trace.clock claim.row).mono - as_of) * trace.drift ≤ half * 1000000000
  -- the base poll's first clock row is its as-of, and its second one came later
  pub since : as_of ≤ (row_at trace.clock claim.second).mono
  -- the client saw the marker that the base poll saw
  pub same_marker : marker_at trace claim.mark_at ≡ marker_at trace claim.marked_at

-- the truth of the clock row lies within half a width of its real time: from the earliest to the latest of the interval
pub record IsContained (trace : Trace) (claim : Claim) (half : ℕ) : Type 0 where
  pub truth : ℕ
  pub told : (row_at trace.clock claim.row).truth ≡ Some truth
  pub earliest : (pos (row_at trace.clock claim.row).real -ℤ pos half) ≤ℤ pos truth
  pub latest : pos truth ≤ℤ (pos (row_at trace.clock claim.row).real +ℤ pos half)

abbrev pub KeptClaimsContain : Type 0
KeptClaimsContain =
    (trace : Trace) (claim : Claim) (as_of half : ℕ)
    → NeverFalls trace.clock → FitsRows trace claim → IsTrusted trace claim as_of half → broken_promise_of trace claim ≡ None → IsContained trace claim half
