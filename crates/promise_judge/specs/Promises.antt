-- The seven tests of a claim. Each tells what a fault of it names, where it finds one. They are this project's own.
use Rattle.std.specs.Prelude.{ℕ, ◌+◌, ◌==◌, Bool, nat_lt, nat_le, if◌then◌else◌, List, Option, Some, None}
use Rattle.clock_gate.specs.ClockRow.{row_at}
use Rattle.clock_gate.specs.declared.clock_row.ClockRow.{ClockRow}
use Rattle.clock_gate.specs.declared.trace.HostRow.{HostRow}
use Rattle.clock_gate.specs.declared.trace.Trace.{Trace}
use Rattle.generation_word.specs.Layout.{period_of}
use Rattle.promise_judge.specs.declared.claim.Claim.{Claim}
use Rattle.promise_judge.specs.declared.fault.Fault.{Fault}
use Rattle.promise_judge.specs.declared.fault.Why.{Why}
use Rattle.promise_judge.specs.declared.fault.Why.TheVariants.{Wrap, Image, Untold, Bound, Drift, Mark, Repeat}
use Rattle.promise_judge.specs.Disruptions.{is_drifting, is_hidden}
use Rattle.promise_judge.specs.Firsts.{first_in}
use Rattle.promise_judge.specs.Markers.{start_marker, repeats_at}
use Rattle.promise_judge.specs.Offsets.{is_untold, offset_size}
use Rattle.promise_judge.specs.Positions.{position_of}

abbrev pub where_found : Bool → ℕ → Option ℕ
where_found found at = if found then Some at else None

-- as many publications as a period lie inside the read
abbrev pub wrap_of : (period : ℕ) → Claim → Option ℕ
wrap_of period claim = where_found (nat_le period claim.inside) claim.inside

-- there is no base poll
abbrev pub on_image_of : Claim → Option ℕ
on_image_of claim = where_found (claim.base == 0) 0

-- the first row from the base poll's second clock row to the claim's that tells no truth
abbrev pub untold_of : List ClockRow → Claim → Option ℕ
untold_of clock claim = first_in (is_untold clock) claim.second (claim.row + 1)

-- the base poll's second clock row, where its offset exceeds the bound
abbrev pub bound_of : List ClockRow → Claim → Option ℕ
bound_of clock claim = where_found (nat_lt claim.bound (offset_size (row_at clock claim.second))) claim.second

-- the later row of the first pair of neighbouring rows from there to the claim's that breaks the drift with no excuse
abbrev pub drift_of : (drift : ℕ) → List ClockRow → List HostRow → Claim → Option ℕ
drift_of drift clock host claim = first_in (is_drifting drift clock host claim.marked_at) (claim.second + 1) (claim.row + 1)

-- the first hidden disruption after the base poll's marker load and before the claim's clock row
abbrev pub mark_of : Option ℕ → List HostRow → Claim → Option ℕ
mark_of start host claim = first_in (is_hidden start host claim.mark_at) (claim.marked_at + 1) (position_of host claim.row)

-- the first page row finished at the client's marker load that brings back an earlier marker
abbrev pub repeat_of : Option ℕ → List HostRow → Claim → Option ℕ
repeat_of start host claim = first_in (repeats_at start host) 1 (claim.mark_at + 1)

abbrev pub fault_or : Why → Option ℕ → Option Fault → Option Fault
fault_or why None later = later
fault_or why (Some at) later = Some (record { why = why; at = at })

-- the first test that finds a fault, with what it names
unfoldable pub broken_promise_of : Trace → Claim → Option Fault
broken_promise_of trace claim =
    fault_or Wrap (wrap_of (period_of trace.layout) claim) (
    fault_or Image (on_image_of claim) (
    fault_or Untold (untold_of trace.clock claim) (
    fault_or Bound (bound_of trace.clock claim) (
    fault_or Drift (drift_of trace.drift trace.clock trace.host claim) (
    fault_or Mark (mark_of (start_marker trace.page) trace.host claim) (
    fault_or Repeat (repeat_of (start_marker trace.page) trace.host claim) None))))))
