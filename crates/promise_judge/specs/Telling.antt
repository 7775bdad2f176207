-- What a run tells of the places of a claim, and how a claim fits the rows. Host positions count the host rows that are finished.
use Rattle.std.specs.Prelude.{◌≡◌, ℕ, ◌+◌, ◌<◌, ◌≤◌, List, length, take}
use Rattle.clock_gate.specs.Trace.{clock_numbers, IsHostOf}
use Rattle.clock_gate.specs.declared.trace.HostRow.{HostRow}
use Rattle.clock_gate.specs.declared.trace.Trace.{Trace}
use Rattle.promise_judge.specs.declared.claim.Claim.{Claim}
use Rattle.promise_judge.specs.Positions.{position_of}

-- the clock row that is loaded at a host position: the last one that the host has come to
abbrev pub clock_at : List HostRow → ℕ → ℕ
clock_at host p = length (clock_numbers (take p host))

-- what a run tells of a claim, where the base poll loaded the clock after its reply at host position `replied_at`, and the client
-- its own clock row at host position `clocked_at`
pub record IsTold (trace : Trace) (claim : Claim) (replied_at clocked_at : ℕ) : Type 0 where
  -- the loads of the base poll: its marker, and later its second clock row
  pub second : claim.second ≡ clock_at trace.host replied_at
  pub marked : claim.marked_at ≤ replied_at
  -- those of the client, later: its clock row, and then its marker
  pub later : replied_at ≤ clocked_at
  pub row : claim.row ≡ clock_at trace.host clocked_at
  pub loads : clocked_at ≤ claim.mark_at
  -- the host begins with a clock row in place, and has only so many rows
  pub begun : 0 < replied_at
  pub done : claim.mark_at ≤ length trace.host

-- a claim's numbers are those of rows, in their order
pub record FitsRows (trace : Trace) (claim : Claim) : Type 0 where
  pub second_least : 0 < claim.second
  pub second_most : claim.second ≤ claim.row
  pub row_most : claim.row ≤ length trace.clock
  pub marked_at_most : claim.marked_at ≤ length trace.host
  pub mark_at_most : claim.mark_at ≤ length trace.host
  -- the clock row after the base poll's second one came after the poll's marker load
  pub next_later : claim.second < length trace.clock → claim.marked_at < position_of trace.host (claim.second + 1)
  -- clock rows stand among the host's rows in their order
  pub positions_most : (n : ℕ) → 0 < n → n ≤ length trace.clock → position_of trace.host n ≤ length trace.host
  pub positions_rise : (n : ℕ) → 0 < n → n < length trace.clock → position_of trace.host n < position_of trace.host (n + 1)

-- what a run over lawful rows tells of a claim is that it fits them
abbrev pub ToldClaimsFit : Type 0
ToldClaimsFit =
    (trace : Trace) (claim : Claim) (replied_at clocked_at : ℕ)
    → IsHostOf (length trace.clock) trace.host → IsTold trace claim replied_at clocked_at → FitsRows trace claim
