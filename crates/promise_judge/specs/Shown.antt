-- What the tables of a finished run say of its rows.
use Rattle.std.specs.Prelude.{◌≡◌, ℕ, ◌+◌, ◌<◌, ◌≤◌, List, length, slice_index}
use Rattle.clock_gate.specs.declared.trace.HostRow.{HostRow}
use Rattle.clock_gate.specs.declared.trace.Trace.{Trace}
use Rattle.promise_judge.specs.declared.tables.Tables.{Tables}
use Rattle.promise_judge.specs.Disruptions.{is_drifting}
use Rattle.promise_judge.specs.Markers.{start_marker, changes_at, repeats_at}
use Rattle.promise_judge.specs.Offsets.{is_untold}
use Rattle.promise_judge.specs.Positions.{is_disrupt_at, position_of}
use Rattle.promise_judge.specs.Searching.{IsNext, AreNext, AreLast}

-- a table tells the host position of each of so many clock rows
pub record ArePositions (host : List HostRow) (count : ℕ) (table : List ℕ) : Type 0 where
  pub sized : length table ≡ count + 1
  pub position : (n : ℕ) → 0 < n → n ≤ count → slice_index table n ≡ position_of host n

pub record ShowsRows (trace : Trace) (tables : Tables) : Type 0 where
  -- to a clock row the next one that tells no truth
  pub untold : AreNext (is_untold trace.clock) 1 (length trace.clock + 1) tables.untold.items
  -- to a clock row, from the second on, the next one that breaks the drift with no disruption since the row before
  pub drifting : AreNext (is_drifting trace.drift trace.clock trace.host 0) 2 (length trace.clock + 1) tables.drifting.items
  -- the host position of a clock row
  pub positions : ArePositions trace.host (length trace.clock) tables.positions.items
  -- to a host position the next disruption, and the last page row that changed the marker
  pub disrupt : AreNext (is_disrupt_at trace.host) 1 (length trace.host + 1) tables.disrupt.items
  pub changed : AreLast (changes_at (start_marker trace.page) trace.host) (length trace.host) tables.changed.items
  -- the first page row that brought back an earlier marker
  pub repeat : IsNext (repeats_at (start_marker trace.page) trace.host) (length trace.host + 1) 1 tables.repeat
