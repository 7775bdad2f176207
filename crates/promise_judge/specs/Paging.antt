-- What was seen of the pages among the host's first rows.
use Rattle.std.specs.Prelude.{◌≡◌, ℕ, ◌+◌, ◌<◌, ◌≤◌, true, false, List, length, take, Option}
use Rattle.std.specs.Ordering.{nat_cmp}
use Rattle.std.specs.BTreeSet as set
use Rattle.clock_gate.specs.declared.trace.HostRow.{HostRow}
use Rattle.promise_judge.specs.declared.paging.MarkersSeen.{MarkersSeen}
use Rattle.promise_judge.specs.declared.paging.PageTables.{PageTables}
use Rattle.promise_judge.specs.Markers.{marker_after, has_stood, changes_at, repeats_at}
use Rattle.promise_judge.specs.Searching.{IsLast, AreLast}

-- the last marker of these rows, and all their markers
pub record AreSeen (start : Option ℕ) (rows : List HostRow) (markers : MarkersSeen) : Type 0 where
  pub last : markers.last ≡ marker_after start rows
  pub all : (marker : ℕ) → set.contains nat_cmp markers.all marker ≡ has_stood start rows marker

-- the tables of the pages, over the first so many rows
pub record ArePageTables (start : Option ℕ) (host : List HostRow) (done : ℕ) (tables : PageTables) : Type 0 where
  pub count : tables.done ≡ done
  pub markers : AreSeen start (take done host) tables.markers
  -- to each position the last row that changed the marker
  pub changed : AreLast (changes_at start host) done tables.changed.items
  pub latest : IsLast (changes_at start host) done tables.latest
  -- the first row that brought back a marker, past the end where none did so far
  pub repeat_low : 1 ≤ tables.repeat
  pub repeat_high : tables.repeat ≤ length host + 1
  pub repeat_passes : tables.repeat < length host + 1 → repeats_at start host tables.repeat ≡ true
  pub repeat_fails : (k : ℕ) → 1 ≤ k → k ≤ done → k < tables.repeat → repeats_at start host k ≡ false
