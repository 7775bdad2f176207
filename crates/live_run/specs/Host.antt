-- What the host's worker begins with and what it leaves.
use Rattle.std.specs.Prelude.{◌≡◌, ◌≤◌, List, length, drop}
use Rattle.clock_gate.specs.declared.limits.TheConstants.{MOST_HOST_ROWS}
use Rattle.clock_gate.specs.declared.trace.HostRow.{HostRow}
use Rattle.clock_gate.specs.Trace.{IsHostOf}
use Rattle.vmclock_page.specs.Rows.{ArePageRows}
use Rattle.segment_views.specs.Views.{SeatView}
use Rattle.segment_views.specs.Seats.{first_host_part}
use Rattle.live_report.specs.LiveRun.{part_after_rows}

-- these are the rows of the table's host, and the first of them is done
pub record HostBegins (rows : List HostRow) (v : SeatView) : Type 0 where
  pub few : length rows ≤ MOST_HOST_ROWS
  pub host : IsHostOf v.setup.rows rows
  pub pages : ArePageRows v.setup.page rows
  pub clock : v.setup.rows ≤ MOST_HOST_ROWS
  pub first : v.host_part ≡ first_host_part v.setup

-- all of them are done, and nothing else of the view is changed
abbrev pub HostEnds : List HostRow → SeatView → SeatView → Type 0
HostEnds rows v w = w ≡ record v { host_part = part_after_rows (drop 1 rows) v.host_part }
