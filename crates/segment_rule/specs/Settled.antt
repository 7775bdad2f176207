-- What seats know of each other when one has learned what another has seen.
use Rattle.std.specs.Prelude.{◌≡◌, ℕ, ◌-◌, ◌*◌, ◌≤◌, true, length}
use Rattle.segment_views.specs.Views.{Begins, SeatView, point_of, page_point_of}
use Rattle.segment_views.specs.Seats.{taught_by, TellsTaught}
use Rattle.segment_views.specs.Steps.{Tells}

-- a view that is the same but for what it learned last
abbrev pub IsSameBut : SeatView → SeatView → Type 0
IsSameBut v w = w ≡ record v { taught = w.taught }

-- a seat has learned what another one has seen; nothing else of its view is changed. What the daemon's seat learns lies within its history,
-- and what the host's learns within its rows and pages
pub record HasLearned (v other w : SeatView) : Type 0 where
  pub view : w ≡ taught_by v other
  pub daemon : v.is_daemon ≡ true → Begins other.seen.history v.daemon_part.segment.history × (other.seen.point ≤ point_of v.daemon_part.segment)
  pub host : v.is_host ≡ true → (other.seen.rows ≤ v.host_part.rows) × Begins other.seen.pages v.host_part.pages × (other.seen.page_point ≤ page_point_of v.host_part)

-- what a load of word 0 tells that comes after a join
abbrev pub TellsLearned : ℕ → Tells
TellsLearned word = TellsTaught

-- what a client has seen, and what the daemon has seen of the host, lies within what daemon and host have done
pub record AreSettled (host daemon client : SeatView) : Type 0 where
  pub history : Begins client.seen.history daemon.daemon_part.segment.history
  pub point : client.seen.point ≤ point_of daemon.daemon_part.segment
  pub pages : Begins client.seen.pages host.host_part.pages
  pub rows : client.seen.rows ≤ host.host_part.rows
  pub daemon_pages : Begins daemon.seen.pages host.host_part.pages
  pub daemon_rows : daemon.seen.rows ≤ host.host_part.rows
  -- a page row that was seen begun is one of the host's pages, which change the page's point by two each
  pub begun : client.seen.page_point ≤ 2 * (length host.host_part.pages - 1)
  pub daemon_begun : daemon.seen.page_point ≤ 2 * (length host.host_part.pages - 1)
