-- The first seat, and how seats are split and joined.
use Rattle.std.specs.Prelude.{◌≡◌, ℕ, ◌+◌, ◌^◌, ◌<◌, ◌≤◌, List, [], ◌∷◌, ◌++◌, length, slice_index, slice_set, true, false, Option, Some, None, Ok, IfSome}
use mathlib.Core.Option.{some}
use lib.ListN.{get_elem?}
use Rattle.segment_layout.specs.declared.start.Start.{Start}
use Rattle.segment_layout.specs.Image.{image_of}
use Rattle.vmclock_page.specs.HostRows.{StartsEven}
use Rattle.segment_views.specs.declared.setup.Setup.{Setup}
use Rattle.segment_views.specs.Views.{Begins, DaemonPart, HostPart, Seen, SeatView, no_update, no_host_part, no_daemon_part, nothing_seen, no_setup, first_segment, point_of, page_point_of}
use Rattle.segment_views.specs.Rule.{SharedState, MeetsRule}
use Rattle.segment_views.specs.Steps.{ViewAfter}

-- all that there is to see
abbrev pub all_of : DaemonPart → HostPart → Seen
all_of s w = record { history = s.segment.history; point = point_of s.segment; rows = w.rows; pages = w.pages; page_point = page_point_of w }

-- a seat that has seen this, and is neither the host's nor the daemon's
abbrev pub part : Setup → Seen → SeatView
part c s = record { seated = true; setup = c; is_host = false; is_daemon = false; host_part = no_host_part; daemon_part = no_daemon_part; seen = s; taught = nothing_seen; calls = []; before = s; steps = [] }

abbrev pub pages_at_first : Option (List ℕ) → List (List ℕ)
pages_at_first None = []
pages_at_first (Some page) = page ∷ []

abbrev pub first_host_part : Setup → HostPart
first_host_part c = record { rows = 1; pages = pages_at_first c.page; stores = 0; hand = [] }

abbrev pub first_daemon_part : Setup → DaemonPart
first_daemon_part c = record { segment = first_segment c; stored_magic = false; hand = no_update }

-- the first seat is the host's, the daemon's and a client's
abbrev pub opener : Setup → SeatView
opener c = record (part c (all_of (first_daemon_part c) (first_host_part c))) { is_host = true; is_daemon = true; host_part = first_host_part c; daemon_part = first_daemon_part c }

abbrev pub opening_state : Setup → SharedState
opening_state c = record { daemon_part = first_daemon_part c; host_part = first_host_part c; host = 0; daemon = 0 }

-- words 10 to 22 of a page, or 0
abbrev pub page_word : Option (List ℕ) → ℕ → ℕ
page_word None i = 0
page_word (Some page) i = slice_index page i

-- the words that a table begins with
pub record IsOpening (c : Setup) (words : List ℕ) : Type 0 where
  pub wide : length words ≡ 24
  pub image : (i : ℕ) → i < 10 → slice_index words i ≡ slice_index c.image i
  pub page : (i : ℕ) → i < 13 → slice_index words (i + 10) ≡ page_word c.page i
  pub row : slice_index words 23 ≡ 1

-- the image of a table is admitted, its start page has an even count, and it has rows
pub record IsSetup (c : Setup) : Type 0 where
  pub ten : length c.image ≡ 10
  pub fits : slice_index c.image 1 < 2 ^ 64
  pub start : Start
  pub admitted : image_of c.layout c.image ≡ Ok start
  pub rows : 1 ≤ c.rows
  pub page : IfSome c.page StartsEven

-- the opening state meets the rule
abbrev pub Opens : Type 0
Opens = (c : Setup) (words : List ℕ) → IsSetup c → IsOpening c words → MeetsRule c (opening_state c) words (opener c ∷ [])

abbrev pub KeepsSplit : (SeatView → Type 0) → (SharedState → ℕ → SharedState) → (SeatView → SeatView) → (SeatView → SeatView) → Type 0
KeepsSplit may state left right =
    (c : Setup) (a : SharedState) (words : List ℕ) (views : List SeatView) (id : ℕ) (v : SeatView) → MeetsRule c a words views → get_elem? views id ≡ some v → may v
    → MeetsRule c (state a (length views)) words (slice_set views id (left v) ++ right v ∷ [])

abbrev pub IsHost : SeatView → Type 0
IsHost v = v.is_host ≡ true

abbrev pub IsDaemon : SeatView → Type 0
IsDaemon v = v.is_daemon ≡ true

abbrev pub IsSeated : SeatView → Type 0
IsSeated v = v.seated ≡ true

abbrev pub host_to : SharedState → ℕ → SharedState
host_to a id = record a { host = id }

abbrev pub daemon_to : SharedState → ℕ → SharedState
daemon_to a id = record a { daemon = id }

abbrev pub state_stays : SharedState → ℕ → SharedState
state_stays a id = a

abbrev pub without_host : SeatView → SeatView
without_host v = record v { is_host = false }

abbrev pub without_daemon : SeatView → SeatView
without_daemon v = record v { is_daemon = false }

abbrev pub whole_view : SeatView → SeatView
whole_view v = v

-- a new client, and a part of a client's seat: what was seen, without the calls
abbrev pub part_of : SeatView → SeatView
part_of v = part v.setup v.seen

-- a part of the daemon's seat, which has seen all that was published
abbrev pub daemon_part : SeatView → SeatView
daemon_part v = part v.setup record v.seen { history = v.daemon_part.segment.history; point = point_of v.daemon_part.segment }

abbrev pub taught_by : SeatView → SeatView → SeatView
taught_by v w = record v { taught = w.seen }

abbrev pub KeepsJoin : (SeatView → SeatView → SeatView) → SeatView → Type 0
KeepsJoin both gone =
    (c : Setup) (a : SharedState) (words : List ℕ) (views : List SeatView) (id : ℕ) (v : SeatView) (other : ℕ) (w : SeatView) → MeetsRule c a words views → get_elem? views id ≡ some v → ¬ (other ≡ id)
    → get_elem? (slice_set views id (both v w)) other ≡ some w → MeetsRule c a words (slice_set (slice_set views id (both v w)) other gone)

-- a seat that was joined into another
abbrev pub spent : SeatView
spent = record (part no_setup nothing_seen) { seated = false }

abbrev pub told_view : ViewAfter
told_view a v found left = v

pub record TellsTaught (v : SeatView) (found left : ℕ) (w : SeatView) : Type 0 where
  pub view : w ≡ v
  pub daemon : v.is_daemon ≡ true → Begins v.taught.history v.daemon_part.segment.history × (v.taught.point ≤ point_of v.daemon_part.segment)
  pub host : v.is_host ≡ true → (v.taught.rows ≤ v.host_part.rows) × Begins v.taught.pages v.host_part.pages × (v.taught.page_point ≤ page_point_of v.host_part)
