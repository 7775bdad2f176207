-- What the seats of the shared words know: plain data, with positions that never wrap. Nothing here is stored anywhere; contracts
-- speak of it.
use Rattle.std.specs.Prelude.{◌≡◌, ℕ, ◌+◌, ◌-◌, ◌*◌, ◌/◌, ◌%◌, Bool, true, false, ◌==◌, ◌&&◌, not, if◌then◌else◌, List, [], ◌∷◌, ◌++◌, length, None, slice_index_or, nat_lt}
use Rattle.clock_gate.specs.Acts.{Touch}
use Rattle.generation_word.specs.declared.layout.Layout.{Layout}
use Rattle.generation_word.specs.declared.layout.Layout.TheVariants.{Two}
use Rattle.generation_word.specs.Layout.{period_of}
use Rattle.generation_word.specs.Numbering.{generation_at}
use Rattle.generation_word.specs.Header.{generation_in}
use Rattle.segment_layout.specs.declared.publication.Publication.{Publication}
use Rattle.segment_layout.specs.History.{point}
use Rattle.segment_layout.specs.Words.{flag_of}
use Rattle.vmclock_page.specs.Host.{count_of}
use Rattle.segment_run.specs.SegmentRun.{SegmentRun, abstract_of, segment_start, no_publication}
use Rattle.segment_views.specs.declared.setup.Setup.{Setup}

-- the first list is a prefix of the second
pub record Begins {A : Type 0} (xs ys : List A) : Type 0 where
  pub rest : List A
  pub whole : xs ++ rest ≡ ys

-- one step of a call: the word that it touched, and what it showed: of word 1 a point of the segment, of word 11 a point of the
-- page, of word 23 a row of the clock, of a store the segment's point after it, else 0
pub record Step : Type 0 where
  pub touch : Touch
  pub shown : ℕ

-- the update that the daemon has in hand: this publication, of which so many stores are made, or the move of an old record;
-- without stores and move there is none
pub record UpdateInHand : Type 0 where
  pub publication : Publication
  pub stores : ℕ
  pub moves : Bool

-- what the daemon alone changes: the segment, whether it has stored the magic itself, and the update in hand
pub record DaemonPart : Type 0 where
  pub segment : SegmentRun
  pub stored_magic : Bool
  pub hand : UpdateInHand

-- what the host alone changes: how many rows of the clock are done, the pages (the start page first, none without a page),
-- and of a page row in hand the stores that are made, and its words
pub record HostPart : Type 0 where
  pub rows : ℕ
  pub pages : List (List ℕ)
  pub stores : ℕ
  pub hand : List ℕ

-- what a seat has seen: a prefix of the history with the segment's point there, the last row, and a prefix of the pages with the
-- page's point there
pub record Seen : Type 0 where
  pub history : List Publication
  pub point : ℕ
  pub rows : ℕ
  pub pages : List (List ℕ)
  pub page_point : ℕ

-- the view of a seat: what the table was told (unless the seat was joined away), its roles and what it owns by them, what it has
-- seen, what a part that was joined into it had seen, its calls before the last one, and of that one what had been seen when it
-- began, and its steps
pub record SeatView : Type 0 where
  pub seated : Bool
  pub setup : Setup
  pub is_host : Bool
  pub is_daemon : Bool
  pub host_part : HostPart
  pub daemon_part : DaemonPart
  pub seen : Seen
  pub taught : Seen
  pub calls : List (List Step)
  pub before : Seen
  pub steps : List Step

abbrev pub no_update : UpdateInHand
no_update = record { publication = no_publication; stores = 0; moves = false }

abbrev pub no_host_part : HostPart
no_host_part = record { rows = 0; pages = []; stores = 0; hand = [] }

abbrev pub no_daemon_part : DaemonPart
no_daemon_part = record {
  segment = record { layout = Two; image = []; base = 0; position = 0; is_writing = false; is_headed = false; history = []; begun = [] };
  stored_magic = false;
  hand = no_update;
}

abbrev pub nothing_seen : Seen
nothing_seen = record { history = []; point = 0; rows = 0; pages = []; page_point = 0 }

abbrev pub no_setup : Setup
no_setup = record { layout = Two; image = []; page = None; rows = 0; clients = 0 }

abbrev pub no_view : SeatView
no_view = record { seated = false; setup = no_setup; is_host = false; is_daemon = false; host_part = no_host_part; daemon_part = no_daemon_part; seen = nothing_seen; taught = nothing_seen; calls = []; before = nothing_seen; steps = [] }

-- ---- points

-- the segment's point: twice its position, and one more while an update is open
abbrev pub point_of : SegmentRun → ℕ
point_of segment = point (abstract_of segment)

-- the point after a store: word 1 raises it by one where its generation is odd at an even point, or even at an odd one
abbrev pub point_after : (point word value : ℕ) → ℕ
point_after point word value = if word == 1 && not (generation_in value % 2 == point % 2) then point + 1 else point

-- the page's point: twice the pages after the start page, and one more while the next is written
abbrev pub page_point_of : HostPart → ℕ
page_point_of w = 2 * (length w.pages - 1) + flag_of (nat_lt 0 w.stores)

-- the generation that word 1 has at a point
abbrev pub number_of_point : Layout → ℕ → ℕ
number_of_point layout p = generation_at (period_of layout) (p / 2) + p % 2

-- the segment that the image begins, and the position just before its first entry
abbrev pub first_segment : Setup → SegmentRun
first_segment s = segment_start s.layout s.image (count_of s.page)

abbrev pub base_of : Setup → ℕ
base_of s = (first_segment s).base

-- the entry of a history at a position
abbrev pub entry_at : Setup → List Publication → ℕ → Publication
entry_at s history position = slice_index_or history (position - base_of s - 1) no_publication

-- ---- the tries of a call, by its steps

-- a try to read the segment: the point that the last load of word 1 showed, what it loaded, and the loads since, with the number
-- of each word
pub record SegmentTry : Type 0 where
  pub shown : ℕ
  pub header : ℕ
  pub loads : List (ℕ × ℕ)

abbrev pub no_segment_try : SegmentTry
no_segment_try = record { shown = 0; header = 0; loads = [] }

abbrev pub with_load : SegmentTry → ℕ → ℕ → SegmentTry
with_load t word value = record t { loads = t.loads ++ (word, value) ∷ [] }

abbrev pub after_load : SegmentTry → ℕ → ℕ → ℕ → SegmentTry
after_load t word value shown = if word == 1 then record { shown = shown; header = value; loads = [] } else with_load t word value

abbrev pub after_step : SegmentTry → Step → SegmentTry
after_step t s = if s.touch.stored then t else after_load t s.touch.word s.touch.value s.shown

-- the try in hand after these steps
abbrev pub segment_try_after : SegmentTry → List Step → SegmentTry
segment_try_after t [] = t
segment_try_after t (s ∷ steps) = segment_try_after (after_step t s) steps

-- a try to read the page: the point that the last load of word 11 showed, what it loaded, and the marker loaded since
pub record PageTry : Type 0 where
  pub shown : ℕ
  pub word : ℕ
  pub marker : ℕ
  pub has_marker : Bool

abbrev pub no_page_try : PageTry
no_page_try = record { shown = 0; word = 0; marker = 0; has_marker = false }

abbrev pub page_after_load : PageTry → ℕ → ℕ → ℕ → PageTry
page_after_load t word value shown =
    if word == 11 then record { shown = shown; word = value; marker = 0; has_marker = false }
    else if word == 12 then record t { marker = value; has_marker = true }
    else t

abbrev pub page_after_step : PageTry → Step → PageTry
page_after_step t s = if s.touch.stored then t else page_after_load t s.touch.word s.touch.value s.shown

abbrev pub page_try_after : PageTry → List Step → PageTry
page_try_after t [] = t
page_try_after t (s ∷ steps) = page_try_after (page_after_step t s) steps

abbrev pub segment_try_of : SeatView → SegmentTry
segment_try_of v = segment_try_after no_segment_try v.steps

abbrev pub page_try_of : SeatView → PageTry
page_try_of v = page_try_after no_page_try v.steps
