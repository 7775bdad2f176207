-- What the steps of a call show, whatever machine made them.
use Rattle.std.specs.Prelude.{◌≡◌, ◌⊎◌, ℕ, ◌-◌, ◌*◌, ◌/◌, ◌<◌, ◌≤◌, length, slice_index_or, ◌==◌, ◌&&◌, ◌||◌, not, Bool, true, false, List, [], ◌∷◌, ◌++◌, if◌then◌else◌}
use Rattle.clock_gate.specs.Acts.{Touch}
use Rattle.segment_layout.specs.declared.publication.Publication.{Publication}
use Rattle.vmclock_page.specs.Host.{count_of}
use Rattle.vmclock_page.specs.Counting.{page_number_of}
use Rattle.segment_run.specs.SegmentRun.{header_shown, no_publication}
use Rattle.segment_run.specs.ShowsSegment.{IsSegment, IsSegmentLater}
use Rattle.segment_views.specs.declared.setup.Setup.{Setup}
use Rattle.segment_views.specs.Views.{Begins, Step, SeatView, SegmentTry, PageTry, no_segment_try, no_page_try, point_of, base_of, point_after, after_step, page_after_step}
use Rattle.segment_views.specs.Rule.{count_word_at}
use Rattle.segment_views.specs.Steps.{loaded, stored, calls_at, before_at, steps_at, segment_try_at, page_try_at, ShowsPoint, IsWholeRead, IsSteady, IsWholePageRead}

abbrev pub touches_of : List Step → List Touch
touches_of [] = []
touches_of (s ∷ steps) = s.touch ∷ touches_of steps

abbrev pub is_load_of : ℕ → Step → Bool
is_load_of i s = (s.touch.word == i) && not s.touch.stored

abbrev pub When : Bool → Type 0 → Type 0
When true P = P
When false P = Unit {0}

abbrev pub next_shown : Bool → ℕ → ℕ → ℕ
next_shown true old new = new
next_shown false old new = old

-- the last thing that a load of the word i showed, at first `from`
abbrev pub last_shown : ℕ → ℕ → List Step → ℕ
last_shown i from [] = from
last_shown i from (s ∷ steps) = last_shown i (next_shown (is_load_of i s) from s.shown) steps

-- each load of the word i shows what its value stands for, and no less than the one before
abbrev pub Rises : ℕ → (ℕ → ℕ → Type 0) → ℕ → List Step → Type 0
Rises i Stands from [] = Unit {0}
Rises i Stands from (s ∷ steps) = When (is_load_of i s) (Stands s.touch.value s.shown × (from ≤ s.shown)) × Rises i Stands (next_shown (is_load_of i s) from s.shown) steps

-- what a step does to the last thing shown of its kind
pub record Moves (i : ℕ) (Stands : ℕ → ℕ → Type 0) (s : Step) (old new : ℕ) : Type 0 where
  pub load : is_load_of i s ≡ true → Stands s.touch.value s.shown × (old ≤ s.shown) × (new ≡ s.shown)
  pub other : is_load_of i s ≡ false → new ≡ old

-- the steps rise from one thing shown to another
pub record Climbs (i : ℕ) (Stands : ℕ → ℕ → Type 0) (from : ℕ) (steps : List Step) (to : ℕ) : Type 0 where
  pub rises : Rises i Stands from steps
  pub last : last_shown i from steps ≡ to

-- each load of word 1 ends a try of which `IsWholeRead` holds
abbrev pub SoundFrom : Setup → List Publication → SegmentTry → List Step → Type 0
SoundFrom c history t [] = Unit {0}
SoundFrom c history t (s ∷ steps) = When (is_load_of 1 s) (IsWholeRead c history t s.touch.value s.shown) × SoundFrom c history (after_step t s) steps

-- and each load of word 1 at the point of the try's first load finds its word
abbrev pub SteadyFrom : SegmentTry → List Step → Type 0
SteadyFrom t [] = Unit {0}
SteadyFrom t (s ∷ steps) = When (is_load_of 1 s) (IsSteady t s.touch.value s.shown) × SteadyFrom (after_step t s) steps

-- each load of word 11 ends a try of the page of which `IsWholePageRead` holds
abbrev pub PageSoundFrom : Setup → List (List ℕ) → PageTry → List Step → Type 0
PageSoundFrom c pages t [] = Unit {0}
PageSoundFrom c pages t (s ∷ steps) = When (is_load_of 11 s) (IsWholePageRead c pages t s.touch.value s.shown) × PageSoundFrom c pages (page_after_step t s) steps

abbrev pub StandsPage : Setup → ℕ → ℕ → Type 0
StandsPage c found p = found ≡ count_word_at c p

abbrev pub StandsRow : ℕ → ℕ → Type 0
StandsRow found row = found ≡ row

-- how many entries of the history are known after a step: after a load of word 1 those up to the point that it showed
abbrev pub known_after : Setup → (known : ℕ) → Step → ℕ
known_after c known s = next_shown (is_load_of 1 s) known (s.shown / 2 - base_of c)

abbrev pub known_through : Setup → (known : ℕ) → List Step → ℕ
known_through c known [] = known
known_through c known (s ∷ steps) = known_through c (known_after c known s) steps

-- the history has this entry, and this clock row isn't below that of its reply
abbrev pub IsRowAfter : List Publication → (k row : ℕ) → Type 0
IsRowAfter history k row = (k < length history) × ((slice_index_or history k no_publication).replied ≤ row)

-- and this point of the page isn't below that of the page that its poll saw
abbrev pub IsPageAfter : Setup → List Publication → (k point : ℕ) → Type 0
IsPageAfter c history k point = (k < length history) × (2 * page_number_of (count_of c.page) (slice_index_or history k no_publication).sequence ≤ point)

-- what a load of the clock or of the page's count shows isn't below what the entries tell that are known by then
abbrev pub FollowsFrom : Setup → List Publication → (known : ℕ) → List Step → Type 0
FollowsFrom c history known [] = Unit {0}
FollowsFrom c history known (s ∷ steps) =
    When (is_load_of 23 s) ((k : ℕ) → k < known → IsRowAfter history k s.shown) × When (is_load_of 11 s) ((k : ℕ) → k < known → IsPageAfter c history k s.shown)
    × FollowsFrom c history (known_after c known s) steps

-- what holds of a call in the view, from its first step on: histories and pages grow, each try that a load ends is whole where its
-- words say so, word 1 is steady at a point, and points, page points and rows never fall from what was seen before the call to what is seen now
pub record IsSoundCall (v : SeatView) : Type 0 where
  pub history : Begins v.before.history v.seen.history
  pub pages : Begins v.before.pages v.seen.pages
  pub sound : SoundFrom v.setup v.seen.history no_segment_try v.steps
  pub steady : SteadyFrom no_segment_try v.steps
  pub page_sound : PageSoundFrom v.setup v.seen.pages no_page_try v.steps
  pub points : Climbs 1 (ShowsPoint v.setup) v.before.point v.steps v.seen.point
  pub page_points : Climbs 11 (StandsPage v.setup) v.before.page_point v.steps v.seen.page_point
  pub rows : Climbs 23 StandsRow v.before.rows v.steps v.seen.rows
  pub known : known_through v.setup 0 v.steps ≤ length v.seen.history
  pub follows : FollowsFrom v.setup v.seen.history 0 v.steps

-- ---- the daemon's point

-- the point after a step of the daemon
abbrev pub point_through : (point : ℕ) → Step → ℕ
point_through point s = if s.touch.stored then point_after point s.touch.word s.touch.value else point

-- the daemon's point through the steps of a call: stores alone raise it, each store shows the point after it, and each load of
-- word 1 the one that it finds
abbrev pub PointsFollow : (from : ℕ) → List Step → (to : ℕ) → Type 0
PointsFollow from [] to = to ≡ from
PointsFollow from (s ∷ steps) to = When (s.touch.stored || s.touch.word == 1) (s.shown ≡ point_through from s) × PointsFollow (point_through from s) steps to

-- ---- one step more

-- what every load leaves and adds
pub record AddsLoad (first : Bool) (i n : ℕ) (v w : SeatView) : Type 0 where
  pub shown : ℕ
  pub seated : w.seated ≡ v.seated
  pub setup : w.setup ≡ v.setup
  pub is_host : w.is_host ≡ v.is_host
  pub is_daemon : w.is_daemon ≡ v.is_daemon
  pub daemon_part : w.daemon_part ≡ v.daemon_part
  pub calls : w.calls ≡ calls_at first v
  pub before : w.before ≡ before_at first v
  pub steps : w.steps ≡ steps_at first (loaded i n shown) v
  pub history : Begins v.seen.history w.seen.history
  pub pages : Begins v.seen.pages w.seen.pages
  pub sound : When (i == 1) (IsWholeRead v.setup w.seen.history (segment_try_at first v) n shown)
  pub steady : When (i == 1) (IsSteady (segment_try_at first v) n shown)
  pub page_sound : When (i == 11) (IsWholePageRead v.setup w.seen.pages (page_try_at first v) n shown)
  pub points : Moves 1 (ShowsPoint v.setup) (loaded i n shown) v.seen.point w.seen.point
  pub page_points : Moves 11 (StandsPage v.setup) (loaded i n shown) v.seen.page_point w.seen.page_point
  pub rows : Moves 23 StandsRow (loaded i n shown) v.seen.rows w.seen.rows
  -- the front is the whole history; a row and a page aren't below those that the history tells
  pub place : When (i == 1) (shown / 2 - base_of v.setup ≡ length w.seen.history)
  pub row_after : When (i == 23) ((k : ℕ) → k < length v.seen.history → IsRowAfter v.seen.history k shown)
  pub page_after : When (i == 11) ((k : ℕ) → k < length v.seen.history → IsPageAfter v.setup v.seen.history k shown)
  -- the daemon's own load of word 1 shows its own point
  pub own : v.is_daemon ≡ true → When (i == 1) (shown ≡ point_of v.daemon_part.segment)

-- and every store of the daemon
pub record AddsStore (i n : ℕ) (v w : SeatView) : Type 0 where
  pub seated : w.seated ≡ v.seated
  pub setup : w.setup ≡ v.setup
  pub is_daemon : w.is_daemon ≡ v.is_daemon
  pub seen : w.seen ≡ v.seen
  pub calls : w.calls ≡ v.calls
  pub before : w.before ≡ v.before
  pub steps : w.steps ≡ v.steps ++ stored i n (point_of w.daemon_part.segment) ∷ []
  pub is : IsSegment w.daemon_part.segment
  pub later : IsSegmentLater v.daemon_part.segment w.daemon_part.segment
  pub point : point_of w.daemon_part.segment ≡ point_after (point_of v.daemon_part.segment) i n
  pub header : (header_shown w.daemon_part.segment ≡ n) ⊎ (header_shown w.daemon_part.segment ≡ header_shown v.daemon_part.segment)
