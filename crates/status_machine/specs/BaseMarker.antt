-- The marker that a base was taken under.
use Rattle.std.specs.Prelude.{◌≡◌, ℕ, Bool, true, false, not, ◌&&◌, if◌then◌else◌, List, [], ◌∷◌, Option, Some, None, is_some}
use Rattle.segment_layout.specs.declared.start.Start.{Start}
use Rattle.segment_layout.specs.declared.start.Start.TheVariants.{Fresh, Kept, Torn}
use Rattle.status_machine.specs.declared.poll.Poll.{Poll}
use Rattle.status_machine.specs.Poll.{is_good}
use Rattle.status_machine.specs.Incarnation.{Incarnation, is_disrupted, base_at}
use Rattle.status_machine.specs.Step.{MarkersFit}

-- the marker of a kept record, which has one with support
abbrev pub start_marker : Start → Option ℕ
start_marker Fresh = None
start_marker (Torn generation) = None
start_marker (Kept generation rec) = if rec.support then Some rec.marker else None

-- a poll is synchronized, given those before it
abbrev pub is_synchronized : Start → Poll → List Poll → Bool
is_synchronized start poll past = not (is_disrupted start (poll ∷ past)) && is_good poll

-- the marker of the last synchronized poll, or else that of the record that the segment gives
abbrev pub base_marker : Start → List Poll → Option ℕ
base_marker start [] = start_marker start
base_marker start (poll ∷ past) = if is_synchronized start poll past then poll.marker else base_marker start past

-- a record that was kept has support exactly where there is a page
abbrev pub StartFits : Bool → Start → Type 0
StartFits support Fresh = Unit {0}
StartFits support (Torn generation) = Unit {0}
StartFits support (Kept generation rec) = rec.support ≡ support

-- a poll that isn't disrupted and has a base has the marker that its base was taken under
abbrev pub BaseKeepsMarker : Type 0
BaseKeepsMarker =
    (from : Incarnation) (poll : Poll) (past : List Poll) → StartFits from.support from.start → MarkersFit from.support (poll ∷ past)
    → is_disrupted from.start (poll ∷ past) ≡ false → is_some (base_at from (poll ∷ past)) ≡ true → poll.marker ≡ base_marker from.start (poll ∷ past)

-- none of these polls is synchronized
abbrev pub NoneSynchronized : Start → List Poll → Type 0
NoneSynchronized start [] = Unit {0}
NoneSynchronized start (poll ∷ past) = (is_synchronized start poll past ≡ false) × NoneSynchronized start past

-- while no poll is synchronized, an incarnation that isn't disrupted began on a record that wasn't
abbrev pub CalmStart : Type 0
CalmStart = (start : Start) (past : List Poll) → NoneSynchronized start past → is_disrupted start past ≡ false → is_disrupted start [] ≡ false
