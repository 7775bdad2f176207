-- One step of the daemon, from what it holds, and the past that it shows.
use Rattle.std.specs.Prelude.{◌≡◌, ℕ, pos, ◌+ℤ◌, Bool, true, false, not, ◌&&◌, if◌then◌else◌, List, [], ◌∷◌, Option, Some, None, is_some}
use Rattle.candm_codec.specs.declared.tracking.RefTime.{RefTime}
use Rattle.segment_layout.specs.Record.{RecordFields}
use Rattle.segment_layout.specs.declared.start.Start.{Start}
use Rattle.segment_layout.specs.declared.start.Start.TheVariants.{Fresh, Kept, Torn}
use Rattle.status_machine.specs.declared.base.Base.{Base}
use Rattle.status_machine.specs.declared.daemon.Daemon.{Daemon}
use Rattle.status_machine.specs.declared.mode.Mode.{Mode}
use Rattle.status_machine.specs.declared.mode.Mode.TheVariants.{Clear, MustMark, Disrupted}
use Rattle.status_machine.specs.declared.poll.Poll.{Poll}
use Rattle.status_machine.specs.Poll.{reference_of, has_other_time, base_of_poll, is_good}
use Rattle.status_machine.specs.Incarnation.{Incarnation, is_other, start_since_mark, since_mark, guard_of, is_absorbed, status_by, start_base, base_at, as_of_by, bound_by, marker_or_zero}

abbrev pub mode_is_disrupted : Mode → Bool
mode_is_disrupted Clear = false
mode_is_disrupted MustMark = false
mode_is_disrupted (Disrupted guard) = true

abbrev pub mode_marks : Mode → Option ℕ → ℕ → Bool
mode_marks MustMark held marker = true
mode_marks Clear held marker = is_other held marker
mode_marks (Disrupted guard) held marker = is_other held marker

-- whether a poll with this marker marks, from what is held
abbrev pub is_marked : Mode → Option ℕ → Option ℕ → Bool
is_marked mode held None = false
is_marked mode held (Some marker) = mode_marks mode held marker

abbrev pub guarded_next : Option RefTime → (is_good : Bool) → Option RefTime → Mode
guarded_next None is_good reference = Disrupted reference
guarded_next (Some guard) is_good reference =
    if is_good && has_other_time guard reference then Clear else Disrupted (Some guard)

abbrev pub unmarked_next : Mode → (is_good : Bool) → Option RefTime → Mode
unmarked_next Clear is_good reference = Clear
unmarked_next MustMark is_good reference = Clear
unmarked_next (Disrupted guard) is_good reference = guarded_next guard is_good reference

-- the mode after a poll: a mark awaits its guard and then another reference time
abbrev pub mode_next : (marks : Bool) → Mode → (is_good : Bool) → Option RefTime → Mode
mode_next marks mode is_good reference = if marks then Disrupted reference else unmarked_next mode is_good reference

abbrev pub mode_after_poll : Daemon → Poll → Mode
mode_after_poll daemon poll =
    mode_next (is_marked daemon.mode daemon.held poll.marker) daemon.mode (is_good poll) (reference_of poll.heard)

-- the marker of the poll, or without one that held before
abbrev pub held_next : Option ℕ → Option ℕ → Option ℕ
held_next held None = held
held_next held (Some marker) = Some marker

abbrev pub base_next : Mode → Option Base → Option Base → Option Base
base_next mode base good = if not (mode_is_disrupted mode) && is_some good then good else base

-- what a daemon holds after a poll
abbrev pub daemon_step : Daemon → Poll → Daemon
daemon_step daemon poll =
    record {
      drift = daemon.drift;
      support = daemon.support;
      held = held_next daemon.held poll.marker;
      base = base_next (mode_after_poll daemon poll) daemon.base (base_of_poll poll);
      mode = mode_after_poll daemon poll;
    }

-- the record that a daemon gives for the poll that it has just taken
abbrev pub record_of : Daemon → Poll → RecordFields
record_of daemon poll =
    record {
      as_of = as_of_by daemon.base poll.reading.mono;
      void_after = as_of_by daemon.base poll.reading.mono +ℤ pos 1000000000000;
      bound = bound_by daemon.base;
      marker = marker_or_zero daemon.held;
      drift = daemon.drift;
      status = status_by (mode_is_disrupted daemon.mode) (is_good poll) (is_some daemon.base);
      support = daemon.support;
    }

-- the marker that a start leaves: that of a record, where the run and the record both have support
abbrev pub start_held : Bool → Start → Option ℕ
start_held support Fresh = None
start_held support (Torn generation) = None
start_held support (Kept generation rec) = if support && rec.support then Some rec.marker else None

-- the mode that a mark leaves
abbrev pub mode_since : Option (List Poll) → Mode
mode_since None = Clear
mode_since (Some polls) = if is_absorbed polls then Clear else Disrupted (guard_of polls)

-- the mode that a start leaves: where the marker before it isn't known, the first poll must mark
abbrev pub start_mode : Bool → Start → Mode
start_mode support Fresh = Clear
start_mode support (Torn generation) = if support then MustMark else Clear
start_mode support (Kept generation rec) =
    if support && not rec.support then MustMark else mode_since (start_since_mark (Kept generation rec))

-- the daemon that an incarnation is begun with
abbrev pub daemon_begun : Incarnation → Daemon
daemon_begun from =
    record {
      drift = from.drift;
      support = from.support;
      held = start_held from.support from.start;
      base = start_base from.start from.base;
      mode = start_mode from.support from.start;
    }

abbrev pub held_after : Incarnation → List Poll → Option ℕ
held_after from [] = start_held from.support from.start
held_after from (poll ∷ past) = poll.marker

abbrev pub mode_after : Incarnation → List Poll → Mode
mode_after from [] = start_mode from.support from.start
mode_after from (poll ∷ past) = mode_since (since_mark from.start (poll ∷ past))

-- each poll has a marker exactly with support
abbrev pub MarkersFit : Bool → List Poll → Type 0
MarkersFit support [] = Unit {0}
MarkersFit support (poll ∷ past) = (is_some poll.marker ≡ support) × MarkersFit support past

-- the daemon is where these polls lead, the newest first
pub record ShowsPast (from : Incarnation) (past : List Poll) (daemon : Daemon) : Type 0 where
  pub same_drift : daemon.drift ≡ from.drift
  pub same_support : daemon.support ≡ from.support
  pub markers_fit : MarkersFit from.support past
  pub held : daemon.held ≡ held_after from past
  pub base : daemon.base ≡ base_at from past
  pub mode : daemon.mode ≡ mode_after from past
