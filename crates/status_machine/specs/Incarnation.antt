-- An incarnation of the daemon: from one opening of the segment to its stop. The record of each poll is found by looking
-- back over all polls; no marker, mode or base is held between them. `past` has the polls with the newest first.
use Rattle.std.specs.Prelude.{ℕ, ℤ, pos, ◌+ℤ◌, Bool, true, false, not, ◌&&◌, ◌||◌, ◌==◌, if◌then◌else◌, List, [], ◌∷◌, ◌++◌, Option, Some, None, is_some}
use Rattle.std.specs.List.{list_any}
use Rattle.candm_codec.specs.declared.tracking.RefTime.{RefTime}
use Rattle.clock_gate.specs.declared.clock_status.ClockStatus.{ClockStatus}
use Rattle.clock_gate.specs.declared.clock_status.ClockStatus.TheVariants.{Unknown, Synchronized, FreeRunning, Disrupted}
use Rattle.segment_layout.specs.Record.{RecordFields}
use Rattle.segment_layout.specs.declared.start.Start.{Start}
use Rattle.segment_layout.specs.declared.start.Start.TheVariants.{Fresh, Kept, Torn}
use Rattle.status_machine.specs.declared.base.Base.{Base}
use Rattle.status_machine.specs.declared.poll.Poll.{Poll}
use Rattle.status_machine.specs.Poll.{reference_of, has_other_time, base_of_poll, is_good}

-- what an incarnation is begun with: what the segment holds, the drift, whether there is a page, and the number of the
-- poll that gave the bound of a kept record
pub record Incarnation : Type 0 where
  pub start : Start
  pub drift : ℕ
  pub support : Bool
  pub base : ℕ

-- there is a marker, and it isn't this one
abbrev pub is_other : Option ℕ → ℕ → Bool
is_other None marker = false
is_other (Some earlier) marker = not (earlier == marker)

-- whether the first poll marks: after a torn segment, and after a record without support or with another marker
abbrev pub first_marks : Start → ℕ → Bool
first_marks Fresh marker = false
first_marks (Torn generation) marker = true
first_marks (Kept generation rec) marker = not rec.support || not (rec.marker == marker)

abbrev pub marker_marks : Start → List Poll → ℕ → Bool
marker_marks start [] marker = first_marks start marker
marker_marks start (last ∷ past) marker = is_other last.marker marker

-- whether a poll with this marker, after these polls, marks: its marker isn't that of the poll before
abbrev pub marks : Start → List Poll → Option ℕ → Bool
marks start past None = false
marks start past (Some marker) = marker_marks start past marker

abbrev pub since_disrupted : ClockStatus → Option (List Poll)
since_disrupted Disrupted = Some []
since_disrupted other = None

-- a kept record that is disrupted is a mark before the first poll
abbrev pub start_since_mark : Start → Option (List Poll)
start_since_mark (Kept generation rec) = since_disrupted rec.status
start_since_mark other = None

abbrev pub one_later : Option (List Poll) → Poll → Option (List Poll)
one_later None poll = None
one_later (Some polls) poll = Some (polls ++ poll ∷ [])

-- the polls from the last marking poll on, in the order in which they came; all polls, where none marks and the opening found a Disrupted
-- record; or none where there is no mark
abbrev pub since_mark : Start → List Poll → Option (List Poll)
since_mark start [] = start_since_mark start
since_mark start (poll ∷ past) =
    if marks start past poll.marker then Some (poll ∷ []) else one_later (since_mark start past) poll

abbrev pub first_of : Option RefTime → Option RefTime → Option RefTime
first_of None later = later
first_of (Some time) later = Some time

-- the guard of a mark: the reference time of the first readable reply from the marking poll on
abbrev pub guard_of : List Poll → Option RefTime
guard_of [] = None
guard_of (poll ∷ polls) = first_of (reference_of poll.heard) (guard_of polls)

-- a poll is good, and its reference time isn't the guard
abbrev pub is_good_other : RefTime → Poll → Bool
is_good_other guard poll = is_good poll && has_other_time guard (reference_of poll.heard)

abbrev pub absorbed_by : Option RefTime → List Poll → Bool → Bool
absorbed_by None polls later = later
absorbed_by (Some guard) polls later = list_any (λ (poll : Poll). is_good_other guard poll) polls

-- a mark is absorbed: a poll that comes after the one that gave the guard is good and has another reference time
abbrev pub is_absorbed : List Poll → Bool
is_absorbed [] = false
is_absorbed (poll ∷ polls) = absorbed_by (reference_of poll.heard) polls (is_absorbed polls)

abbrev pub is_unabsorbed : Option (List Poll) → Bool
is_unabsorbed None = false
is_unabsorbed (Some polls) = not (is_absorbed polls)

-- there is a mark that isn't absorbed: the daemon's view, over its polls
abbrev pub is_disrupted : Start → List Poll → Bool
is_disrupted start past = is_unabsorbed (since_mark start past)

-- Disrupted before all else; then Synchronized by a good poll; then FreeRunning where there is a base, of an earlier poll or of the record
-- found at the opening; else Unknown
abbrev pub status_by : (disrupted good has_base : Bool) → ClockStatus
status_by disrupted good has_base =
    if disrupted then Disrupted else if good then Synchronized else if has_base then FreeRunning else Unknown

abbrev pub base_by_status : ClockStatus → Base → Option Base
base_by_status Unknown base = None
base_by_status known base = Some base

-- the base that the segment gives: that of a kept record whose status isn't unknown
abbrev pub start_base : Start → ℕ → Option Base
start_base (Kept generation rec) poll = base_by_status rec.status (record { as_of = rec.as_of; bound = rec.bound; poll = poll })
start_base other poll = None

-- the base: what the last synchronized poll gave, or else the segment
abbrev pub base_at : Incarnation → List Poll → Option Base
base_at from [] = start_base from.start from.base
base_at from (poll ∷ past) =
    if not (is_disrupted from.start (poll ∷ past)) && is_good poll then base_of_poll poll else base_at from past

-- the status of a poll, given those before it
abbrev pub status_at : Incarnation → Poll → List Poll → ClockStatus
status_at from poll past =
    status_by (is_disrupted from.start (poll ∷ past)) (is_good poll) (is_some (base_at from (poll ∷ past)))

-- a record's as-of: that of the base, or without one the poll's own moment
abbrev pub as_of_by : Option Base → ℕ → ℤ
as_of_by None mono = pos mono
as_of_by (Some base) mono = base.as_of

-- a record's bound: that of the base, or without one 0
abbrev pub bound_by : Option Base → ℤ
bound_by None = pos 0
bound_by (Some base) = base.bound

-- a record's marker: that of the page, or without one 0
abbrev pub marker_or_zero : Option ℕ → ℕ
marker_or_zero None = 0
marker_or_zero (Some marker) = marker

-- the record of a poll, given those before it
abbrev pub record_at : Incarnation → Poll → List Poll → RecordFields
record_at from poll past =
    record {
      as_of = as_of_by (base_at from (poll ∷ past)) poll.reading.mono;
      void_after = as_of_by (base_at from (poll ∷ past)) poll.reading.mono +ℤ pos 1000000000000;
      bound = bound_by (base_at from (poll ∷ past));
      marker = marker_or_zero poll.marker;
      drift = from.drift;
      status = status_at from poll past;
      support = from.support;
    }

-- the records of these polls, one after another
abbrev pub records_after : Incarnation → List Poll → List Poll → List RecordFields
records_after from past [] = []
records_after from past (poll ∷ polls) = record_at from poll past ∷ records_after from (poll ∷ past) polls
