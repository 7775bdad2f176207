-- What a client makes of a record and a reading of the clock: elapsed time, growth, interval and status.
use Rattle.std.specs.Prelude.{ℕ, ◌+◌, ◌*◌, ◌^◌, ◌≤◌, ℤ, pos, neg_ℤ, ◌+ℤ◌, ◌-ℤ◌, ◌≤ℤ◌, unsigned_abs, Bool, true, false, not, ◌||◌, ◌==◌, Option, Some, None, Result, Ok, Err, int_lt, if◌then◌else◌}
use Rattle.std.specs.Int.{div_ceil, int_max}
use Rattle.clock_gate.specs.declared.clock_status.ClockStatus.{ClockStatus}
use Rattle.clock_gate.specs.declared.clock_status.ClockStatus.TheVariants.{Unknown, Synchronized, FreeRunning, Disrupted}
use Rattle.clock_gate.specs.declared.limits.TheConstants.{LAST_MOMENT}
use Rattle.segment_layout.specs.Record.{RecordFields}
use Rattle.interval_now.specs.declared.answers.Interval.{Interval}
use Rattle.interval_now.specs.declared.answers.Causality.{Causality}

-- the nanoseconds since as-of, or 0 before it
abbrev pub elapsed_of : ℤ → ℕ → ℕ
elapsed_of as_of mono = unsigned_abs (int_max (pos mono -ℤ as_of) (pos 0))

-- how far a clock drifts in so many nanoseconds at so many parts in 10^9, rounded up
abbrev pub growth_of : ℕ → ℕ → ℕ
growth_of elapsed drift = div_ceil (elapsed * drift) 1000000000

-- g is the least whole number of nanoseconds that covers this drift
pub record IsGrowth (elapsed drift g : ℕ) : Type 0 where
  pub covers : elapsed * drift ≤ g * 1000000000
  pub least : (h : ℕ) → elapsed * drift ≤ h * 1000000000 → g ≤ h

-- half the width of the interval: the record's bound, and its growth since as-of
abbrev pub half_width_of : RecordFields → ℕ → ℤ
half_width_of rec mono = rec.bound +ℤ pos (growth_of (elapsed_of rec.as_of mono) rec.drift)

abbrev pub has_disrupted : ClockStatus → Bool
has_disrupted Disrupted = true
has_disrupted other = false

-- a disruption mark isn't absorbed, as the client sees it: the record is Disrupted, or there is a page, and the record has no support or
-- another marker
abbrev pub is_unabsorbed : RecordFields → Option ℕ → Bool
is_unabsorbed rec None = has_disrupted rec.status
is_unabsorbed rec (Some marker) = has_disrupted rec.status || (not rec.support || not (rec.marker == marker))

-- the status of a record whose mark is absorbed, by whether it is void and whether it is younger than 5 s
abbrev pub status_by_age : ClockStatus → Bool → Bool → ClockStatus
status_by_age Unknown is_void is_young = Unknown
status_by_age Synchronized is_void is_young = if is_void then Unknown else if is_young then Synchronized else FreeRunning
status_by_age other is_void is_young = if is_void then Unknown else FreeRunning

-- the first that fits: Disrupted by an unabsorbed mark; Unknown by an Unknown record, or from void-after on; Synchronized by a
-- Synchronized record until 5 s after as-of; else FreeRunning
abbrev pub client_status : RecordFields → ℕ → Option ℕ → ClockStatus
client_status rec mono marker =
    if is_unabsorbed rec marker then Disrupted
    else status_by_age rec.status (not (int_lt (pos mono) rec.void_after)) (int_lt (pos mono) (rec.as_of +ℤ pos 5000000000))

-- the interval round the real time of a reading, unless the reading lies more than 1,000 ns before as-of
unfoldable pub interval_of : RecordFields → ℕ → ℕ → Option ℕ → Result Interval Causality
interval_of rec mono real marker =
    if int_lt (pos (mono + 1000)) rec.as_of then Err (record { as_of = rec.as_of; mono = mono })
    else Ok (record { earliest = pos real -ℤ half_width_of rec mono; latest = pos real +ℤ half_width_of rec mono; status = client_status rec mono marker })

-- half the width of an interval is at most this: a record's bound is at most 2^62, and it grows by no more than the time since as-of
abbrev pub most_half_width : ℕ
most_half_width = 2 ^ 62 + LAST_MOMENT

-- so its ends, in nanoseconds since 1970-01-01T00:00:00Z, lie from February 1697 to August 2369
pub record KeepsEnds (interval : Interval) : Type 0 where
  pub first : neg_ℤ (pos most_half_width) ≤ℤ interval.earliest
  pub order : interval.earliest ≤ℤ interval.latest
  pub last : interval.latest ≤ℤ pos (LAST_MOMENT + most_half_width)
