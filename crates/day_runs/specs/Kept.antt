-- A generated day keeps its promises.
use Rattle.std.specs.Prelude.{◌≡◌, ℕ, ◌<◌, ◌≤◌, List, None}
use Rattle.chrony_fraction.specs.ClockError.{Covers, error_units}
use Rattle.candm_codec.specs.declared.tracking.Tracking.{Tracking}
use Rattle.clock_gate.specs.declared.trace.Trace.{Trace}
use Rattle.clock_gate.specs.declared.trace.Turn.{Turn}
use Rattle.drill_day.specs.Day.{day_of, host_of}
use Rattle.drill_day.specs.Seconds.{tracking}
use Rattle.promise_judge.specs.Positions.{position_of}
use Rattle.promise_judge.specs.Promises.{broken_promise_of}
use Rattle.promise_judge.specs.declared.claim.Claim.{Claim}

-- what the bound of a day's reply is at least, in nanoseconds: half the root delay and the root dispersion are 2^-12 s
abbrev pub least_bound : ℕ
least_bound = 244141

-- what a run of a day of so many polls tells of a time that is synchronized or free running
pub record IsOfDay (polls : ℕ) (claim : Claim) : Type 0 where
  -- there are no more publications than polls
  pub inside : claim.inside ≤ polls
  -- the day has no image, so that the record has a base poll
  pub base : 0 < claim.base
  -- the base poll's second clock row is one of the day's, and so is the client's, which came later or is the same
  pub second : 0 < claim.second
  pub row : claim.row ≤ polls
  pub ordered : claim.second ≤ claim.row
  -- the bound is that of a reply of the day
  pub bound : least_bound ≤ claim.bound
  -- the client loaded the marker after the clock
  pub marked : position_of (host_of polls) claim.row ≤ claim.mark_at

-- the day with this schedule in place of its own
abbrev pub scheduled : Trace → List Turn → Trace
scheduled day turns = record day { turns = turns }

abbrev pub DayKeepsItsPromises : Type 0
DayKeepsItsPromises =
    (seed polls : ℕ) → 6 ≤ polls → polls ≤ 20000 → (turns : List Turn) (claim : Claim) → IsOfDay polls claim
    → broken_promise_of (scheduled (day_of seed polls) turns) claim ≡ None

-- what a reply says of the clock's error, in units of 2^-90 s
abbrev pub units_of : Tracking → ℕ
units_of t = error_units t.root_delay.0 t.root_dispersion.0 t.current_correction.0

-- a number of nanoseconds that covers what a reply of the day says is no smaller
abbrev pub RepliesBoundTheClock : Type 0
RepliesBoundTheClock = (k draw nanos : ℕ) → Covers nanos (units_of (tracking k draw)) → least_bound ≤ nanos
