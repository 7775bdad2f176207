-- The units that the sums are made in: 2 ^ -104 ns. A period counts in 2 ^ -(64 + shift) s and a shift is at most 40, so that every
-- number of them is whole.
use Rattle.std.specs.Prelude.{◌≡◌, ◌≤◌, ℕ, ◌+◌, ◌-◌, ◌*◌, ◌^◌, Bool, not, if◌then◌else◌, Option, Some, None, ℤ, pos, ◌-ℤ◌}
use Rattle.std.specs.Int.{int_div_euclid}
use Rattle.vmclock_page.specs.ClockPage.{ClockPage}
use Rattle.vmclock_time.specs.Premises.{is_within}
use Rattle.vmclock_time.specs.declared.rows.PageWhy.{PageWhy}
use Rattle.vmclock_time.specs.declared.rows.PageWhy.TheVariants as why
use Rattle.vmclock_time.specs.declared.limits.TheConstants.{MOST_SHIFT, LAST_SECOND}

-- the whole nanoseconds of so many units, rounded down
abbrev pub floor_of : ℤ → ℤ
floor_of units = int_div_euclid units (pos (2 ^ 104))

-- a number of a page's own unit, 2 ^ -(64 + shift), in these
abbrev pub finer : ℕ → ℕ → ℕ
finer shift n = n * 2 ^ (40 - shift)

-- the time at `counter_value`, and its greatest error
abbrev pub start_units : ClockPage → ℕ
start_units p = 1_000_000_000 * ((p.time_sec * 2 ^ 64 + p.time_frac_sec) * 2 ^ 40)

abbrev pub slack_units : ClockPage → ℕ
slack_units p = p.time_maxerror_nanosec * 2 ^ 104

-- the ends of an interval, by the seconds that went by and their greatest error
abbrev pub lower_units : ClockPage → ℕ → ℕ → ℤ
lower_units p elapsed drift = pos (start_units p + 1_000_000_000 * elapsed) -ℤ pos (slack_units p + 1_000_000_000 * drift)

abbrev pub upper_units : ClockPage → ℕ → ℕ → ℤ
upper_units p elapsed drift = pos (start_units p + 1_000_000_000 * elapsed + (slack_units p + 1_000_000_000 * drift))

-- the time that went by since the counter value of a page that isn't refused, and its greatest error
pub record IsSpan (p : ClockPage) (reading elapsed drift : ℕ) : Type 0 where
  pub shift : p.counter_period_shift ≤ MOST_SHIFT
  pub seconds : p.time_sec ≤ LAST_SECOND
  pub elapsed_is : elapsed ≡ finer p.counter_period_shift ((reading - p.counter_value) * p.counter_period_frac_sec)
  pub drift_is : drift ≡ finer p.counter_period_shift ((reading - p.counter_value) * p.counter_period_maxerror_rate_frac_sec)
  pub elapsed_small : elapsed ≤ 2 ^ 124
  pub drift_small : drift ≤ 2 ^ 124

-- what a page keeps that isn't refused for a reading
pub record IsNear (p : ClockPage) (reading : ℕ) : Type 0 where
  pub shift : p.counter_period_shift ≤ MOST_SHIFT
  pub seconds : p.time_sec ≤ LAST_SECOND
  pub later : p.counter_value ≤ reading
  pub period_near : (reading - p.counter_value) * p.counter_period_frac_sec ≤ 2 ^ (84 + p.counter_period_shift)
  pub rate_near : (reading - p.counter_value) * p.counter_period_maxerror_rate_frac_sec ≤ 2 ^ (84 + p.counter_period_shift)

-- the first test that a read fails, by the time that went by and its greatest error
abbrev pub page_keeps : ClockPage → ℕ → Bool
page_keeps p started = is_within (started * 2 ^ 104) (start_units p) (slack_units p)

abbrev pub rate_keeps : ℕ → ℕ → ℕ → ℕ → Bool
rate_keeps elapsed drift started truth = is_within (truth * 2 ^ 104) (started * 2 ^ 104 + 1_000_000_000 * elapsed) (1_000_000_000 * drift)

abbrev pub failure_in_units : ClockPage → ℕ → ℕ → Option ℕ → Option ℕ → Option PageWhy
failure_in_units p elapsed drift None truth = Some why.Untold
failure_in_units p elapsed drift (Some started) None = Some why.Untold
failure_in_units p elapsed drift (Some started) (Some truth) =
    if not (page_keeps p started) then Some why.Page
    else if not (rate_keeps elapsed drift started truth) then Some why.Rate
    else None
