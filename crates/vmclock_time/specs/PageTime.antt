-- The interval that a page and a reading of its counter tell. Its numbers are fractions of nanoseconds; each stands here
-- multiplied by 2 ^ (64 + shift), which makes them whole.
use Rattle.std.specs.Prelude.{ℕ, ◌+◌, ◌-◌, ◌*◌, ◌^◌, Option, Some, None, Result, Ok, Err, ℤ, pos, neg_ℤ, ◌-ℤ◌, ◌*ℤ◌, ◌≤ℤ◌}
use Rattle.std.specs.Int.{int_div_euclid}
use Rattle.vmclock_page.specs.ClockPage.{ClockPage}
use Rattle.vmclock_time.specs.Refusals.{first_refusal}
use Rattle.vmclock_time.specs.declared.fault.PageTimeFault.{PageTimeFault}

-- one nanosecond
abbrev pub nanosecond : ClockPage → ℕ
nanosecond p = 2 ^ (64 + p.counter_period_shift)

-- the time at `counter_value`: 10 ^ 9 * (time_sec + time_frac_sec / 2 ^ 64)
abbrev pub start_of : ClockPage → ℕ
start_of p = 1_000_000_000 * ((p.time_sec * 2 ^ 64 + p.time_frac_sec) * 2 ^ p.counter_period_shift)

-- its greatest error
abbrev pub slack_of : ClockPage → ℕ
slack_of p = p.time_maxerror_nanosec * nanosecond p

-- the time that went by since then: a period, of so many 2 ^ -(64 + shift) s, for each tick
abbrev pub elapsed_of : ClockPage → ℕ → ℕ
elapsed_of p reading = 1_000_000_000 * ((reading - p.counter_value) * p.counter_period_frac_sec)

-- its greatest error: that of a period for each tick
abbrev pub drift_of : ClockPage → ℕ → ℕ
drift_of p reading = 1_000_000_000 * ((reading - p.counter_value) * p.counter_period_maxerror_rate_frac_sec)

-- the ends of the interval before they are rounded
unfoldable pub lower_end : ClockPage → ℕ → ℤ
lower_end p reading = pos (start_of p + elapsed_of p reading) -ℤ pos (slack_of p + drift_of p reading)

unfoldable pub upper_end : ClockPage → ℕ → ℤ
upper_end p reading = pos (start_of p + elapsed_of p reading + (slack_of p + drift_of p reading))

-- so many nanoseconds
abbrev pub nanoseconds : ClockPage → ℤ → ℤ
nanoseconds p n = n *ℤ pos (nanosecond p)

-- the greatest whole number not above the lower end
pub record IsEarliest (p : ClockPage) (reading : ℕ) (n : ℤ) : Type 0 where
  pub not_above : nanoseconds p n ≤ℤ lower_end p reading
  pub greatest : (m : ℤ) → nanoseconds p m ≤ℤ lower_end p reading → m ≤ℤ n

-- the least whole number not below the upper end
pub record IsLatest (p : ClockPage) (reading : ℕ) (n : ℤ) : Type 0 where
  pub not_below : upper_end p reading ≤ℤ nanoseconds p n
  pub least : (m : ℤ) → upper_end p reading ≤ℤ nanoseconds p m → n ≤ℤ m

-- the interval that the page tells of the reading
pub record IsInterval (p : ClockPage) (reading : ℕ) (earliest latest : ℤ) : Type 0 where
  pub begins : IsEarliest p reading earliest
  pub ends : IsLatest p reading latest

-- the same by division
abbrev pub earliest_of : ClockPage → ℕ → ℤ
earliest_of p reading = int_div_euclid (lower_end p reading) (pos (nanosecond p))

abbrev pub latest_of : ClockPage → ℕ → ℤ
latest_of p reading = neg_ℤ (int_div_euclid (neg_ℤ (upper_end p reading)) (pos (nanosecond p)))

-- the interval, where the page isn't refused
abbrev pub interval_unless : Option PageTimeFault → ClockPage → ℕ → Result (ℤ × ℤ) PageTimeFault
interval_unless (Some fault) p reading = Err fault
interval_unless None p reading = Ok (earliest_of p reading, latest_of p reading)

-- what a page tells of a reading
unfoldable pub page_time_of : ClockPage → ℕ → Result (ℤ × ℤ) PageTimeFault
page_time_of p reading = interval_unless (first_refusal p reading) p reading
