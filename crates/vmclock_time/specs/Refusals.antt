-- Which pages tell no interval of a reading. This project's own.
use Rattle.std.specs.Prelude.{ℕ, ◌+◌, ◌-◌, ◌*◌, ◌^◌, max, nat_lt, Bool, not, ◌==◌, ◌&&◌, if◌then◌else◌, List, [], ◌∷◌, Option, Some, None}
use Rattle.vmclock_page.specs.ClockPage.{ClockPage}
use Rattle.vmclock_time.specs.declared.limits.TheConstants.{MOST_SHIFT, LAST_SECOND}
use Rattle.vmclock_time.specs.declared.fault.PageTimeFault.{PageTimeFault}
use Rattle.vmclock_time.specs.declared.fault.PageTimeFault.TheVariants as fault

-- what refuses a page for a reading, in order: whether it does, and the fault
abbrev pub refusals : ClockPage → ℕ → List (Bool × PageTimeFault)
refusals p reading =
    (not (p.time_type == 0), fault.TimeType p.time_type)
    ∷ (not (p.clock_status == 2) && not (p.clock_status == 3), fault.Status p.clock_status)
    ∷ (nat_lt MOST_SHIFT p.counter_period_shift, fault.Shift p.counter_period_shift)
    ∷ (nat_lt LAST_SECOND p.time_sec, fault.Range p.time_sec)
    ∷ (nat_lt reading p.counter_value, fault.Back)
    ∷ (nat_lt (2 ^ (84 + p.counter_period_shift)) ((reading - p.counter_value) * max p.counter_period_frac_sec p.counter_period_maxerror_rate_frac_sec), fault.TooFar)
    ∷ []

-- the first that does
abbrev pub first_of : List (Bool × PageTimeFault) → Option PageTimeFault
first_of [] = None
first_of ((refuses, fault) ∷ rest) = if refuses then Some fault else first_of rest

unfoldable pub first_refusal : ClockPage → ℕ → Option PageTimeFault
first_refusal p reading = first_of (refusals p reading)
