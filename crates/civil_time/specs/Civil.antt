-- The date and time of UTC at an instant, and its text. An instant is in nanoseconds since 1970-01-01T00:00:00Z.
use Rattle.std.specs.Prelude.{◌≡◌, ℕ, zero, suc, ◌/◌, ◌%◌, if◌then◌else◌, List, [], ◌∷◌, ◌++◌, Some, false, ℤ, pos, ◌+ℤ◌, ◌-ℤ◌, unsigned_abs, int_lt}
use Rattle.std.specs.Int.{int_div_euclid, int_rem_euclid}
use Rattle.jiff_core.specs.Calendar.{days_from_civil}
use Rattle.jiff_fmt.specs.Text.{pad2, pad4, places}
use Rattle.jiff.specs.Types.{DateTime}
use Rattle.jiff.specs.Words.{epoch_day, time_nanos, IsBetween, datetime_text}
use Rattle.civil_time.specs.declared.limits.TheConstants.{FIRST_INSTANT, LAST_INSTANT}

-- an instant of a year of four digits, up to the last that jiff has
abbrev pub IsInstant : ℤ → Type 0
IsInstant n = IsBetween FIRST_INSTANT LAST_INSTANT n

abbrev pub day_nanos : ℤ
day_nanos = pos 86_400_000_000_000

-- the date whose day number since 1970-01-01 is n divided by the nanoseconds of a day, rounded down, and the time that the rest gives
pub record IsDateTimeOf (n : ℤ) (shown : DateTime) : Type 0 where
  pub day : epoch_day shown.date ≡ int_div_euclid n day_nanos
  pub rest : pos (time_nanos shown.time) ≡ int_rem_euclid n day_nanos

-- no instant has two
abbrev pub InstantsHaveOneDate : Type 0
InstantsHaveOneDate = (n : ℤ) (one other : DateTime) → IsDateTimeOf n one → IsDateTimeOf n other → one ≡ other

-- `2023-11-14T22:13:22.499630858Z`: the date, the letter T, the time with nine digits, and the letter Z
abbrev pub utc_text : DateTime → List ℕ
utc_text shown = datetime_text false 84 (Some 9) shown ++ 90 ∷ []

-- ---- the same by computing, from the day number and the nanoseconds since midnight

-- the last year before `below` that has begun by the day
unfoldable pub year_below : (below : ℕ) → ℤ → ℕ
year_below zero day = 0
year_below (suc y) day = if int_lt day (days_from_civil (pos y) 1 1) then year_below y day else y

-- the last of the first so many months of the year that has begun by the day
unfoldable pub month_within : (months : ℕ) → (year : ℤ) → ℤ → ℕ
month_within zero year day = 0
month_within (suc m) year day = if int_lt day (days_from_civil year (suc m) 1) then month_within m year day else suc m

unfoldable pub year_of : ℤ → ℕ
year_of day = year_below 10000 day

unfoldable pub month_of : ℤ → ℕ
month_of day = month_within 12 (pos (year_of day)) day

-- the first day of a month has the number 1
unfoldable pub day_of : ℤ → ℕ
day_of day = unsigned_abs (day +ℤ pos 1 -ℤ days_from_civil (pos (year_of day)) (month_of day) 1)

-- `2023-11-14`
abbrev pub date_text : ℤ → List ℕ
date_text day = pad4 (year_of day) ++ 45 ∷ [] ++ pad2 (month_of day) ++ 45 ∷ [] ++ pad2 (day_of day)

-- `22:13:22.499630858`
abbrev pub clock_text : ℕ → List ℕ
clock_text rest =
    pad2 (rest / 3_600_000_000_000) ++ 58 ∷ pad2 (rest / 60_000_000_000 % 60) ++ 58 ∷ pad2 (rest / 1_000_000_000 % 60)
    ++ 46 ∷ places 9 1_000_000_000 (rest % 1_000_000_000)

-- `2023-11-14T22:13:22.499630858Z` of an instant
unfoldable pub shown_text : ℤ → List ℕ
shown_text n = date_text (int_div_euclid n day_nanos) ++ 84 ∷ clock_text (unsigned_abs (int_rem_euclid n day_nanos)) ++ 90 ∷ []

-- that, or nothing for a number that is no such instant
unfoldable pub civil_text : ℤ → List ℕ
civil_text n = if int_lt n FIRST_INSTANT then [] else if int_lt LAST_INSTANT n then [] else shown_text n

-- the text of an instant is that of its date and time
abbrev pub InstantsAreShown : Type 0
InstantsAreShown = (n : ℤ) (shown : DateTime) → IsInstant n → IsDateTimeOf n shown → civil_text n ≡ utc_text shown
