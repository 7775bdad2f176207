-- The computed text is that of the date and time.
use Rattle.std.proofs.Common.{◌≡◌, ℕ, zero, suc, ◌<◌, ◌≤◌, ◌/◌, ◌%◌, ◌++◌, ◌∷◌, [], List, true, false, inl, inr, ◌∙◌, ap, refl, arith, ℤ, pos, negsuc, neg_ℤ, Some, ◌+ℤ◌, ◌-ℤ◌, ◌<ℤ◌, ◌≤ℤ◌, int_lt, unsigned_abs}
use Rattle.std.specs.Int.{int_div_euclid, int_rem_euclid}
use Rattle.std.proofs.lemmas.Int.{ints}
use Rattle.std.proofs.lemmas.Bool.{cases_lt}
use Rattle.jiff_core.specs.Calendar.{days_from_civil, day_count, IsCivilDate}
use Rattle.jiff_core.proofs.CalendarLemmas.{days_from_civil-day_count, day_count-lt_year, day_count-lt_month, day_count-day, day_count-day_of_year, day_count-min}
use Rattle.jiff_core.proofs.MarchLemmas.{day_count-early}
use Rattle.jiff.specs.Types.{DateTime, Date, Time}
use Rattle.jiff_fmt.specs.Text.{pad2, year_text, time_text}
use Rattle.jiff.specs.Words.{time_nanos}
use Rattle.jiff.proofs.SpanFacts.{signed_arith}
use Rattle.civil_time.specs.Civil.{IsDateTimeOf, day_nanos, utc_text, year_below, month_within, year_of, month_of, day_of, shown_text, date_text, clock_text, IsInstant}

not_before : (day : ℤ) (y : ℤ) (m d : ℕ) (y₂ : ℤ) (m₂ : ℕ) → days_from_civil y m d ≡ day → day_count y₂ m₂ 1 ≤ day_count y m d → int_lt day (days_from_civil y₂ m₂ 1) ≡ false
not_before day y m d y₂ m₂ e h =
    let le : days_from_civil y₂ m₂ 1 ≤ℤ day = omega (arith, signed_arith, e, days_from_civil-day_count y m d, days_from_civil-day_count y₂ m₂ 1) in
    grind (arith, ints)

before : (day : ℤ) (y : ℤ) (m d : ℕ) (y₂ : ℤ) (m₂ : ℕ) → days_from_civil y m d ≡ day → day_count y m d < day_count y₂ m₂ 1 → int_lt day (days_from_civil y₂ m₂ 1) ≡ true
before day y m d y₂ m₂ e h =
    let lt : day <ℤ days_from_civil y₂ m₂ 1 = omega (arith, signed_arith, e, days_from_civil-day_count y m d, days_from_civil-day_count y₂ m₂ 1) in
    grind (arith, ints)

first_of_year : (y : ℤ) (m d : ℕ) → IsCivilDate y m d → day_count y 1 1 ≤ day_count y m d
first_of_year y m d h = omega (arith, day_count-day_of_year y m d h.2.0, h.2.0)

first_of_month : (y : ℤ) (m d : ℕ) → IsCivilDate y m d → day_count y m 1 ≤ day_count y m d
first_of_month y m d h = omega (arith, day_count-day y m d 1 h.2.0, h.2.0)

pub year_below-is : (top : ℕ) (day : ℤ) (y m d : ℕ) → IsCivilDate (pos y) m d → days_from_civil (pos y) m d ≡ day → y < top → year_below top day ≡ y
unfolding year_below
year_below-is zero day y m d h e lt = absurd (omega (arith, lt))
year_below-is (suc top) day y m d h e lt =
    elim (cases_lt y top) [
      | inl below ↦ let after : pos y <ℤ pos top = omega (arith, signed_arith, below) in
          rw (before day (pos y) m d (pos top) 1 e (day_count-lt_year (pos y) m d (pos top) 1 1 h (omega arith) after)) (year_below-is top day y m d h e below)
      | inr above ↦ let same : top ≡ y = omega (arith, above, lt) in
          rw same (rw (not_before day (pos y) m d (pos y) 1 e (first_of_year (pos y) m d h)) refl)
    ]

pub month_within-is : (top : ℕ) (y : ℤ) (day : ℤ) (m d : ℕ) → IsCivilDate y m d → days_from_civil y m d ≡ day → m ≤ top → month_within top y day ≡ m
unfolding month_within
month_within-is zero y day m d h e le = absurd (omega (arith, le, h.1.0))
month_within-is (suc top) y day m d h e le =
    elim (cases_lt m (suc top)) [
      | inl below ↦ rw (before day y m d y (suc top) e (day_count-lt_month y m d (suc top) 1 h (omega arith) below)) (month_within-is top y day m d h e (omega (arith, below)))
      | inr above ↦ let same : suc top ≡ m = omega (arith, above, le) in
          rw same (rw (not_before day y m d y m e (first_of_month y m d h)) refl)
    ]

civil_date : (d : Date) → IsCivilDate d.year d.month d.day
civil_date d = (d.year_in, d.month_in, d.day_in)

zero_year : day_count (pos 0) 1 1 ≡ 3_652_425
zero_year = day_count-early (pos 0) 9999 1 1 refl (omega arith) (omega arith) (omega arith)

-- what the three words are
pub year_of-is : (day : ℤ) (y m d : ℕ) → IsCivilDate (pos y) m d → days_from_civil (pos y) m d ≡ day → year_of day ≡ y
unfolding year_of
year_of-is day y m d h e = year_below-is 10000 day y m d h e (omega (arith, signed_arith, h.0))

pub month_of-is : (day : ℤ) (y m d : ℕ) → IsCivilDate (pos y) m d → days_from_civil (pos y) m d ≡ day → month_of day ≡ m
unfolding month_of
month_of-is day y m d h e = rw (year_of-is day y m d h e) (month_within-is 12 (pos y) day m d h e h.1.1)

pub day_of-is : (day : ℤ) (y m d : ℕ) → IsCivilDate (pos y) m d → days_from_civil (pos y) m d ≡ day → day_of day ≡ d
unfolding day_of
day_of-is day y m d h e =
    let plain : day +ℤ pos 1 -ℤ days_from_civil (pos y) m 1 ≡ pos d = omega (arith, signed_arith, e, h.2.0, days_from_civil-day_count (pos y) m d, days_from_civil-day_count (pos y) m 1, day_count-day (pos y) m d 1 h.2.0 (omega arith)) in
    rw (year_of-is day y m d h e, month_of-is day y m d h e, plain) refl

date_text-is : (year : ℤ) (m d : ℕ) (day : ℤ) → IsCivilDate year m d → days_from_civil year m d ≡ day → neg_ℤ (pos 719_528) ≤ℤ day → year_text year ++ 45 ∷ [] ++ pad2 m ++ 45 ∷ [] ++ pad2 d ≡ date_text day
date_text-is (pos y) m d day h e low = rw (year_of-is day y m d h e, month_of-is day y m d h e, day_of-is day y m d h e) refl
date_text-is (negsuc k) m d day h e low =
    absurd (omega (arith, signed_arith, e, low, zero_year, day_count-min, days_from_civil-day_count (negsuc k) m d, days_from_civil-day_count (pos 0) 1 1, day_count-lt_year (negsuc k) m d (pos 0) 1 1 h (omega arith) (omega (arith, signed_arith))))

clock_text-is : (t : Time) (rest : ℕ) → time_nanos t ≡ rest → time_text (Some 9) t ≡ clock_text rest
clock_text-is t rest e =
    let hour : rest / 3_600_000_000_000 ≡ t.hour = omega (arith, e) in
    let minute : rest / 60_000_000_000 % 60 ≡ t.minute = omega (arith, e) in
    let second : rest / 1_000_000_000 % 60 ≡ t.second = omega (arith, e) in
    let part : rest % 1_000_000_000 ≡ t.subsec_nanosecond = omega (arith, e) in
    rw (hour, minute, second, part) refl

pub computed : (n : ℤ) (d : DateTime) → IsInstant n → IsDateTimeOf n d → utc_text d ≡ shown_text n
unfolding shown_text
computed n d range h =
    let rest : time_nanos d.time ≡ unsigned_abs (int_rem_euclid n day_nanos) = ap unsigned_abs h.rest in
    let low : neg_ℤ (pos 719_528) ≤ℤ int_div_euclid n day_nanos = omega (arith, signed_arith, range.0) in
    let day = int_div_euclid n day_nanos in
    let date = date_text-is d.date.year d.date.month d.date.day day (civil_date d.date) h.day low in
    let time = clock_text-is d.time (unsigned_abs (int_rem_euclid n day_nanos)) rest in
    ap (λ (x : List ℕ). (x ++ 84 ∷ time_text (Some 9) d.time) ++ 90 ∷ []) date ∙ ap (λ (x : List ℕ). (date_text day ++ 84 ∷ x) ++ 90 ∷ []) time
