-- An interval from a record within its bounds has ends of 64 bits.
use Rattle.std.proofs.Common.{◌≡◌, ◌<◌, ◌≤◌, ◌+◌, ◌*◌, ◌^◌, ℕ, ℤ, pos, negsuc, Bool, true, false, Option, Result, Ok, Err, refl, sym, ap, arith}
use Rattle.std.specs.Prelude.{◌+ℤ◌, ◌-ℤ◌, ◌≤ℤ◌, int_lt, if◌then◌else◌}
use Rattle.std.proofs.lemmas.Grind.{div_ceil_times}
use Rattle.std.proofs.lemmas.Int.{ints, int_max_is}
use Rattle.std.proofs.lemmas.Nat.{mul-le}
use Rattle.clock_gate.specs.declared.limits.TheConstants.{LAST_MOMENT}
use Rattle.segment_layout.specs.Record.{RecordFields, KeepsBounds}
use Rattle.interval_now.specs.declared.answers.Causality.{Causality}
use Rattle.interval_now.specs.declared.answers.Interval.{Interval}
use Rattle.interval_now.specs.Interval.{elapsed_of, growth_of, half_width_of, interval_of, client_status}
use Rattle.report_audit.proofs.OneText.{IsSmall, EndsAreSmall}

-- a number between these has 64 bits
pub small_between : (z : ℤ) → (pos 0 -ℤ pos (2 ^ 63)) ≤ℤ z → z ≤ℤ pos (2 ^ 63 + 2 ^ 62) → IsSmall z
small_between (pos n) low high = omega (arith, ints, high)
small_between (negsuc n) low high = omega (arith, ints, low)

elapsed_most : (as_of : ℤ) (mono : ℕ) → pos 0 ≤ℤ as_of → elapsed_of as_of mono ≤ mono
elapsed_most as_of mono low = let largest = int_max_is (pos mono -ℤ as_of) (pos 0) in omega (arith, ints, largest, low)

near_most : (product growth elapsed : ℕ) → growth * 1000000000 < product + 1000000000 → product ≤ elapsed * 1000000000 → growth ≤ elapsed
near_most product growth elapsed near covers = omega (arith, near, covers)

growth_most : (elapsed drift : ℕ) → drift ≤ 1000000000 → growth_of elapsed drift ≤ elapsed
growth_most elapsed drift few =
    let bounds = div_ceil_times (elapsed * drift) 1000000000 (omega arith) in
    near_most (elapsed * drift) (growth_of elapsed drift) elapsed bounds.1 (mul-le elapsed drift elapsed 1000000000 (omega arith) few)

half_by : (half bound : ℤ) (growth : ℕ) → half ≡ bound +ℤ pos growth → pos 0 ≤ℤ bound → bound ≤ℤ pos (2 ^ 62) → growth ≤ LAST_MOMENT → (pos 0 ≤ℤ half) × (half ≤ℤ pos (2 ^ 62 + LAST_MOMENT))
half_by half bound growth is low high few = (omega (arith, ints, is, low, high, few), omega (arith, ints, is, low, high, few))

ends_by : (half : ℤ) (real : ℕ) (interval : Interval) → interval.earliest ≡ pos real -ℤ half → interval.latest ≡ pos real +ℤ half → pos 0 ≤ℤ half → half ≤ℤ pos (2 ^ 62 + LAST_MOMENT) → real ≤ LAST_MOMENT → EndsAreSmall interval
ends_by half real interval earliest latest low high most = record {
  first = small_between interval.earliest (omega (arith, ints, earliest, low, high, most)) (omega (arith, ints, earliest, low, high, most));
  last = small_between interval.latest (omega (arith, ints, latest, low, high, most)) (omega (arith, ints, latest, low, high, most));
}

interval_or : Interval → Result Interval Causality → Interval
interval_or default (Ok interval) = interval
interval_or default (Err causality) = default

interval_by : (early : Bool) (c : Causality) (i j : Interval) → (if early then Err c else Ok i) ≡ Ok j → i ≡ j
unfolding interval_or
interval_by true c i j is = absurd (cc is)
interval_by false c i j is = ap (interval_or j) is

interval_is : (rec : RecordFields) (mono real : ℕ) (marker : Option ℕ) (interval : Interval) → interval_of rec mono real marker ≡ Ok interval
    → record { earliest = pos real -ℤ half_width_of rec mono; latest = pos real +ℤ half_width_of rec mono; status = client_status rec mono marker } ≡ interval
unfolding interval_of
interval_is rec mono real marker interval is =
    interval_by (int_lt (pos (mono + 1000)) rec.as_of) (record { as_of = rec.as_of; mono = mono }) (record { earliest = pos real -ℤ half_width_of rec mono; latest = pos real +ℤ half_width_of rec mono; status = client_status rec mono marker }) interval is

pub small_ends : (rec : RecordFields) (mono real : ℕ) (marker : Option ℕ) (interval : Interval) → KeepsBounds rec.as_of rec.void_after rec.bound rec.drift → mono ≤ LAST_MOMENT → real ≤ LAST_MOMENT
    → interval_of rec mono real marker ≡ Ok interval → EndsAreSmall interval
small_ends rec mono real marker interval kept early most is =
    let whole = interval_is rec mono real marker interval is in
    let growth : growth_of (elapsed_of rec.as_of mono) rec.drift ≤ LAST_MOMENT = omega (arith, growth_most (elapsed_of rec.as_of mono) rec.drift kept.drift_high, elapsed_most rec.as_of mono kept.as_of_low, early) in
    let half = half_by (half_width_of rec mono) rec.bound (growth_of (elapsed_of rec.as_of mono) rec.drift) refl kept.bound_low kept.bound_high growth in
    ends_by (half_width_of rec mono) real interval (ap (λ (i : Interval). i.earliest) (sym whole)) (ap (λ (i : Interval). i.latest) (sym whole)) half.0 half.1 most
