-- What an interval is: as far on both sides of the real time as its bound and the drift since as-of reach.
use Rattle.std.proofs.Common.{◌≡◌, ℕ, ℤ, ◌+◌, ◌-◌, ◌*◌, ◌≤◌, ◌<◌, Bool, true, false, Option, Result, Ok, Err, refl, ap, sym, ◌∙◌, subst, arith}
use Rattle.std.specs.Prelude.{◌+ℤ◌, ◌-ℤ◌, ◌≤ℤ◌, pos, unsigned_abs, int_lt, if◌then◌else◌}
use Rattle.std.proofs.lemmas.Int.{ints, int_max_is}
use Rattle.std.proofs.lemmas.Grind.{div_ceil_times}
use Rattle.segment_layout.specs.Record.{RecordFields}
use Rattle.interval_now.specs.declared.answers.Interval.{Interval}
use Rattle.interval_now.specs.declared.answers.Causality.{Causality}
use Rattle.interval_now.specs.Interval.{elapsed_of, growth_of, half_width_of, client_status, interval_of, IsGrowth}

pub record IsInterval (rec : RecordFields) (mono real : ℕ) (marker : Option ℕ) (interval : Interval) : Type 0 where
  pub earliest : interval.earliest ≡ pos real -ℤ half_width_of rec mono
  pub latest : interval.latest ≡ pos real +ℤ half_width_of rec mono
  pub status : interval.status ≡ client_status rec mono marker

abbrev late_of : RecordFields → ℕ → Causality
late_of rec mono = record { as_of = rec.as_of; mono = mono }

abbrev round_of : RecordFields → (mono real : ℕ) → Option ℕ → Interval
round_of rec mono real marker = record { earliest = pos real -ℤ half_width_of rec mono; latest = pos real +ℤ half_width_of rec mono; status = client_status rec mono marker }

abbrev found_by : RecordFields → (mono real : ℕ) → Option ℕ → Bool → Result Interval Causality
found_by rec mono real marker early = if early then Err (late_of rec mono) else Ok (round_of rec mono real marker)

interval_by : (rec : RecordFields) (mono real : ℕ) (marker : Option ℕ) (interval : Interval) (early : Bool) → found_by rec mono real marker early ≡ Ok interval → IsInterval rec mono real marker interval
interval_by rec mono real marker interval true is = absurd (cc is)
interval_by rec mono real marker interval false is =
    let same : round_of rec mono real marker ≡ interval = cc is in
    record { earliest = sym (ap (λ (i : Interval). i.earliest) same); latest = sym (ap (λ (i : Interval). i.latest) same); status = sym (ap (λ (i : Interval). i.status) same) }

pub interval_is : (rec : RecordFields) (mono real : ℕ) (marker : Option ℕ) (interval : Interval) → interval_of rec mono real marker ≡ Ok interval → IsInterval rec mono real marker interval
unfolding interval_of
interval_is rec mono real marker interval is = interval_by rec mono real marker interval (int_lt (pos (mono + 1000)) rec.as_of) is

-- ---- its half width

least_by : (product growth h : ℕ) → growth * 1000000000 < product + 1000000000 → product ≤ h * 1000000000 → growth ≤ h
least_by product growth h near covers = omega (arith, near, covers)

growth_is : (elapsed drift : ℕ) → IsGrowth elapsed drift (growth_of elapsed drift)
growth_is elapsed drift =
    let bounds = div_ceil_times (elapsed * drift) 1000000000 (omega arith) in
    record { covers = bounds.0; least = λ h covers. least_by (elapsed * drift) (growth_of elapsed drift) h bounds.1 covers }

-- how long before a reading as-of lies
elapsed_is : (as_of mono : ℕ) → elapsed_of (pos as_of) mono ≡ mono - as_of
elapsed_is as_of mono = let largest = int_max_is (pos mono -ℤ pos as_of) (pos 0) in omega (arith, ints, largest)

-- the growth of a record whose as-of is a reading
pub growth_since : (rec : RecordFields) (as_of mono drift : ℕ) → rec.as_of ≡ pos as_of → rec.drift ≡ drift → IsGrowth (mono - as_of) drift (growth_of (elapsed_of rec.as_of mono) rec.drift)
growth_since rec as_of mono drift same slow =
    let elapsed : elapsed_of rec.as_of mono ≡ mono - as_of = ap (λ (z : ℤ). elapsed_of z mono) same ∙ elapsed_is as_of mono in
    subst (λ (d : ℕ). IsGrowth (mono - as_of) d (growth_of (elapsed_of rec.as_of mono) rec.drift)) slow
    (subst (λ (e : ℕ). IsGrowth e rec.drift (growth_of (elapsed_of rec.as_of mono) rec.drift)) elapsed (growth_is (elapsed_of rec.as_of mono) rec.drift))

-- the half width of one whose bound isn't negative
pub half_is : (rec : RecordFields) (mono : ℕ) → pos 0 ≤ℤ rec.bound → half_width_of rec mono ≡ pos (unsigned_abs rec.bound + growth_of (elapsed_of rec.as_of mono) rec.drift)
half_is rec mono low = omega (arith, ints, low)

pub half_covers : (bound product growth : ℕ) → product ≤ growth * 1000000000 → bound * 1000000000 + product ≤ (bound + growth) * 1000000000
half_covers bound product growth covers = omega (arith, covers)
