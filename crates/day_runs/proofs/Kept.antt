-- No test finds a fault of a claim of the day.
use Rattle.std.proofs.Common.{◌≡◌, ℕ, suc, ◌+◌, ◌-◌, ◌*◌, ◌/◌, ◌^◌, ◌<◌, ◌≤◌, Bool, true, false, not, take, slice_index_or, Some, None, refl, ap, subst, arith, inl, inr}
use Rattle.std.proofs.lemmas.Bool.{cases_Bool, le-ltb, lt-leb, ne_eqb, and_left, and_right}
use Rattle.chrony_fraction.specs.Packed.{units_of_size}
use Rattle.clock_gate.specs.ClockRow.{row_at}
use Rattle.clock_gate.specs.declared.trace.HostRow.TheVariants.{Clock}
use Rattle.clock_gate.specs.declared.trace.Trace.{Trace}
use Rattle.generation_word.specs.Layout.{period_of}
use Rattle.drill_day.specs.Day.{clock_of, day_of, host_of}
use Rattle.drill_day.specs.Draws.{seconds}
use Rattle.drill_day.specs.Seconds.{host_in, middle_of, tracking}
use Rattle.promise_judge.specs.declared.claim.Claim.{Claim}
use Rattle.promise_judge.specs.Disruptions.{is_drifting, is_excused, is_hidden, is_told}
use Rattle.promise_judge.specs.Markers.{brings_back, changes, changes_at, marker_after, repeats_at, start_marker}
use Rattle.promise_judge.specs.Offsets.{breaks_drift_at, is_untold, offset_size}
use Rattle.promise_judge.specs.Positions.{host_row, is_disrupt_at, position_of}
use Rattle.promise_judge.specs.Promises.{bound_of, drift_of, broken_promise_of, on_image_of, mark_of, repeat_of, untold_of, where_found, wrap_of}
use Rattle.promise_judge.proofs.Firsts.{all_fail, one_in}
use Rattle.day_runs.specs.Kept.{DayKeepsItsPromises, RepliesBoundTheClock, scheduled}
use Rattle.day_runs.proofs.Clocks.{all_near, all_told, never_breaks}
use Rattle.day_runs.proofs.Hosts.{disrupts, none_returns, page_there, row_in}

all_pass : (trace : Trace) (claim : Claim) → wrap_of (period_of trace.layout) claim ≡ None → on_image_of claim ≡ None → untold_of trace.clock claim ≡ None → bound_of trace.clock claim ≡ None →
    drift_of trace.drift trace.clock trace.host claim ≡ None → mark_of (start_marker trace.page) trace.host claim ≡ None → repeat_of (start_marker trace.page) trace.host claim ≡ None → broken_promise_of trace claim ≡ None
unfolding broken_promise_of
all_pass trace claim wrap image untold bound drift mark repeat = rw (wrap, image, untold, bound, drift, mark, repeat) refl

nothing : (b : Bool) (n : ℕ) → b ≡ false → where_found b n ≡ None
nothing b n f = rw f refl

disrupt_place : (polls p : ℕ) → is_disrupt_at (host_of polls) p ≡ true → p - 1 ≡ polls / 2
unfolding host_of
disrupt_place polls p t = disrupts (middle_of polls) 1 polls (polls / 2) (omega arith) (p - 1) t

change_there : (polls : ℕ) → 6 ≤ polls → changes_at (Some 7) (host_of polls) (polls / 2 + 2) ≡ true
unfolding host_of
change_there polls low =
    let place : suc (polls / 2) ≡ polls / 2 + 2 - 1 = omega arith in
    let is = page_there (middle_of polls) 1 polls (polls / 2) (omega arith) (omega arith) in
    let rows = seconds (host_in (middle_of polls)) 1 polls in
    subst (λ (k : ℕ). changes (marker_after (Some 7) (take k rows)) (slice_index_or rows k (Clock 0)) ≡ true) place (rw (is.0, is.1) refl)

told_it : (polls mark_at p : ℕ) → 6 ≤ polls → 0 < p → p < mark_at → is_disrupt_at (host_of polls) p ≡ true → is_told (Some 7) (host_of polls) mark_at p ≡ true
told_it polls mark_at p low least lt t =
    let place = disrupt_place polls p t in
    one_in (changes_at (Some 7) (host_of polls)) (p + 1) (mark_at + 1) (polls / 2 + 2) (omega arith) (omega arith) (change_there polls low)

shown : (polls mark_at p : ℕ) → 6 ≤ polls → 0 < p → p < mark_at → is_hidden (Some 7) (host_of polls) mark_at p ≡ false
shown polls mark_at p low least lt =
    elim (cases_Bool (is_disrupt_at (host_of polls) p)) [
      | inl t ↦ and_right (is_disrupt_at (host_of polls) p) (not (is_told (Some 7) (host_of polls) mark_at p)) (ap not (told_it polls mark_at p low least lt t))
      | inr f ↦ and_left (is_disrupt_at (host_of polls) p) (not (is_told (Some 7) (host_of polls) mark_at p)) f
    ]

returns_nowhere : (polls i : ℕ) → brings_back (Some 7) (take i (host_of polls)) (row_in (host_of polls) i) ≡ false
unfolding host_of
returns_nowhere polls i = none_returns (middle_of polls) 1 polls (omega arith) i

pub day_keeps : DayKeepsItsPromises
day_keeps seed polls low high turns claim of =
    let inside = of.inside in
    let least = of.second in
    let ordered = of.ordered in
    let row = of.row in
    let bound = of.bound in
    let host = host_of polls in
    let clock = clock_of seed polls in
    let near = all_near seed polls claim.second least (omega arith) in
    all_pass (scheduled (day_of seed polls) turns) claim
    (nothing _ _ (lt-leb 32767 claim.inside (omega arith)))
    (nothing _ _ (ne_eqb claim.base 0 (λ e. let base = of.base in omega arith)))
    (all_fail (is_untold clock) claim.second (claim.row + 1) (λ k x y. all_told seed polls k (omega arith) (omega arith)))
    (nothing _ _ (le-ltb claim.bound (offset_size (row_at clock claim.second)) (omega arith)))
    (all_fail (is_drifting 50000 clock host claim.marked_at) (claim.second + 1) (claim.row + 1)
    (λ k x y. and_left (breaks_drift_at 50000 clock k) (not (is_excused host claim.marked_at k)) (never_breaks seed polls k (omega arith) (omega arith))))
    (all_fail (is_hidden (Some 7) host claim.mark_at) (claim.marked_at + 1) (position_of host claim.row)
    (λ k x y. shown polls claim.mark_at k low (omega arith) (let marked = of.marked in omega arith)))
    (all_fail (repeats_at (Some 7) host) 1 (claim.mark_at + 1)
    (λ k x y. and_right (changes_at (Some 7) host k) (brings_back (Some 7) (take (k - 1) host) (host_row host k)) (returns_nowhere polls (k - 1))))

-- the root delay counts half, and the correction is somewhat more
reached_by : (nanos more : ℕ) → 1000000000 * (2 ^ 77 + 2 * (2 ^ 76 + more)) ≤ nanos * 2 ^ 90 → 244141 ≤ nanos
reached_by nanos more covers = omega arith

pub replies_bound : RepliesBoundTheClock
replies_bound k draw nanos covers = reached_by nanos (units_of_size (tracking k draw).current_correction.0) covers
