-- A claim without a fault has the truth of its clock row in its interval.
use Rattle.std.proofs.Common.{◌≡◌, ℕ, zero, suc, ◌+◌, ◌-◌, ◌*◌, ◌<◌, ◌≤◌, Bool, true, false, not, ◌&&◌, nat_lt, length, Option, Some, None, is_some, is_none, refl, sym, ap, ◌∙◌, subst, arith, inl, inr, true≢false}
use Rattle.std.specs.Prelude.{pos, ◌+ℤ◌, ◌-ℤ◌, ◌≤ℤ◌, nat_abs}
use Rattle.std.proofs.lemmas.Bool.{cases_lt, ltb-false, le-ltb}
use Rattle.std.proofs.lemmas.Int.{ints}
use Rattle.std.proofs.Math.Nat.{mul_comm}
use Rattle.clock_gate.specs.ClockRow.{row_at}
use Rattle.clock_gate.specs.declared.trace.Trace.{Trace}
use Rattle.generation_word.specs.Layout.{period_of}
use Rattle.promise_judge.specs.declared.claim.Claim.{Claim}
use Rattle.promise_judge.specs.declared.fault.Fault.{Fault}
use Rattle.promise_judge.specs.declared.fault.Why.{Why}
use Rattle.promise_judge.specs.Containment.{IsTrusted, KeptClaimsContain, marker_at}
use Rattle.promise_judge.specs.Disruptions.{is_excused, is_drifting, is_told, is_hidden}
use Rattle.promise_judge.specs.Markers.{start_marker, changes_at, repeats_at}
use Rattle.promise_judge.specs.Offsets.{is_untold, or_zero, offset_size, breaks_drift_at}
use Rattle.promise_judge.specs.Positions.{is_disrupt_at, position_of}
use Rattle.promise_judge.specs.Promises.{where_found, fault_or, broken_promise_of, wrap_of, on_image_of, untold_of, bound_of, drift_of, mark_of, repeat_of}
use Rattle.promise_judge.specs.Telling.{FitsRows}
use Rattle.promise_judge.proofs.Firsts.{none_in, all_fail}
use Rattle.promise_judge.proofs.Pages.{NoneChanges, told_apart}
use Rattle.promise_judge.proofs.Places.{clock_rises}
use Rattle.promise_judge.proofs.Steps.{KeepsDrift, keeps_drift, split_time}

-- ---- no test finds a fault

fault_none : (why : Why) (o : Option ℕ) (later : Option Fault) → fault_or why o later ≡ None → (o ≡ None) × (later ≡ None)
fault_none why None later none = (refl, none)
fault_none why (Some at) later none = absurd (true≢false (ap is_some none))

record Passes (trace : Trace) (claim : Claim) : Type 0 where
  untold : untold_of trace.clock claim ≡ None
  bound : bound_of trace.clock claim ≡ None
  drift : drift_of trace.drift trace.clock trace.host claim ≡ None
  mark : mark_of (start_marker trace.page) trace.host claim ≡ None
  repeat : repeat_of (start_marker trace.page) trace.host claim ≡ None

passes : (trace : Trace) (claim : Claim) → broken_promise_of trace claim ≡ None → Passes trace claim
unfolding broken_promise_of
passes trace claim none =
    let wrap = fault_none _ (wrap_of (period_of trace.layout) claim) _ none in
    let image = fault_none _ (on_image_of claim) _ wrap.1 in
    let untold = fault_none _ (untold_of trace.clock claim) _ image.1 in
    let bound = fault_none _ (bound_of trace.clock claim) _ untold.1 in
    let drift = fault_none _ (drift_of trace.drift trace.clock trace.host claim) _ bound.1 in
    let mark = fault_none _ (mark_of (start_marker trace.page) trace.host claim) _ drift.1 in
    let repeat = fault_none _ (repeat_of (start_marker trace.page) trace.host claim) _ mark.1 in
    record { untold = untold.0; bound = bound.0; drift = drift.0; mark = mark.0; repeat = repeat.0 }

-- ---- no disruption after the base poll's marker load

-- no marker changed between the base poll's marker load and the client's
calm_pages : (trace : Trace) (claim : Claim) (as_of half : ℕ) → FitsRows trace claim → IsTrusted trace claim as_of half → Passes trace claim →
    NoneChanges (start_marker trace.page) trace.host claim.marked_at claim.mark_at
calm_pages trace claim as_of half fits trusted p =
    let high = fits.mark_at_most in
    elim (cases_lt claim.mark_at claim.marked_at) [
      | inl before ↦ (λ k low top. absurd (omega arith))
      | inr after ↦
          (let whole : claim.marked_at + (claim.mark_at - claim.marked_at) ≡ claim.mark_at = omega arith in
          subst (λ (n : ℕ). NoneChanges (start_marker trace.page) trace.host claim.marked_at n) whole
          (elim (told_apart (start_marker trace.page) trace.host claim.marked_at (claim.mark_at - claim.marked_at) (omega arith)
          (λ k low top. none_in (repeats_at (start_marker trace.page) trace.host) 1 (claim.mark_at + 1) p.repeat k (omega arith) (omega arith))) [
            | inl none ↦ none
            | inr other ↦ absurd (other (subst (λ (n : ℕ). marker_at trace n ≡ marker_at trace claim.marked_at) (sym whole) trusted.same_marker))
          ]))
    ]

untold_by_pages : (trace : Trace) (i m p : ℕ) → NoneChanges (start_marker trace.page) trace.host i m → i < p → is_told (start_marker trace.page) trace.host m p ≡ false
untold_by_pages trace i m p none lt = ap is_some (all_fail (changes_at (start_marker trace.page) trace.host) (p + 1) (m + 1) (λ k low high. none k (omega arith) (omega arith)))

and_not : (d m : Bool) → (d && not m) ≡ false → m ≡ false → d ≡ false
and_not true m f g = absurd (true≢false (sym (ap not g) ∙ f))
and_not false m f g = refl

-- so no disrupt row lies between that marker load and the claim's clock row
calm_host : (trace : Trace) (claim : Claim) (as_of half : ℕ) → FitsRows trace claim → IsTrusted trace claim as_of half → Passes trace claim →
    (p : ℕ) → claim.marked_at < p → p < position_of trace.host claim.row → is_disrupt_at trace.host p ≡ false
calm_host trace claim as_of half fits trusted passed p low high =
    and_not (is_disrupt_at trace.host p) (is_told (start_marker trace.page) trace.host claim.mark_at p)
    (none_in (is_hidden (start_marker trace.page) trace.host claim.mark_at) (claim.marked_at + 1) (position_of trace.host claim.row) passed.mark p (omega arith) high)
    (untold_by_pages trace claim.marked_at claim.mark_at p (calm_pages trace claim as_of half fits trusted passed) low)

and_later : (d : Bool) (i p : ℕ) → (i < p → d ≡ false) → (d && nat_lt i p) ≡ false
and_later true i p h =
    elim (cases_lt i p) [
      | inl lt ↦ absurd (true≢false (h lt))
      | inr ge ↦ le-ltb i p ge
    ]
and_later false i p h = refl

positions_grow : (trace : Trace) (claim : Claim) → FitsRows trace claim → (n more : ℕ) → 0 < n → n + more ≤ length trace.clock → position_of trace.host n ≤ position_of trace.host (n + more)
positions_grow trace claim fits n zero low le = let same : n ≡ n + 0 = omega arith in subst (λ (k : ℕ). position_of trace.host n ≤ position_of trace.host k) same (omega arith)
positions_grow trace claim fits n (suc more) low le =
    let rise = fits.positions_rise (n + more) (omega arith) (omega arith) in
    let so_far = positions_grow trace claim fits n more low (omega arith) in
    let same : n + more + 1 ≡ n + suc more = omega arith in
    subst (λ (k : ℕ). position_of trace.host n ≤ position_of trace.host k) same (omega arith)

position_before : (trace : Trace) (claim : Claim) → FitsRows trace claim → (n : ℕ) → 0 < n → n ≤ claim.row → position_of trace.host n ≤ position_of trace.host claim.row
position_before trace claim fits n low le =
    let high = fits.row_most in
    let whole : n + (claim.row - n) ≡ claim.row = omega arith in
    subst (λ (k : ℕ). position_of trace.host n ≤ position_of trace.host k) whole (positions_grow trace claim fits n (claim.row - n) low (omega arith))

unexcused : (trace : Trace) (claim : Claim) (as_of half : ℕ) → FitsRows trace claim → IsTrusted trace claim as_of half → Passes trace claim →
    (n : ℕ) → 0 < n → n ≤ claim.row → is_excused trace.host claim.marked_at n ≡ false
unexcused trace claim as_of half fits trusted passed n low le =
    let before = position_before trace claim fits n low le in
    ap is_some (all_fail (λ p. is_disrupt_at trace.host p && nat_lt claim.marked_at p) (position_of trace.host (n - 1) + 1) (position_of trace.host n)
    (λ k from to. and_later (is_disrupt_at trace.host k) claim.marked_at k
    (λ lt. calm_host trace claim as_of half fits trusted passed k lt (omega arith))))

-- ---- so no pair of clock rows breaks the drift

kept_pair : (trace : Trace) (claim : Claim) (as_of half : ℕ) → FitsRows trace claim → IsTrusted trace claim as_of half → Passes trace claim →
    (n : ℕ) → claim.second < n → n ≤ claim.row → breaks_drift_at trace.drift trace.clock n ≡ false
kept_pair trace claim as_of half fits trusted passed n lt le =
    and_not (breaks_drift_at trace.drift trace.clock n) (is_excused trace.host claim.marked_at n)
    (none_in (is_drifting trace.drift trace.clock trace.host claim.marked_at) (claim.second + 1) (claim.row + 1) passed.drift n (omega arith) (omega arith))
    (unexcused trace claim as_of half fits trusted passed n (omega arith) le)

found_none : (found : Bool) (at : ℕ) → where_found found at ≡ None → found ≡ false
found_none true at none = absurd (true≢false (ap is_some none))
found_none false at none = refl

told_truth : (o : Option ℕ) → is_none o ≡ false → (t : ℕ) × (o ≡ Some t) × (or_zero o ≡ t)
told_truth None f = absurd (true≢false f)
told_truth (Some t) f = (t, refl, refl)

within : (size from bound grown half d e f : ℕ) → size * 1000000000 ≤ from * 1000000000 + d → from ≤ bound → f ≡ e + d → bound * 1000000000 + f ≤ half * 1000000000 → size ≤ half
within size from bound grown half d e f a b c g = omega arith

close : (trace : Trace) (claim : Claim) (as_of half : ℕ) → IsTrusted trace claim as_of half → Passes trace claim → KeepsDrift trace.drift trace.clock claim.second claim.row →
    offset_size (row_at trace.clock claim.row) ≤ half
close trace claim as_of half trusted passed reach =
    let later = reach.0 in
    let bound = ltb-false claim.bound (offset_size (row_at trace.clock claim.second)) (found_none _ _ passed.bound) in
    let split = split_time trace.drift as_of (row_at trace.clock claim.second).mono (row_at trace.clock claim.row).mono trusted.since later in
    let turned : ((row_at trace.clock claim.row).mono - as_of) * trace.drift ≡ trace.drift * ((row_at trace.clock claim.row).mono - as_of) = mul_comm _ _ in
    within _ _ _ 0 _ _ _ _ reach.1 bound split (subst (λ (n : ℕ). claim.bound * 1000000000 + n ≤ half * 1000000000) turned trusted.covers)

earliest : (real truth half : ℕ) → nat_abs (pos real -ℤ pos truth) ≤ half → (pos real -ℤ pos half) ≤ℤ pos truth
earliest real truth half near = omega (arith, ints, near)

latest : (real truth half : ℕ) → nat_abs (pos real -ℤ pos truth) ≤ half → pos truth ≤ℤ (pos real +ℤ pos half)
latest real truth half near = omega (arith, ints, near)

pub kept_contains : KeptClaimsContain
kept_contains trace claim as_of half falls fits trusted none =
    let passed = passes trace claim none in
    let low = fits.second_least in
    let order = fits.second_most in
    let high = fits.row_most in
    let whole : claim.second + (claim.row - claim.second) ≡ claim.row = omega arith in
    let reach : KeepsDrift trace.drift trace.clock claim.second claim.row =
    subst (λ (n : ℕ). KeepsDrift trace.drift trace.clock claim.second n) whole
    (keeps_drift trace.drift trace.clock claim.second (claim.row - claim.second)
    (λ n from to. clock_rises trace.clock falls n (omega arith) (omega arith))
    (λ n from to. kept_pair trace claim as_of half fits trusted passed n from (omega arith))) in
    let told = told_truth (row_at trace.clock claim.row).truth (none_in (is_untold trace.clock) claim.second (claim.row + 1) passed.untold claim.row order (omega arith)) in
    let near : nat_abs (pos (row_at trace.clock claim.row).real -ℤ pos told.0) ≤ half =
    subst (λ (t : ℕ). nat_abs (pos (row_at trace.clock claim.row).real -ℤ pos t) ≤ half) told.2 (close trace claim as_of half trusted passed reach) in
    record {
      truth = told.0;
      told = told.1;
      earliest = earliest (row_at trace.clock claim.row).real told.0 half near;
      latest = latest (row_at trace.clock claim.row).real told.0 half near;
    }
