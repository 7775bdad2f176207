-- Where no page row brings back an earlier marker, equal markers mean that none changed between.
use Rattle.std.proofs.Common.{◌≡◌, ◌≢◌, ◌⊎◌, ℕ, zero, suc, ◌+◌, ◌-◌, ◌<◌, ◌≤◌, Bool, true, false, not, ◌&&◌, ◌||◌, nat_eq, List, [], ◌∷◌, length, take, slice_index_or, Option, Some, None, refl, sym, ap, ◌∙◌, subst, arith, inl, inr, true≢false}
use Rattle.std.proofs.lemmas.Bool.{cases_Bool, cases_lt, eqb-true, eq-eqb}
use Rattle.std.specs.List.{list_any}
use Rattle.clock_gate.specs.declared.trace.HostRow.{HostRow}
use Rattle.clock_gate.specs.declared.trace.HostRow.TheVariants.{Clock, Page, Disrupt}
use Rattle.promise_judge.specs.Markers.{marker_in, marker_after, markers_of, is_that, changes, changes_at, brings_back, repeats_at}

-- the marker after one row more
abbrev pub marker_next : Option ℕ → HostRow → Option ℕ
marker_next before (Clock number) = before
marker_next before (Page words) = Some (marker_in words)
marker_next before Disrupt = before

pub marker_after-next : (start : Option ℕ) (host : List HostRow) (m : ℕ) → m < length host →
    marker_after start (take (suc m) host) ≡ marker_next (marker_after start (take m host)) (slice_index_or host m (Clock 0))
marker_after-next start [] m lt = absurd (omega arith)
marker_after-next start (Clock n ∷ host) zero lt = refl
marker_after-next start (Page w ∷ host) zero lt = refl
marker_after-next start (Disrupt ∷ host) zero lt = refl
marker_after-next start (Clock n ∷ host) (suc m) lt = marker_after-next start host m (omega arith)
marker_after-next start (Page w ∷ host) (suc m) lt = marker_after-next (Some (marker_in w)) host m (omega arith)
marker_after-next start (Disrupt ∷ host) (suc m) lt = marker_after-next start host m (omega arith)

pub unchanged : (before : Option ℕ) (row : HostRow) → changes before row ≡ false → marker_next before row ≡ before
unchanged before (Clock n) calm = refl
unchanged before Disrupt calm = refl
unchanged None (Page w) calm = absurd (true≢false calm)
unchanged (Some marker) (Page w) calm =
    elim (cases_Bool (nat_eq (marker_in w) marker)) [
      | inl same ↦ ap Some (eqb-true (marker_in w) marker same)
      | inr other ↦ absurd (true≢false (sym (ap not other) ∙ calm))
    ]

or_right : (a b : Bool) → b ≡ true → (a || b) ≡ true
or_right true b is = refl
or_right false b is = is

or_left : (a b : Bool) → a ≡ true → (a || b) ≡ true
or_left a b is = rw is refl

-- a marker that stood after the first rows is an earlier one
pub stood_before : (start : Option ℕ) (host : List HostRow) (i j : ℕ) (words : List ℕ) → i ≤ j → marker_after start (take i host) ≡ Some (marker_in words) →
    brings_back start (take j host) (Page words) ≡ true
stood_before start host zero j words le is =
    or_left (is_that (marker_in words) start) (list_any (λ other. nat_eq (marker_in words) other) (markers_of (take j host)))
    (ap (is_that (marker_in words)) is ∙ eq-eqb (marker_in words) (marker_in words) refl)
stood_before start host (suc i) zero words le is = absurd (omega arith)
stood_before start [] (suc i) (suc j) words le is =
    or_left (is_that (marker_in words) start) false (ap (is_that (marker_in words)) is ∙ eq-eqb (marker_in words) (marker_in words) refl)
stood_before start (Page w ∷ host) (suc i) (suc j) words le is =
    or_right (is_that (marker_in words) start) (nat_eq (marker_in words) (marker_in w) || list_any (λ other. nat_eq (marker_in words) other) (markers_of (take j host)))
    (stood_before (Some (marker_in w)) host i j words (omega arith) is)
stood_before start (Clock n ∷ host) (suc i) (suc j) words le is = stood_before start host i j words (omega arith) is
stood_before start (Disrupt ∷ host) (suc i) (suc j) words le is = stood_before start host i j words (omega arith) is

-- a change to a marker that didn't stand before
fresh : (start before : Option ℕ) (host : List HostRow) (i j : ℕ) (row : HostRow) → i ≤ j → changes before row ≡ true → brings_back start (take j host) row ≡ false →
    marker_next before row ≢ marker_after start (take i host)
fresh start before host i j (Clock n) le change new = absurd (true≢false (sym change))
fresh start before host i j Disrupt le change new = absurd (true≢false (sym change))
fresh start before host i j (Page w) le change new = λ same. true≢false (sym (stood_before start host i j w le (sym same)) ∙ new)

-- no page row after this host position, up to that one, changes the marker
abbrev pub NoneChanges : Option ℕ → List HostRow → (after to : ℕ) → Type 0
NoneChanges start host after to = (k : ℕ) → after < k → k ≤ to → changes_at start host k ≡ false

back_one : (m : ℕ) → m + 1 - 1 ≡ m
back_one m = omega arith

pub changes_next : (start : Option ℕ) (host : List HostRow) (m : ℕ) → changes_at start host (m + 1) ≡ changes (marker_after start (take m host)) (slice_index_or host m (Clock 0))
changes_next start host m = ap (λ k. changes (marker_after start (take k host)) (slice_index_or host k (Clock 0))) (back_one m)

pub repeats_next : (start : Option ℕ) (host : List HostRow) (m : ℕ) →
    repeats_at start host (m + 1) ≡ (changes (marker_after start (take m host)) (slice_index_or host m (Clock 0)) && brings_back start (take m host) (slice_index_or host m (Clock 0)))
repeats_next start host m =
    ap (λ k. changes (marker_after start (take k host)) (slice_index_or host k (Clock 0)) && brings_back start (take k host) (slice_index_or host k (Clock 0))) (back_one m)

not_both : (c r : Bool) → c ≡ true → (c && r) ≡ false → r ≡ false
not_both true r is f = f
not_both false r is f = absurd (true≢false (sym is))

calm_more : (start : Option ℕ) (host : List HostRow) (i m : ℕ) → NoneChanges start host i m → changes_at start host (m + 1) ≡ false → NoneChanges start host i (m + 1)
calm_more start host i m none calm k low high =
    elim (cases_lt m k) [
      | inl lt ↦ (let same : m + 1 ≡ k = omega arith in subst (λ (n : ℕ). changes_at start host n ≡ false) same calm)
      | inr ge ↦ none k low ge
    ]

one_more : (start : Option ℕ) (host : List HostRow) (i m : ℕ) → i ≤ m → m < length host → repeats_at start host (m + 1) ≡ false →
    NoneChanges start host i m ⊎ (marker_after start (take m host) ≢ marker_after start (take i host)) →
    NoneChanges start host i (suc m) ⊎ (marker_after start (take (suc m) host) ≢ marker_after start (take i host))
one_more start host i m le lt new so_far =
    let row : HostRow = slice_index_or host m (Clock 0) in
    let made = marker_after-next start host m lt in
    elim (cases_Bool (changes (marker_after start (take m host)) row)) [
      | inl change ↦
          inr (subst (λ (o : Option ℕ). o ≢ marker_after start (take i host)) (sym made)
          (fresh start (marker_after start (take m host)) host i m row le change
          (not_both (changes (marker_after start (take m host)) row) (brings_back start (take m host) row) change (sym (repeats_next start host m) ∙ new))))
      | inr calm ↦
          (elim so_far [
            | inl none ↦ inl (let same : m + 1 ≡ suc m = omega arith in subst (λ (n : ℕ). NoneChanges start host i n) same (calm_more start host i m none (changes_next start host m ∙ calm)))
            | inr apart ↦ inr (subst (λ (o : Option ℕ). o ≢ marker_after start (take i host)) (sym (made ∙ unchanged (marker_after start (take m host)) row calm)) apart)
          ])
    ]

-- where none repeats, either none changes the marker, or the markers at both ends differ
pub told_apart : (start : Option ℕ) (host : List HostRow) (i more : ℕ) → i + more ≤ length host → ((k : ℕ) → i < k → k ≤ i + more → repeats_at start host k ≡ false) →
    NoneChanges start host i (i + more) ⊎ (marker_after start (take (i + more) host) ≢ marker_after start (take i host))
told_apart start host i zero le new = inl (λ k low high. absurd (omega arith))
told_apart start host i (suc more) le new =
    let next : suc (i + more) ≡ i + suc more = omega arith in
    subst (λ (n : ℕ). NoneChanges start host i n ⊎ (marker_after start (take n host) ≢ marker_after start (take i host))) next
    (one_more start host i (i + more) (omega arith) (omega arith) (new (i + more + 1) (omega arith) (omega arith))
    (told_apart start host i more (omega arith) (λ k low high. new k low (omega arith))))
