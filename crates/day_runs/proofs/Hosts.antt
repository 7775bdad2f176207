-- The host rows of a day.
use Rattle.std.proofs.Common.{◌≡◌, ◌≢◌, ℕ, zero, suc, ◌+◌, ◌<◌, ◌≤◌, true, false, List, ◌∷◌, ◌++◌, take, slice_index_or, Some, refl, sym, ap, ◌∙◌, arith, inl, inr, true≢false}
use Rattle.std.proofs.lemmas.Bool.{cases_eq, eq-eqb, ne_eqb}
use Rattle.clock_gate.specs.declared.trace.HostRow.{HostRow}
use Rattle.clock_gate.specs.declared.trace.HostRow.TheVariants.{Clock, Page, Disrupt}
use Rattle.vmclock_page.specs.Words.{page_words}
use Rattle.drill_day.specs.Draws.{seconds}
use Rattle.drill_day.specs.Seconds.{host_in, marked_page}
use Rattle.promise_judge.specs.Markers.{brings_back, marker_after}
use Rattle.promise_judge.specs.Positions.{is_disrupt}

-- the page row after the disruption
abbrev pub marked : HostRow
marked = Page (page_words 0 (marked_page 8))

-- what holds in a second of either kind holds in it
second_by : (P : List HostRow → Type 0) (m k : ℕ) (rows : List HostRow) → (k ≡ m → P (Disrupt ∷ marked ∷ Clock k ∷ rows)) → (k ≢ m → P (Clock k ∷ rows)) → P (host_in m k ++ rows)
second_by P m k rows here there =
    elim (cases_eq k m) [
      | inl same ↦ rw (eq-eqb k m same) (here same)
      | inr other ↦ rw (ne_eqb k m other) (there other)
    ]

lt_of : (k m : ℕ) → k ≤ m → k ≢ m → k + 1 ≤ m
lt_of k m le other = omega arith

abbrev pub row_in : List HostRow → ℕ → HostRow
row_in rows i = slice_index_or rows i (Clock 0)

abbrev pub IsClock : HostRow → Type 0
IsClock row = (n : ℕ) × (row ≡ Clock n)

-- after the middle there are clock rows alone
abbrev pub AllClocks : List HostRow → Type 0
AllClocks rows = (i : ℕ) → IsClock (row_in rows i)

clock_then : (k : ℕ) (rows : List HostRow) → AllClocks rows → AllClocks (Clock k ∷ rows)
clock_then k rows h zero = (k, refl)
clock_then k rows h (suc i) = h i

after_middle : (m k left : ℕ) → m < k → AllClocks (seconds (host_in m) k left)
unfolding seconds
after_middle m k zero lt = λ i. (0, refl)
after_middle m k (suc left) lt =
    second_by AllClocks m k (seconds (host_in m) (k + 1) left) (λ same. absurd (omega arith))
    (λ other. clock_then k (seconds (host_in m) (k + 1) left) (after_middle m (k + 1) left (omega arith)))

-- a disrupt row stands at the middle alone
abbrev pub DisruptsAt : ℕ → List HostRow → Type 0
DisruptsAt at rows = (i : ℕ) → is_disrupt (row_in rows i) ≡ true → i ≡ at

no_disrupt : (row : HostRow) → IsClock row → is_disrupt row ≡ true → ⊥
no_disrupt row c t = true≢false (sym t ∙ ap is_disrupt c.1)

disrupt_here : (k : ℕ) (rows : List HostRow) → AllClocks rows → DisruptsAt 0 (Disrupt ∷ marked ∷ Clock k ∷ rows)
disrupt_here k rows h zero t = refl
disrupt_here k rows h (suc zero) t = absurd (true≢false (sym t))
disrupt_here k rows h (suc (suc zero)) t = absurd (true≢false (sym t))
disrupt_here k rows h (suc (suc (suc i))) t = absurd (no_disrupt (row_in rows i) (h i) t)

disrupt_later : (k at : ℕ) (rows : List HostRow) → DisruptsAt at rows → DisruptsAt (suc at) (Clock k ∷ rows)
disrupt_later k at rows h zero t = absurd (true≢false (sym t))
disrupt_later k at rows h (suc i) t = ap suc (h i t)

pub disrupts : (m k left d : ℕ) → k + d ≡ m → DisruptsAt d (seconds (host_in m) k left)
unfolding seconds
disrupts m k zero d e = λ i t. absurd (true≢false (sym t))
disrupts m k (suc left) zero e =
    second_by (DisruptsAt 0) m k (seconds (host_in m) (k + 1) left)
    (λ same. disrupt_here k (seconds (host_in m) (k + 1) left) (after_middle m (k + 1) left (omega arith))) (λ other. absurd (other (omega arith)))
disrupts m k (suc left) (suc d) e =
    second_by (DisruptsAt (suc d)) m k (seconds (host_in m) (k + 1) left) (λ same. absurd (omega arith))
    (λ other. disrupt_later k d (seconds (host_in m) (k + 1) left) (disrupts m (k + 1) left d (omega arith)))

-- the page row follows it, and no page row stands before it
abbrev pub PageAt : ℕ → List HostRow → Type 0
PageAt at rows = (row_in rows (suc at) ≡ marked) × (marker_after (Some 7) (take (suc at) rows) ≡ Some 7)

page_later : (k at : ℕ) (rows : List HostRow) → PageAt at rows → PageAt (suc at) (Clock k ∷ rows)
page_later k at rows h = h

pub page_there : (m k left d : ℕ) → k + d ≡ m → d < left → PageAt d (seconds (host_in m) k left)
unfolding seconds
page_there m k zero d e lt = absurd (omega arith)
page_there m k (suc left) zero e lt =
    second_by (PageAt 0) m k (seconds (host_in m) (k + 1) left) (λ same. (refl, refl)) (λ other. absurd (other (omega arith)))
page_there m k (suc left) (suc d) e lt =
    second_by (PageAt (suc d)) m k (seconds (host_in m) (k + 1) left) (λ same. absurd (omega arith))
    (λ other. page_later k d (seconds (host_in m) (k + 1) left) (page_there m (k + 1) left d (omega arith) (omega arith)))

-- no page row brings back an earlier marker
abbrev pub NoneReturns : List HostRow → Type 0
NoneReturns rows = (i : ℕ) → brings_back (Some 7) (take i rows) (row_in rows i) ≡ false

clock_returns : (before : List HostRow) (row : HostRow) → IsClock row → brings_back (Some 7) before row ≡ false
clock_returns before row c = ap (brings_back (Some 7) before) c.1

returns_here : (k : ℕ) (rows : List HostRow) → AllClocks rows → NoneReturns (Disrupt ∷ marked ∷ Clock k ∷ rows)
returns_here k rows h zero = refl
returns_here k rows h (suc zero) = refl
returns_here k rows h (suc (suc zero)) = refl
returns_here k rows h (suc (suc (suc i))) = clock_returns (Disrupt ∷ marked ∷ Clock k ∷ take i rows) (row_in rows i) (h i)

same_before : (k : ℕ) (before : List HostRow) (row : HostRow) → brings_back (Some 7) (Clock k ∷ before) row ≡ brings_back (Some 7) before row
same_before k before (Clock n) = refl
same_before k before (Page x) = refl
same_before k before Disrupt = refl

returns_later : (k : ℕ) (rows : List HostRow) → NoneReturns rows → NoneReturns (Clock k ∷ rows)
returns_later k rows h zero = refl
returns_later k rows h (suc i) = same_before k (take i rows) (row_in rows i) ∙ h i

pub none_returns : (m k left : ℕ) → k ≤ m → NoneReturns (seconds (host_in m) k left)
unfolding seconds
none_returns m k zero le = λ i. refl
none_returns m k (suc left) le =
    second_by NoneReturns m k (seconds (host_in m) (k + 1) left)
    (λ same. returns_here k (seconds (host_in m) (k + 1) left) (after_middle m (k + 1) left (omega arith)))
    (λ other. returns_later k (seconds (host_in m) (k + 1) left) (none_returns m (k + 1) left (lt_of k m le other)))
