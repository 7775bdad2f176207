-- One step of a walk over the rows.
use Rattle.std.proofs.Common.{◌≡◌, ℕ, zero, suc, ◌+◌, ◌-◌, ◌<◌, ◌≤◌, Bool, true, false, ◌&&◌, ◌||◌, cond, List, [], ◌∷◌, ◌++◌, length, take, drop, slice_index_or, Option, Some, None, is_some, refl, sym, ap, ◌∙◌, subst, arith, true≢false}
use Rattle.std.proofs.lemmas.List.{take_more, get_or_past}
use Rattle.clock_gate.specs.declared.trace.HostRow.{HostRow}
use Rattle.clock_gate.specs.declared.trace.HostRow.TheVariants.{Clock, Page, Disrupt}
use Rattle.promise_judge.specs.Firsts.{first_in}
use Rattle.promise_judge.specs.Markers.{marker_after, marker_of_row, is_that, changes, changes_at, has_stood, brings_back, repeats_at}
use Rattle.promise_judge.specs.Positions.{is_clock, position_from, position_of}
use Rattle.promise_judge.proofs.Firsts.{first_step, first_end}
use Rattle.promise_judge.proofs.MorePages.{has_stood-page, has_stood-other}
use Rattle.promise_judge.proofs.Pages.{marker_next, marker_after-next}

-- ---- the first number that passes

pub walk_step : (test : ℕ → Bool) (low high : ℕ) → low < high → first_in test low high ≡ cond (test low) (Some low) (first_in test (low + 1) high)
walk_step test low high lt = first_step test low high lt

pub walk_end : (test : ℕ → Bool) (low high : ℕ) → high ≤ low → first_in test low high ≡ None
walk_end test low high le = first_end test low high le

-- ---- the position of a clock row

-- the walk so far found none: what is left of it begins at the next row
abbrev pub position_left : List HostRow → (done n : ℕ) → ℕ
position_left host done n = position_from (done + 1) (drop done host) n

drop_next : (host : List HostRow) (done : ℕ) → done < length host → drop done host ≡ slice_index_or host done (Clock 0) ∷ drop (suc done) host
drop_next [] done lt = absurd (omega arith)
drop_next (row ∷ host) zero lt = refl
drop_next (row ∷ host) (suc done) lt = drop_next host done (omega arith)

drop_end : (host : List HostRow) (done : ℕ) → length host ≤ done → drop done host ≡ []
drop_end [] zero le = refl
drop_end [] (suc done) le = refl
drop_end (row ∷ host) zero le = absurd (omega arith)
drop_end (row ∷ host) (suc done) le = drop_end host done (omega arith)

pub position_here : (host : List HostRow) (done n : ℕ) → done < length host → is_clock n (slice_index_or host done (Clock 0)) ≡ true → position_left host done n ≡ done + 1
position_here host done n lt here =
    ap (λ rows. position_from (done + 1) rows n) (drop_next host done lt) ∙ ap (λ b. cond b (done + 1) (position_from (done + 1 + 1) (drop (suc done) host) n)) here

pub position_next : (host : List HostRow) (done n : ℕ) → done < length host → is_clock n (slice_index_or host done (Clock 0)) ≡ false → position_left host done n ≡ position_left host (done + 1) n
position_next host done n lt other =
    let next : suc done ≡ done + 1 = omega arith in
    ap (λ rows. position_from (done + 1) rows n) (drop_next host done lt)
    ∙ (ap (λ b. cond b (done + 1) (position_from (done + 1 + 1) (drop (suc done) host) n)) other ∙ ap (λ k. position_from (done + 1 + 1) (drop k host) n) next)

pub position_begin : (host : List HostRow) (n : ℕ) → position_of host n ≡ position_left host 0 n
position_begin host n = refl

pub position_end : (host : List HostRow) (done n : ℕ) → length host ≤ done → position_left host done n ≡ done + 1
position_end host done n le = ap (λ rows. position_from (done + 1) rows n) (drop_end host done le)

-- ---- the last marker, and all markers

next_some : (before : Option ℕ) (row : HostRow) (marker : ℕ) → marker_of_row row ≡ Some marker → marker_next before row ≡ Some marker
next_some before (Clock n) marker is = absurd (true≢false (sym (ap is_some is)))
next_some before (Page w) marker is = is
next_some before Disrupt marker is = absurd (true≢false (sym (ap is_some is)))

next_none : (before : Option ℕ) (row : HostRow) → marker_of_row row ≡ None → marker_next before row ≡ before
next_none before (Clock n) is = refl
next_none before (Page w) is = absurd (true≢false (ap is_some is))
next_none before Disrupt is = refl

taken : (start : Option ℕ) (host : List HostRow) (left : ℕ) → 0 < left → left ≤ length host →
    marker_after start (take left host) ≡ marker_next (marker_after start (take (left - 1) host)) (slice_index_or host (left - 1) (Clock 0))
taken start host left low le =
    let whole : suc (left - 1) ≡ left = omega arith in
    subst (λ (k : ℕ). marker_after start (take k host) ≡ marker_next (marker_after start (take (left - 1) host)) (slice_index_or host (left - 1) (Clock 0))) whole
    (marker_after-next start host (left - 1) (omega arith))

pub marker_here : (start : Option ℕ) (host : List HostRow) (left marker : ℕ) → 0 < left → left ≤ length host → marker_of_row (slice_index_or host (left - 1) (Clock 0)) ≡ Some marker →
    marker_after start (take left host) ≡ Some marker
marker_here start host left marker low le is = taken start host left low le ∙ next_some (marker_after start (take (left - 1) host)) (slice_index_or host (left - 1) (Clock 0)) marker is

pub marker_back : (start : Option ℕ) (host : List HostRow) (left : ℕ) → 0 < left → left ≤ length host → marker_of_row (slice_index_or host (left - 1) (Clock 0)) ≡ None →
    marker_after start (take left host) ≡ marker_after start (take (left - 1) host)
marker_back start host left low le is = taken start host left low le ∙ next_none (marker_after start (take (left - 1) host)) (slice_index_or host (left - 1) (Clock 0)) is

has_stood-row : (start : Option ℕ) (rows : List HostRow) (row : HostRow) (q : ℕ) → has_stood start (rows ++ row ∷ []) q ≡ (is_that q (marker_of_row row) || has_stood start rows q)
has_stood-row start rows (Clock n) q = has_stood-other start rows (Clock n) q refl
has_stood-row start rows (Page w) q = has_stood-page start rows w q
has_stood-row start rows Disrupt q = has_stood-other start rows Disrupt q refl

stood_taken : (start : Option ℕ) (host : List HostRow) (left q : ℕ) → 0 < left → left ≤ length host →
    has_stood start (take left host) q ≡ (is_that q (marker_of_row (slice_index_or host (left - 1) (Clock 0))) || has_stood start (take (left - 1) host) q)
stood_taken start host left q low le =
    let whole : left - 1 + 1 ≡ left = omega arith in
    ap (λ k. has_stood start (take k host) q) (sym whole)
    ∙ (ap (λ rows. has_stood start rows q) (take_more host (left - 1) (Clock 0) (omega arith)) ∙ has_stood-row start (take (left - 1) host) (slice_index_or host (left - 1) (Clock 0)) q)

pub stood_here : (start : Option ℕ) (host : List HostRow) (left q : ℕ) → 0 < left → left ≤ length host → is_that q (marker_of_row (slice_index_or host (left - 1) (Clock 0))) ≡ true →
    has_stood start (take left host) q ≡ true
stood_here start host left q low le is = stood_taken start host left q low le ∙ ap (λ b. b || has_stood start (take (left - 1) host) q) is

pub stood_back : (start : Option ℕ) (host : List HostRow) (left q : ℕ) → 0 < left → left ≤ length host → is_that q (marker_of_row (slice_index_or host (left - 1) (Clock 0))) ≡ false →
    has_stood start (take left host) q ≡ has_stood start (take (left - 1) host) q
stood_back start host left q low le is = stood_taken start host left q low le ∙ ap (λ b. b || has_stood start (take (left - 1) host) q) is

-- past the end there is no page row
no_row_past : (host : List HostRow) (p : ℕ) → length host ≤ p - 1 → slice_index_or host (p - 1) (Clock 0) ≡ Clock 0
no_row_past host p le = get_or_past host (p - 1) (Clock 0) le

pub no_change_past : (start : Option ℕ) (host : List HostRow) (p : ℕ) → length host ≤ p - 1 → changes_at start host p ≡ false
no_change_past start host p le = ap (changes (marker_after start (take (p - 1) host))) (no_row_past host p le)

pub no_repeat_past : (start : Option ℕ) (host : List HostRow) (p : ℕ) → length host ≤ p - 1 → repeats_at start host p ≡ false
no_repeat_past start host p le = ap (λ b. b && brings_back start (take (p - 1) host) (slice_index_or host (p - 1) (Clock 0))) (no_change_past start host p le)
