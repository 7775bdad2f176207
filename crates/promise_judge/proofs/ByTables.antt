-- What the tables tell is what each test finds.
use Rattle.std.proofs.Common.{◌≡◌, ℕ, zero, suc, ◌+◌, ◌-◌, ◌<◌, ◌≤◌, Bool, true, false, not, ◌&&◌, nat_lt, cond, List, length, slice_index, Option, Some, None, is_some, refl, ap, ◌∙◌, subst, arith, inl, inr, max}
use Rattle.std.proofs.lemmas.Bool.{cases_lt, and_from, and_left, and_right}
use Rattle.std.proofs.lemmas.Bool.Decides.{nat_tests}
use Rattle.clock_gate.specs.declared.clock_row.ClockRow.{ClockRow}
use Rattle.clock_gate.specs.declared.trace.HostRow.{HostRow}
use Rattle.clock_gate.specs.declared.trace.Trace.{Trace}
use Rattle.promise_judge.specs.declared.claim.Claim.{Claim}
use Rattle.promise_judge.specs.declared.tables.Tables.{Tables}
use Rattle.promise_judge.specs.Disruptions.{is_excused, is_drifting, is_told, is_hidden}
use Rattle.promise_judge.specs.Firsts.{first_in}
use Rattle.promise_judge.specs.Markers.{start_marker, changes_at, repeats_at}
use Rattle.promise_judge.specs.Offsets.{is_untold, breaks_drift_at}
use Rattle.promise_judge.specs.Positions.{is_disrupt_at, position_of}
use Rattle.promise_judge.specs.Promises.{untold_of, drift_of, mark_of, repeat_of}
use Rattle.promise_judge.specs.Searching.{IsNext, IsLast, AreNext, if_below}
use Rattle.promise_judge.specs.Shown.{ArePositions, ShowsRows}
use Rattle.promise_judge.specs.Telling.{FitsRows}
use Rattle.promise_judge.proofs.Firsts.{first_end, first_step, next_in, same_in, one_in, all_fail, is_some-if_below}

-- ---- Untold and Repeat

pub untold_by : (trace : Trace) (claim : Claim) (tables : Tables) → ShowsRows trace tables → FitsRows trace claim →
    untold_of trace.clock claim ≡ if_below (claim.row + 1) (slice_index tables.untold.items claim.second)
untold_by trace claim tables shown fits =
    let least = fits.second_least in
    let low = fits.second_most in
    let high = fits.row_most in
    next_in (is_untold trace.clock) (length trace.clock + 1) claim.second (claim.row + 1) (slice_index tables.untold.items claim.second)
    (shown.untold.next claim.second (omega arith) (omega arith)) (omega arith)

pub repeat_by : (trace : Trace) (claim : Claim) (tables : Tables) → ShowsRows trace tables → FitsRows trace claim →
    repeat_of (start_marker trace.page) trace.host claim ≡ if_below (claim.mark_at + 1) tables.repeat
repeat_by trace claim tables shown fits =
    let high = fits.mark_at_most in
    next_in (repeats_at (start_marker trace.page) trace.host) (length trace.host + 1) 1 (claim.mark_at + 1) tables.repeat shown.repeat (omega arith)

-- ---- Drift

-- the first number after both that passes is the first after `low` that passes and lies after i
next_after : (test : ℕ → Bool) (limit i low next : ℕ) → IsNext test limit (max i low + 1) next → IsNext (λ p. test p && nat_lt i p) limit (low + 1) next
next_after test limit i low next is =
    let from = is.low in
    record {
      low = omega arith;
      high = is.high;
      passes = λ lt. and_from (test next) (nat_lt i next) (is.passes lt) (grind (arith, nat_tests));
      fails = λ k a b.
          elim (cases_lt i k) [
            | inl later ↦ and_left (test k) (nat_lt i k) (is.fails k (omega arith) b)
            | inr before ↦ and_right (test k) (nat_lt i k) (grind (arith, nat_tests))
          ];
    }

-- whether a disruption excuses a pair, by the next one after the pair's first row and after i
pub excused_by : (host : List HostRow) (limit i n p : ℕ) →
    IsNext (is_disrupt_at host) limit (max i (position_of host (n - 1)) + 1) p → position_of host n ≤ limit →
    is_excused host i n ≡ nat_lt p (position_of host n)
excused_by host limit i n p is high =
    ap is_some (next_in (λ x. is_disrupt_at host x && nat_lt i x) limit (position_of host (n - 1) + 1) (position_of host n) p
    (next_after (is_disrupt_at host) limit i (position_of host (n - 1)) p is) high)
    ∙ is_some-if_below (position_of host n) p

-- a pair that lies after host position i is excused by any disruption
excused_later : (host : List HostRow) (i n : ℕ) → i ≤ position_of host (n - 1) → is_excused host i n ≡ is_excused host 0 n
excused_later host i n le =
    ap is_some (same_in (λ x. is_disrupt_at host x && nat_lt i x) (λ x. is_disrupt_at host x && nat_lt 0 x) (position_of host (n - 1) + 1) (position_of host n)
    (λ k a b.
    let l : nat_lt i k ≡ true = grind (arith, nat_tests) in
    let r : nat_lt 0 k ≡ true = grind (arith, nat_tests) in
    rw (l, r) refl))

drifting_later : (drift : ℕ) (clock : List ClockRow) (host : List HostRow) (i n : ℕ) → i ≤ position_of host (n - 1) → is_drifting drift clock host i n ≡ is_drifting drift clock host 0 n
drifting_later drift clock host i n le = ap (λ e. breaks_drift_at drift clock n && not e) (excused_later host i n le)

positions_after : (trace : Trace) (claim : Claim) → FitsRows trace claim → (more : ℕ) → claim.second + 1 + more ≤ length trace.clock →
    position_of trace.host (claim.second + 1) ≤ position_of trace.host (claim.second + 1 + more)
positions_after trace claim fits zero le =
    let same : claim.second + 1 ≡ claim.second + 1 + 0 = omega arith in
    subst (λ (k : ℕ). position_of trace.host (claim.second + 1) ≤ position_of trace.host k) same (omega arith)
positions_after trace claim fits (suc more) le =
    let rise = fits.positions_rise (claim.second + 1 + more) (omega arith) (omega arith) in
    let so_far = positions_after trace claim fits more (omega arith) in
    let same : claim.second + 1 + more + 1 ≡ claim.second + 1 + suc more = omega arith in
    subst (λ (k : ℕ). position_of trace.host (claim.second + 1) ≤ position_of trace.host k) same (omega arith)

-- every pair but the first lies after the base poll's marker load
position_later : (trace : Trace) (claim : Claim) → FitsRows trace claim → (n : ℕ) → claim.second + 2 ≤ n → n ≤ length trace.clock → claim.marked_at ≤ position_of trace.host (n - 1)
position_later trace claim fits n low high =
    let order = fits.next_later (omega arith) in
    let more = positions_after trace claim fits (n - 1 - (claim.second + 1)) (omega arith) in
    let same : claim.second + 1 + (n - 1 - (claim.second + 1)) ≡ n - 1 = omega arith in
    let there = subst (λ (k : ℕ). position_of trace.host (claim.second + 1) ≤ position_of trace.host k) same more in
    omega arith

pub drift_none : (drift : ℕ) (clock : List ClockRow) (host : List HostRow) (claim : Claim) → claim.row ≤ claim.second → drift_of drift clock host claim ≡ None
drift_none drift clock host claim le = first_end (is_drifting drift clock host claim.marked_at) (claim.second + 1) (claim.row + 1) (omega arith)

pub drift_first : (drift : ℕ) (clock : List ClockRow) (host : List HostRow) (claim : Claim) → claim.second < claim.row → is_drifting drift clock host claim.marked_at (claim.second + 1) ≡ true →
    drift_of drift clock host claim ≡ Some (claim.second + 1)
drift_first drift clock host claim lt here =
    first_step (is_drifting drift clock host claim.marked_at) (claim.second + 1) (claim.row + 1) (omega arith)
    ∙ ap (λ b. cond b (Some (claim.second + 1)) (first_in (is_drifting drift clock host claim.marked_at) (claim.second + 1 + 1) (claim.row + 1))) here

pub drift_by : (trace : Trace) (claim : Claim) (tables : Tables) → ShowsRows trace tables → FitsRows trace claim →
    claim.second < claim.row → is_drifting trace.drift trace.clock trace.host claim.marked_at (claim.second + 1) ≡ false →
    drift_of trace.drift trace.clock trace.host claim ≡ if_below (claim.row + 1) (slice_index tables.drifting.items (claim.second + 2))
drift_by trace claim tables shown fits lt calm =
    let high = fits.row_most in
    let two : claim.second + 1 + 1 ≡ claim.second + 2 = omega arith in
    first_step (is_drifting trace.drift trace.clock trace.host claim.marked_at) (claim.second + 1) (claim.row + 1) (omega arith)
    ∙ (ap (λ b. cond b (Some (claim.second + 1)) (first_in (is_drifting trace.drift trace.clock trace.host claim.marked_at) (claim.second + 1 + 1) (claim.row + 1))) calm
    ∙ (ap (λ k. first_in (is_drifting trace.drift trace.clock trace.host claim.marked_at) k (claim.row + 1)) two
    ∙ (same_in (is_drifting trace.drift trace.clock trace.host claim.marked_at) (is_drifting trace.drift trace.clock trace.host 0) (claim.second + 2) (claim.row + 1)
    (λ k a b. drifting_later trace.drift trace.clock trace.host claim.marked_at k (position_later trace claim fits k a (omega arith)))
    ∙ next_in (is_drifting trace.drift trace.clock trace.host 0) (length trace.clock + 1) (claim.second + 2) (claim.row + 1) (slice_index tables.drifting.items (claim.second + 2))
    (shown.drifting.next (claim.second + 2) (omega arith) (omega arith)) (omega arith))))

-- and by the tables
pub excused_at : (host : List HostRow) (positions disrupt : List ℕ) (count i n : ℕ) → ArePositions host count positions → AreNext (is_disrupt_at host) 1 (length host + 1) disrupt →
    1 < n → n ≤ count → i ≤ length host → position_of host (n - 1) ≤ length host → position_of host n ≤ length host →
    is_excused host i n ≡ nat_lt (slice_index disrupt (max i (slice_index positions (n - 1)) + 1)) (slice_index positions n)
excused_at host positions disrupt count i n places nexts low high load before here =
    let first = places.position (n - 1) (omega arith) (omega arith) in
    let second = places.position n (omega arith) high in
    let found : IsNext (is_disrupt_at host) (length host + 1) (max i (position_of host (n - 1)) + 1) (slice_index disrupt (max i (position_of host (n - 1)) + 1)) =
    nexts.next _ (omega arith) (omega arith) in
    rw (first, second) (excused_by host (length host + 1) i n (slice_index disrupt (max i (position_of host (n - 1)) + 1)) found (omega arith))

-- ---- Mark

-- whether a later page row tells a disruption, by the last one that changed the marker up to the marker load
told_by : (start : Option ℕ) (host : List HostRow) (mark_at last p : ℕ) → IsLast (changes_at start host) mark_at last → is_told start host mark_at p ≡ nat_lt p last
told_by start host mark_at last p is =
    let high = is.high in
    elim (cases_lt p last) [
      | inl lt ↦
          (let t : nat_lt p last ≡ true = grind (arith, nat_tests) in
          rw t (one_in (changes_at start host) (p + 1) (mark_at + 1) last (omega arith) (omega arith) (is.passes (omega arith))))
      | inr ge ↦
          (let t : nat_lt p last ≡ false = grind (arith, nat_tests) in
          rw t (ap is_some (all_fail (changes_at start host) (p + 1) (mark_at + 1) (λ k a b. is.fails k (omega arith) (omega arith)))))
    ]

next_hidden : (start : Option ℕ) (host : List HostRow) (limit mark_at last i next : ℕ) → IsLast (changes_at start host) mark_at last →
    IsNext (is_disrupt_at host) limit (max (i + 1) last) next → IsNext (is_hidden start host mark_at) limit (i + 1) next
next_hidden start host limit mark_at last i next changed is =
    let from = is.low in
    record {
      low = omega arith;
      high = is.high;
      passes = λ lt.
          let f : nat_lt next last ≡ false = grind (arith, nat_tests) in
          and_from (is_disrupt_at host next) (not (is_told start host mark_at next)) (is.passes lt) (ap not (told_by start host mark_at last next changed ∙ f));
      fails = λ k a b.
          elim (cases_lt k last) [
            | inl before ↦
                (let t : nat_lt k last ≡ true = grind (arith, nat_tests) in
                and_right (is_disrupt_at host k) (not (is_told start host mark_at k)) (ap not (told_by start host mark_at last k changed ∙ t)))
            | inr later ↦ and_left (is_disrupt_at host k) (not (is_told start host mark_at k)) (is.fails k (omega arith) b)
          ];
    }

pub mark_by : (trace : Trace) (claim : Claim) (tables : Tables) → ShowsRows trace tables → FitsRows trace claim →
    mark_of (start_marker trace.page) trace.host claim
    ≡ if_below (slice_index tables.positions.items claim.row) (slice_index tables.disrupt.items (max (claim.marked_at + 1) (slice_index tables.changed.items claim.mark_at)))
mark_by trace claim tables shown fits =
    let low = fits.second_least in
    let row = fits.second_most in
    let high = fits.row_most in
    let marked = fits.marked_at_most in
    let finished = fits.mark_at_most in
    let position = shown.positions.position claim.row (omega arith) high in
    let changed = shown.changed.last claim.mark_at (omega arith) in
    let last_high = changed.high in
    let position_high = fits.positions_most claim.row (omega arith) high in
    rw position (next_in (is_hidden (start_marker trace.page) trace.host claim.mark_at) (length trace.host + 1) (claim.marked_at + 1) (position_of trace.host claim.row) _
    (next_hidden (start_marker trace.page) trace.host (length trace.host + 1) claim.mark_at (slice_index tables.changed.items claim.mark_at) claim.marked_at _ changed
    (shown.disrupt.next (max (claim.marked_at + 1) (slice_index tables.changed.items claim.mark_at)) (omega arith) (omega arith)))
    (omega arith))
