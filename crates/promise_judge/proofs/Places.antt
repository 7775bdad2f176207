-- Where clock rows stand among the host's rows.
use Rattle.std.proofs.Common.{◌≡◌, ◌≢◌, ℕ, zero, suc, ◌+◌, ◌-◌, ◌<◌, ◌≤◌, List, [], ◌∷◌, length, take, refl, sym, ap, ◌∙◌, subst, arith, inl, inr}
use Rattle.std.specs.Prelude.{slice_index_or}
use Rattle.std.specs.List.{range_with_len}
use Rattle.std.proofs.lemmas.List.{take_all}
use Rattle.std.proofs.lemmas.List.FromFn.{length-range_with_len}
use Rattle.std.proofs.lemmas.Bool.{cases_eq, eq-eqb, ne_eqb}
use Rattle.clock_gate.specs.ClockRow.{no_row, row_at}
use Rattle.clock_gate.specs.Trace.{IsHostOf, NeverFalls, clock_numbers}
use Rattle.clock_gate.specs.declared.clock_row.ClockRow.{ClockRow}
use Rattle.clock_gate.specs.declared.trace.HostRow.{HostRow}
use Rattle.clock_gate.specs.declared.trace.HostRow.TheVariants.{Clock, Page, Disrupt}
use Rattle.clock_gate.specs.declared.trace.Trace.{Trace}
use Rattle.promise_judge.specs.Positions.{position_from, position_of}
use Rattle.promise_judge.specs.Telling.{ToldClaimsFit}

-- ---- rows of the clock, numbered one by one

-- the clock rows among these are numbered one by one, from k on
abbrev pub Numbered : ℕ → List HostRow → Type 0
Numbered k [] = Unit {0}
Numbered k (Clock n ∷ rows) = (n ≡ k) × Numbered (k + 1) rows
Numbered k (Page words ∷ rows) = Numbered k rows
Numbered k (Disrupt ∷ rows) = Numbered k rows

-- how many clock rows are among these
abbrev pub clocks : List HostRow → ℕ
clocks [] = 0
clocks (Clock n ∷ rows) = clocks rows + 1
clocks (Page words ∷ rows) = clocks rows
clocks (Disrupt ∷ rows) = clocks rows

pub clocks_are : (host : List HostRow) → length (clock_numbers host) ≡ clocks host
unfolding clock_numbers
clocks_are [] = refl
clocks_are (Clock n ∷ rows) = let rest = clocks_are rows in omega (arith, rest)
clocks_are (Page words ∷ rows) = clocks_are rows
clocks_are (Disrupt ∷ rows) = clocks_are rows

head_of : (ns : List ℕ) → ℕ
head_of [] = 0
head_of (n ∷ ns) = n

tail_of : (ns : List ℕ) → List ℕ
tail_of [] = []
tail_of (n ∷ ns) = ns

pub numbered_by : (host : List HostRow) (k count : ℕ) → clock_numbers host ≡ range_with_len k count → Numbered k host
unfolding clock_numbers head_of tail_of
numbered_by [] k count is = tt
numbered_by (Clock n ∷ rows) k zero is = absurd (let none = ap length is in omega (arith, none))
numbered_by (Clock n ∷ rows) k (suc count) is = (ap head_of is, numbered_by rows (k + 1) count (ap tail_of is))
numbered_by (Page words ∷ rows) k count is = numbered_by rows k count is
numbered_by (Disrupt ∷ rows) k count is = numbered_by rows k count is

-- ---- the clock never falls from a row to the next

rises_from : (clock : List ClockRow) → NeverFalls clock → (m : ℕ) → m + 1 < length clock → (slice_index_or clock m no_row).mono ≤ (slice_index_or clock (suc m) no_row).mono
unfolding NeverFalls
rises_from [] falls m lt = absurd (omega arith)
rises_from (row ∷ rest) falls zero lt = falls.0 0 no_row (omega arith)
rises_from (row ∷ rest) falls (suc m) lt = rises_from rest falls.1 m (omega arith)

pub clock_rises : (clock : List ClockRow) → NeverFalls clock → (n : ℕ) → 0 < n → n < length clock → (row_at clock n).mono ≤ (row_at clock (n + 1)).mono
clock_rises clock falls n low lt =
    let next : suc (n - 1) ≡ n + 1 - 1 = omega arith in
    subst (λ (k : ℕ). (row_at clock n).mono ≤ (slice_index_or clock k no_row).mono) next (rises_from clock falls (n - 1) (omega arith))

-- ---- the positions of clock rows

-- a clock row that the host has come to stands within the rows that are finished
come_within : (host : List HostRow) (at k h n : ℕ) → Numbered k host → k ≤ n → n < k + clocks (take h host) → position_from at host n < at + h
come_within host at k zero n num low lt = absurd (omega arith)
come_within [] at k (suc h) n num low lt = absurd (omega arith)
come_within (Page w ∷ host) at k (suc h) n num low lt = let further = come_within host (at + 1) k h n num low lt in omega arith
come_within (Disrupt ∷ host) at k (suc h) n num low lt = let further = come_within host (at + 1) k h n num low lt in omega arith
come_within (Clock m ∷ host) at k (suc h) n num low lt =
    elim (cases_eq m n) [
      | inl same ↦ rw (eq-eqb m n same) (omega arith)
      | inr other ↦
          (let first = num.0 in
          let further = come_within host (at + 1) (k + 1) h n num.1 (omega arith) (omega arith) in
          rw (ne_eqb m n other) (omega arith))
    ]

from_at : (host : List HostRow) (at n : ℕ) → at ≤ position_from at host n
from_at [] at n = omega arith
from_at (Page w ∷ host) at n = let further = from_at host (at + 1) n in omega arith
from_at (Disrupt ∷ host) at n = let further = from_at host (at + 1) n in omega arith
from_at (Clock m ∷ host) at n =
    elim (cases_eq m n) [
      | inl same ↦ rw (eq-eqb m n same) (omega arith)
      | inr other ↦ (let further = from_at host (at + 1) n in rw (ne_eqb m n other) (omega arith))
    ]

-- one that it hasn't come to stands after them
pub to_come_after : (host : List HostRow) (at k h n : ℕ) → Numbered k host → h ≤ length host → k + clocks (take h host) ≤ n → at + h ≤ position_from at host n
to_come_after host at k zero n num le low = let here = from_at host at n in omega arith
to_come_after [] at k (suc h) n num le low = absurd (omega arith)
to_come_after (Page w ∷ host) at k (suc h) n num le low = let further = to_come_after host (at + 1) k h n num (omega arith) low in omega arith
to_come_after (Disrupt ∷ host) at k (suc h) n num le low = let further = to_come_after host (at + 1) k h n num (omega arith) low in omega arith
to_come_after (Clock m ∷ host) at k (suc h) n num le low =
    let first = num.0 in
    let other : m ≢ n = λ e. omega arith in
    let further = to_come_after host (at + 1) (k + 1) h n num.1 (omega arith) (omega arith) in
    rw (ne_eqb m n other) (omega arith)

-- each stands before the next
before_next : (host : List HostRow) (at k n : ℕ) → Numbered k host → k ≤ n → n < k + clocks host → position_from at host n < position_from at host (n + 1)
before_next [] at k n num low lt = absurd (omega arith)
before_next (Page w ∷ host) at k n num low lt = before_next host (at + 1) k n num low lt
before_next (Disrupt ∷ host) at k n num low lt = before_next host (at + 1) k n num low lt
before_next (Clock m ∷ host) at k n num low lt =
    let first = num.0 in
    let not_next : m ≢ n + 1 = λ e. omega arith in
    elim (cases_eq m n) [
      | inl same ↦ (let further = from_at host (at + 1) (n + 1) in rw (eq-eqb m n same, ne_eqb m (n + 1) not_next) (omega arith))
      | inr other ↦ rw (ne_eqb m n other, ne_eqb m (n + 1) not_next) (before_next host (at + 1) (k + 1) n num.1 (omega arith) (omega arith))
    ]

clocks_grow : (host : List HostRow) (h g : ℕ) → h ≤ g → clocks (take h host) ≤ clocks (take g host)
clocks_grow host zero g le = omega arith
clocks_grow host (suc h) zero le = absurd (omega arith)
clocks_grow [] (suc h) (suc g) le = omega arith
clocks_grow (Clock n ∷ host) (suc h) (suc g) le = let further = clocks_grow host h g (omega arith) in omega arith
clocks_grow (Page w ∷ host) (suc h) (suc g) le = clocks_grow host h g (omega arith)
clocks_grow (Disrupt ∷ host) (suc h) (suc g) le = clocks_grow host h g (omega arith)

-- ---- what a lawful host tells

begun_clocks : (host : List HostRow) (h : ℕ) → 0 < h → take 1 host ≡ Clock 1 ∷ [] → 0 < clocks (take h host)
begun_clocks host h low is =
    let one : clocks (take 1 host) ≡ 1 = ap clocks is in
    let grow = clocks_grow host 1 h low in
    omega (arith, one, grow)

pub numbered_one : (trace : Trace) → IsHostOf (length trace.clock) trace.host → Numbered 1 trace.host
numbered_one trace host = numbered_by trace.host 1 (length trace.clock) host.numbered

pub counted : (trace : Trace) → IsHostOf (length trace.clock) trace.host → clocks trace.host ≡ length trace.clock
counted trace host = sym (clocks_are trace.host) ∙ (ap length host.numbered ∙ length-range_with_len 1 (length trace.clock))

clocks_whole : (host : List HostRow) → clocks (take (length host) host) ≡ clocks host
clocks_whole host = ap clocks (take_all (length host) host (omega arith))

-- a clock row that was loaded stands within the rows that were finished
pub loaded_within : (trace : Trace) (h n : ℕ) → Numbered 1 trace.host → 0 < n → n ≤ clocks (take h trace.host) → position_of trace.host n ≤ h
loaded_within trace h n num low le = let within = come_within trace.host 1 1 h n num low (omega arith) in omega arith

pub rows_rise : (trace : Trace) → IsHostOf (length trace.clock) trace.host → (n : ℕ) → 0 < n → n < length trace.clock → position_of trace.host n < position_of trace.host (n + 1)
rows_rise trace host n low lt = let count = counted trace host in before_next trace.host 1 1 n (numbered_one trace host) low (omega arith)

pub rows_within : (trace : Trace) → IsHostOf (length trace.clock) trace.host → (n : ℕ) → 0 < n → n ≤ length trace.clock → position_of trace.host n ≤ length trace.host
rows_within trace host n low le =
    let count = counted trace host in
    let whole = clocks_whole trace.host in
    loaded_within trace (length trace.host) n (numbered_one trace host) low (omega arith)

pub told_fits : ToldClaimsFit
told_fits trace claim replied_at clocked_at host told =
    let num = numbered_one trace host in
    let count = counted trace host in
    let done = told.done in
    let loads = told.loads in
    let later = told.later in
    let marked = told.marked in
    let row : claim.row ≡ clocks (take clocked_at trace.host) = told.row ∙ clocks_are (take clocked_at trace.host) in
    let second : claim.second ≡ clocks (take replied_at trace.host) = told.second ∙ clocks_are (take replied_at trace.host) in
    let first = begun_clocks trace.host replied_at told.begun host.begins in
    let whole = clocks_whole trace.host in
    let so_far = clocks_grow trace.host replied_at clocked_at later in
    let at_most = clocks_grow trace.host clocked_at (length trace.host) (omega arith) in
    record {
      second_least = omega arith;
      second_most = omega arith;
      row_most = omega arith;
      marked_at_most = omega arith;
      mark_at_most = done;
      next_later = λ lt. let after = to_come_after trace.host 1 1 replied_at (claim.second + 1) num (omega arith) (omega arith) in omega arith;
      positions_most = rows_within trace host;
      positions_rise = rows_rise trace host;
    }
