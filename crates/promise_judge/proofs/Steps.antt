-- How far a clock gets from the truth over neighbouring rows that keep the drift. The unit is a billionth of a nanosecond.
use Rattle.std.proofs.Common.{◌≡◌, ℕ, zero, suc, ◌+◌, ◌-◌, ◌*◌, ◌<◌, ◌≤◌, false, List, subst, arith, mul-add}
use Rattle.std.specs.Prelude.{ℤ, ◌-ℤ◌, nat_abs}
use Rattle.std.proofs.lemmas.Bool.{ltb-false}
use Rattle.std.proofs.lemmas.Int.{ints}
use Rattle.clock_gate.specs.ClockRow.{row_at}
use Rattle.clock_gate.specs.declared.clock_row.ClockRow.{ClockRow}
use Rattle.promise_judge.specs.Offsets.{offset, offset_size, offset_change, breaks_drift, breaks_drift_at}

triangle : (a b : ℤ) → nat_abs b ≤ nat_abs a + nat_abs (b -ℤ a)
triangle a b = omega (arith, ints)

one_step : (before after : ClockRow) → offset_size after ≤ offset_size before + offset_change before after
one_step before after = triangle (offset before) (offset after)

pub split_time : (drift x y z : ℕ) → x ≤ y → y ≤ z → drift * (z - x) ≡ drift * (y - x) + drift * (z - y)
split_time drift x y z a b = let whole : z - x ≡ (y - x) + (z - y) = omega arith in rw whole (mul-add drift (y - x) (z - y))

add_up : (s0 s s1 change d1 d2 d3 : ℕ) → s1 ≤ s + change → s * 1000000000 ≤ s0 * 1000000000 + d1 → change * 1000000000 ≤ d2 → d3 ≡ d1 + d2 → s1 * 1000000000 ≤ s0 * 1000000000 + d3
add_up s0 s s1 change d1 d2 d3 a b c d = omega arith

kept_step : (drift : ℕ) (clock : List ClockRow) (n : ℕ) → breaks_drift_at drift clock (n + 1) ≡ false →
    offset_change (row_at clock n) (row_at clock (n + 1)) * 1000000000 ≤ drift * ((row_at clock (n + 1)).mono - (row_at clock n).mono)
kept_step drift clock n kept =
    let one : n + 1 - 1 ≡ n = omega arith in
    ltb-false _ _ (subst (λ (k : ℕ). breaks_drift drift (row_at clock k) (row_at clock (n + 1)) ≡ false) one kept)

-- from one row to another the offset grows by the drift at most
abbrev pub KeepsDrift : (drift : ℕ) → List ClockRow → (from to : ℕ) → Type 0
KeepsDrift drift clock from to =
    ((row_at clock from).mono ≤ (row_at clock to).mono)
    × (offset_size (row_at clock to) * 1000000000 ≤ offset_size (row_at clock from) * 1000000000 + drift * ((row_at clock to).mono - (row_at clock from).mono))

keeps_more : (drift : ℕ) (clock : List ClockRow) (from n : ℕ) → KeepsDrift drift clock from n → (row_at clock n).mono ≤ (row_at clock (n + 1)).mono → breaks_drift_at drift clock (n + 1) ≡ false →
    KeepsDrift drift clock from (n + 1)
keeps_more drift clock from n so_far rise kept =
    let low = so_far.0 in (
      omega arith,
      add_up (offset_size (row_at clock from)) (offset_size (row_at clock n)) (offset_size (row_at clock (n + 1))) (offset_change (row_at clock n) (row_at clock (n + 1))) _ _ _
          (one_step (row_at clock n) (row_at clock (n + 1))) so_far.1 (kept_step drift clock n kept)
          (split_time drift (row_at clock from).mono (row_at clock n).mono (row_at clock (n + 1)).mono low rise),
    )

pub keeps_drift : (drift : ℕ) (clock : List ClockRow) (from more : ℕ) →
    ((n : ℕ) → from ≤ n → n < from + more → (row_at clock n).mono ≤ (row_at clock (n + 1)).mono) →
    ((n : ℕ) → from < n → n ≤ from + more → breaks_drift_at drift clock n ≡ false) →
    KeepsDrift drift clock from (from + more)
keeps_drift drift clock from zero rise kept =
    let same : from ≡ from + 0 = omega arith in
    subst (λ (n : ℕ). KeepsDrift drift clock from n) same (omega arith, omega arith)
keeps_drift drift clock from (suc more) rise kept =
    let same : from + more + 1 ≡ from + suc more = omega arith in
    subst (λ (n : ℕ). KeepsDrift drift clock from n) same
    (keeps_more drift clock from (from + more) (keeps_drift drift clock from more (λ n a b. rise n a (omega arith)) (λ n a b. kept n a (omega arith)))
    (rise (from + more) (omega arith) (omega arith)) (kept (from + more + 1) (omega arith) (omega arith)))
