-- The clock rows of a day.
use Rattle.std.proofs.Common.{◌≡◌, ℕ, zero, suc, ◌+◌, ◌-◌, ◌*◌, ◌%◌, ◌<◌, ◌≤◌, false, slice_index_or, refl, sym, ap, subst, arith}
use Rattle.std.specs.Prelude.{is_none}
use Rattle.std.proofs.lemmas.Bool.{le-ltb}
use Rattle.std.proofs.lemmas.Int.{ints}
use Rattle.clock_gate.specs.ClockRow.{no_row, row_at}
use Rattle.clock_gate.specs.declared.clock_row.ClockRow.{ClockRow}
use Rattle.drill_day.specs.Day.{clock_of}
use Rattle.drill_day.specs.Draws.{after_two, draw_of, rounds}
use Rattle.drill_day.specs.Seconds.{clock_in, clock_row}
use Rattle.promise_judge.specs.Offsets.{breaks_drift, breaks_drift_at, is_untold, offset_change, offset_size}

-- each row is that of its second, with some draw
abbrev pub IsDrawn : ℕ → ClockRow → Type 0
IsDrawn k row = (draw : ℕ) × (row ≡ clock_row k draw)

row_drawn : (x k left i : ℕ) → i < left → IsDrawn (k + i) (slice_index_or (rounds clock_in x k left) i no_row)
unfolding rounds
row_drawn x k zero i lt = absurd (omega arith)
row_drawn x k (suc left) zero lt = let same : k ≡ k + 0 = omega arith in (draw_of x, ap (λ n. clock_row n (draw_of x)) same)
row_drawn x k (suc left) (suc i) lt =
    let same : k + 1 + i ≡ k + suc i = omega arith in
    subst (λ (n : ℕ). IsDrawn n (slice_index_or (rounds clock_in (after_two x) (k + 1) left) i no_row)) same
    (row_drawn (after_two x) (k + 1) left i (omega arith))

pub day_row : (seed polls n : ℕ) → 0 < n → n ≤ polls → IsDrawn n (row_at (clock_of seed polls) n)
unfolding clock_of
day_row seed polls n low high =
    let same : 1 + (n - 1) ≡ n = omega arith in
    subst (λ (k : ℕ). IsDrawn k (row_at (rounds clock_in seed 1 polls) n)) same (row_drawn seed 1 polls (n - 1) (omega arith))

small : (draw : ℕ) → draw % 40001 < 40001
small draw = grind arith

offset_small : (k draw : ℕ) → offset_size (clock_row k draw) ≤ 20000
offset_small k draw = let s = small draw in omega (arith, ints, s)

change_small : (k a b : ℕ) → offset_change (clock_row k a) (clock_row (k + 1) b) ≤ 40000
change_small k a b = let s = small a in let t = small b in omega (arith, ints, s, t)

slow : (c : ℕ) → c ≤ 40000 → (m : ℕ) → m ≡ 1000000000 → c * 1000000000 ≤ 50000 * m
slow c h m e = omega arith

second : (k : ℕ) → (k + 1) * 1000000000 - k * 1000000000 ≡ 1000000000
second k = omega arith

pair_calm : (k a b : ℕ) → breaks_drift 50000 (clock_row k a) (clock_row (k + 1) b) ≡ false
pair_calm k a b = le-ltb _ _ (slow _ (change_small k a b) _ (second k))

calm : (k : ℕ) (before after : ClockRow) → IsDrawn k before → IsDrawn (k + 1) after → breaks_drift 50000 before after ≡ false
calm k before after x y = rw (x.1, y.1) (pair_calm k x.0 y.0)

pub never_breaks : (seed polls n : ℕ) → 1 < n → n ≤ polls → breaks_drift_at 50000 (clock_of seed polls) n ≡ false
never_breaks seed polls n low high =
    let next : n ≡ n - 1 + 1 = omega arith in
    calm (n - 1) (row_at (clock_of seed polls) (n - 1)) (row_at (clock_of seed polls) n)
    (day_row seed polls (n - 1) (omega arith) (omega arith))
    (subst (λ (k : ℕ). IsDrawn k (row_at (clock_of seed polls) n)) next (day_row seed polls n (omega arith) high))

told : (k : ℕ) (row : ClockRow) → IsDrawn k row → is_none row.truth ≡ false
told k row d = rw d.1 refl

pub all_told : (seed polls n : ℕ) → 0 < n → n ≤ polls → is_untold (clock_of seed polls) n ≡ false
all_told seed polls n low high = told n _ (day_row seed polls n low high)

near : (k : ℕ) (row : ClockRow) → IsDrawn k row → offset_size row ≤ 20000
near k row d = subst (λ (r : ClockRow). offset_size r ≤ 20000) (sym d.1) (offset_small k d.0)

pub all_near : (seed polls n : ℕ) → 0 < n → n ≤ polls → offset_size (row_at (clock_of seed polls) n) ≤ 20000
all_near seed polls n low high = near n _ (day_row seed polls n low high)
