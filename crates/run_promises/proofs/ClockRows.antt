-- Clock rows by the host positions at which they were loaded: a later one has no earlier reading.
use Rattle.std.proofs.Common.{◌≡◌, ℕ, zero, suc, ◌-◌, ◌≤◌, ◌<◌, List, [], ◌∷◌, length, arith, take, refl}
use Rattle.std.specs.Prelude.{slice_index_or}
use Rattle.clock_gate.specs.declared.trace.Trace.{Trace}
use Rattle.clock_gate.specs.declared.clock_row.ClockRow.{ClockRow}
use Rattle.clock_gate.specs.declared.trace.HostRow.{HostRow}
use Rattle.clock_gate.specs.declared.trace.HostRow.TheVariants.{Clock, Page, Disrupt}
use Rattle.clock_gate.specs.ClockRow.{no_row, row_at}
use Rattle.clock_gate.specs.Trace.{NeverFalls, clock_numbers, IsHostOf}
use Rattle.abstract_run.specs.HostRun.{clocks_at}
use Rattle.promise_judge.proofs.Places.{clocks, loaded_within, numbered_one}
use Rattle.promise_judge.specs.Positions.{position_of}

-- ---- more rows of the host have no fewer of the clock

pub clocks_rise : (rows : List HostRow) (low high : ℕ) → low ≤ high → clocks_at rows low ≤ clocks_at rows high
unfolding clock_numbers
clocks_rise rows zero high le = omega arith
clocks_rise rows (suc low) zero le = absurd (omega (arith, le))
clocks_rise [] (suc low) (suc high) le = omega arith
clocks_rise (Clock number ∷ rows) (suc low) (suc high) le = let more = clocks_rise rows low high (omega (arith, le)) in omega (arith, more)
clocks_rise (Page words ∷ rows) (suc low) (suc high) le = clocks_rise rows low high (omega (arith, le))
clocks_rise (Disrupt ∷ rows) (suc low) (suc high) le = clocks_rise rows low high (omega (arith, le))

-- ---- their monotonic times never fall

mono_from : (clock : List ClockRow) (low high : ℕ) → NeverFalls clock → low ≤ high → high < length clock → (slice_index_or clock low no_row).mono ≤ (slice_index_or clock high no_row).mono
unfolding NeverFalls
mono_from [] low high rises le within = absurd (omega (arith, within))
mono_from (row ∷ rows) zero zero rises le within = omega arith
mono_from (row ∷ rows) zero (suc high) rises le within = rises.0 high no_row (omega (arith, within))
mono_from (row ∷ rows) (suc low) zero rises le within = absurd (omega (arith, le))
mono_from (row ∷ rows) (suc low) (suc high) rises le within = mono_from rows low high rises.1 (omega (arith, le)) (omega (arith, within))

pub mono_rises : (clock : List ClockRow) (low high : ℕ) → NeverFalls clock → low ≤ high → 0 < high → high ≤ length clock → (row_at clock low).mono ≤ (row_at clock high).mono
mono_rises clock low high rises le some within = mono_from clock (low - 1) (high - 1) rises (omega (arith, le)) (omega (arith, some, within))

-- ---- a row that was loaded

clocks_are : (rows : List HostRow) → length (clock_numbers rows) ≡ clocks rows
unfolding clock_numbers
clocks_are [] = refl
clocks_are (Clock number ∷ rows) = let same = clocks_are rows in omega (arith, same)
clocks_are (Page words ∷ rows) = clocks_are rows
clocks_are (Disrupt ∷ rows) = clocks_are rows

-- stands within the rows that were done
pub row_placed : (trace : Trace) → IsHostOf (length trace.clock) trace.host → (done row : ℕ) → row ≡ clocks_at trace.host done → 0 < row → position_of trace.host row ≤ done
row_placed trace is done row same some =
    let count : length (clock_numbers (take done trace.host)) ≡ clocks (take done trace.host) = clocks_are (take done trace.host) in
    loaded_within trace done row (numbered_one trace is) some (omega (arith, same, count))
