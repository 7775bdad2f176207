-- The rows of a clock and what is read of them.
use Rattle.std.specs.Prelude.{◌≡◌, ℕ, ◌-◌, ◌≤◌, List, Some, None, slice_get, slice_index_or, All}
use Rattle.clock_gate.specs.declared.clock_row.ClockRow.{ClockRow}
use Rattle.clock_gate.specs.declared.clock_row.Reading.{Reading}
use Rattle.clock_gate.specs.declared.limits.TheConstants.{LAST_MOMENT}

-- the reading tells the number, the mono and the real of this row, rows being counted from 1
pub record IsReadingOf (clock : List ClockRow) (number : ℕ) (r : Reading) : Type 0 where
  pub same_row : r.row ≡ number
  pub at : ClockRow
  pub found : slice_get clock (number - 1) ≡ Some at
  pub same_mono : r.mono ≡ at.mono
  pub same_real : r.real ≡ at.real

-- what stands where a clock has no row
abbrev pub no_row : ClockRow
no_row = record { mono = 0; real = 0; truth = None }

-- the row with this number, rows being counted from 1
abbrev pub row_at : List ClockRow → ℕ → ClockRow
row_at clock number = slice_index_or clock (number - 1) no_row

-- what is read of it
abbrev pub reading_at : List ClockRow → ℕ → Reading
reading_at clock number = record { row = number; mono = (row_at clock number).mono; real = (row_at clock number).real }

-- the monotonic and the real times of a row lie before the last moment of a trace
abbrev pub KeepsMoments : ClockRow → Type 0
KeepsMoments row = (row.mono ≤ LAST_MOMENT) × (row.real ≤ LAST_MOMENT)

-- so it is for each row of a clock
abbrev pub IsClock : List ClockRow → Type 0
IsClock rows = All KeepsMoments rows
