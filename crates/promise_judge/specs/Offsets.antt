-- The offset of a clock from true time: real - truth of a clock row, in nanoseconds. Clock rows are counted from 1.
use Rattle.std.specs.Prelude.{ℕ, ◌-◌, ◌*◌, Bool, nat_lt, is_none, List, Option, Some, None, ℤ, pos, ◌-ℤ◌, nat_abs}
use Rattle.clock_gate.specs.ClockRow.{row_at}
use Rattle.clock_gate.specs.declared.clock_row.ClockRow.{ClockRow}

abbrev pub is_untold : List ClockRow → ℕ → Bool
is_untold clock n = is_none (row_at clock n).truth

abbrev pub or_zero : Option ℕ → ℕ
or_zero None = 0
or_zero (Some moment) = moment

-- the offset at a row that tells its truth
abbrev pub offset : ClockRow → ℤ
offset row = pos row.real -ℤ pos (or_zero row.truth)

-- its absolute value
abbrev pub offset_size : ClockRow → ℕ
offset_size row = nat_abs (offset row)

-- the absolute value of its change
abbrev pub offset_change : ClockRow → ClockRow → ℕ
offset_change before after = nat_abs (offset after -ℤ offset before)

-- the offset changes by more than the drift, in parts per billion, of the monotonic time that goes by
abbrev pub breaks_drift : (drift : ℕ) → ClockRow → ClockRow → Bool
breaks_drift drift before after = nat_lt (drift * (after.mono - before.mono)) (offset_change before after * 1000000000)

-- so it is from the row before clock row n to row n
abbrev pub breaks_drift_at : (drift : ℕ) → List ClockRow → ℕ → Bool
breaks_drift_at drift clock n = breaks_drift drift (row_at clock (n - 1)) (row_at clock n)
