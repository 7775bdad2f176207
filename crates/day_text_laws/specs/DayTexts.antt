-- The text of a generated day is read as its trace.
use Rattle.std.specs.Prelude.{◌≡◌, ◌≤◌, ℕ, length, Ok}
use Rattle.clock_gate.specs.declared.limits.TheConstants.{INPUT_LIMIT}
use Rattle.trace_reader.specs.Grammar.{trace_in}
use Rattle.drill_day.specs.Day.{day_of}
use Rattle.drill_day.specs.Text.{day_text}

-- the text of a day is read as its trace
abbrev pub DayTextsAreRead : Type 0
DayTextsAreRead = (seed polls : ℕ) → 6 ≤ polls → polls ≤ 20000 → trace_in (day_text seed polls) ≡ Ok (day_of seed polls)

-- and it is within the limit of an input
abbrev pub DayTextsFit : Type 0
DayTextsFit = (seed polls : ℕ) → polls ≤ 20000 → length (day_text seed polls) ≤ INPUT_LIMIT
