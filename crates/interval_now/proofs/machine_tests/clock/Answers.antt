use Rattle.std.proofs.Common.{ℕ, ◌≤◌, [], ◌∷◌, None, arith}
use Rattle.std.proofs.lemmas.List.Elements.{All-cons, All-nil}
use Rattle.clock_gate.specs.declared.clock_row.ClockRow.{ClockRow}
use Rattle.clock_gate.specs.ClockRow.{KeepsMoments}
use Rattle.interval_now.proofs.machine_tests.clock.Goals as goal

-- a row at so many nanoseconds
abbrev row : ℕ → ClockRow
row mono = record { mono = mono; real = 1700000000000000000; truth = None }

early : (mono : ℕ) → mono ≤ 4000000000000000000 → KeepsMoments (row mono)
early mono few = (few, omega arith)

pub returns-clause-moments : goal.returns-clause-moments
returns-clause-moments c =
    All-cons KeepsMoments (row 999998999) (row 1000000001 ∷ []) (early 999998999 (omega arith))
    (All-cons KeepsMoments (row 1000000001) [] (early 1000000001 (omega arith)) (All-nil KeepsMoments))
