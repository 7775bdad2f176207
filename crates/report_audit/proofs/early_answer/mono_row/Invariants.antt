use Rattle.std.proofs.Common.{ℕ, ◌+◌, ◌-◌, ◌≤◌, List, length}
use Rattle.clock_gate.specs.declared.clock_row.ClockRow.{ClockRow}
use Rattle.report_audit.specs.FoundLines.{HasMonoAt}
use Rattle.report_audit.proofs.early_answer.mono_row.Given as goal

-- no row before this one has the mono
pub record Passed (clock : List ClockRow) (mono from row : ℕ) : Type 0 where
  pub not_before : from ≤ row
  pub none : (n : ℕ) → from ≤ n → HasMonoAt clock mono n → row ≤ n

abbrev pub invariant-rows : goal.invariant-rows
invariant-rows l = Passed l.clock l.mono l.from l.row

abbrev pub decreases-rows : goal.decreases-rows
decreases-rows l = length l.clock + 1 - l.row
