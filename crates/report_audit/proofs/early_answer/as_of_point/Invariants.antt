use Rattle.std.proofs.Common.{◌≡◌, ℕ, pos, ◌-◌, ◌*◌, ◌<◌, ◌≤◌, ◌^◌, List}
use Rattle.lawful_report.specs.declared.entry.Entry.{Entry}
use Rattle.lawful_report.specs.Course.{Course}
use Rattle.lawful_report.specs.Calls.{HasAsOf}
use Rattle.report_audit.proofs.early_answer.as_of_point.Given as goal

-- no point before this position has the as-of
pub record Passed (entries : List Entry) (before as_of from position : ℕ) : Type 0 where
  pub not_before : from ≤ 2 * position
  pub later : before < position
  pub small : position < 2 ^ 41
  pub none : (course : Course) → course.entries ≡ entries → course.before ≡ before → (n : ℕ) → from ≤ n → HasAsOf course (pos as_of) n → 2 * position ≤ n

abbrev pub invariant-positions : goal.invariant-positions
invariant-positions l = Passed l.entries l.before l.as_of l.from l.position

abbrev pub decreases-positions : goal.decreases-positions
decreases-positions l = 2 ^ 41 - l.position
