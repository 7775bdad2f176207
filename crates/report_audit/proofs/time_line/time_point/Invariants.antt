use Rattle.std.proofs.Common.{ℕ, ◌+◌, ◌-◌, ◌^◌, ◌<◌, ◌≤◌, List, Option}
use Rattle.clock_gate.specs.declared.trace.Trace.{Trace}
use Rattle.lawful_report.specs.Course.{Course}
use Rattle.lawful_report.specs.declared.entry.Entry.{Entry}
use Rattle.report_audit.specs.FoundLines.{KnowsRun, TimeFits}
use Rattle.report_audit.proofs.time_line.time_point.Given as goal

-- no point before the cursor fits
pub record Passed (entries : List Entry) (before client call generation page row mono real : ℕ) (marker : Option ℕ) (period from cursor : ℕ) (text : List ℕ) : Type 0 where
  pub not_before : from ≤ cursor
  pub small : cursor < 2 ^ 40
  pub none : (trace : Trace) (course : Course) → KnowsRun trace course entries before row page mono real marker period → (n : ℕ) → from ≤ n → n < cursor → TimeFits trace course client call generation row page text n → ⊥

abbrev pub invariant-rounds : goal.invariant-rounds
invariant-rounds l = Passed l.entries l.before l.place.client l.place.call l.place.generation l.place.page l.reading.row l.reading.mono l.reading.real l.marker l.period l.from l.cursor l.text

abbrev pub decreases-rounds : goal.decreases-rounds
decreases-rounds l = l.until + 1 - l.cursor
