use Rattle.std.proofs.Common.{◌-◌, ◌^◌}
use Rattle.report_audit.proofs.Reached.{Reached}
use Rattle.report_audit.proofs.auditing.judge.Given as goal

abbrev pub invariant-lines : goal.invariant-lines
invariant-lines l = Reached l.trace l.known l.report l.auditor l.rest l.number

abbrev pub decreases-lines : goal.decreases-lines
decreases-lines l = 2 ^ 32 - l.number
