use Rattle.vmclock_time.proofs.Truth as truth
use Rattle.vmclock_time.proofs.reporting.page_report.Goals as goal

pub returns-clause-first : goal.returns-clause-first
returns-clause-first c = truth.first_of c.args.rows.now c.in_ok-report.report.failed c.in_ok-report.ensures.1

pub returns-clause-held : goal.returns-clause-held
returns-clause-held c = truth.held_of c.args.rows.now c.in_ok-report.report.failed c.in_ok-report.ensures.1

pub returns-clause-safe : goal.returns-clause-safe
returns-clause-safe c = truth.safe_of c.args.rows.now c.in_ok-report.report.told c.in_ok-report.ensures.0
