use Rattle.lawful_report.proofs.Composed.{threads_are_lawful}
use Rattle.lawful_report.proofs.Dominance.{dominates}
use Rattle.lawful_report.proofs.laws.report_laws.Goals as goal

pub returns-clause-lawful : goal.returns-clause-lawful
returns-clause-lawful c = threads_are_lawful

pub returns-clause-least : goal.returns-clause-least
returns-clause-least c = dominates
