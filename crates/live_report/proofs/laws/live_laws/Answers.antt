use Rattle.live_report.proofs.LiveLawful.{live_lawful, live_histories, live_hosts, live_calls}
use Rattle.live_report.proofs.FewLines.{few_lines}
use Rattle.live_report.proofs.laws.live_laws.Goals as goal

pub returns-clause-lawful : goal.returns-clause-lawful
returns-clause-lawful c = live_lawful c.report_laws.ensures.lawful c.answer_laws.ensures.stand

pub returns-clause-few : goal.returns-clause-few
returns-clause-few c = few_lines

pub returns-clause-history : goal.returns-clause-history
returns-clause-history c = live_histories

pub returns-clause-rows : goal.returns-clause-rows
returns-clause-rows c = live_hosts

pub returns-clause-calls : goal.returns-clause-calls
returns-clause-calls c = live_calls
