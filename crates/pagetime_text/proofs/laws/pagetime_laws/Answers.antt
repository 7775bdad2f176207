use Rattle.pagetime_text.proofs.Spelled.{faults_are_first, rows_are_said}
use Rattle.pagetime_text.proofs.laws.pagetime_laws.Goals as goal

pub returns-clause-faults : goal.returns-clause-faults
returns-clause-faults c = faults_are_first

pub returns-clause-rows : goal.returns-clause-rows
returns-clause-rows c = rows_are_said
