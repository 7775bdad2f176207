use Rattle.abstract_run.proofs.RunFactsTell.{runs_tell}
use Rattle.abstract_run.proofs.EndsWalk.{lines_end, runs_end}
use Rattle.abstract_run.proofs.laws.run_laws.Goals as goal

pub returns-clause-told : goal.returns-clause-told
returns-clause-told c = runs_tell

pub returns-clause-lines : goal.returns-clause-lines
returns-clause-lines c = lines_end

pub returns-clause-ends : goal.returns-clause-ends
returns-clause-ends c = runs_end
