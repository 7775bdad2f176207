use Rattle.writer_reopen.proofs.Polls.{stage_nearer, follows_its_values, few_steps}
use Rattle.writer_reopen.proofs.Causes.{skipped, stopped, published, stores_late}
use Rattle.writer_reopen.proofs.law.poll_laws.Goals as goal

pub returns-clause-follows : goal.returns-clause-follows
returns-clause-follows c = follows_its_values

pub returns-clause-steps : goal.returns-clause-steps
returns-clause-steps c = few_steps

pub returns-clause-begins : goal.returns-clause-begins
returns-clause-begins c = λ order. tt

pub returns-clause-step : goal.returns-clause-step
returns-clause-step c = λ clock p value is wants. stage_nearer clock p.order p.stage value is wants

pub returns-clause-skipped : goal.returns-clause-skipped
returns-clause-skipped c = skipped

pub returns-clause-stopped : goal.returns-clause-stopped
returns-clause-stopped c = stopped

pub returns-clause-published : goal.returns-clause-published
returns-clause-published c = published

pub returns-clause-entry : goal.returns-clause-entry
returns-clause-entry c = stores_late
