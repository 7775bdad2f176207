use Rattle.run_promises.proofs.AnyRun.{whole_run_is_run, runs_tell_segment, any_tells, any_marks}
use Rattle.run_promises.proofs.runs.any_run.Goals as goal

pub returns-clause-whole : goal.returns-clause-whole
returns-clause-whole c = whole_run_is_run

pub returns-clause-segment : goal.returns-clause-segment
returns-clause-segment c = runs_tell_segment

pub returns-clause-told : goal.returns-clause-told
returns-clause-told c = any_tells

pub returns-clause-marked : goal.returns-clause-marked
returns-clause-marked c = any_marks
