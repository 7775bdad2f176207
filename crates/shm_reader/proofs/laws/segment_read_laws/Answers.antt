use Rattle.seqlock.proofs.Tries as laws
use Rattle.shm_reader.specs.SegmentTries.{segment_lock}
use Rattle.shm_reader.proofs.SegmentRun.{saw, saw_so}
use Rattle.shm_reader.proofs.laws.segment_read_laws.Goals as goal

pub returns-clause-follows : goal.returns-clause-follows
returns-clause-follows c = laws.follows_its_tries segment_lock

pub returns-clause-steps : goal.returns-clause-steps
returns-clause-steps c = laws.takes_few_steps segment_lock

pub returns-clause-told : goal.returns-clause-told
returns-clause-told c = λ tries touches seen. (saw tries touches seen, saw_so tries touches seen)
