use Rattle.shm_reader.proofs.Stands.{stage_next}
use Rattle.shm_reader.proofs.reader.SegmentReader.give.Goals as goal

pub returns-in-9-clause-stage : goal.returns-in-9-clause-stage
returns-in-9-clause-stage c = stage_next _ c.args.self.now c.give_last.new.self c.args.value c.self.view_is c.self.invariant.2 c.requires.open c.give_last.ensures

pub returns-in_default-clause-stage : goal.returns-in_default-clause-stage
returns-in_default-clause-stage c = stage_next _ c.args.self.now c.keep.new.self c.args.value c.self.view_is c.self.invariant.2 c.requires.open c.keep.ensures
