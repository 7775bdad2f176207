use Rattle.std.proofs.Common.{◌≡◌, sym, subst, arith}
use Rattle.clock_gate.specs.declared.act.Act.TheVariants.{Load}
use Rattle.seqlock.specs.Tries.{SeqlockRead}
use Rattle.shm_reader.specs.SegmentTries.{act_of, stands}
use Rattle.shm_reader.proofs.GivenWords.{TakesAll, takes_all, loads_with, good_with}
use Rattle.shm_reader.proofs.reader.SegmentReader.give_words.Goals as goal
use Rattle.shm_reader.proofs.reader.SegmentReader.give_words.Goals.{After-self}

all : (c : After-self) → TakesAll c.args.self.now (stands c.self.inside.tries c.self.inside.left c.self.inside.first c.self.inside.last 9 (loads_with c.self.inside.loads c.args.words.now)) c.args.words.now
all c =
    let r = c.self.inside in
    subst (λ (read : SeqlockRead). TakesAll read (stands r.tries r.left r.first r.last 9 (loads_with r.loads c.args.words.now)) c.args.words.now) c.self.view_is
    (takes_all r.tries r.left r.first r.last r.loaded r.loads c.args.words.now c.self.invariant.0 c.self.told c.told-words c.self.invariant.2 (subst (λ (read : SeqlockRead). act_of read ≡ Load 2) (sym c.self.view_is) c.requires.wanted))

pub invariant_of-self : goal.invariant_of-self
invariant_of-self c =
    (omega arith, good_with c.self.inside.loads c.args.words.now c.told-words c.requires.good, (all (goal.at.invariant_of-self c).After-self).stage)

pub returns-clause-value : goal.returns-clause-value
returns-clause-value c = (all (goal.at.returns-clause-value c).After-self).value

pub returns-clause-stage : goal.returns-clause-stage
returns-clause-stage c = (all (goal.at.returns-clause-stage c).After-self).stage

pub returns-clause-next : goal.returns-clause-next
returns-clause-next c = (all (goal.at.returns-clause-next c).After-self).next

pub returns-clause-nearer : goal.returns-clause-nearer
returns-clause-nearer c = (all (goal.at.returns-clause-nearer c).After-self).nearer
