use Rattle.std.proofs.Common.{◌∷◌, ◌∙◌}
use Rattle.status_machine.specs.Step.{ShowsPast}
use Rattle.status_machine.proofs.LookBack.{ShowsPast-step, record_of-shown}
use Rattle.status_machine.proofs.daemon.Daemon.step.Goals as goal

pub returns-clause-state : goal.returns-clause-state
returns-clause-state c = λ from past h.
    rw c.advance.ensures.stepped (ShowsPast-step from past c.args.self.now c.args.poll.now c.requires.marker h)

pub returns-clause-gives : goal.returns-clause-gives
returns-clause-gives c = λ from past h.
    let next : ShowsPast from (c.args.poll.now ∷ past) c.advance.new.self =
    rw c.advance.ensures.stepped (ShowsPast-step from past c.args.self.now c.args.poll.now c.requires.marker h) in
    c.record_of.ensures ∙ record_of-shown from past c.advance.new.self c.args.poll.now next
