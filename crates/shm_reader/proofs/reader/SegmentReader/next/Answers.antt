use Rattle.std.proofs.Common.{ℕ, subst, ◌≡◌, arith, ap, sym, ◌∙◌}
use Rattle.clock_gate.specs.declared.act.Act.TheVariants.{End}
use Rattle.seqlock.specs.Tries.{IsStage, act_of as act_of_progress}
use Rattle.shm_reader.specs.SegmentTries.{segment_lock, stands, act_of}
use Rattle.shm_reader.proofs.Stands.{stands-none, stands-absent, stands-word, stands-last}
use Rattle.shm_reader.proofs.reader.SegmentReader.next.Goals as goal
use Rattle.shm_reader.proofs.reader.SegmentReader.next.Goals.{Then-generation_in-eq0}

pub returns-then-self-eq0-2-clause-act : goal.returns-then-self-eq0-2-clause-act
returns-then-self-eq0-2-clause-act c =
    let r = c.self.inside in
    rw (← c.self.view_is, c.if-self-eq0-2.true) (sym (ap act_of_progress (stands-none r.tries r.left r.first r.last r.loads c.if-self-eq0.false)))

absent : (c : Then-generation_in-eq0) → End ≡ act_of c.args.self.now
absent c =
    let r = c.self.inside in
    let ends = stands-absent r.tries r.left r.first r.last r.loads r.loaded c.if-self-eq0.false c.if-self-eq0-2.false c.self.told (sym c.generation_in.ensures ∙ c.if-generation_in-eq0.true) in
    rw (← c.self.view_is) (sym (ap act_of_progress ends))

pub returns-then-generation_in-eq0-clause-act : goal.returns-then-generation_in-eq0-clause-act
returns-then-generation_in-eq0-clause-act c = absent (goal.at.returns-then-generation_in-eq0-clause-act c).Then-generation_in-eq0

pub returns-then-generation_in-eq0-clause-loads : goal.returns-then-generation_in-eq0-clause-loads
returns-then-generation_in-eq0-clause-loads c = λ asks. asks (sym (absent (goal.at.returns-then-generation_in-eq0-clause-loads c).Then-generation_in-eq0))

pub returns-in-9-clause-act : goal.returns-in-9-clause-act
returns-in-9-clause-act c =
    let r = c.self.inside in
    let stage : IsStage segment_lock (stands r.tries r.left r.first r.last 9 r.loads) = subst (λ (n : ℕ). IsStage segment_lock (stands r.tries r.left r.first r.last n r.loads)) c.in-9.is c.self.invariant.2 in
    let wants = stands-last r.tries r.left r.first r.last r.loads c.if-self-eq0.false c.self.told (λ none. c.if-generation_in-eq0.false (c.generation_in.ensures ∙ none)) stage in
    rw (← c.self.view_is, c.in-9.is) (sym (ap act_of_progress wants))

pub returns-in_default-clause-act : goal.returns-in_default-clause-act
returns-in_default-clause-act c =
    let r = c.self.inside in
    let most = c.self.invariant.0 in
    let wants = stands-word r.tries r.left r.first r.last r.loads r.loaded c.if-self-eq0.false c.if-self-eq0-2.false (omega arith) c.self.told (λ none. c.if-generation_in-eq0.false (c.generation_in.ensures ∙ none)) c.self.invariant.2 in
    rw (← c.self.view_is) (sym (ap act_of_progress wants))
