use Rattle.std.proofs.Common.{◌≡◌, ◌<◌, ◌-◌, ◌%◌, ◌∙◌, sym, subst, arith}
use Rattle.std.specs.Prelude.{replicate}
use Rattle.clock_gate.specs.Acts.{after}
use Rattle.seqlock.specs.Tries.{SeqlockRead}
use Rattle.shm_reader.specs.SegmentTries.{act_of, given, stands}
use Rattle.shm_reader.proofs.GivenWords.{stands_failed, stands_again}
use Rattle.shm_reader.proofs.reader.SegmentReader.fail_odd.Goals as goal

pub returns-clause-value : goal.returns-clause-value
returns-clause-value c =
    let r = c.self.inside in
    let none = c.if-self-ne0.false in
    let some = c.if-fails-eq0.false in
    let odd = c.if-generation-ne1.false in
    let fails = c.min-fails.result in
    subst (λ (read : SeqlockRead). stands r.tries (r.left - c.min-fails.result) c.generation_in-generation.result c.generation_in-generation.result r.loaded r.loads ≡ after act_of given read (replicate c.min-fails.result c.args.header)) c.self.view_is
    (stands_failed r.tries r.left r.first r.last r.loaded c.min-fails.result c.args.header c.generation_in-generation.result r.loads none (omega (arith, some)) c.generation_in-generation.ensures odd)

pub returns-clause-open : goal.returns-clause-open
returns-clause-open c =
    let r = c.self.inside in
    let fails = c.min-fails.ensures in
    let some = c.if-fails-eq0.false in
    let from = c.from.ensures in
    stands_again r.tries (r.left - c.min-fails.result) c.generation_in-generation.result c.generation_in-generation.result r.loaded r.loads c.if-self-ne0.false (omega (arith, fails, some, from))
