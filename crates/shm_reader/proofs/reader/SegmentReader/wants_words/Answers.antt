use Rattle.std.proofs.Common.{◌≡◌, ◌≢◌, ◌∙◌, sym, subst, arith}
use Rattle.std.proofs.lemmas.Bool.Decides.{nat_tests}
use Rattle.std.proofs.lemmas.Bool.{eqb-false}
use Rattle.std.specs.Prelude.{slice_index}
use Rattle.clock_gate.specs.declared.act.Act.TheVariants.{Load}
use Rattle.generation_word.specs.Header.{generation_in}
use Rattle.seqlock.specs.Tries.{SeqlockRead}
use Rattle.shm_reader.specs.SegmentTries.{act_of}
use Rattle.shm_reader.proofs.GivenWords.{has_first, wants_two}
use Rattle.shm_reader.proofs.reader.SegmentReader.wants_words.Goals as goal

pub returns-then-self-ne1 : goal.returns-then-self-ne1
returns-then-self-ne1 c =
    let r = c.self.inside in (
      λ found. absurd (cc found),
      λ act. absurd (c.if-self-ne1.true (has_first r.tries r.left r.first r.last r.loads r.loaded c.self.invariant.0 c.self.told c.self.invariant.2 (subst (λ (read : SeqlockRead). act_of read ≡ Load 2) (sym c.self.view_is) act)).one),
    )

pub returns : goal.returns
returns c =
    let r = c.self.inside in
    let number : c.generation_in.result ≡ generation_in (slice_index r.loads 0) = c.generation_in.ensures in (
      λ found.
          let some : c.generation_in.result ≢ 0 = grind (arith, nat_tests) in
          subst (λ (read : SeqlockRead). act_of read ≡ Load 2) c.self.view_is
          (wants_two r.tries r.left r.first r.last r.loads r.loaded c.if-self-ne1.false c.self.told (λ none. some (number ∙ none)) c.self.invariant.2),
      λ act.
          let has = has_first r.tries r.left r.first r.last r.loads r.loaded c.self.invariant.0 c.self.told c.self.invariant.2 (subst (λ (read : SeqlockRead). act_of read ≡ Load 2) (sym c.self.view_is) act) in
          let published : generation_in (slice_index r.loads 0) ≢ 0 = eqb-false (generation_in (slice_index r.loads 0)) 0 has.calm.published in
          let some : c.generation_in.result ≢ 0 = λ none. published (sym number ∙ none) in
          grind (arith, nat_tests),
    )
