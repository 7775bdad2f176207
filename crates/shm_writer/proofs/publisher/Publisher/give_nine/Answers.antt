use Rattle.std.proofs.Common.{◌≡◌, subst, sym}
use Rattle.shm_writer.specs.Publisher.{Publishing, publishing_act, publishing_given}
use Rattle.shm_writer.specs.Leaps.{MakesStores}
use Rattle.shm_writer.proofs.Leaps.{nine, nine_stores}
use Rattle.shm_writer.proofs.publisher.Publisher.give_nine.Goals as goal

pub returns-clause-stores : goal.returns-clause-stores
returns-clause-stores c =
    let p = c.self.inside in
    let none : p.made ≡ 0 = subst (λ (before : Publishing). before.made ≡ 0) (sym c.self.view_is) c.requires in
    subst (λ (before : Publishing). MakesStores publishing_act publishing_given 1 (nine c.to_words.result) before (record { rec = p.rec; layout = p.layout; generation = p.generation; made = 9 })) c.self.view_is
    (nine_stores p.rec p.layout p.generation p.made c.odd.result c.to_words.result none c.odd.ensures.value c.to_words.ensures.words c.to_words.ensures.good)
