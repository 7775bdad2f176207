use Rattle.std.proofs.Common.{◌≡◌, ◌≢◌, ◌<◌, ◌+◌, ℕ, ◌∷◌, take, arith, sym, subst}
use Rattle.std.specs.Prelude.{slice_set}
use Rattle.clock_gate.specs.declared.act.Act.TheVariants.{End}
use Rattle.seqlock.specs.Tries.{SeqlockRead, IsStage, with_value}
use Rattle.segment_layout.specs.Words.{AreGoodWords}
use Rattle.shm_reader.specs.SegmentTries.{segment_lock, act_of, given, stands, IsGoodLoad}
use Rattle.shm_reader.proofs.Stands.{few_loaded, keep_view, kept_stage, kept_good, good_load}
use Rattle.shm_reader.proofs.reader.SegmentReader.keep.Goals as goal
use Rattle.shm_reader.proofs.reader.SegmentReader.keep.Goals.{After-self}

-- where the read stands
abbrev here : After-self → SeqlockRead
here c = stands c.self.inside.tries c.self.inside.left c.self.inside.first c.self.inside.last c.self.inside.loaded c.self.inside.loads

asks : (c : After-self) → act_of (here c) ≢ End
asks c = subst (λ (read : SeqlockRead). act_of read ≢ End) (sym c.self.view_is) c.requires.open

good : (c : After-self) → IsGoodLoad (act_of (here c)) c.args.value
good c = subst (λ (read : SeqlockRead). IsGoodLoad (act_of read) c.args.value) (sym c.self.view_is) c.requires.good

kept : (c : After-self) → given (here c) c.args.value ≡ with_value (here c) c.args.value
kept c = subst (λ (read : SeqlockRead). given read c.args.value ≡ with_value read c.args.value) (sym c.self.view_is) c.requires.kept

few : (c : After-self) → c.self.inside.loaded < 10
few c =
    let r = c.self.inside in
    few_loaded r.tries r.left r.first r.last r.loads r.loaded c.self.invariant.0 c.self.told c.self.invariant.2 (asks c)

pub bounds-self-inside-from : goal.bounds-self-inside-from
bounds-self-inside-from c =
    let less = few (goal.at.bounds-self-inside-from c).After-self in
    let index = c.from.ensures in
    omega arith

pub invariant_of-self : goal.invariant_of-self
invariant_of-self c =
    let r = c.self.inside in
    let s = (goal.at.invariant_of-self c).After-self in
    let less = few s in
    let index = c.from.ensures in
    let words = kept_good r.loads r.loaded c.args.value less c.self.told (good_load r.tries r.left r.first r.last r.loads r.loaded c.args.value less c.self.told c.self.invariant.2 (asks s) (good s)) c.self.invariant.1 in
    let stage = kept_stage r.tries r.left r.first r.last r.loads r.loaded c.args.value less c.self.told c.self.invariant.2 (asks s) (kept s) in (
      omega arith,
      subst (λ (i : ℕ). AreGoodWords (0 ∷ take 9 (slice_set r.loads i c.args.value))) (sym index) words,
      subst (λ (i : ℕ). IsStage segment_lock (stands r.tries r.left r.first r.last (r.loaded + 1) (slice_set r.loads i c.args.value))) (sym index) stage,
    )

pub returns : goal.returns
returns c =
    let r = c.self.inside in
    keep_view r.tries r.left r.first r.last r.loaded c.args.value c.from.result r.loads c.args.self.now (few (goal.at.returns c).After-self) c.self.told c.from.ensures c.self.view_is c.requires.kept
