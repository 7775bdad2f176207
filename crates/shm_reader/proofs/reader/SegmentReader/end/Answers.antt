use Rattle.std.proofs.Common.{◌≡◌, ℕ, sym, ◌∙◌, refl, ap, subst, take, drop, Some, arith}
use Rattle.std.specs.Prelude.{slice_index}
use Rattle.generation_word.specs.Header.{generation_in}
use Rattle.seqlock.specs.Tries.{SeqlockRead, Asks, Ends, Unpublished, Found, progress}
use Rattle.segment_layout.specs.Record.{RecordFields}
use Rattle.shm_reader.specs.declared.seen.Seen.TheVariants.{Whole}
use Rattle.shm_reader.specs.SegmentTries.{segment_lock}
use Rattle.shm_reader.proofs.Stands.{stands-absent, stands-more, stands-all, seen_at, act_at, unseen_at, load_at}
use Rattle.shm_reader.proofs.reader.SegmentReader.end.Goals as goal
use Rattle.shm_reader.proofs.reader.SegmentReader.end.Goals.{Then-generation-eq0, Then-self-lt10, After-rec_in}

absent : (c : Then-generation-eq0) → progress segment_lock c.args.self.now ≡ Ends Unpublished
absent c =
    let r = c.self.inside in
    rw (← c.self.view_is) (stands-absent r.tries r.left r.first r.last r.loads r.loaded c.if-self-eq0.false c.if-self-eq0-2.false c.self.told (sym c.generation_in-generation.ensures ∙ c.if-generation-eq0.true))

more : (c : Then-self-lt10) → (word : ℕ) × (progress segment_lock c.args.self.now ≡ Asks word)
more c =
    let r = c.self.inside in
    subst (λ (read : SeqlockRead). (word : ℕ) × (progress segment_lock read ≡ Asks word)) c.self.view_is
    (stands-more r.tries r.left r.first r.last r.loaded r.loads c.if-self-eq0.false c.if-self-eq0-2.false c.if-self-lt10.true c.self.told (λ none. c.if-generation-eq0.false (c.generation_in-generation.ensures ∙ none)) c.self.invariant.2)

all : (c : After-rec_in) → progress segment_lock c.args.self.now ≡ Ends (Found (slice_index c.self.inside.loads 0) (take 8 (drop 1 c.self.inside.loads)))
all c =
    let r = c.self.inside in
    let least = c.if-self-lt10.false in
    rw (← c.self.view_is) (stands-all r.tries r.left r.first r.last r.loaded r.loads c.if-self-eq0.false c.self.invariant.0 (omega arith) c.self.told (λ none. c.if-generation-eq0.false (c.generation_in-generation.ensures ∙ none)) c.self.invariant.2)

pub returns-then-generation-eq0-clause-value : goal.returns-then-generation-eq0-clause-value
returns-then-generation-eq0-clause-value c = seen_at c.args.self.now Unpublished (absent c)

pub returns-then-generation-eq0-clause-ended : goal.returns-then-generation-eq0-clause-ended
returns-then-generation-eq0-clause-ended c = (λ none. cc none, λ asks. absurd (asks (act_at c.args.self.now Unpublished (absent c))))

pub returns-then-self-lt10-clause-value : goal.returns-then-self-lt10-clause-value
returns-then-self-lt10-clause-value c = let wants = more c in unseen_at c.args.self.now wants.0 wants.1

pub returns-then-self-lt10-clause-ended : goal.returns-then-self-lt10-clause-ended
returns-then-self-lt10-clause-ended c = let wants = more c in (λ none. load_at c.args.self.now wants.0 wants.1, λ asks. refl)

pub returns-clause-value : goal.returns-clause-value
returns-clause-value c =
    ap (λ (g : ℕ). Some (Whole g c.rec_in.result)) c.generation_in-generation.ensures
    ∙ ap (λ (r : RecordFields). Some (Whole (generation_in (slice_index c.self.inside.loads 0)) r)) c.rec_in.ensures
    ∙ seen_at c.args.self.now _ (all c)

pub returns-clause-ended : goal.returns-clause-ended
returns-clause-ended c = (λ none. cc none, λ asks. absurd (asks (act_at c.args.self.now _ (all c))))
