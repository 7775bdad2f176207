-- A later segment: what a read of the segment keeps, and what a step keeps that leaves the words.
use Rattle.std.proofs.Common.{◌≡◌, ℕ, ◌+◌, ◌<◌, ◌≤◌, false, List, length, take, Option, Some, None, refl, sym, ◌∙◌, subst, arith}
use Rattle.generation_word.specs.declared.layout.Layout.{Layout}
use Rattle.generation_word.specs.Layout.{period_of}
use Rattle.generation_word.specs.Numbering.{generation_at}
use Rattle.seqlock.specs.Tries.{SeqlockRead, started}
use Rattle.segment_layout.specs.declared.publication.Publication.{Publication}
use Rattle.segment_layout.specs.Image.{IsHeaderFor}
use Rattle.segment_layout.specs.Words.{data_words}
use Rattle.segment_run.specs.SegmentRun.{SegmentRun}
use Rattle.segment_run.specs.ShowsSegment.{IsSegment, IsSegmentLater}
use Rattle.segment_run.proofs.SegmentLater.{later_position, calm_before, published_later}
use Rattle.abstract_run.specs.ClientRun.{SegmentTry, SegmentReading, segment_reading}
use Rattle.step_core.specs.ShowsSegment.{IsSegmentTry, IsSegmentTryOf, ShowsSegmentRead}

-- ---- a read in hand

try_later : (old new : SegmentRun) (try : SegmentTry) (values : List ℕ) → length old.history + old.base ≡ old.position → IsSegmentLater old new → IsSegmentTry old try values → IsSegmentTry new try values
try_later old new try values known later is =
    let above = is.known in
    let before = is.before in
    let base = later.base in
    let further : old.position ≤ new.position = later_position old.position new.position old.is_writing new.is_writing later.point in
    let here : new.position ≡ try.from → old.position ≡ try.from = λ same. omega (arith, before, further) in
    let rests : new.position ≡ try.from → new.is_writing ≡ false → old.is_writing ≡ false = λ same calm.
    calm_before old.position new.position old.is_writing new.is_writing later.point (same ∙ sym (here same)) calm in
    record {
      known = omega (arith, above, base);
      before = omega (arith, before, further);
      few = is.few;
      same_values = is.same_values;
      header = subst (λ (layout : Layout). IsHeaderFor layout try.header (generation_at (period_of layout) try.from)) (sym later.layout) is.header;
      whole = λ same calm.
          subst (λ (p : Publication). try.seen ≡ take (length try.seen) (data_words p.rec)) (sym (published_later old new try.from known later above before))
          (is.whole (here same) (rests same calm));
      unmoved = λ same calm.
          later.header (same ∙ sym (here same)) calm (omega (arith, above, same)) ∙ is.unmoved (here same) (rests same calm);
    }

try_of_later : (old new : SegmentRun) (try : Option SegmentTry) (values : List ℕ) → length old.history + old.base ≡ old.position → IsSegmentLater old new → IsSegmentTryOf old try values → IsSegmentTryOf new try values
try_of_later old new None values known later is = is
try_of_later old new (Some try) values known later is = try_later old new try values known later is

-- a read in hand stays one
pub segment_read_later : (old new : SegmentRun) (tries : ℕ) (reading : SegmentReading) (read : SeqlockRead) → IsSegment old → IsSegmentLater old new
    → ShowsSegmentRead old tries reading read → ShowsSegmentRead new tries reading read
segment_read_later old new tries reading read is later shows =
    record {
      some_left = shows.some_left;
      same_tries = shows.same_tries;
      same_left = shows.same_left;
      try = try_of_later old new reading.try read.values is.known later shows.try;
    }

-- a read that begins
pub segment_read_new : (segment : SegmentRun) (tries : ℕ) → 0 < tries → ShowsSegmentRead segment tries (segment_reading tries) (started tries)
segment_read_new segment tries some = record { some_left = some; same_tries = refl; same_left = refl; try = refl }
