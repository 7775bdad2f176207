-- A run that begins on an image without a record: nothing is moved, and no more positions are made than the trace has polls.
use Rattle.std.proofs.Common.{◌≡◌, ℕ, ◌≤◌, ◌<◌, Bool, true, false, List, [], ◌∷◌, length, refl, arith}
use Rattle.std.specs.Prelude.{◌||◌}
use Rattle.clock_gate.specs.declared.trace.Trace.{Trace}
use Rattle.segment_layout.specs.Image.{start_of}
use Rattle.abstract_run.specs.declared.event.Event.{Event}
use Rattle.abstract_run.specs.declared.event.Event.TheVariants.{Opened, Moved, Published, Skipped, Stopped, Answered}
use Rattle.abstract_run.specs.RunFacts.{is_moved_to, is_kept_at, is_image_at, made_by, AllEarlier, AllTell}
use Rattle.run_promises.specs.Told.{IsFresh, AllMarked}

module _ (trace : Trace) where
  unmoved : (past : List Event) (n : ℕ) → IsFresh trace → AllMarked trace past → is_moved_to n past ≡ false
  unmoved [] n fresh marked = refl
  unmoved (Opened poll begins ∷ past) n fresh marked = unmoved past n fresh marked
  unmoved (Moved poll position generation ∷ past) n fresh marked = absurd (marked.0 fresh)
  unmoved (Published position publication marked_at replied_at ∷ past) n fresh marked = unmoved past n fresh marked.1
  unmoved (Skipped poll first last ∷ past) n fresh marked = unmoved past n fresh marked
  unmoved (Stopped poll stores ∷ past) n fresh marked = unmoved past n fresh marked
  unmoved (Answered client call answer trail ∷ past) n fresh marked = unmoved past n fresh marked.1

  or_false : (a b : Bool) → a ≡ false → b ≡ false → (a || b) ≡ false
  or_false true b first second = first
  or_false false b first second = second

  -- no position has the image's record
  pub none_moved : (past : List Event) (n : ℕ) → IsFresh trace → AllMarked trace past → is_kept_at n (start_of trace.image) ≡ false → is_image_at trace past n ≡ false
  none_moved past n fresh marked kept = or_false (is_moved_to n past) (is_kept_at n (start_of trace.image)) (unmoved past n fresh marked) kept

  -- each earlier position was made by an earlier poll
  made_below : (past : List Event) (position poll replied_at : ℕ) → 0 < poll → IsFresh trace → AllTell trace past → AllMarked trace past → AllEarlier position poll replied_at past → made_by past < poll
  made_below [] p q r some fresh all marked earlier = some
  made_below (Opened which begins ∷ past) p q r some fresh all marked earlier = made_below past p q r some fresh all marked earlier
  made_below (Moved which to generation ∷ past) p q r some fresh all marked earlier = absurd (marked.0 fresh)
  made_below (Published to publication marked_at before ∷ past) p q r some fresh all marked earlier =
      let fewer = made_below past to publication.poll before marked.0.numbered fresh all.1 marked.1 all.0.earlier in
      let below = earlier.1 in
      omega (arith, fewer, below)
  made_below (Skipped which first last ∷ past) p q r some fresh all marked earlier = made_below past p q r some fresh all marked earlier
  made_below (Stopped which stores ∷ past) p q r some fresh all marked earlier = made_below past p q r some fresh all marked earlier
  made_below (Answered client call answer trail ∷ past) p q r some fresh all marked earlier = made_below past p q r some fresh all.1 marked.1 earlier

  pub made_few : (past : List Event) → IsFresh trace → AllTell trace past → AllMarked trace past → made_by past ≤ length trace.polls
  made_few [] fresh all marked = omega arith
  made_few (Opened which begins ∷ past) fresh all marked = made_few past fresh all marked
  made_few (Moved which to generation ∷ past) fresh all marked = absurd (marked.0 fresh)
  made_few (Published to publication marked_at before ∷ past) fresh all marked =
      let fewer = made_below past to publication.poll before marked.0.numbered fresh all.1 marked.1 all.0.earlier in
      let among = marked.0.among in
      omega (arith, fewer, among)
  made_few (Skipped which first last ∷ past) fresh all marked = made_few past fresh all marked
  made_few (Stopped which stores ∷ past) fresh all marked = made_few past fresh all marked
  made_few (Answered client call answer trail ∷ past) fresh all marked = made_few past fresh all.1 marked.1
