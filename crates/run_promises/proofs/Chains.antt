-- The base of a publication that is told of a position, as it stands among later events.
use Rattle.std.proofs.Common.{◌≡◌, ℕ, ◌<◌, Bool, true, false, List, [], ◌∷◌, Option, Some, refl, subst}
use Rattle.std.specs.Prelude.{◌==◌, if◌then◌else◌}
use Rattle.clock_gate.specs.declared.trace.Trace.{Trace}
use Rattle.segment_layout.specs.declared.publication.Publication.{Publication}
use Rattle.abstract_run.specs.declared.event.Event.{Event}
use Rattle.abstract_run.specs.declared.event.Event.TheVariants.{Opened, Moved, Published, Skipped, Stopped, Answered}
use Rattle.abstract_run.specs.RunFacts.{PublishedEvent, told_at, told_by, AllEarlier, AllTell}
use Rattle.abstract_run.specs.HostRun.{marker_at}
use Rattle.run_promises.specs.Told.{IsMarked, KeepsMarker, PublicationTells, AllMarked, IsFresh, KnowsPoll}
use Rattle.run_promises.proofs.Marks.{mark_later}
use Rattle.run_promises.proofs.DaemonStates.{AreSame, mark_same}

-- ---- of the publication alone

pub record ToldMarked (trace : Trace) (told : PublishedEvent) : Type 0 where
  pub begun : 0 < told.replied_at
  pub marked : IsMarked trace told.publication.rec told.marked_at
  pub knows : IsFresh trace → KnowsPoll told.publication.rec.status told.publication.base

marked_by : (trace : Trace) (test : Bool) (one told : PublishedEvent) (rest : Option PublishedEvent) → ToldMarked trace one → (rest ≡ Some told → ToldMarked trace told) → (if test then Some one else rest) ≡ Some told → ToldMarked trace told
marked_by trace true one told rest own later is = let same : one ≡ told = cc is in subst (ToldMarked trace) same own
marked_by trace false one told rest own later is = later is

module _ (trace : Trace) where
  pub at_marked : (past : List Event) (n : ℕ) (told : PublishedEvent) → AllMarked trace past → told_at n past ≡ Some told → ToldMarked trace told
  at_marked [] n told all is = absurd (cc is)
  at_marked (Opened poll begins ∷ past) n told all is = at_marked past n told all is
  at_marked (Moved poll position generation ∷ past) n told all is = at_marked past n told all.1 is
  at_marked (Published position publication marked_at replied_at ∷ past) n told all is =
      marked_by trace (position == n) (record { position = position; publication = publication; marked_at = marked_at; replied_at = replied_at }) told (told_at n past)
      (record { begun = all.0.begun; marked = all.0.marked; knows = all.0.knows }) (λ later. at_marked past n told all.1 later) is
  at_marked (Skipped poll first last ∷ past) n told all is = at_marked past n told all is
  at_marked (Stopped poll stores ∷ past) n told all is = at_marked past n told all is
  at_marked (Answered client call answer trail ∷ past) n told all is = at_marked past n told all.1 is

  pub by_marked : (past : List Event) (n : ℕ) (told : PublishedEvent) → AllMarked trace past → told_by n past ≡ Some told → ToldMarked trace told
  by_marked [] n told all is = absurd (cc is)
  by_marked (Opened poll begins ∷ past) n told all is = by_marked past n told all is
  by_marked (Moved poll position generation ∷ past) n told all is = by_marked past n told all.1 is
  by_marked (Published position publication marked_at replied_at ∷ past) n told all is =
      marked_by trace (publication.poll == n) (record { position = position; publication = publication; marked_at = marked_at; replied_at = replied_at }) told (told_by n past)
      (record { begun = all.0.begun; marked = all.0.marked; knows = all.0.knows }) (λ later. by_marked past n told all.1 later) is
  by_marked (Skipped poll first last ∷ past) n told all is = by_marked past n told all is
  by_marked (Stopped poll stores ∷ past) n told all is = by_marked past n told all is
  by_marked (Answered client call answer trail ∷ past) n told all is = by_marked past n told all.1 is

  -- ---- its base's marker

  abbrev ToldKeeps : List Event → PublishedEvent → Type 0
  ToldKeeps past told = KeepsMarker trace past told.publication.base told.publication.rec.status (marker_at trace told.marked_at)

  keeps_same : (past more : List Event) (told : PublishedEvent) → AreSame past more → ToldKeeps past told → ToldKeeps more told
  keeps_same past more told same is = λ some calm. mark_same trace past more told.publication.base (marker_at trace told.marked_at) same (is some calm)

  keeps_by : (past : List Event) (position : ℕ) (publication : Publication) (marked_at replied_at : ℕ) (test : Bool) (told : PublishedEvent) (rest : Option PublishedEvent)
      → AllEarlier position publication.poll replied_at past
      → PublicationTells trace (Published position publication marked_at replied_at ∷ past) publication marked_at replied_at
      → (rest ≡ Some told → ToldKeeps past told)
      → (if test then Some (record { position = position; publication = publication; marked_at = marked_at; replied_at = replied_at }) else rest) ≡ Some told
      → ToldKeeps (Published position publication marked_at replied_at ∷ past) told
  keeps_by past position publication marked_at replied_at true told rest earlier own later is =
      let one : PublishedEvent = record { position = position; publication = publication; marked_at = marked_at; replied_at = replied_at } in
      let same : one ≡ told = cc is in
      subst (ToldKeeps (Published position publication marked_at replied_at ∷ past)) same own.keeps
  keeps_by past position publication marked_at replied_at false told rest earlier own later is = λ some calm.
      mark_later trace past position publication marked_at replied_at position replied_at told.publication.base (marker_at trace told.marked_at) earlier (later is some calm)

  -- the marker that its base poll had loaded is its own
  pub at_keeps : (past : List Event) (n : ℕ) (told : PublishedEvent) → AllTell trace past → AllMarked trace past → told_at n past ≡ Some told → ToldKeeps past told
  at_keeps [] n told all marked is = absurd (cc is)
  at_keeps (Opened poll begins ∷ past) n told all marked is =
      keeps_same past (Opened poll begins ∷ past) told (record { by = λ k. refl; at = λ k. refl }) (at_keeps past n told all marked is)
  at_keeps (Moved poll position generation ∷ past) n told all marked is =
      keeps_same past (Moved poll position generation ∷ past) told (record { by = λ k. refl; at = λ k. refl }) (at_keeps past n told all marked.1 is)
  at_keeps (Published position publication marked_at replied_at ∷ past) n told all marked is =
      keeps_by past position publication marked_at replied_at (position == n) told (told_at n past) all.0.earlier marked.0
      (λ later. at_keeps past n told all.1 marked.1 later) is
  at_keeps (Skipped poll first last ∷ past) n told all marked is =
      keeps_same past (Skipped poll first last ∷ past) told (record { by = λ k. refl; at = λ k. refl }) (at_keeps past n told all marked is)
  at_keeps (Stopped poll stores ∷ past) n told all marked is =
      keeps_same past (Stopped poll stores ∷ past) told (record { by = λ k. refl; at = λ k. refl }) (at_keeps past n told all marked is)
  at_keeps (Answered client call answer trail ∷ past) n told all marked is =
      keeps_same past (Answered client call answer trail ∷ past) told (record { by = λ k. refl; at = λ k. refl }) (at_keeps past n told all.1 marked.1 is)
