-- What follows of a publication that is found among the events: what it tells itself, and its base's publication, which is no later.
use Rattle.std.proofs.Common.{◌≡◌, ℕ, ◌≤◌, ◌<◌, Bool, true, false, List, [], ◌∷◌, length, Option, Some, refl, subst, arith}
use Rattle.std.specs.Prelude.{◌==◌, if◌then◌else◌}
use Rattle.clock_gate.specs.declared.trace.Trace.{Trace}
use Rattle.segment_layout.specs.declared.publication.Publication.{Publication}
use Rattle.abstract_run.specs.declared.event.Event.{Event}
use Rattle.abstract_run.specs.declared.event.Event.TheVariants.{Opened, Moved, Published, Skipped, Stopped, Answered}
use Rattle.abstract_run.specs.HostRun.{clocks_at}
use Rattle.abstract_run.specs.RunFacts.{PublishedEvent, told_at, told_by, AllEarlier, IsAsked, PublishedTells, HasBase, AllTell, AllBased}
use Rattle.abstract_run.proofs.RunFactsBases.{has_same, has_later}

-- ---- of the publication alone

pub record EndedFits (trace : Trace) (told : PublishedEvent) : Type 0 where
  pub asked : IsAsked trace told.publication.asked told.marked_at
  pub marked : told.marked_at ≤ told.replied_at
  pub replied : told.publication.replied ≡ clocks_at trace.host told.replied_at
  pub done : told.replied_at ≤ length trace.host

fits_by : (trace : Trace) (test : Bool) (one told : PublishedEvent) (rest : Option PublishedEvent) → EndedFits trace one → (rest ≡ Some told → EndedFits trace told) → (if test then Some one else rest) ≡ Some told → EndedFits trace told
fits_by trace true one told rest own later is = let same : one ≡ told = cc is in subst (EndedFits trace) same own
fits_by trace false one told rest own later is = later is

one_fits : (trace : Trace) (past : List Event) (position : ℕ) (publication : Publication) (marked_at replied_at : ℕ) → PublishedTells trace past position publication marked_at replied_at
    → EndedFits trace (record { position = position; publication = publication; marked_at = marked_at; replied_at = replied_at })
one_fits trace past position publication marked_at replied_at tells = record { asked = tells.asked; marked = tells.marked; replied = tells.replied; done = tells.done }

-- the publication at a position
pub at_fits : (trace : Trace) (past : List Event) (n : ℕ) (told : PublishedEvent) → AllTell trace past → told_at n past ≡ Some told → EndedFits trace told
at_fits trace [] n told all is = absurd (cc is)
at_fits trace (Opened poll begins ∷ past) n told all is = at_fits trace past n told all is
at_fits trace (Moved poll position generation ∷ past) n told all is = at_fits trace past n told all is
at_fits trace (Published position publication marked_at replied_at ∷ past) n told all is =
    fits_by trace (position == n) (record { position = position; publication = publication; marked_at = marked_at; replied_at = replied_at }) told (told_at n past)
    (one_fits trace past position publication marked_at replied_at all.0) (λ later. at_fits trace past n told all.1 later) is
at_fits trace (Skipped poll first last ∷ past) n told all is = at_fits trace past n told all is
at_fits trace (Stopped poll stores ∷ past) n told all is = at_fits trace past n told all is
at_fits trace (Answered client call answer trail ∷ past) n told all is = at_fits trace past n told all.1 is

-- the publication of a poll
pub by_fits : (trace : Trace) (past : List Event) (n : ℕ) (told : PublishedEvent) → AllTell trace past → told_by n past ≡ Some told → EndedFits trace told
by_fits trace [] n told all is = absurd (cc is)
by_fits trace (Opened poll begins ∷ past) n told all is = by_fits trace past n told all is
by_fits trace (Moved poll position generation ∷ past) n told all is = by_fits trace past n told all is
by_fits trace (Published position publication marked_at replied_at ∷ past) n told all is =
    fits_by trace (publication.poll == n) (record { position = position; publication = publication; marked_at = marked_at; replied_at = replied_at }) told (told_by n past)
    (one_fits trace past position publication marked_at replied_at all.0) (λ later. by_fits trace past n told all.1 later) is
by_fits trace (Skipped poll first last ∷ past) n told all is = by_fits trace past n told all is
by_fits trace (Stopped poll stores ∷ past) n told all is = by_fits trace past n told all is
by_fits trace (Answered client call answer trail ∷ past) n told all is = by_fits trace past n told all.1 is

-- ---- its base

before_by : (test : Bool) (one told : PublishedEvent) (rest : Option PublishedEvent) (replied_at : ℕ) → one.replied_at ≤ replied_at → (rest ≡ Some told → told.replied_at ≤ replied_at)
    → (if test then Some one else rest) ≡ Some told → told.replied_at ≤ replied_at
before_by true one told rest replied_at own later is = let same : one ≡ told = cc is in subst (λ (e : PublishedEvent). e.replied_at ≤ replied_at) same own
before_by false one told rest replied_at own later is = later is

-- no reply of an earlier publication was taken later
pub told_before : (position poll replied_at n : ℕ) (past : List Event) (told : PublishedEvent) → AllEarlier position poll replied_at past → told_by n past ≡ Some told → told.replied_at ≤ replied_at
told_before p q r n [] told h is = absurd (cc is)
told_before p q r n (Opened which start ∷ past) told h is = told_before p q r n past told h is
told_before p q r n (Moved which to generation ∷ past) told h is = told_before p q r n past told h.1 is
told_before p q r n (Published to publication marked_at before ∷ past) told h is =
    before_by (publication.poll == n) (record { position = to; publication = publication; marked_at = marked_at; replied_at = before }) told (told_by n past) r h.2
    (λ later. told_before p q r n past told h.3 later) is
told_before p q r n (Skipped which first last ∷ past) told h is = told_before p q r n past told h is
told_before p q r n (Stopped which stores ∷ past) told h is = told_before p q r n past told h is
told_before p q r n (Answered client call answer trail ∷ past) told h is = told_before p q r n past told h is

-- a publication's base was published too, by a reply taken no later, whatever was published since
pub record BaseStands (trace : Trace) (past : List Event) (told : PublishedEvent) : Type 0 where
  pub has : HasBase trace past told.publication.base told.publication.rec.as_of told.publication.rec.bound
  pub no_later : has.told.replied_at ≤ told.replied_at

stands_same : (trace : Trace) (past more : List Event) (told : PublishedEvent) → ((n : ℕ) → told_by n more ≡ told_by n past) → BaseStands trace past told → BaseStands trace more told
unfolding has_same
stands_same trace past more told same is =
    record { has = has_same trace past more told.publication.base told.publication.rec.as_of told.publication.rec.bound same is.has; no_later = is.no_later }

module _ (trace : Trace) (past : List Event) (position : ℕ) (publication : Publication) (marked_at replied_at : ℕ) where
  abbrev this : PublishedEvent
  this = record { position = position; publication = publication; marked_at = marked_at; replied_at = replied_at }

  own_stands : AllEarlier position publication.poll replied_at past
      → HasBase trace (Published position publication marked_at replied_at ∷ past) publication.base publication.rec.as_of publication.rec.bound
      → BaseStands trace (Published position publication marked_at replied_at ∷ past) this
  own_stands earlier has =
      record {
        has = has;
        no_later = before_by (publication.poll == publication.base) this has.told (told_by publication.base past) replied_at (omega arith)
            (λ later. told_before position publication.poll replied_at publication.base past has.told earlier later) has.found;
      }

  later_stands : (told : PublishedEvent) → AllEarlier position publication.poll replied_at past → BaseStands trace past told → BaseStands trace (Published position publication marked_at replied_at ∷ past) told
  unfolding has_later
  later_stands told earlier is =
      record {
        has = has_later trace past position publication marked_at replied_at position replied_at told.publication.base told.publication.rec.as_of told.publication.rec.bound earlier is.has;
        no_later = is.no_later;
      }

  stands_by : (test : Bool) (told : PublishedEvent) (rest : Option PublishedEvent) → AllEarlier position publication.poll replied_at past
      → (0 < publication.base → HasBase trace (Published position publication marked_at replied_at ∷ past) publication.base publication.rec.as_of publication.rec.bound)
      → (rest ≡ Some told → 0 < told.publication.base → BaseStands trace past told) → (if test then Some this else rest) ≡ Some told → 0 < told.publication.base
      → BaseStands trace (Published position publication marked_at replied_at ∷ past) told
  stands_by true told rest earlier own later is =
      let same : this ≡ told = cc is in
      subst (λ (e : PublishedEvent). 0 < e.publication.base → BaseStands trace (Published position publication marked_at replied_at ∷ past) e) same (λ some. own_stands earlier (own some))
  stands_by false told rest earlier own later is = λ some. later_stands told earlier (later is some)

pub base_stands : (trace : Trace) (past : List Event) (n : ℕ) (told : PublishedEvent) → AllTell trace past → AllBased trace past → told_at n past ≡ Some told → 0 < told.publication.base → BaseStands trace past told
base_stands trace [] n told all based is some = absurd (cc is)
base_stands trace (Opened poll begins ∷ past) n told all based is some =
    stands_same trace past (Opened poll begins ∷ past) told (λ k. refl) (base_stands trace past n told all based is some)
base_stands trace (Moved poll position generation ∷ past) n told all based is some =
    stands_same trace past (Moved poll position generation ∷ past) told (λ k. refl) (base_stands trace past n told all based is some)
base_stands trace (Published position publication marked_at replied_at ∷ past) n told all based is some =
    stands_by trace past position publication marked_at replied_at (position == n) told (told_at n past) all.0.earlier based.0
    (λ later more. base_stands trace past n told all.1 based.1 later more) is some
base_stands trace (Skipped poll first last ∷ past) n told all based is some =
    stands_same trace past (Skipped poll first last ∷ past) told (λ k. refl) (base_stands trace past n told all based is some)
base_stands trace (Stopped poll stores ∷ past) n told all based is some =
    stands_same trace past (Stopped poll stores ∷ past) told (λ k. refl) (base_stands trace past n told all based is some)
base_stands trace (Answered client call answer trail ∷ past) n told all based is some =
    stands_same trace past (Answered client call answer trail ∷ past) told (λ k. refl) (base_stands trace past n told all.1 based is some)
