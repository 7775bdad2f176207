-- A base number names a publication: each turn of the daemon keeps it.
use Rattle.std.proofs.Common.{◌≡◌, ◌≢◌, ℕ, ℤ, ◌<◌, Bool, true, false, List, [], ◌∷◌, Option, Some, None, refl, ◌∙◌, subst, arith, inl, inr}
use Rattle.std.specs.Prelude.{◌==◌, if◌then◌else◌}
use Rattle.std.proofs.lemmas.Bool.{cases_eq}
use Rattle.std.proofs.lemmas.Bool.Decides.{nat_tests}
use Rattle.clock_gate.specs.declared.trace.Trace.{Trace}
use Rattle.segment_layout.specs.declared.publication.Publication.{Publication}
use Rattle.status_machine.specs.declared.base.Base.{Base}
use Rattle.abstract_run.specs.declared.event.Event.{Event}
use Rattle.abstract_run.specs.declared.event.Event.TheVariants.{Opened, Moved, Published, Skipped, Stopped, Answered}
use Rattle.abstract_run.specs.RunFacts.{PublishedEvent, told_by, AllEarlier, given_by, HasBase}

-- ---- look-ups by poll numbers

abbrev pub AreSame : (past more : List Event) → Type 0
AreSame past more = (n : ℕ) → told_by n more ≡ told_by n past

unfoldable pub has_same : (trace : Trace) (past more : List Event) (base : ℕ) (as_of bound : ℤ) → AreSame past more → HasBase trace past base as_of bound → HasBase trace more base as_of bound
has_same trace past more base as_of bound same has =
    record { told = has.told; found = same base ∙ has.found; own = has.own; from = has.from; same_bound = has.same_bound; gives = has.gives }

none_is_some : (one : PublishedEvent) → None ≢ Some one
none_is_some one is = cc is

below_by : (poll number n : ℕ) (test : Bool) (one told : PublishedEvent) (rest : Option PublishedEvent) → (number == n) ≡ test → number < poll → (rest ≡ Some told → n < poll)
    → (if test then Some one else rest) ≡ Some told → n < poll
below_by poll number n true one told rest is low later found = elim (cases_eq number n) [
  | inl same ↦ omega (arith, same, low)
  | inr differs ↦ (let off : (number == n) ≡ false = grind (arith, nat_tests, differs) in absurd (cc (is, off)))
]
below_by poll number n false one told rest is low later found = later found

-- a poll that was published is earlier than the next
pub told_below : (position poll replied_at n : ℕ) (past : List Event) (told : PublishedEvent) → AllEarlier position poll replied_at past → told_by n past ≡ Some told → n < poll
told_below p q r n [] told h found = absurd (cc found)
told_below p q r n (Opened which start ∷ past) told h found = told_below p q r n past told h found
told_below p q r n (Moved which to generation ∷ past) told h found = told_below p q r n past told h.1 found
told_below p q r n (Published to publication marked_at before ∷ past) told h found =
    below_by q publication.poll n (publication.poll == n) (record { position = to; publication = publication; marked_at = marked_at; replied_at = before }) told (told_by n past) refl h.1
    (λ is. told_below p q r n past told h.3 is) found
told_below p q r n (Skipped which first last ∷ past) told h found = told_below p q r n past told h found
told_below p q r n (Stopped which stores ∷ past) told h found = told_below p q r n past told h found
told_below p q r n (Answered client call answer trail ∷ past) told h found = told_below p q r n past told h found

-- ---- a base, and a publication in hand

abbrev pub BaseHolds : Trace → List Event → Option Base → Type 0
BaseHolds trace past None = Unit {0}
BaseHolds trace past (Some base) = 0 < base.poll → HasBase trace past base.poll base.as_of base.bound

pub base_same : (trace : Trace) (past more : List Event) (base : Option Base) → AreSame past more → BaseHolds trace past base → BaseHolds trace more base
base_same trace past more None same holds = tt
base_same trace past more (Some base) same holds = λ some. has_same trace past more base.poll base.as_of base.bound same (holds some)

-- the record of a publication has this base's as-of and bound
abbrev pub FitsBase : Publication → Option Base → Type 0
FitsBase publication None = publication.base ≡ 0
FitsBase publication (Some base) = (base.poll ≡ publication.base) × (base.as_of ≡ publication.rec.as_of) × (base.bound ≡ publication.rec.bound)

pub based_of : (trace : Trace) (past : List Event) (publication : Publication) (base : Option Base) → FitsBase publication base → BaseHolds trace past base
    → 0 < publication.base → HasBase trace past publication.base publication.rec.as_of publication.rec.bound
based_of trace past publication None fits holds some = absurd (omega (arith, fits, some))
based_of trace past publication (Some base) fits holds some =
    let same = fits.0 in
    let has : HasBase trace past base.poll base.as_of base.bound = holds (omega (arith, same, some)) in
    subst (λ (n : ℕ). HasBase trace past n publication.rec.as_of publication.rec.bound) fits.0
    (subst (λ (a : ℤ). HasBase trace past base.poll a publication.rec.bound) fits.1 (subst (λ (b : ℤ). HasBase trace past base.poll base.as_of b) fits.2 has))

-- an earlier poll's publication is not hidden by a later one
pub other_found : (test : Bool) (one told : PublishedEvent) (rest : Option PublishedEvent) → test ≡ false → rest ≡ Some told → (if test then Some one else rest) ≡ Some told
other_found test one told rest off found = rw off found

unfoldable pub has_later : (trace : Trace) (past : List Event) (position : ℕ) (publication : Publication) (marked_at replied_at : ℕ) (least done base : ℕ) (as_of bound : ℤ)
    → AllEarlier least publication.poll done past → HasBase trace past base as_of bound → HasBase trace (Published position publication marked_at replied_at ∷ past) base as_of bound
has_later trace past position publication marked_at replied_at least done base as_of bound earlier has =
    let below : base < publication.poll = told_below least publication.poll done base past has.told earlier has.found in
    let off : (publication.poll == base) ≡ false = grind (arith, nat_tests, below) in
    record {
      told = has.told;
      found = other_found (publication.poll == base) (record { position = position; publication = publication; marked_at = marked_at; replied_at = replied_at }) has.told (told_by base past) off has.found;
      own = has.own;
      from = has.from;
      same_bound = has.same_bound;
      gives = has.gives;
    }

own_found : (test : Bool) (one : PublishedEvent) (rest : Option PublishedEvent) → test ≡ true → (if test then Some one else rest) ≡ Some one
own_found test one rest on = rw on refl

-- a poll that gives its own base is it
pub has_own : (trace : Trace) (past : List Event) (position : ℕ) (publication : Publication) (marked_at replied_at : ℕ)
    → publication.base ≡ publication.poll → given_by trace publication ≡ Some (record { as_of = publication.rec.as_of; bound = publication.rec.bound; poll = publication.poll })
    → HasBase trace (Published position publication marked_at replied_at ∷ past) publication.poll publication.rec.as_of publication.rec.bound
has_own trace past position publication marked_at replied_at own gives =
    let on : (publication.poll == publication.poll) ≡ true = grind (arith, nat_tests) in
    let one : PublishedEvent = record { position = position; publication = publication; marked_at = marked_at; replied_at = replied_at } in
    record { told = one; found = own_found (publication.poll == publication.poll) one (told_by publication.poll past) on; own = own; from = refl; same_bound = refl; gives = gives }
