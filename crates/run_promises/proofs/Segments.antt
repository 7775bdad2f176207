-- Each publication among the events stands at its position.
use Rattle.std.proofs.Common.{◌≡◌, ℕ, ◌+◌, ◌-◌, ◌<◌, ◌≤◌, Bool, true, false, List, [], ◌∷◌, ◌++◌, length, Option, Some, refl, ap, ◌∙◌, subst, arith, inl, inr, length-append}
use Rattle.std.specs.Prelude.{◌==◌, slice_index_or, if◌then◌else◌}
use Rattle.std.proofs.lemmas.Bool.{cases_eq}
use Rattle.std.proofs.lemmas.Bool.Decides.{nat_tests}
use Rattle.std.proofs.lemmas.List.{get_or_append_left}
use Rattle.std.proofs.Math.Seq.{get_or-append_seam}
use Rattle.segment_layout.specs.declared.publication.Publication.{Publication}
use Rattle.segment_run.specs.SegmentRun.{no_publication}
use Rattle.abstract_run.specs.declared.event.Event.{Event}
use Rattle.abstract_run.specs.declared.event.Event.TheVariants.{Opened, Moved, Published, Skipped, Stopped, Answered}
use Rattle.abstract_run.specs.RunFacts.{PublishedEvent, told_at}

-- ---- the publications of a history, after a position

-- the publication that a history has at a position
abbrev pub entry_at : (base : ℕ) → List Publication → (position : ℕ) → Publication
entry_at base history position = slice_index_or history (position - base - 1) no_publication

pub record IsEntry (base : ℕ) (history : List Publication) (position : ℕ) (publication : Publication) : Type 0 where
  pub low : base < position
  pub high : position ≤ length history + base
  pub is : entry_at base history position ≡ publication

abbrev pub AllStand : (base : ℕ) → List Publication → List Event → Type 0
AllStand base history [] = Unit {0}
AllStand base history (Opened poll start ∷ past) = AllStand base history past
AllStand base history (Moved poll position generation ∷ past) = AllStand base history past
AllStand base history (Published position publication marked_at replied_at ∷ past) = IsEntry base history position publication × AllStand base history past
AllStand base history (Skipped poll first last ∷ past) = AllStand base history past
AllStand base history (Stopped poll stores ∷ past) = AllStand base history past
AllStand base history (Answered client call answer trail ∷ past) = AllStand base history past

-- what stands at a position stays, as the history grows
pub entry_more : (base : ℕ) (history more : List Publication) (position : ℕ) → base < position → position ≤ length history + base
    → entry_at base (history ++ more) position ≡ entry_at base history position
entry_more base history more position low high = get_or_append_left history more no_publication (position - base - 1) (omega (arith, low, high))

pub stand_more : (base : ℕ) (history more : List Publication) (past : List Event) → AllStand base history past → AllStand base (history ++ more) past
stand_more base history more [] stand = tt
stand_more base history more (Opened poll start ∷ past) stand = stand_more base history more past stand
stand_more base history more (Moved poll position generation ∷ past) stand = stand_more base history more past stand
stand_more base history more (Published position publication marked_at replied_at ∷ past) stand =
    let high = stand.0.high in (
      record {
        low = stand.0.low;
        high = rw length-append (omega (arith, high));
        is = entry_more base history more position stand.0.low stand.0.high ∙ stand.0.is;
      },
      stand_more base history more past stand.1,
    )
stand_more base history more (Skipped poll first last ∷ past) stand = stand_more base history more past stand
stand_more base history more (Stopped poll stores ∷ past) stand = stand_more base history more past stand
stand_more base history more (Answered client call answer trail ∷ past) stand = stand_more base history more past stand

-- and the newest is the last
pub newest : (base : ℕ) (history : List Publication) (position : ℕ) (publication : Publication) → length history + base ≡ position → IsEntry base (history ++ publication ∷ []) (position + 1) publication
newest base history position publication known =
    let place : position + 1 - base - 1 ≡ length history = omega (arith, known) in
    record {
      low = omega (arith, known);
      high = rw length-append (omega (arith, known));
      is = ap (λ (n : ℕ). slice_index_or (history ++ publication ∷ []) n no_publication) place ∙ get_or-append_seam history publication [] no_publication;
    }

-- ---- the publication that is told of a position

entry_by : (base : ℕ) (history : List Publication) (n position : ℕ) (test : Bool) (one told : PublishedEvent) (rest : Option PublishedEvent) → (position == n) ≡ test → IsEntry base history position one.publication
    → (rest ≡ Some told → IsEntry base history n told.publication) → (if test then Some one else rest) ≡ Some told → IsEntry base history n told.publication
entry_by base history n position true one told rest at own later is = elim (cases_eq position n) [
  | inl same ↦
      (let this : one ≡ told = cc is in
      subst (λ (e : PublishedEvent). IsEntry base history n e.publication) this (subst (λ (k : ℕ). IsEntry base history k one.publication) same own))
  | inr differs ↦ (let off : (position == n) ≡ false = grind (arith, nat_tests, differs) in absurd (cc (at, off)))
]
entry_by base history n position false one told rest at own later is = later is

pub told_stands : (base : ℕ) (history : List Publication) (n : ℕ) (past : List Event) (told : PublishedEvent) → AllStand base history past → told_at n past ≡ Some told → IsEntry base history n told.publication
told_stands base history n [] told stand is = absurd (cc is)
told_stands base history n (Opened poll start ∷ past) told stand is = told_stands base history n past told stand is
told_stands base history n (Moved poll position generation ∷ past) told stand is = told_stands base history n past told stand is
told_stands base history n (Published position publication marked_at replied_at ∷ past) told stand is =
    entry_by base history n position (position == n) (record { position = position; publication = publication; marked_at = marked_at; replied_at = replied_at }) told (told_at n past) refl stand.0
    (λ later. told_stands base history n past told stand.1 later) is
told_stands base history n (Skipped poll first last ∷ past) told stand is = told_stands base history n past told stand is
told_stands base history n (Stopped poll stores ∷ past) told stand is = told_stands base history n past told stand is
told_stands base history n (Answered client call answer trail ∷ past) told stand is = told_stands base history n past told stand is
