-- One store of a publication: the words show the segment after it.
use Rattle.std.proofs.Common.{◌≡◌, ℕ, ◌+◌, ◌-◌, ◌<◌, true, false, List, ◌∷◌, refl, ap, sym, ◌∙◌, subst, arith, inl, inr}
use Rattle.std.specs.Prelude.{◌==◌, slice_index, slice_index_or}
use Rattle.std.proofs.lemmas.Bool.{cases_lt, cases_eq}
use Rattle.std.proofs.lemmas.Bool.Decides.{nat_tests}
use Rattle.generation_word.specs.Layout.{period_of}
use Rattle.generation_word.specs.Numbering.{odd_after, even_after}
use Rattle.generation_word.specs.Header.{word1_of}
use Rattle.clock_gate.specs.declared.act.Act.{Act}
use Rattle.clock_gate.specs.declared.act.Act.TheVariants.{Store, End}
use Rattle.segment_layout.specs.declared.words.TheConstants.{MAGIC}
use Rattle.segment_layout.specs.declared.publication.Publication.{Publication}
use Rattle.segment_layout.specs.Words.{record_words}
use Rattle.segment_layout.specs.History.{Begun, last_store}
use Rattle.segment_run.specs.SegmentRun.{SegmentRun, number_at, number_shown, one_store_more, stored}
use Rattle.segment_run.specs.ShowsSegment.{HoldsWords, ShowsSegment}
use Rattle.segment_run.proofs.SegmentEnded.{KeepsBoundsOf, in_update, in_update_is, in_update_later, after_update, after_update_is, after_update_later, after_update_number, after_update_header}
use Rattle.segment_run.proofs.SegmentStore.{StepShows, header_stored, stores_made, stores_none, one_more, word_step}
use Rattle.shm_writer.specs.Publisher.{stores}
use Rattle.shm_writer.proofs.Laws.{stores-by_word}
use Rattle.step_core.specs.SharedWords.{after_act}

-- ---- where a publication stands in its stores

-- so many stores are made of a publication that began on this generation
pub record IsInStores (segment : SegmentRun) (publication : Publication) (generation stores : ℕ) : Type 0 where
  pub odd : odd_after generation ≡ number_at segment segment.position + 1
  pub even : even_after (period_of segment.layout) generation ≡ number_at segment (segment.position + 1)
  pub writes : 0 < stores → (segment.is_writing ≡ true) × (segment.is_headed ≡ true)
  pub begun : 0 < stores → (older : List Begun) × (segment.begun ≡ record { rec = publication.rec; stores = stores } ∷ older)
  pub few : stores < 10
  pub bounds : KeepsBoundsOf publication.rec

-- the store that comes after so many
abbrev pub store_at : SegmentRun → Publication → (generation stores : ℕ) → Act
store_at segment publication generation made = slice_index_or (stores publication.rec segment.layout generation) made End

-- what a store leaves
pub record StoreShows (segment : SegmentRun) (publication : Publication) (generation made : ℕ) (words : List ℕ) : Type 0 where
  pub step : StepShows segment (stored segment publication made) words (after_act words (store_at segment publication generation made))
  pub next : made < 9 → IsInStores (stored segment publication made) publication generation (made + 1)
  pub number : made ≡ 9 → number_shown (stored segment publication made) ≡ number_at segment (segment.position + 1)

-- ---- the first store

first_store : (segment : SegmentRun) (publication : Publication) (generation : ℕ) (words : List ℕ) → ShowsSegment segment words → slice_index words 0 ≡ MAGIC → IsInStores segment publication generation 0
    → StoreShows segment publication generation 0 words
first_store segment publication generation words shows magic is =
    let begun = record { rec = publication.rec; stores = 1 } ∷ segment.begun in
    record {
      step =
          header_stored segment (in_update segment (record { rec = publication.rec; stores = 1 } ∷ segment.begun)) words (word1_of segment.layout (odd_after generation)) shows magic
          (in_update_is segment (record { rec = publication.rec; stores = 1 } ∷ segment.begun) shows.is)
          (in_update_later segment (record { rec = publication.rec; stores = 1 } ∷ segment.begun))
          (ap (word1_of segment.layout) is.odd)
          (λ word low high. stores_none segment.image publication.rec segment.begun word low);
      next = λ few. record {
        odd = is.odd;
        even = is.even;
        writes = λ some. (refl, refl);
        begun = λ some. (segment.begun, refl);
        few = omega arith;
        bounds = is.bounds;
      };
      number = λ nine. absurd (omega arith);
    }

stored_word : (segment : SegmentRun) (publication : Publication) (made : ℕ) → 0 < made → made < 9 → stored segment publication made ≡ one_more segment
stored_word segment publication made some few =
    let first : (made == 0) ≡ false = grind (arith, nat_tests) in
    let last : (made == 9) ≡ false = grind (arith, nat_tests) in
    rw (first, last) refl

word_act : (segment : SegmentRun) (publication : Publication) (generation made : ℕ) → 0 < made → made < 9 → store_at segment publication generation made ≡ Store (made + 1) (slice_index (record_words 0 publication.rec) (made + 1))
word_act segment publication generation made some few =
    let back : made + 1 - 1 ≡ made = omega arith in
    ap (λ (n : ℕ). slice_index_or (stores publication.rec segment.layout generation) n End) (sym back)
    ∙ stores-by_word publication.rec segment.layout generation (made + 1) (omega arith) (omega arith)

word_next : (segment : SegmentRun) (publication : Publication) (generation made : ℕ) (older : List Begun) → IsInStores segment publication generation made → 0 < made → made < 9
    → segment.begun ≡ record { rec = publication.rec; stores = made } ∷ older → IsInStores (one_more segment) publication generation (made + 1)
word_next segment publication generation made older is some few begun =
    record {
      odd = is.odd;
      even = is.even;
      writes = λ more. is.writes some;
      begun = λ more. (older, ap one_store_more begun);
      few = omega arith;
      bounds = is.bounds;
    }

word_store : (segment : SegmentRun) (publication : Publication) (generation made : ℕ) (words : List ℕ) → ShowsSegment segment words → slice_index words 0 ≡ MAGIC → IsInStores segment publication generation made → 0 < made → made < 9
    → StoreShows segment publication generation made words
word_store segment publication generation made words shows magic is some few =
    let begun = is.begun some in
    record {
      step =
          subst (λ (new : SegmentRun). StepShows segment new words (after_act words (store_at segment publication generation made))) (sym (stored_word segment publication made some few))
          (subst (λ (act : Act). StepShows segment (one_more segment) words (after_act words act)) (sym (word_act segment publication generation made some few))
          (word_step segment publication made words begun.0 shows magic (is.writes some).0 begun.1 some few));
      next = λ more.
          subst (λ (new : SegmentRun). IsInStores new publication generation (made + 1)) (sym (stored_word segment publication made some few))
          (word_next segment publication generation made begun.0 is some few begun.1);
      number = λ nine. absurd (omega arith);
    }

-- ---- the last store

last_store_made : (segment : SegmentRun) (publication : Publication) (generation : ℕ) (words : List ℕ) → ShowsSegment segment words → slice_index words 0 ≡ MAGIC → IsInStores segment publication generation 9
    → StoreShows segment publication generation 9 words
last_store_made segment publication generation words shows magic is =
    let begun = is.begun (omega arith) in
    let is_headed = (is.writes (omega arith)).1 in
    let holds : HoldsWords (one_more segment) publication.rec = λ word low high.
    ap (λ (b : List Begun). last_store segment.image (one_store_more b) word) begun.1 ∙ stores_made segment.image publication.rec begun.0 (9 + 1) word (omega arith) in
    record {
      step =
          header_stored segment (after_update segment publication (one_store_more segment.begun)) words (word1_of segment.layout (even_after (period_of segment.layout) generation)) shows magic
          (after_update_is segment publication (one_store_more segment.begun) shows.is is_headed is.bounds holds)
          (after_update_later segment publication (one_store_more segment.begun))
          (ap (word1_of segment.layout) is.even ∙ sym (after_update_header segment publication (one_store_more segment.begun) is_headed))
          (λ word low high.
          ap (λ (b : List Begun). last_store segment.image b word) begun.1 ∙ stores_made segment.image publication.rec begun.0 9 word (omega arith) ∙ sym (holds word low high));
      next = λ few. absurd (omega arith);
      number = λ nine. after_update_number segment publication (one_store_more segment.begun);
    }

-- ---- any store

-- the store of a publication that comes after so many leaves words that show the segment after it
pub store_shows : (segment : SegmentRun) (publication : Publication) (generation made : ℕ) (words : List ℕ) → ShowsSegment segment words → slice_index words 0 ≡ MAGIC → IsInStores segment publication generation made
    → StoreShows segment publication generation made words
store_shows segment publication generation made words shows magic is =
    elim (cases_eq made 0) [
      | inl first ↦
          subst (λ (n : ℕ). StoreShows segment publication generation n words) (sym first)
          (first_store segment publication generation words shows magic (subst (λ (n : ℕ). IsInStores segment publication generation n) first is))
      | inr some ↦
          elim (cases_lt made 9) [
            | inl few ↦ word_store segment publication generation made words shows magic is (omega arith) few
            | inr past ↦
                let below = is.few in
                let last : made ≡ 9 = omega (arith, below, past) in
                subst (λ (n : ℕ). StoreShows segment publication generation n words) (sym last)
                (last_store_made segment publication generation words shows magic (subst (λ (n : ℕ). IsInStores segment publication generation n) last is))
          ]
    ]
