-- The laws of a publisher.
use Rattle.std.proofs.Common.{◌≡◌, ◌≢◌, ℕ, zero, suc, ◌+◌, ◌-◌, ◌<◌, ◌≤◌, List, [], ◌∷◌, ◌++◌, ap, arith, inl, inr, ◌∙◌}
use Rattle.std.specs.Prelude.{length, slice_index, slice_index_or}
use Rattle.std.proofs.lemmas.Bool.{cases_lt}
use Rattle.std.proofs.lemmas.List.{get_or_past}
use Rattle.clock_gate.specs.Acts.{after, WereAsked}
use Rattle.clock_gate.specs.declared.act.Act.{Act}
use Rattle.clock_gate.specs.declared.act.Act.TheVariants.{Store, End}
use Rattle.generation_word.specs.declared.layout.Layout.{Layout}
use Rattle.generation_word.specs.Layout.{period_of}
use Rattle.generation_word.specs.Numbering.{even_after}
use Rattle.generation_word.specs.Header.{word1_of}
use Rattle.segment_layout.specs.Record.{RecordFields}
use Rattle.segment_layout.specs.Words.{data_words, record_words}
use Rattle.shm_writer.specs.Publisher.{stores_from, stores, Publishing, new_publishing, publishing_act, publishing_given, stores_left, IsPublishing}

-- the k-th of stores from a word on is of the k-th value after it
store_at : (word : ℕ) (values : List ℕ) (rest : List Act) (k : ℕ) → k < length values
    → slice_index_or (stores_from word values ++ rest) k End ≡ Store (word + k) (slice_index values k)
store_at word [] rest k h = absurd (omega arith)
store_at word (value ∷ values) rest zero h = let same : word ≡ word + 0 = omega arith in ap (λ (n : ℕ). Store n value) same
store_at word (value ∷ values) rest (suc k) h =
    let same : suc word + k ≡ word + suc k = omega arith in
    rw (store_at (suc word) values rest k (omega arith)) (ap (λ (n : ℕ). Store n (slice_index values k)) same)

pub stores-word : (rec : RecordFields) (layout : Layout) (generation k : ℕ) → k < 8
    → slice_index_or (stores rec layout generation) (suc k) End ≡ Store (2 + k) (slice_index (data_words rec) k)
stores-word rec layout generation k h =
    let last : List Act = Store 1 (word1_of layout (even_after (period_of layout) generation)) ∷ [] in
    store_at 2 (data_words rec) last k h

-- a publisher that has not ended has stores left
pub below_ten : (p : Publishing) → publishing_act p ≢ End → p.made < 10
below_ten p wants = elim (cases_lt p.made 10) [
  | inl below ↦ below
  | inr past ↦ absurd (wants (get_or_past (stores p.rec p.layout p.generation) p.made End past))
]

pub after-given : (p : Publishing) (values : List ℕ) → after publishing_act publishing_given p values ≡ record p { made = p.made + length values }
after-given p [] = let same : p.made ≡ p.made + 0 = omega arith in ap (λ (n : ℕ). record p { made = n }) same
after-given p (value ∷ values) =
    let same : p.made + 1 + length values ≡ p.made + suc (length values) = omega arith in
    after-given (publishing_given p value) values ∙ ap (λ (n : ℕ). record p { made = n }) same

pub acts-by_number : (rec : RecordFields) (layout : Layout) (generation : ℕ) (values : List ℕ)
    → publishing_act (after publishing_act publishing_given (new_publishing rec layout generation) values) ≡ slice_index_or (stores rec layout generation) (length values) End
acts-by_number rec layout generation values =
    let same : 0 + length values ≡ length values = omega arith in
    ap publishing_act (after-given (new_publishing rec layout generation) values) ∙ ap (λ (n : ℕ). slice_index_or (stores rec layout generation) n End) same

asked_most : (p : Publishing) (values : List ℕ) → p.made ≤ 10 → WereAsked publishing_act publishing_given p values → p.made + length values ≤ 10
asked_most p [] h asked = omega arith
asked_most p (value ∷ values) h asked =
    let below : p.made < 10 = below_ten p asked.0 in
    let rest : p.made + 1 + length values ≤ 10 = asked_most (publishing_given p value) values (omega arith) asked.1 in
    omega arith

pub at_most_ten : (rec : RecordFields) (layout : Layout) (generation : ℕ) (values : List ℕ)
    → WereAsked publishing_act publishing_given (new_publishing rec layout generation) values → length values ≤ 10
at_most_ten rec layout generation values asked =
    let most : 0 + length values ≤ 10 = asked_most (new_publishing rec layout generation) values (omega arith) asked in
    omega arith

pub comes_nearer : (p : Publishing) (value : ℕ) → IsPublishing p → publishing_act p ≢ End
    → IsPublishing (publishing_given p value) × (stores_left (publishing_given p value) < stores_left p)
comes_nearer p value is wants =
    let below : p.made < 10 = below_ten p wants in
    (record { most = omega arith; numbered = is.numbered; bounds = is.bounds }, omega arith)

pub stores-by_word : (rec : RecordFields) (layout : Layout) (generation k : ℕ) → 2 ≤ k → k ≤ 9
    → slice_index_or (stores rec layout generation) (k - 1) End ≡ Store k (slice_index (record_words 0 rec) k)
stores-by_word rec layout generation zero low high = absurd (omega arith)
stores-by_word rec layout generation (suc zero) low high = absurd (omega arith)
stores-by_word rec layout generation (suc (suc k)) low high =
    let before : suc (suc k) - 1 ≡ suc k = omega arith in
    let same : 2 + k ≡ suc (suc k) = omega arith in
    rw before (stores-word rec layout generation k (omega arith) ∙ ap (λ (n : ℕ). Store n (slice_index (data_words rec) k)) same)
