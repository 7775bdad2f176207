-- One store in the segment's words: they show the segment after it.
use Rattle.std.proofs.Common.{◌≡◌, ◌≢◌, ℕ, ◌+◌, ◌<◌, ◌≤◌, true, false, List, [], ◌∷◌, length, refl, ap, sym, ◌∙◌, subst, arith, inl, inr, append-nil}
use Rattle.std.specs.Prelude.{nat_le, slice_index, slice_set}
use Rattle.std.proofs.lemmas.Bool.{cases_eq}
use Rattle.std.proofs.lemmas.Bool.Decides.{nat_tests}
use Rattle.std.proofs.lemmas.List.{get_or-set_same, get_or-set_other, length-set}
use Rattle.segment_layout.specs.declared.words.TheConstants.{MAGIC}
use Rattle.segment_layout.specs.declared.publication.Publication.{Publication}
use Rattle.segment_layout.specs.Record.{RecordFields}
use Rattle.segment_layout.specs.Words.{record_words}
use Rattle.segment_layout.specs.History.{Begun, last_store}
use Rattle.segment_run.specs.SegmentRun.{SegmentRun, header_shown, one_store_more}
use Rattle.segment_run.specs.ShowsSegment.{IsSegment, ShowsSegment, IsSegmentLater, KeepsRest}

-- ---- a store in one of the segment's words

-- the words after a step of the daemon in the segment's words show the segment after it, word 0 is the magic, and the other
-- words are left
pub record StepShows (old new : SegmentRun) (words after : List ℕ) : Type 0 where
  pub shows : ShowsSegment new after
  pub later : IsSegmentLater old new
  pub rest : KeepsRest words after
  pub magic : slice_index after 0 ≡ MAGIC

pub rest_kept : (words : List ℕ) (word value : ℕ) → word < 10 → KeepsRest words (slice_set words word value)
rest_kept words word value low = record { same = λ other above below. get_or-set_other words word other value 0 (λ same. absurd (omega arith)) }

-- word 1 is stored with the header of the segment after it, and the data words that were stored last stay
pub header_stored : (old new : SegmentRun) (words : List ℕ) (value : ℕ) → ShowsSegment old words → slice_index words 0 ≡ MAGIC → IsSegment new → IsSegmentLater old new → value ≡ header_shown new
    → ((word : ℕ) → 2 ≤ word → word < 10 → last_store old.image old.begun word ≡ last_store new.image new.begun word) → StepShows old new words (slice_set words 1 value)
header_stored old new words value shows magic is later value_is same =
    let wide = shows.wide in
    record {
      shows = record {
        is = is;
        wide = length-set words 1 value ∙ wide;
        magic = inl (get_or-set_other words 1 0 value 0 (λ e. absurd (omega arith)) ∙ magic);
        header = get_or-set_same words 1 value 0 (omega (arith, wide)) ∙ value_is;
        data_words = λ word low high. get_or-set_other words 1 word value 0 (λ e. absurd (omega arith)) ∙ shows.data_words word low high ∙ same word low high;
      };
      later = later;
      rest = rest_kept words 1 value (omega arith);
      magic = get_or-set_other words 1 0 value 0 (λ e. absurd (omega arith)) ∙ magic;
    }

-- ---- the stores made of the newest publication begun

stores_same : (image : List ℕ) (rec : RecordFields) (older : List Begun) (stores word : ℕ) → 2 ≤ word → word ≢ stores + 1
    → last_store image (record { rec = rec; stores = stores + 1 } ∷ older) word ≡ last_store image (record { rec = rec; stores = stores } ∷ older) word
stores_same image rec older stores word low other = grind (arith, nat_tests)

pub stores_made : (image : List ℕ) (rec : RecordFields) (older : List Begun) (stores word : ℕ) → word ≤ stores → last_store image (record { rec = rec; stores = stores } ∷ older) word ≡ slice_index (record_words 0 rec) word
stores_made image rec older stores word low = let test : nat_le word stores ≡ true = grind (arith, nat_tests) in rw test refl

pub stores_none : (image : List ℕ) (rec : RecordFields) (older : List Begun) (word : ℕ) → 2 ≤ word → last_store image older word ≡ last_store image (record { rec = rec; stores = 1 } ∷ older) word
stores_none image rec older word low = let test : nat_le word 1 ≡ false = grind (arith, nat_tests) in rw test refl

-- ---- a data word's store

-- the segment with one store more of the newest publication begun
abbrev pub one_more : SegmentRun → SegmentRun
one_more segment = record segment { begun = one_store_more segment.begun }

-- the data words after the store of one of them
word_placed : (image words : List ℕ) (rec : RecordFields) (older : List Begun) (made word : ℕ) → made + 1 < length words → 2 ≤ word
    → slice_index words word ≡ last_store image (record { rec = rec; stores = made } ∷ older) word
    → slice_index (slice_set words (made + 1) (slice_index (record_words 0 rec) (made + 1))) word ≡ last_store image (record { rec = rec; stores = made + 1 } ∷ older) word
word_placed image words rec older made word within low before =
    elim (cases_eq word (made + 1)) [
      | inl here ↦
          subst (λ (w : ℕ). slice_index (slice_set words (made + 1) (slice_index (record_words 0 rec) (made + 1))) w ≡ last_store image (record { rec = rec; stores = made + 1 } ∷ older) w) (sym here)
          (get_or-set_same words (made + 1) (slice_index (record_words 0 rec) (made + 1)) 0 within
          ∙ sym (stores_made image rec older (made + 1) (made + 1) (omega arith)))
      | inr other ↦
          get_or-set_other words (made + 1) word (slice_index (record_words 0 rec) (made + 1)) 0 other ∙ before ∙ sym (stores_same image rec older made word low other)
    ]

one_more_is : (segment : SegmentRun) → IsSegment segment → segment.is_writing ≡ true → IsSegment (one_more segment)
one_more_is segment is writes =
    record {
      known = is.known;
      calm = is.calm;
      writes = is.writes;
      stands = λ calm. absurd (cc (calm, writes));
      records = is.records;
      header = is.header;
      none = is.none;
    }

one_more_later : (segment : SegmentRun) → IsSegmentLater segment (one_more segment)
one_more_later segment = record { layout = refl; image = refl; base = refl; point = omega arith; more = []; history = sym (append-nil segment.history); header = λ same calm some. refl }

magic_headed : (words : List ℕ) → slice_index words 0 ≡ MAGIC → (word value : ℕ) → 0 < word → slice_index (slice_set words word value) 0 ≡ MAGIC
magic_headed words magic word value some = get_or-set_other words word 0 value 0 (λ e. absurd (omega arith)) ∙ magic

pub word_step : (segment : SegmentRun) (publication : Publication) (made : ℕ) (words : List ℕ) (older : List Begun) → ShowsSegment segment words → slice_index words 0 ≡ MAGIC → segment.is_writing ≡ true
    → segment.begun ≡ record { rec = publication.rec; stores = made } ∷ older → 0 < made → made < 9
    → StepShows segment (one_more segment) words (slice_set words (made + 1) (slice_index (record_words 0 publication.rec) (made + 1)))
word_step segment publication made words older shows magic writes begun some few =
    let wide = shows.wide in
    let value : ℕ = slice_index (record_words 0 publication.rec) (made + 1) in
    record {
      shows = record {
        is = one_more_is segment shows.is writes;
        wide = length-set words (made + 1) (slice_index (record_words 0 publication.rec) (made + 1)) ∙ wide;
        magic = inl (magic_headed words magic (made + 1) (slice_index (record_words 0 publication.rec) (made + 1)) (omega arith));
        header = get_or-set_other words (made + 1) 1 (slice_index (record_words 0 publication.rec) (made + 1)) 0 (λ e. absurd (omega arith)) ∙ shows.header;
        data_words = λ word low high.
            word_placed segment.image words publication.rec older made word (omega (arith, wide)) low
            (shows.data_words word low high ∙ ap (λ (b : List Begun). last_store segment.image b word) begun)
            ∙ ap (λ (b : List Begun). last_store segment.image (one_store_more b) word) (sym begun);
      };
      later = one_more_later segment;
      rest = rest_kept words (made + 1) (slice_index (record_words 0 publication.rec) (made + 1)) (omega arith);
      magic = magic_headed words magic (made + 1) (slice_index (record_words 0 publication.rec) (made + 1)) (omega arith);
    }
