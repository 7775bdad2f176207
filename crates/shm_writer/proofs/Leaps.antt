-- The nine stores before a publication's last, at once, are those one after another.
use Rattle.std.proofs.Common.{◌≡◌, ◌≢◌, ℕ, List, [], ◌∷◌, refl, sym, subst, arith}
use Rattle.std.specs.Prelude.{slice_index}
use Rattle.clock_gate.specs.declared.act.Act.TheVariants.{Store, End}
use Rattle.generation_word.specs.declared.layout.Layout.{Layout}
use Rattle.generation_word.specs.Numbering.{odd_after}
use Rattle.generation_word.specs.Header.{word1_of}
use Rattle.segment_layout.specs.Record.{RecordFields}
use Rattle.segment_layout.specs.Words.{record_words, IsGoodWord, AreGoodWords}
use Rattle.shm_writer.specs.Publisher.{Publishing, publishing_act, publishing_given}
use Rattle.shm_writer.specs.Leaps.{MakesStores}

-- any header is a good word
good_header : (header : ℕ) → IsGoodWord 1 header
good_header header =
    record {
      as_of_seconds = λ e. absurd (omega arith);
      as_of_nanos = λ e. absurd (omega arith);
      void_after_seconds = λ e. absurd (omega arith);
      void_after_nanos = λ e. absurd (omega arith);
      bound = λ e. absurd (omega arith);
      drift = λ e. absurd (omega arith);
      status = λ e. absurd (omega arith);
      flag = λ e. absurd (omega arith);
    }

goes_on : (word value : ℕ) → Store word value ≢ End
goes_on word value = λ e. absurd cc

-- words 1 to 9
abbrev pub nine : List ℕ → List ℕ
nine words = slice_index words 1 ∷ slice_index words 2 ∷ slice_index words 3 ∷ slice_index words 4 ∷ slice_index words 5 ∷ slice_index words 6 ∷ slice_index words 7 ∷ slice_index words 8 ∷ slice_index words 9 ∷ []

abbrev at : RecordFields → Layout → ℕ → ℕ → Publishing
at rec layout generation made = record { rec = rec; layout = layout; generation = generation; made = made }

nine_of_record : (rec : RecordFields) (layout : Layout) (generation : ℕ) → AreGoodWords (record_words (word1_of layout (odd_after generation)) rec)
    → MakesStores publishing_act publishing_given 1 (nine (record_words (word1_of layout (odd_after generation)) rec)) (at rec layout generation 0) (at rec layout generation 9)
nine_of_record rec layout generation good = (
  refl,
  (omega arith, (omega arith, good_header _)),
  (
    refl,
    (omega arith, (omega arith, good 2 (omega arith) (omega arith))),
    (
      refl,
      (omega arith, (omega arith, good 3 (omega arith) (omega arith))),
      (
        refl,
        (omega arith, (omega arith, good 4 (omega arith) (omega arith))),
        (
          refl,
          (omega arith, (omega arith, good 5 (omega arith) (omega arith))),
          (
            refl,
            (omega arith, (omega arith, good 6 (omega arith) (omega arith))),
            (
              refl,
              (omega arith, (omega arith, good 7 (omega arith) (omega arith))),
              (
                refl,
                (omega arith, (omega arith, good 8 (omega arith) (omega arith))),
                (
                  refl,
                  (omega arith, (omega arith, good 9 (omega arith) (omega arith))),
                  (refl, goes_on _ _),
                ),
              ),
            ),
          ),
        ),
      ),
    ),
  ),
)

pub nine_stores : (rec : RecordFields) (layout : Layout) (generation made odd : ℕ) (words : List ℕ) → made ≡ 0 → odd ≡ odd_after generation → words ≡ record_words (word1_of layout odd) rec → AreGoodWords words
    → MakesStores publishing_act publishing_given 1 (nine words) (at rec layout generation made) (at rec layout generation 9)
nine_stores rec layout generation made odd words none odd_is are good =
    let same : words ≡ record_words (word1_of layout (odd_after generation)) rec = rw (← odd_is) are in
    rw none
    (subst (λ (ws : List ℕ). MakesStores publishing_act publishing_given 1 (nine ws) (at rec layout generation 0) (at rec layout generation 9)) (sym same)
    (nine_of_record rec layout generation (subst AreGoodWords same good)))
