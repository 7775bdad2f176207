-- The ten words of an image, one by one.
use Rattle.std.proofs.Common.{◌≡◌, ◌<◌, ◌+◌, ◌*◌, ◌∙◌, ℕ, zero, suc, List, [], ◌∷◌, length, drop, slice_index, refl, arith}
use Rattle.std.proofs.lemmas.List.{drop_all}
use Rattle.std.proofs.Math.Seq.{drop-cons}
use Rattle.byteorder.specs.Endian.{little_number, IsRead}
use Rattle.segment_layout.specs.Words.{word_at, words_of_image}

-- so many items from a place on
abbrev items_from : ℕ → ℕ → List ℕ → List ℕ
items_from zero i xs = []
items_from (suc n) i xs = slice_index xs i ∷ items_from n (suc i) xs

drop-items : (n i : ℕ) (xs : List ℕ) → length xs ≡ i + n → drop i xs ≡ items_from n i xs
drop-items zero i xs len = drop_all i xs (omega arith)
drop-items (suc n) i xs len = rw (drop-cons xs i 0 (omega arith), drop-items n (suc i) xs (omega arith)) refl

pub words_of_image-read : (bytes words : List ℕ) → length words ≡ 10 → IsRead little_number 8 bytes words → words ≡ words_of_image bytes
unfolding word_at
words_of_image-read bytes words len read =
    let at : (k : ℕ) → k < 10 → slice_index words k ≡ little_number 8 (drop (8 * k) bytes) = λ k below. read k (omega arith) in
    drop-items 10 0 words len
    ∙ rw (at 0 (omega arith), at 1 (omega arith), at 2 (omega arith), at 3 (omega arith), at 4 (omega arith))
    (rw (at 5 (omega arith), at 6 (omega arith), at 7 (omega arith), at 8 (omega arith), at 9 (omega arith)) refl)
