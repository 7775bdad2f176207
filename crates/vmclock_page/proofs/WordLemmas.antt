-- Words and the bytes that they stand in.
use Rattle.std.proofs.Common.{◌≡◌, ◌<◌, ◌+◌, ◌*◌, ◌^◌, ◌∙◌, ℕ, zero, suc, List, [], ◌∷◌, length, drop, slice_index, refl, sym, ap, arith, add-suc}
use Rattle.std.proofs.lemmas.List.{get_or-drop, drop_all}
use Rattle.std.proofs.Math.Seq.{drop-cons, drop-append-add}
use Rattle.byteorder.specs.Endian.{little_from, little_number, little_bytes, IsRead}
use Rattle.byteorder.specs.Numbers.{little_number-reads_back, length-bytes_low_first}
use Rattle.vmclock_page.specs.Numbers.{number}
use Rattle.vmclock_page.specs.Page.{page_at}
use Rattle.vmclock_page.specs.Words.{AreWords, words_of, bytes_of_words, page_words, pads_of, count_in_word}
use Rattle.vmclock_page.specs.declared.layout.TheConstants.{MAGIC, VERSION}

-- a number in what is left after some bytes
little_from-drop : (i n place : ℕ) (bytes : List ℕ) → little_from i n (drop place bytes) ≡ little_from (place + i) n bytes
little_from-drop i zero place bytes = refl
little_from-drop i (suc n) place bytes =
    rw (get_or-drop place bytes i 0, little_from-drop (suc i) n place bytes, add-suc place i) refl

-- a number by its place
pub number-at : (size place : ℕ) (bytes : List ℕ) → number size place bytes ≡ little_from (place + 0) size bytes
unfolding number
number-at size place bytes = little_from-drop 0 size place bytes

word_0 : (bytes : List ℕ) → number 8 0 bytes ≡ number 4 0 bytes + number 4 4 bytes * 2 ^ 32
word_0 bytes = rw (number-at 8 0 bytes, number-at 4 0 bytes, number-at 4 4 bytes) (omega arith)

word_1 : (bytes : List ℕ) → number 8 8 bytes ≡ number 2 8 bytes + number 1 10 bytes * 2 ^ 16 + number 1 11 bytes * 2 ^ 24 + number 4 12 bytes * 2 ^ 32
word_1 bytes =
    rw (number-at 8 8 bytes, number-at 2 8 bytes, number-at 1 10 bytes, number-at 1 11 bytes, number-at 4 12 bytes)
    (omega arith)

word_4 : (bytes : List ℕ) → number 8 32 bytes ≡ number 2 32 bytes + number 1 34 bytes * 2 ^ 16 + number 1 35 bytes * 2 ^ 24 + number 2 36 bytes * 2 ^ 32 + number 1 38 bytes * 2 ^ 48 + number 1 39 bytes * 2 ^ 56
word_4 bytes =
    rw (number-at 8 32 bytes, number-at 2 32 bytes, number-at 1 34 bytes, number-at 1 35 bytes)
    (rw (number-at 2 36 bytes, number-at 1 38 bytes, number-at 1 39 bytes) (omega arith))

-- the words of bytes by the fields in them
pub words_of-fields : (bytes : List ℕ) → number 4 0 bytes ≡ MAGIC → number 2 8 bytes ≡ VERSION → words_of bytes ≡ page_words (number 2 32 bytes) (page_at bytes)
words_of-fields bytes magic version = rw (word_0 bytes, word_1 bytes, word_4 bytes, magic, version) refl

-- the items of a list from a place on
abbrev pub items_from : ℕ → ℕ → List ℕ → List ℕ
items_from zero i xs = []
items_from (suc n) i xs = slice_index xs i ∷ items_from n (suc i) xs

drop-items : (n i : ℕ) (xs : List ℕ) → length xs ≡ i + n → drop i xs ≡ items_from n i xs
drop-items zero i xs len = drop_all i xs (omega arith)
drop-items (suc n) i xs len = rw (drop-cons xs i 0 (omega arith), drop-items n (suc i) xs (omega arith)) refl

-- all of them, one by one
pub items : (n : ℕ) (xs : List ℕ) → length xs ≡ n → xs ≡ items_from n 0 xs
items n xs len = drop-items n 0 xs (omega arith)

-- thirteen words, one by one
thirteen : (words : List ℕ) → length words ≡ 13 → words ≡ items_from 13 0 words
thirteen = items 13

-- the words read from bytes
pub words_of-read : (bytes words : List ℕ) → length words ≡ 13 → IsRead little_number 8 bytes words → words ≡ words_of bytes
unfolding number
words_of-read bytes words len read =
    let at : (k : ℕ) → k < 13 → slice_index words k ≡ little_number 8 (drop (8 * k) bytes) = λ k below. read k (omega arith) in
    thirteen words len
    ∙ rw (at 0 (omega arith), at 1 (omega arith), at 2 (omega arith), at 3 (omega arith), at 4 (omega arith))
    (rw (at 5 (omega arith), at 6 (omega arith), at 7 (omega arith), at 8 (omega arith), at 9 (omega arith))
    (rw (at 10 (omega arith), at 11 (omega arith), at 12 (omega arith)) refl))

-- a word stands in the bytes of words at eight times its place
number-bytes_of_words : (words : List ℕ) (k : ℕ) → k < length words → ((i : ℕ) → slice_index words i < 2 ^ 64) → number 8 (8 * k) (bytes_of_words words) ≡ slice_index words k
unfolding number
number-bytes_of_words [] k here fit = omega arith
number-bytes_of_words (w ∷ ws) zero here fit = little_number-reads_back 8 w (bytes_of_words ws) (fit 0)
number-bytes_of_words (w ∷ ws) (suc k) here fit =
    let next : 8 * suc k ≡ length (little_bytes 8 w) + 8 * k = omega (arith, length-bytes_low_first 0 8 w) in
    rw (next, drop-append-add (little_bytes 8 w) (bytes_of_words ws) (8 * k))
    (number-bytes_of_words ws k (omega arith) (λ i. fit (suc i)))

-- the words in the bytes of words are the words
pub words_of-bytes_of_words : (words : List ℕ) → AreWords words → words_of (bytes_of_words words) ≡ words
words_of-bytes_of_words words are =
    let len = are.all in
    let at : (k : ℕ) → k < 13 → number 8 (8 * k) (bytes_of_words words) ≡ slice_index words k = λ k below. number-bytes_of_words words k (omega arith) are.fit in
    rw (at 0 (omega arith), at 1 (omega arith), at 2 (omega arith), at 3 (omega arith), at 4 (omega arith))
    (rw (at 5 (omega arith), at 6 (omega arith), at 7 (omega arith), at 8 (omega arith), at 9 (omega arith))
    (rw (at 10 (omega arith), at 11 (omega arith), at 12 (omega arith)) (sym (thirteen words are.all))))

-- the pads in the bytes of words
pub number-pads : (words : List ℕ) → AreWords words → number 2 32 (bytes_of_words words) ≡ pads_of words
unfolding number
number-pads words are = ap (λ (l : List ℕ). number 2 32 (bytes_of_words l)) (thirteen words are.all) ∙ omega arith

-- the sequence count in the bytes of words
pub number-count : (words : List ℕ) → AreWords words → number 4 12 (bytes_of_words words) ≡ count_in_word (slice_index words 1)
unfolding number
number-count words are =
    let word = are.fit 1 in
    ap (λ (l : List ℕ). number 4 12 (bytes_of_words l)) (thirteen words are.all) ∙ omega arith
