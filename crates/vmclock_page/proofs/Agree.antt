-- The words of bytes read as the bytes do.
use Rattle.std.proofs.Common.{◌≡◌, ◌≤◌, ◌<◌, ◌+◌, ◌*◌, ◌/◌, ◌%◌, ◌^◌, ◌∙◌, ℕ, zero, suc, List, [], ◌∷◌, ◌++◌, length, take, drop, slice_index, true, refl, sym, ap, arith, drop-drop, inl, inr}
use Rattle.std.specs.Prelude.{nat_le, Option, Some, None, Ok}
use Rattle.std.specs.Int.{byte_at, bytes_low_first}
use Rattle.std.proofs.lemmas.List.{length-take-le, get_or_past}
use Rattle.std.proofs.lemmas.List.Elements.{All-get_or}
use Rattle.std.proofs.lemmas.Bool.Decides.{nat_tests}
use Rattle.std.proofs.lemmas.Bool.{cases_lt}
use Rattle.std.proofs.Math.Nat.{div-one, div-div-eq-div-mul, pow-suc}
use Rattle.std.proofs.Math.Seq.{drop-cons, take-add}
use Rattle.byteorder.specs.Endian.{little_from, little_bytes}
use Rattle.byteorder.specs.Numbers.{little_from-take}
use Rattle.clock_gate.specs.FirstFault.{first_fault, unless}
use Rattle.vmclock_page.specs.ClockPage.{ClockPage}
use Rattle.vmclock_page.specs.Numbers.{number, AreBytes}
use Rattle.vmclock_page.specs.Page.{page_at, page_of, tests}
use Rattle.vmclock_page.specs.declared.fault.PageFault.{PageFault}
use Rattle.vmclock_page.specs.Words.{words_of, bytes_of_words}
use Rattle.vmclock_page.proofs.WordLemmas.{number-at}

-- a byte of a number, by its place
byte_at-pow : (k x : ℕ) → byte_at k x ≡ x / 256 ^ k % 256
byte_at-pow zero x = ap (λ (y : ℕ). y % 256) (sym (div-one x))
byte_at-pow (suc k) x = refl

-- the bytes of the number in some bytes are these bytes
bytes_low_first-back : (n j i x : ℕ) (bytes : List ℕ) → ((k : ℕ) → slice_index bytes k < 256) → i + n ≤ length bytes → x / 256 ^ j ≡ little_from i n bytes → bytes_low_first j n x ≡ take n (drop i bytes)
bytes_low_first-back zero j i x bytes fit long is = refl
bytes_low_first-back (suc n) j i x bytes fit long is =
    let low = fit i in
    let byte : x / 256 ^ j % 256 ≡ slice_index bytes i = rw is (omega arith) in
    let rest : x / 256 ^ suc j ≡ little_from (suc i) n bytes =
    ap (λ (p : ℕ). x / p) (pow-suc 256 j) ∙ sym (div-div-eq-div-mul x (256 ^ j) 256) ∙ rw is (omega arith) in
    rw (byte_at-pow j x, byte, drop-cons bytes i 0 (omega arith))
    (ap (λ (l : List ℕ). slice_index bytes i ∷ l) (bytes_low_first-back n (suc j) (suc i) x bytes fit (omega arith) rest))

little_bytes-number : (place : ℕ) (bytes : List ℕ) → ((k : ℕ) → slice_index bytes k < 256) → place + 8 ≤ length bytes → little_bytes 8 (number 8 place bytes) ≡ take 8 (drop place bytes)
little_bytes-number place bytes fit long =
    let here : number 8 place bytes ≡ little_from place 8 bytes = number-at 8 place bytes ∙ ap (λ (p : ℕ). little_from p 8 bytes) (omega arith) in
    bytes_low_first-back 8 0 place (number 8 place bytes) bytes fit long (div-one (number 8 place bytes) ∙ here)

-- so many words from a place on
abbrev words_from : ℕ → ℕ → List ℕ → List ℕ
words_from zero place bytes = []
words_from (suc n) place bytes = number 8 place bytes ∷ words_from n (place + 8) bytes

bytes_of_words-from : (n place : ℕ) (bytes : List ℕ) → ((k : ℕ) → slice_index bytes k < 256) → place + 8 * n ≤ length bytes → bytes_of_words (words_from n place bytes) ≡ take (8 * n) (drop place bytes)
bytes_of_words-from zero place bytes fit long = refl
bytes_of_words-from (suc n) place bytes fit long =
    let more : 8 * suc n ≡ 8 + 8 * n = omega arith in
    ap (λ (l : List ℕ). l ++ bytes_of_words (words_from n (place + 8) bytes)) (little_bytes-number place bytes fit (omega arith))
    ∙ rw (bytes_of_words-from n (place + 8) bytes fit (omega arith), more)
    (rw (take-add 8 (8 * n) (drop place bytes), drop-drop 8 place bytes) refl)

-- a number reads no byte past its end
number-take : (size place : ℕ) (bytes : List ℕ) → place + size ≤ 104 → number size place (take 104 bytes) ≡ number size place bytes
number-take size place bytes within =
    number-at size place (take 104 bytes)
    ∙ little_from-take (place + 0) size 104 bytes (omega arith)
    ∙ sym (number-at size place bytes)

page_at-take : (bytes : List ℕ) → page_at (take 104 bytes) ≡ page_at bytes
page_at-take bytes =
    let here : (size place : ℕ) → place + size ≤ 104 → number size place (take 104 bytes) ≡ number size place bytes = λ size place within. number-take size place bytes within in
    rw (here 4 4 (omega arith), here 1 10 (omega arith), here 1 11 (omega arith), here 4 12 (omega arith))
    (rw (here 8 16 (omega arith), here 8 24 (omega arith), here 1 34 (omega arith), here 1 35 (omega arith))
    (rw (here 2 36 (omega arith), here 1 38 (omega arith), here 1 39 (omega arith), here 8 40 (omega arith))
    (rw (here 8 48 (omega arith), here 8 56 (omega arith), here 8 64 (omega arith), here 8 72 (omega arith))
    (rw (here 8 80 (omega arith), here 8 88 (omega arith), here 8 96 (omega arith)) refl))))

first_fault-take : (bytes : List ℕ) → 104 ≤ length bytes → first_fault (tests (take 104 bytes)) ≡ first_fault (tests bytes)
first_fault-take bytes long =
    let len : length (take 104 bytes) ≡ 104 = length-take-le 104 bytes long in
    let test : nat_le 104 (length bytes) ≡ true = grind (arith, nat_tests) in
    rw (len, test, number-take 4 0 bytes (omega arith), number-take 4 4 bytes (omega arith))
    (rw (number-take 2 8 bytes (omega arith), number-take 4 12 bytes (omega arith)) refl)

-- bytes after the 104th are ignored
page_of-take : (bytes : List ℕ) → 104 ≤ length bytes → page_of (take 104 bytes) ≡ page_of bytes
unfolding page_of
page_of-take bytes long =
    ap (λ (fault : Option PageFault). unless fault (Ok (page_at (take 104 bytes)))) (first_fault-take bytes long)
    ∙ ap (λ (page : ClockPage). unless (first_fault (tests bytes)) (Ok page)) (page_at-take bytes)

-- the words of a page's bytes read as the bytes do
pub page_of-words : (bytes : List ℕ) → ((k : ℕ) → slice_index bytes k < 256) → 104 ≤ length bytes → page_of (bytes_of_words (words_of bytes)) ≡ page_of bytes
page_of-words bytes fit long =
    ap page_of (bytes_of_words-from 13 0 bytes fit long) ∙ page_of-take bytes long

-- bytes by their places
pub each_byte : (bytes : List ℕ) → AreBytes bytes → (k : ℕ) → slice_index bytes k < 256
each_byte bytes are k =
    elim (cases_lt k (length bytes)) [
      | inl here ↦ All-get_or (λ b. b < 256) bytes k 0 here are
      | inr past ↦ rw (get_or_past bytes k 0 past) (omega arith)
    ]
