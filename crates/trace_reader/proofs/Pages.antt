-- A page of bytes keeps its bounds, and the words that a trace has of a page that does are read as the page.
use Rattle.std.proofs.Common.{◌≡◌, ◌∙◌, ◌≤◌, ◌<◌, ◌+◌, ◌%◌, ◌^◌, ℕ, zero, suc, List, [], ◌∷◌, ◌++◌, length, Result, Ok, Err, refl, sym, ap, subst, arith}
use Rattle.std.specs.Prelude.{All, IfSome}
use Rattle.std.specs.Int.{byte_at, bytes_low_first}
use Rattle.std.specs.Result.{result_ok}
use Rattle.std.proofs.lemmas.List.Elements.{All-append, All-cons, All-nil}
use Rattle.std.proofs.lemmas.Bool.Decides.{nat_tests}
use Rattle.hex.specs.Hex.{IsBytes}
use Rattle.vmclock_page.specs.Bounds.{KeepsBounds}
use Rattle.vmclock_page.specs.ClockPage.{ClockPage}
use Rattle.vmclock_page.specs.Numbers.{number, spelled}
use Rattle.clock_gate.specs.FirstFault.{first_fault, unless}
use Rattle.vmclock_page.specs.Page.{counter_text, header_text, page_at, page_of, page_text, status_text, tests, time_text}
use Rattle.vmclock_page.specs.Rows.{page_of_words}
use Rattle.vmclock_page.specs.Words.{page_words, words_of}
use Rattle.vmclock_page.specs.declared.fault.PageFault.{PageFault}
use Rattle.vmclock_page.specs.declared.layout.TheConstants.{MAGIC, VERSION}
use Rattle.vmclock_page.proofs.Agree.{each_byte, page_of-words}
use Rattle.vmclock_page.proofs.Back.{fields_back, magic_back, pads_back, read_back, version_back, whole}
use Rattle.vmclock_page.proofs.WordLemmas.{number-at, words_of-fields}
use Rattle.trace_reader.specs.Facts.{words_of_page}
use Rattle.trace_reader.specs.Line.{page_found}

-- a number of so many bytes
number_1 : (bytes : List ℕ) (place : ℕ) → IsBytes bytes → number 1 place bytes < 2 ^ 8
number_1 bytes place are =
    let b0 = are (place + 0) in
    rw (number-at 1 place bytes) (omega (arith, b0))

number_2 : (bytes : List ℕ) (place : ℕ) → IsBytes bytes → number 2 place bytes < 2 ^ 16
number_2 bytes place are =
    let b0 = are (place + 0) in
    let b1 = are (place + 1) in
    rw (number-at 2 place bytes) (omega (arith, b0, b1))

number_4 : (bytes : List ℕ) (place : ℕ) → IsBytes bytes → number 4 place bytes < 2 ^ 32
number_4 bytes place are =
    let b0 = are (place + 0) in
    let b1 = are (place + 1) in
    let b2 = are (place + 2) in
    let b3 = are (place + 3) in
    rw (number-at 4 place bytes) (omega (arith, b0, b1, b2, b3))

number_8 : (bytes : List ℕ) (place : ℕ) → IsBytes bytes → number 8 place bytes < 2 ^ 64
number_8 bytes place are =
    let b0 = are (place + 0) in
    let b1 = are (place + 1) in
    let b2 = are (place + 2) in
    let b3 = are (place + 3) in
    let b4 = are (place + 4) in
    let b5 = are (place + 5) in
    let b6 = are (place + 6) in
    let b7 = are (place + 7) in
    rw (number-at 8 place bytes) (omega (arith, b0, b1, b2, b3, b4, b5, b6, b7))

-- what passes the tests has a size of 104 or more, and an even count
read-bounds : (bytes : List ℕ) (page : ClockPage) → unless (first_fault (tests bytes)) (Ok (page_at bytes)) ≡ Ok page
    → (page_at bytes ≡ page) × (104 ≤ number 4 4 bytes) × (number 4 12 bytes % 2 ≡ 0)
read-bounds bytes page e = grind (arith, nat_tests)

page_of-bounds : (bytes : List ℕ) (page : ClockPage) → IsBytes bytes → page_of bytes ≡ Ok page → KeepsBounds page
unfolding page_of
page_of-bounds bytes page are e =
    let (same, large, even) = read-bounds bytes page e in
    subst KeepsBounds same (record {
      header = record { large = large; even = even; size = number_4 bytes 4 are; counter_id = number_1 bytes 10 are; time_type = number_1 bytes 11 are; seq_count = number_4 bytes 12 are };
      status = record {
        disruption_marker = number_8 bytes 16 are;
        flags = number_8 bytes 24 are;
        clock_status = number_1 bytes 34 are;
        leap_second_smearing_hint = number_1 bytes 35 are;
        tai_offset_sec = number_2 bytes 36 are;
        leap_indicator = number_1 bytes 38 are;
        counter_period_shift = number_1 bytes 39 are;
      };
      counter = record {
        counter_value = number_8 bytes 40 are;
        counter_period_frac_sec = number_8 bytes 48 are;
        counter_period_esterror_rate_frac_sec = number_8 bytes 56 are;
        counter_period_maxerror_rate_frac_sec = number_8 bytes 64 are;
      };
      time = record { time_sec = number_8 bytes 72 are; time_frac_sec = number_8 bytes 80 are; time_esterror_nanosec = number_8 bytes 88 are; time_maxerror_nanosec = number_8 bytes 96 are };
    })

-- a page that bytes stand for keeps the bounds of its fields
pub page_found-bounds : (bytes : List ℕ) → IsBytes bytes → IfSome (page_found bytes) KeepsBounds
unfolding page_found
page_found-bounds bytes are = by (page_of bytes) refl
  where
    by : (r : Result ClockPage PageFault) → page_of bytes ≡ r → IfSome (result_ok r) KeepsBounds
    by (Ok page) is = page_of-bounds bytes page are is
    by (Err fault) is = tt

bytes_low_first-bytes : (n i x : ℕ) → All (λ b. b < 256) (bytes_low_first i n x)
bytes_low_first-bytes zero i x = All-nil (λ b. b < 256)
bytes_low_first-bytes (suc n) i x = All-cons (λ b. b < 256) (byte_at i x) (bytes_low_first (suc i) n x) (byte i) (bytes_low_first-bytes n (suc i) x)
  where
    byte : (i : ℕ) → byte_at i x < 256
    byte zero = omega arith
    byte (suc i) = omega arith

-- numbers, each in so many bytes
spelled_all : List (ℕ × ℕ) → List ℕ
spelled_all [] = []
spelled_all (piece ∷ rest) = bytes_low_first 0 piece.0 piece.1 ++ spelled_all rest

spelled_all-bytes : (pieces : List (ℕ × ℕ)) → All (λ b. b < 256) (spelled_all pieces)
unfolding spelled_all
spelled_all-bytes [] = All-nil (λ b. b < 256)
spelled_all-bytes (piece ∷ rest) =
    All-append (λ b. b < 256) (bytes_low_first 0 piece.0 piece.1) (spelled_all rest) (bytes_low_first-bytes piece.0 0 piece.1) (spelled_all-bytes rest)

pieces : ClockPage → List (ℕ × ℕ)
pieces page =
    (4, MAGIC) ∷ (4, page.size) ∷ (2, VERSION) ∷ (1, page.counter_id) ∷ (1, page.time_type) ∷ (4, page.seq_count)
    ∷ (8, page.disruption_marker) ∷ (8, page.flags) ∷ (2, 0) ∷ (1, page.clock_status) ∷ (1, page.leap_second_smearing_hint)
    ∷ (2, page.tai_offset_sec) ∷ (1, page.leap_indicator) ∷ (1, page.counter_period_shift) ∷ (8, page.counter_value)
    ∷ (8, page.counter_period_frac_sec) ∷ (8, page.counter_period_esterror_rate_frac_sec)
    ∷ (8, page.counter_period_maxerror_rate_frac_sec) ∷ (8, page.time_sec) ∷ (8, page.time_frac_sec)
    ∷ (8, page.time_esterror_nanosec) ∷ (8, page.time_maxerror_nanosec) ∷ []

page_text-pieces : (page : ClockPage) → page_text page ≡ spelled_all (pieces page)
unfolding page_text header_text status_text counter_text time_text spelled spelled_all pieces
page_text-pieces page = refl

page_text-bytes : (page : ClockPage) → All (λ b. b < 256) (page_text page)
page_text-bytes page = rw (page_text-pieces page) (spelled_all-bytes (pieces page))

-- the words of a page are read as the page
pub words_of_page-back : (page : ClockPage) → KeepsBounds page → page_of_words (words_of_page page) ≡ Ok page
unfolding words_of_page
words_of_page-back page kept =
    let text = page_text page in
    let words : words_of text ≡ page_words 0 page =
    words_of-fields text (magic_back page kept) (version_back page kept) ∙ rw (pads_back page) (ap (λ (p : ClockPage). page_words 0 p) (fields_back page kept)) in
    let long : length text ≡ 104 = whole page kept in
    ap (λ (ws : List ℕ). page_of_words ws) (sym words)
    ∙ page_of-words text (each_byte text (page_text-bytes page)) (omega (arith, long))
    ∙ read_back page kept
