-- What is known of words that are accepted as a page, and of two that have the same constant fields.
use Rattle.std.proofs.Common.{◌≡◌, ◌<◌, ◌≤◌, ◌%◌, ◌+◌, ◌*◌, ◌^◌, ◌∙◌, ℕ, Bool, true, false, List, [], ◌∷◌, slice_index, refl, sym, ap, arith}
use Rattle.std.specs.Prelude.{Option, Some, None, Result, Ok, Err, IsOk, ◌==◌, ◌&&◌}
use Rattle.std.proofs.lemmas.Bool.{eqb-true, leb-true}
use Rattle.clock_gate.specs.FirstFault.{first_fault}
use Rattle.clock_gate.proofs.FirstFault.{all_hold, given_unless}
use Rattle.vmclock_page.specs.ClockPage.{ClockPage}
use Rattle.vmclock_page.specs.Constants.{has_constants_of}
use Rattle.vmclock_page.specs.Numbers.{number}
use Rattle.vmclock_page.specs.Page.{IsClockPage, page_at, page_of, tests}
use Rattle.vmclock_page.specs.Words.{AreWords, bytes_of_words, page_words, pads_of, word_with_count, constants_in_word}
use Rattle.vmclock_page.specs.Rows.{page_of_words, AreAlike, IsPageRowOf}
use Rattle.vmclock_page.specs.Host.{count_of}
use Rattle.vmclock_page.specs.HostRows.{StartsEven}
use Rattle.vmclock_page.specs.declared.fault.PageFault.{PageFault}
use Rattle.vmclock_page.specs.declared.layout.TheConstants.{MAGIC, VERSION, PAGE_BYTES}
use Rattle.vmclock_page.proofs.Found.{page_words-found, seq_count-found}

-- bytes that are read as a page stand for it
pub page_is : (bytes : List ℕ) (p : ClockPage) → page_of bytes ≡ Ok p → IsClockPage bytes p
unfolding page_of
page_is bytes p is =
    let found = given_unless (first_fault (tests bytes)) (Ok (page_at bytes)) p is in
    let read : ◌≡◌ {A = Result ClockPage PageFault} (Ok (page_at bytes)) (Ok p) = found.1 in
    let same : p ≡ page_at bytes = cc read in
    let hold = all_hold (tests bytes) found.0 in
    let large : PAGE_BYTES ≤ number 4 4 bytes = leb-true _ _ hold.1.1.0 in
    let even : number 4 12 bytes % 2 ≡ 0 = eqb-true _ _ hold.1.1.1.1.0 in
    record {
      long = leb-true _ _ hold.0;
      magic = eqb-true _ _ hold.1.0;
      size = rw same large;
      version = eqb-true _ _ hold.1.1.1.0;
      even = rw same even;
      fields = same;
    }

-- the words of a page by its fields
words_are : (words : List ℕ) (p : ClockPage) → AreWords words → page_of_words words ≡ Ok p → words ≡ page_words (pads_of words) p
words_are words p are is = page_words-found words p are (page_is (bytes_of_words words) p is)

both : (a b : Bool) → (a && b) ≡ true → (a ≡ true) × (b ≡ true)
both true b is = (refl, is)
both false b is = absurd (cc is)

lower_half : (constant count : ℕ) → constants_in_word (word_with_count constant count) ≡ constant % 2 ^ 32
lower_half constant count = omega arith

-- a page row has the words of the start page that never change
pub record SameConstants (start words : List ℕ) : Type 0 where
  pub first : slice_index words 0 ≡ slice_index start 0
  pub half : constants_in_word (slice_index words 1) ≡ constants_in_word (slice_index start 1)

same_by : (start words : List ℕ) (p q : ClockPage) → AreWords start → AreWords words → page_of_words start ≡ Ok p → page_of_words words ≡ Ok q → has_constants_of p q ≡ true → SameConstants start words
same_by start words p q are_start are_words is_start is_words same =
    let size = both (q.size == p.size) _ same in
    let others = both (q.counter_id == p.counter_id) (q.time_type == p.time_type) size.1 in
    let size_is : q.size ≡ p.size = eqb-true _ _ size.0 in
    let counter_is : q.counter_id ≡ p.counter_id = eqb-true _ _ others.0 in
    let time_is : q.time_type ≡ p.time_type = eqb-true _ _ others.1 in
    let s = words_are start p are_start is_start in
    let w = words_are words q are_words is_words in
    record {
      first = ap (λ (l : List ℕ). slice_index l 0) w ∙ ap (λ (n : ℕ). MAGIC + n * 2 ^ 32) size_is ∙ sym (ap (λ (l : List ℕ). slice_index l 0) s);
      half =
          ap (λ (l : List ℕ). constants_in_word (slice_index l 1)) w
          ∙ lower_half (VERSION + q.counter_id * 2 ^ 16 + q.time_type * 2 ^ 24) q.seq_count
          ∙ ap (λ (n : ℕ). (VERSION + n * 2 ^ 16 + q.time_type * 2 ^ 24) % 2 ^ 32) counter_is
          ∙ ap (λ (n : ℕ). (VERSION + p.counter_id * 2 ^ 16 + n * 2 ^ 24) % 2 ^ 32) time_is
          ∙ sym (lower_half (VERSION + p.counter_id * 2 ^ 16 + p.time_type * 2 ^ 24) p.seq_count)
          ∙ sym (ap (λ (l : List ℕ). constants_in_word (slice_index l 1)) s);
    }

same_at : (start words : List ℕ) (r s : Result ClockPage PageFault) → AreWords start → AreWords words → page_of_words start ≡ r → page_of_words words ≡ s → AreAlike r s → SameConstants start words
same_at start words (Ok p) (Ok q) are_start are_words is_start is_words alike = same_by start words p q are_start are_words is_start is_words alike
same_at start words (Ok p) (Err f) are_start are_words is_start is_words alike = absurd alike
same_at start words (Err f) s are_start are_words is_start is_words alike = absurd alike

pub same_constants : (start words : List ℕ) → AreWords start → AreWords words → IsPageRowOf start words → SameConstants start words
same_constants start words are_start are_words alike = same_at start words _ _ are_start are_words refl refl alike

-- word 1 fits and has an even count: that is all
pub even_starts : (start : List ℕ) → slice_index start 1 < 2 ^ 64 → count_of (Some start) % 2 ≡ 0 → StartsEven start
even_starts start fits even = record { word = omega arith; even = even; small = omega arith }

starts_at : (start : List ℕ) (r : Result ClockPage PageFault) → AreWords start → page_of_words start ≡ r → IsOk r → StartsEven start
starts_at start (Ok p) are is ok =
    let page = page_is (bytes_of_words start) p is in
    even_starts start (are.fit 1) (ap (λ (n : ℕ). n % 2) (sym (seq_count-found start p are page)) ∙ page.even)
starts_at start (Err f) are is ok = absurd (cc ok)

-- the start page's sequence count is even
pub starts_even : (start : List ℕ) → AreWords start → IsOk (page_of_words start) → StartsEven start
starts_even start are ok = starts_at start _ are refl ok
