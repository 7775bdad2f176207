-- What is known of words that are read as a page.
use Rattle.std.proofs.Common.{◌≡◌, ◌%◌, ◌∙◌, ℕ, List, slice_index, refl, sym, ap}
use Rattle.std.specs.Prelude.{Result, Ok, Err, IfOk, OnOk}
use Rattle.vmclock_page.specs.ClockPage.{ClockPage}
use Rattle.vmclock_page.specs.Page.{IsClockPage}
use Rattle.vmclock_page.specs.Words.{AreWords, bytes_of_words, page_words, pads_of, count_in_word}
use Rattle.vmclock_page.specs.declared.fault.PageFault.{PageFault}
use Rattle.vmclock_page.proofs.WordLemmas.{words_of-fields, words_of-bytes_of_words, number-pads, number-count}

-- words whose bytes stand for a page are those of its fields
pub page_words-found : (words : List ℕ) (p : ClockPage) → AreWords words → IsClockPage (bytes_of_words words) p → words ≡ page_words (pads_of words) p
page_words-found words p are is =
    sym (words_of-bytes_of_words words are)
    ∙ words_of-fields (bytes_of_words words) is.magic is.version
    ∙ rw (number-pads words are, is.fields) refl

-- the sequence count stands in word 1
pub seq_count-found : (words : List ℕ) (p : ClockPage) → AreWords words → IsClockPage (bytes_of_words words) p → p.seq_count ≡ count_in_word (slice_index words 1)
seq_count-found words p are is = ap (λ (q : ClockPage). q.seq_count) is.fields ∙ number-count words are

module _ (words : List ℕ) (are : AreWords words) where
  pub words_found : (r : Result ClockPage PageFault) → IfOk r (IsClockPage (bytes_of_words words)) → IfOk r (λ p. words ≡ page_words (pads_of words) p)
  words_found (Ok p) is = page_words-found words p are is
  words_found (Err f) is = tt

  pub count_found : (r : Result ClockPage PageFault) → IfOk r (IsClockPage (bytes_of_words words)) → IfOk r (λ p. p.seq_count ≡ count_in_word (slice_index words 1))
  count_found (Ok p) is = seq_count-found words p are is
  count_found (Err f) is = tt

  pub even_found : (r : Result ClockPage PageFault) → IfOk r (IsClockPage (bytes_of_words words)) → OnOk r (count_in_word (slice_index words 1) % 2 ≡ 0)
  even_found (Ok p) is = ap (λ (n : ℕ). n % 2) (sym (seq_count-found words p are is)) ∙ is.even
  even_found (Err f) is = tt
