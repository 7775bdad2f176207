-- Word 1 of a page as a function of its sequence count, and the counts of the pages since the start page.
use Rattle.std.proofs.Common.{◌≡◌, ◌<◌, ◌+◌, ◌^◌, ◌∙◌, ℕ, sym, ap, arith}
use Rattle.vmclock_page.specs.ClockPage.{ClockPage}
use Rattle.vmclock_page.specs.Bounds.{HeaderFits}
use Rattle.vmclock_page.specs.Words.{word_with_count, count_in_word, constants_in_word, constant_half}
use Rattle.vmclock_page.specs.Counting.{count_of_page, page_number_of}
use Rattle.vmclock_page.specs.Host.{raised}

-- the lower half of word 1 has 32 bits
pub constant_half-fits : (p : ClockPage) → HeaderFits p → constant_half p < 2 ^ 32
constant_half-fits p fits =
    let counter = fits.counter_id in
    let time = fits.time_type in
    omega arith

-- the count that was put in is the count in it
pub count_in_word-word_with_count : (constant count : ℕ) → constant < 2 ^ 32 → count_in_word (word_with_count constant count) ≡ count
count_in_word-word_with_count constant count small = omega arith

-- another count is another word
pub word_with_count-injective : (constant count other : ℕ) → constant < 2 ^ 32 → word_with_count constant count ≡ word_with_count constant other → count ≡ other
word_with_count-injective constant count other small same =
    sym (count_in_word-word_with_count constant count small)
    ∙ ap count_in_word same
    ∙ count_in_word-word_with_count constant other small

-- the constant half that was put in is the one in it
pub constants_in_word-word_with_count : (constant count : ℕ) → constant < 2 ^ 32 → constants_in_word (word_with_count constant count) ≡ constant
constants_in_word-word_with_count constant count small = omega arith

-- the next page has the next even count
pub counts_on : (start page : ℕ) → raised 2 (count_of_page start page) ≡ count_of_page start (page + 1)
counts_on start page = omega arith

-- the number of a page by its count
pub page_number-count : (start page : ℕ) → start < 2 ^ 32 → page < 2 ^ 31 → page_number_of start (count_of_page start page) ≡ page
page_number-count start page small few = omega arith

-- and by the odd count while the next one is written
pub page_number-updating : (start page : ℕ) → start < 2 ^ 32 → page < 2 ^ 31 → page_number_of start (raised 1 (count_of_page start page)) ≡ page
page_number-updating start page small few = omega arith
