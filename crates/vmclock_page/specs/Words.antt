-- A page as 13 words of 64 bits, each little-endian in 8 of the page's bytes.
use Rattle.std.specs.Prelude.{◌≡◌, ◌≤◌, ◌<◌, ℕ, ◌+◌, ◌*◌, ◌/◌, ◌%◌, ◌^◌, List, [], ◌∷◌, length, slice_index, Result}
use Rattle.std.specs.List.{flat_map}
use Rattle.byteorder.specs.Endian.{little_bytes}
use Rattle.vmclock_page.specs.Numbers.{number, AreBytes}
use Rattle.vmclock_page.specs.ClockPage.{ClockPage}
use Rattle.vmclock_page.specs.Page.{page_of}
use Rattle.vmclock_page.specs.declared.layout.TheConstants.{MAGIC, VERSION, PAGE_BYTES}
use Rattle.vmclock_page.specs.declared.fault.PageFault.{PageFault}

-- 13 words of 64 bits
pub record AreWords (words : List ℕ) : Type 0 where
  pub all : length words ≡ 13
  pub fit : (i : ℕ) → slice_index words i < 2 ^ 64

-- the words that stand in the first 104 bytes
abbrev pub words_of : List ℕ → List ℕ
words_of bytes =
    number 8 0 bytes ∷ number 8 8 bytes ∷ number 8 16 bytes ∷ number 8 24 bytes ∷ number 8 32 bytes
    ∷ number 8 40 bytes ∷ number 8 48 bytes ∷ number 8 56 bytes ∷ number 8 64 bytes ∷ number 8 72 bytes
    ∷ number 8 80 bytes ∷ number 8 88 bytes ∷ number 8 96 bytes ∷ []

-- the bytes of words, one word after the other
abbrev pub bytes_of_words : List ℕ → List ℕ
bytes_of_words words = flat_map (little_bytes 8) words

-- word 1: its lower half never changes, and its upper half is the sequence count
abbrev pub word_with_count : ℕ → ℕ → ℕ
word_with_count constant count = constant + count * 2 ^ 32

-- the sequence count in word 1
abbrev pub count_in_word : ℕ → ℕ
count_in_word word = word / 2 ^ 32

-- the lower half of word 1, which never changes
abbrev pub constants_in_word : ℕ → ℕ
constants_in_word word = word % 2 ^ 32

-- that half by its fields: version, counter and kind of time
abbrev pub constant_half : ClockPage → ℕ
constant_half p = VERSION + p.counter_id * 2 ^ 16 + p.time_type * 2 ^ 24

-- word 4 of a page: two pad bytes, status, smearing hint, TAI offset, leap second, shift of the period
abbrev pub status_word : ℕ → ClockPage → ℕ
status_word pads p =
    pads + p.clock_status * 2 ^ 16 + p.leap_second_smearing_hint * 2 ^ 24 + p.tai_offset_sec * 2 ^ 32
    + p.leap_indicator * 2 ^ 48 + p.counter_period_shift * 2 ^ 56

-- the words of a page in their order, with this number in the two pad bytes
abbrev pub page_words : ℕ → ClockPage → List ℕ
page_words pads p =
    (MAGIC + p.size * 2 ^ 32)
    ∷ word_with_count (constant_half p) p.seq_count
    ∷ p.disruption_marker
    ∷ p.flags
    ∷ status_word pads p
    ∷ p.counter_value
    ∷ p.counter_period_frac_sec
    ∷ p.counter_period_esterror_rate_frac_sec
    ∷ p.counter_period_maxerror_rate_frac_sec
    ∷ p.time_sec
    ∷ p.time_frac_sec
    ∷ p.time_esterror_nanosec
    ∷ p.time_maxerror_nanosec
    ∷ []

-- the number in the two pad bytes
abbrev pub pads_of : List ℕ → ℕ
pads_of words = slice_index words 4 % 2 ^ 16

-- words that stand in the bytes of a page are read as the bytes are
abbrev pub ReadAsBytes : List ℕ → Result ClockPage PageFault → Type 0
ReadAsBytes words result =
    (bytes : List ℕ) → AreBytes bytes → PAGE_BYTES ≤ length bytes → words ≡ words_of bytes → result ≡ page_of bytes
