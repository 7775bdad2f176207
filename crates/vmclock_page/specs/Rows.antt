-- What the host does with the clock and the page, row by row. This project's own.
use Rattle.std.specs.Prelude.{◌≡◌, ℕ, true, List, All, slice_index, slice_set, Option, Some, None, IfSome, Result, Ok, Err, IsOk}
use Rattle.clock_gate.specs.declared.trace.HostRow.{HostRow}
use Rattle.clock_gate.specs.declared.trace.HostRow.TheVariants.{Clock, Page, Disrupt}
use Rattle.vmclock_page.specs.ClockPage.{ClockPage}
use Rattle.vmclock_page.specs.Constants.{has_constants_of}
use Rattle.vmclock_page.specs.Page.{page_of}
use Rattle.vmclock_page.specs.Words.{bytes_of_words, word_with_count, constants_in_word}
use Rattle.vmclock_page.specs.declared.fault.PageFault.{PageFault}

-- what these words are read as
abbrev pub page_of_words : List ℕ → Result ClockPage PageFault
page_of_words words = page_of (bytes_of_words words)

-- the words of the start page, where there is one, are accepted
abbrev pub IsStartPage : Option (List ℕ) → Type 0
IsStartPage start = IfSome start (λ words. IsOk (page_of_words words))

-- both are pages, and the second has the constant fields of the first
abbrev pub AreAlike : Result ClockPage PageFault → Result ClockPage PageFault → Type 0
AreAlike (Ok start) (Ok page) = has_constants_of start page ≡ true
AreAlike (Ok start) (Err fault) = ⊥
AreAlike (Err fault) page = ⊥

-- these words are accepted, with the constant fields of the start page, which has these words
abbrev pub IsPageRowOf : List ℕ → List ℕ → Type 0
IsPageRowOf start words = AreAlike (page_of_words start) (page_of_words words)

-- there is a start page, and these words are those of a page row of it
abbrev pub IsPageRowAfter : Option (List ℕ) → List ℕ → Type 0
IsPageRowAfter None words = ⊥
IsPageRowAfter (Some start) words = IsPageRowOf start words

-- a page row is one of the start page, and stands only where there is one; other rows stand anywhere
abbrev pub IsRowOf : Option (List ℕ) → HostRow → Type 0
IsRowOf start (Clock number) = Unit {0}
IsRowOf start (Page words) = IsPageRowAfter start words
IsRowOf start Disrupt = Unit {0}

-- so is each of these rows
abbrev pub ArePageRows : Option (List ℕ) → List HostRow → Type 0
ArePageRows start rows = All (IsRowOf start) rows

-- the words that a page row leaves in the page: its own, but with the host's sequence count in place of its own
abbrev pub words_left : List ℕ → ℕ → List ℕ
words_left words count = slice_set words 1 (word_with_count (constants_in_word (slice_index words 1)) count)
