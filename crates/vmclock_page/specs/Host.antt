-- The host: the stores by which it does a row of the clock or of the page. This project's own.
use Rattle.std.specs.Prelude.{◌≡◌, ℕ, ◌+◌, ◌-◌, ◌%◌, ◌^◌, ◌<◌, ◌≤◌, ◌==◌, if◌then◌else◌, List, [], ◌∷◌, length, slice_index, slice_index_or, Option, Some, None}
use Rattle.clock_gate.specs.declared.act.Act.{Act}
use Rattle.clock_gate.specs.declared.act.Act.TheVariants.{Load, Store, End}
use Rattle.clock_gate.specs.declared.trace.HostRow.{HostRow}
use Rattle.clock_gate.specs.declared.trace.HostRow.TheVariants.{Clock, Page, Disrupt}
use Rattle.vmclock_page.specs.Words.{word_with_count, count_in_word, constants_in_word}

-- what never changes in word 1 of the page, by the words of the start page
abbrev pub constants_of : Option (List ℕ) → ℕ
constants_of None = 0
constants_of (Some start) = constants_in_word (slice_index start 1)

-- the sequence count of the start page
abbrev pub count_of : Option (List ℕ) → ℕ
count_of None = 0
count_of (Some start) = count_in_word (slice_index start 1)

-- the count after so many more beginnings and ends of an update, modulo 2^32
abbrev pub raised : ℕ → ℕ → ℕ
raised by count = (count + by) % 2 ^ 32

-- the stores of a page row after this even count: the odd count, the row's words from the marker on, the even count
abbrev pub page_stores : ℕ → ℕ → List ℕ → List Act
page_stores constants count words =
    Store 11 (word_with_count constants (raised 1 count))
    ∷ Store 12 (slice_index words 2)
    ∷ Store 13 (slice_index words 3)
    ∷ Store 14 (slice_index words 4)
    ∷ Store 15 (slice_index words 5)
    ∷ Store 16 (slice_index words 6)
    ∷ Store 17 (slice_index words 7)
    ∷ Store 18 (slice_index words 8)
    ∷ Store 19 (slice_index words 9)
    ∷ Store 20 (slice_index words 10)
    ∷ Store 21 (slice_index words 11)
    ∷ Store 22 (slice_index words 12)
    ∷ Store 11 (word_with_count constants (raised 2 count))
    ∷ []

-- the stores of a row: the number of a clock row, those of a page row, none of a disruption
abbrev pub row_stores : ℕ → ℕ → HostRow → List Act
row_stores constants count (Clock number) = Store 23 number ∷ []
row_stores constants count (Page words) = page_stores constants count words
row_stores constants count Disrupt = []

-- the stores of the row in hand, where there is one
abbrev pub stores_in_hand : ℕ → ℕ → Option HostRow → List Act
stores_in_hand constants count None = []
stores_in_hand constants count (Some row) = row_stores constants count row

-- where the host stands: the words of the start page, the last even sequence count, the row in hand and how many of
-- its stores are made
pub record Host : Type 0 where
  pub start : Option (List ℕ)
  pub count : ℕ
  pub row : Option HostRow
  pub made : ℕ

-- before the first row
abbrev pub new_host : Option (List ℕ) → Host
new_host start = record { start = start; count = count_of start; row = None; made = 0 }

-- with this row in hand, of which nothing is stored
abbrev pub row_begun : Host → HostRow → Host
row_begun host row = record host { row = Some row; made = 0 }

-- the stores of the row in hand
abbrev pub stores_of : Host → List Act
stores_of host = stores_in_hand (constants_of host.start) host.count host.row

-- the store that comes next
abbrev pub act_of : Host → Act
act_of host = slice_index_or (stores_of host) host.made End

-- the last even count after so many stores of a row: a page row's last store raises it by 2
abbrev pub count_after : Option HostRow → ℕ → ℕ → ℕ
count_after None made count = count
count_after (Some (Clock number)) made count = count
count_after (Some (Page words)) made count = if made == 13 then raised 2 count else count
count_after (Some Disrupt) made count = count

-- where it stands after one more store; the value given does not matter
abbrev pub given : Host → ℕ → Host
given host value = record host { made = host.made + 1; count = count_after host.row (host.made + 1) host.count }

-- where a host can stand: its last even count is even and has 32 bits, and it has made no more stores than its row has
pub record IsHost (host : Host) : Type 0 where
  pub even : host.count % 2 ≡ 0
  pub small : host.count < 2 ^ 32
  pub few : host.made ≤ length (stores_of host)

-- the stores that are left of the row in hand
abbrev pub stores_left : Host → ℕ
stores_left host = length (stores_of host) - host.made

-- a store of one of the page's words that change, or none
abbrev pub IsPageStore : Act → Type 0
IsPageStore (Load word) = ⊥
IsPageStore (Store word value) = (11 ≤ word) × (word ≤ 22)
IsPageStore End = Unit {0}

-- a store of the number of clock rows, or none
abbrev pub IsClockStore : Act → Type 0
IsClockStore (Load word) = ⊥
IsClockStore (Store word value) = word ≡ 23
IsClockStore End = Unit {0}

-- an act for this row
abbrev pub IsActFor : Option HostRow → Act → Type 0
IsActFor None act = act ≡ End
IsActFor (Some (Clock number)) act = IsClockStore act
IsActFor (Some (Page words)) act = IsPageStore act
IsActFor (Some Disrupt) act = act ≡ End
