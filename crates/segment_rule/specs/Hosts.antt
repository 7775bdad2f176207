-- The host's rows: its stores, and what a row leaves.
use Rattle.std.specs.Prelude.{◌≡◌, ℕ, ◌+◌, ◌-◌, ◌*◌, ◌%◌, ◌<◌, ◌≤◌, ◌==◌, true, List, [], ◌∷◌, ◌++◌, length, slice_index, is_some, if◌then◌else◌}
use Rattle.clock_gate.specs.declared.act.Act.TheVariants.{End}
use Rattle.clock_gate.specs.declared.limits.TheConstants.{MOST_HOST_ROWS}
use Rattle.clock_gate.specs.declared.trace.HostRow.{HostRow}
use Rattle.clock_gate.specs.declared.trace.HostRow.TheVariants.{Clock, Page, Disrupt}
use Rattle.vmclock_page.specs.Host.{Host, act_of, count_of, raised}
use Rattle.vmclock_page.specs.Words.{count_in_word}
use Rattle.segment_views.specs.Views.{HostPart, SeatView, page_point_of}
use Rattle.segment_views.specs.Rule.{count_word_at}
use Rattle.segment_views.specs.Steps.{Tells, TellsHostPart, row_done, page_begun, page_filled, page_done}
use Rattle.segment_rule.specs.Ruled.{Either}

-- ---- one store

-- a store of the host tells of what kind it is: a row of the clock; or of a page row with these words the odd count, one of its
-- words, or the even count
abbrev pub TellsHost : List ℕ → ℕ → Tells
TellsHost p i v found left w =
    Either (i == 23) (TellsHostPart row_done v found left w)
    (Either (i == 11)
    (Either (count_in_word left % 2 == 1) (TellsHostPart (page_begun p) v found left w) (TellsHostPart page_done v found left w))
    (TellsHostPart (page_filled (i - 10)) v found left w))

abbrev pub MayHost : ℕ → ℕ → SeatView → Type 0
MayHost i n v =
    Either (i == 23) ((n ≡ v.host_part.rows + 1) × (v.host_part.rows < v.setup.rows))
    (Either (i == 11)
    (Either (count_in_word n % 2 == 1)
    ((is_some v.setup.page ≡ true) × (v.host_part.stores ≡ 0) × (n ≡ count_word_at v.setup (page_point_of v.host_part + 1)))
    ((is_some v.setup.page ≡ true) × (v.host_part.stores ≡ 12) × (length v.host_part.pages ≤ MOST_HOST_ROWS) × (n ≡ count_word_at v.setup (2 * length v.host_part.pages))))
    ((12 ≤ i) × (i < 23) × (is_some v.setup.page ≡ true) × (v.host_part.stores + 1 ≡ i - 10) × (n ≡ slice_index v.host_part.hand (i - 10))))

-- ---- a row

-- the words of a page row, none of another row
abbrev pub words_of_row : HostRow → List ℕ
words_of_row (Clock number) = []
words_of_row (Page words) = words
words_of_row Disrupt = []

-- what the host owns after so many stores of a row
abbrev pub part_at : HostRow → (made : ℕ) → HostPart → HostPart
part_at (Clock number) made h = if made == 0 then h else record h { rows = h.rows + 1 }
part_at (Page words) made h =
    if made == 0 then h
    else if made == 13 then record h { pages = h.pages ++ words ∷ []; stores = 0; hand = words }
    else record h { stores = made; hand = words }
part_at Disrupt made h = h

-- when the host may do a row: the clock's is its next one, and of a page row there were fewer than 300,000
abbrev pub MayDoRow : HostRow → SeatView → Type 0
MayDoRow (Clock number) v = (number ≡ v.host_part.rows + 1) × (v.host_part.rows < v.setup.rows)
MayDoRow (Page words) v = length v.host_part.pages ≤ MOST_HOST_ROWS
MayDoRow Disrupt v = Unit {0}

-- one row of the clock more
abbrev pub row_added : HostPart → HostPart
row_added h = record h { rows = h.rows + 1 }

-- and one page more
abbrev pub page_added : List ℕ → HostPart → HostPart
page_added words h = record h { pages = h.pages ++ words ∷ []; stores = 0; hand = words }

-- what the host owns after a row
abbrev pub part_after : HostRow → HostPart → HostPart
part_after (Clock number) h = row_added h
part_after (Page words) h = page_added words h
part_after Disrupt h = h

-- between two rows: nothing is in hand, and the machine's count is the page's
pub record IsBetweenRows (m : Host) (v : SeatView) : Type 0 where
  pub seated : v.seated ≡ true
  pub stores : v.host_part.stores ≡ 0
  pub start : m.start ≡ v.setup.page
  pub ended : act_of m ≡ End
  pub count : m.count ≡ raised (2 * (length v.host_part.pages - 1)) (count_of v.setup.page)
  pub pages : is_some v.setup.page ≡ true → 0 < length v.host_part.pages
