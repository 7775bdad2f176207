-- The pages of a trace by their numbers, page 0 being the start page, and the sequence counts of tries that failed.
use Rattle.std.specs.Prelude.{◌≡◌, ◌⊎◌, ℕ, ◌+◌, ◌-◌, ◌*◌, ◌/◌, ◌%◌, ◌^◌, ◌<◌, ◌≤◌, true, List, [], ◌∷◌, length, slice_index, slice_get, Option, Some, None, is_some}
use Rattle.clock_gate.specs.declared.trace.HostRow.{HostRow}
use Rattle.clock_gate.specs.declared.trace.HostRow.TheVariants.{Clock, Page, Disrupt}
use Rattle.clock_gate.specs.declared.trace.Trace.{Trace}
use Rattle.vmclock_page.specs.Host.{count_of}

-- the markers of the page rows
abbrev pub row_markers : List HostRow → List ℕ
row_markers [] = []
row_markers (Clock number ∷ rows) = row_markers rows
row_markers (Page words ∷ rows) = slice_index words 2 ∷ row_markers rows
row_markers (Disrupt ∷ rows) = row_markers rows

-- the number of the last page, 0 without a page
abbrev pub last_page : Trace → ℕ
last_page trace = length (row_markers trace.host)

-- the marker of the start page or of a page row, or none where there is no page
abbrev pub marker_from : Option (List ℕ) → List HostRow → ℕ → Option ℕ
marker_from None rows page = None
marker_from (Some start) rows page = slice_get (slice_index start 2 ∷ row_markers rows) page

-- the marker of the page with a number
abbrev pub marker_of_page : Trace → ℕ → Option ℕ
marker_of_page trace page = marker_from trace.page trace.host page

-- how often the sequence count has changed since the start page's, where it stands at this: twice for a page
abbrev pub changes_of : Trace → ℕ → ℕ
changes_of trace count = (count + 2 ^ 32 - count_of trace.page) % 2 ^ 32

-- the two counts of a try that fails: one that is odd stands in both places, and after an even one comes a later one
abbrev pub FailsBetween : (first last : ℕ) → Type 0
FailsBetween first last = ((first % 2 ≡ 1) × (last ≡ first)) ⊎ ((first % 2 ≡ 0) × (first < last))

-- every try of the page failed, the last by these two sequence counts; before, this page had been seen
pub record PageTriesFail (trace : Trace) (page first last : ℕ) : Type 0 where
  pub support : is_some trace.page ≡ true
  pub first_fits : first < 2 ^ 32
  pub last_fits : last < 2 ^ 32
  pub not_before : 2 * page ≤ changes_of trace first
  pub first_done : changes_of trace first ≤ 2 * last_page trace
  pub last_done : changes_of trace last ≤ 2 * last_page trace
  pub fails : FailsBetween (changes_of trace first) (changes_of trace last)

-- the page that a sequence count tells, rounded down
abbrev pub page_seen : Trace → ℕ → ℕ
page_seen trace last = changes_of trace last / 2
