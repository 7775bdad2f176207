-- What the host's stores come to, row by row. This project's own.
use Rattle.std.specs.Prelude.{◌≡◌, ◌≢◌, ℕ, ◌%◌, ◌^◌, ◌<◌, ◌≤◌, List, [], ◌∷◌, ◌++◌, length, take, drop, slice_index, slice_index_or, slice_set, Some}
use Rattle.clock_gate.specs.declared.act.Act.{Act}
use Rattle.clock_gate.specs.declared.act.Act.TheVariants.{Load, Store, End}
use Rattle.clock_gate.specs.declared.trace.HostRow.{HostRow}
use Rattle.clock_gate.specs.Acts.{after, WereAsked}
use Rattle.vmclock_page.specs.Words.{AreWords, word_with_count}
use Rattle.vmclock_page.specs.Rows.{IsPageRowOf, words_left}
use Rattle.vmclock_page.specs.Host.{Host, IsHost, row_begun, given, act_of, stores_left, row_stores, constants_of, count_of, count_after, raised, page_stores}

-- the stores of a row that this host begins
abbrev pub stores_begun : Host → HostRow → List Act
stores_begun host row = row_stores (constants_of host.start) host.count row

-- the host after the whole of this row
abbrev pub row_done : Host → HostRow → Host
row_done host row = record host {
  count = count_after (Some row) (length (stores_begun host row)) host.count;
  row = Some row;
  made = length (stores_begun host row);
}

-- a host that begins this row, and is given these values where it wants to store, makes the row's stores in their order,
-- and then nothing more
pub record MakesItsStores (host : Host) (row : HostRow) (values : List ℕ) : Type 0 where
  pub act : act_of (after act_of given (row_begun host row) values) ≡ slice_index_or (stores_begun host row) (length values) End
  pub few : length values ≤ length (stores_begun host row)
  pub whole : length values ≡ length (stores_begun host row) → after act_of given (row_begun host row) values ≡ row_done host row

-- so it is for every host, row and values
abbrev pub MakesStores : Type 0
MakesStores = (host : Host) (row : HostRow) (values : List ℕ) → WereAsked act_of given (row_begun host row) values → MakesItsStores host row values

-- each store leaves the host where it can stand, with fewer left
abbrev pub ComesNearer : Type 0
ComesNearer =
    (host : Host) (value : ℕ) → IsHost host → act_of host ≢ End
    → IsHost (given host value) × (stores_left (given host value) < stores_left host)

-- the shared words after these stores
abbrev pub stored : List ℕ → List Act → List ℕ
stored shared [] = shared
stored shared (Store word value ∷ acts) = stored (slice_set shared word value) acts
stored shared (Load word ∷ acts) = stored shared acts
stored shared (End ∷ acts) = stored shared acts

-- a page row of the start page leaves in the 13 words of the page its own words with the host's next even count, where
-- the first of them, which is never stored, was the start page's; the other shared words stay
abbrev pub LeavesItsWords : Type 0
LeavesItsWords =
    (start words shared : List ℕ) (count : ℕ) → AreWords start → AreWords words → IsPageRowOf start words
    → length shared ≡ 24 → slice_index shared 10 ≡ slice_index start 0
    → stored shared (page_stores (constants_of (Some start)) count words) ≡ take 10 shared ++ (words_left words (raised 2 count) ++ drop 23 shared)

-- the start page's word with the sequence count
pub record StartsEven (start : List ℕ) : Type 0 where
  pub word : slice_index start 1 ≡ word_with_count (constants_of (Some start)) (count_of (Some start))
  pub even : count_of (Some start) % 2 ≡ 0
  pub small : count_of (Some start) < 2 ^ 32
