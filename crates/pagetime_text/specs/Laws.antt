-- The grammar in its own words: what a text's records say, and which of them is the first that is refused.
use Rattle.std.specs.Prelude.{◌≡◌, ◌≢◌, ◌↔◌, ◌⊎◌, ℕ, List, [], Ok, Err}
use Rattle.csv_records.specs.Grammar.{Accepts, RefusedAt}
use Rattle.csv_records.specs.declared.reason.Reason.TheVariants as reason
use Rattle.csv_records.specs.declared.trace_error.TraceFault.{TraceFault}
use Rattle.vmclock_time.specs.declared.rows.PageRow.{PageRow}
use Rattle.pagetime_text.specs.Facts.{grammar, rows_of, rows_said}
use Rattle.pagetime_text.specs.declared.line.Line.{Line}

-- there is no record: of no kind, at line 1
pub record HasNone (records : List (List (List ℕ))) (fault : TraceFault) : Type 0 where
  pub none : records ≡ []
  pub line : fault.line ≡ 1
  pub kind : fault.reason ≡ reason.Kind

-- there are records, each is accepted, and these are the rows of their lines
pub record Says (records : List (List (List ℕ))) (rows : List PageRow) : Type 0 where
  pub lines : List Line
  pub some : records ≢ []
  pub accepted : Accepts grammar [] records lines
  pub are : rows ≡ rows_of lines

-- a fault is that of the first record that is refused
abbrev pub FaultsAreFirst : Type 0
FaultsAreFirst =
    (records : List (List (List ℕ))) (fault : TraceFault)
    → (rows_said records ≡ Err fault) ↔ (RefusedAt grammar records fault ⊎ HasNone records fault)

-- rows are given exactly where no record is refused
abbrev pub RowsAreSaid : Type 0
RowsAreSaid = (records : List (List (List ℕ))) (rows : List PageRow) → (rows_said records ≡ Ok rows) ↔ Says records rows
