-- The reads of a list of rows.
use Rattle.std.specs.Prelude.{⊤, ℕ, List, [], ◌∷◌, Option, Some, None}
use Rattle.std.specs.List.{cons_option}
use Rattle.vmclock_page.specs.ClockPage.{ClockPage}
use Rattle.vmclock_time.specs.declared.rows.PageRow.{PageRow}
use Rattle.vmclock_time.specs.declared.rows.PageRow.TheVariants as row

-- a page, and true time at its counter value where that is known
abbrev pub KnownPage : Type 0
KnownPage = ClockPage × Option ℕ

-- one read: the last page before it, true time at that page's counter value, the reading, and true time at the reading
pub record PageRead : Type 0 where
  pub page : ClockPage
  pub started : Option ℕ
  pub counter : ℕ
  pub truth : Option ℕ

-- the last page after a row
abbrev pub page_after : Option KnownPage → PageRow → Option KnownPage
page_after last (row.Page page truth) = Some (page, truth)
page_after last (row.Read counter truth) = last

-- the read that a row is
abbrev pub read_by : Option KnownPage → ℕ → Option ℕ → Option PageRead
read_by None counter truth = None
read_by (Some (page, started)) counter truth = Some (record { page = page; started = started; counter = counter; truth = truth })

abbrev pub read_in : Option KnownPage → PageRow → Option PageRead
read_in last (row.Page page truth) = None
read_in last (row.Read counter truth) = read_by last counter truth

-- the reads of rows, each with the last page before it
unfoldable pub reads_from : Option KnownPage → List PageRow → List PageRead
reads_from last [] = []
reads_from last (row ∷ rows) = cons_option (read_in last row) (reads_from (page_after last row) rows)

abbrev pub reads_of : List PageRow → List PageRead
reads_of rows = reads_from None rows

-- a page stands before the first read
abbrev pub BeginsWithPage : List PageRow → Type 0
BeginsWithPage [] = ⊤
BeginsWithPage (row.Page page truth ∷ rows) = ⊤
BeginsWithPage (row.Read counter truth ∷ rows) = ⊥
