-- What the lines before a record say, and the tests of a record by these facts.
use Rattle.std.specs.Prelude.{ℕ, ◌==◌, ◌||◌, not, Bool, true, false, List, length, filter_map, Option, Some, None, Result, Ok, Err, nat_le, if◌then◌else◌}
use Rattle.std.specs.List.{list_any}
use Rattle.vmclock_page.specs.ClockPage.{ClockPage}
use Rattle.csv_records.specs.Grammar.{Grammar, said_by}
use Rattle.csv_records.specs.Records.{records_of}
use Rattle.csv_records.specs.declared.reason.Reason.{Reason}
use Rattle.csv_records.specs.declared.reason.Reason.TheVariants as reason
use Rattle.csv_records.specs.declared.trace_error.TraceFault.{TraceFault}
use Rattle.vmclock_time.specs.declared.limits.TheConstants.{MOST_PAGE_ROWS}
use Rattle.vmclock_time.specs.declared.rows.PageRow.{PageRow}
use Rattle.vmclock_time.specs.declared.rows.PageRow.TheVariants as row
use Rattle.pagetime_text.specs.Line.{line_of}
use Rattle.pagetime_text.specs.declared.line.Line.{Line}
use Rattle.pagetime_text.specs.declared.line.Line.TheVariants as line

-- the row that a line says: the header says none
abbrev pub page_row : Option ClockPage → Option ℕ → Option PageRow
page_row None truth = None
page_row (Some page) truth = Some (row.Page page truth)

abbrev pub row_in : Line → Option PageRow
row_in line.Header = None
row_in (line.Page page truth) = page_row page truth
row_in (line.Read counter truth) = Some (row.Read counter truth)

unfoldable pub rows_of : List Line → List PageRow
rows_of lines = filter_map row_in lines

-- how many lines there are before a record, and their rows
pub record Facts : Type 0 where
  pub count : ℕ
  pub rows : List PageRow

abbrev pub facts_of : List Line → Facts
facts_of front = record { count = length front; rows = rows_of front }

abbrev pub is_page : PageRow → Bool
is_page (row.Page page truth) = true
is_page (row.Read counter truth) = false

-- a page stands before
unfoldable pub has_page : List PageRow → Bool
has_page rows = list_any is_page rows

-- the header is the first line and no other, and a read wants a page before it
abbrev pub breaks_order : Facts → Line → Bool
breaks_order facts line.Header = not (facts.count == 0)
breaks_order facts (line.Page page truth) = facts.count == 0
breaks_order facts (line.Read counter truth) = (facts.count == 0) || not (has_page facts.rows)

-- its bytes are no page
abbrev pub lacks_page : Option ClockPage → Bool
lacks_page None = true
lacks_page (Some page) = false

abbrev pub breaks_page : Line → Bool
breaks_page line.Header = false
breaks_page (line.Page page truth) = lacks_page page
breaks_page (line.Read counter truth) = false

-- it is one row more than a report may have
abbrev pub passes_limit : Facts → Line → Bool
passes_limit facts line.Header = false
passes_limit facts (line.Page page truth) = nat_le MOST_PAGE_ROWS (length facts.rows)
passes_limit facts (line.Read counter truth) = nat_le MOST_PAGE_ROWS (length facts.rows)

-- the first of these tests that a line fails
abbrev pub fault_of : Facts → Line → Option Reason
fault_of facts line =
    if breaks_order facts line then Some reason.Order
    else if breaks_page line then Some reason.Page
    else if passes_limit facts line then Some reason.Limit
    else None

-- each record is a line by itself, and is tested by the facts of the lines before it
abbrev pub grammar : Grammar Line Facts
grammar = record { line_of = line_of; facts_of = facts_of; fault_of = fault_of }

-- a text without records is no trace
abbrev pub ends : Facts → Result (List PageRow) TraceFault
ends facts = if facts.count == 0 then Err (record { line = 1; reason = reason.Kind }) else Ok facts.rows

-- the rows that records say, or the first of these that is refused
abbrev pub rows_said : List (List (List ℕ)) → Result (List PageRow) TraceFault
rows_said records = said_by grammar ends records

-- the rows that a text says, or its first refused record
abbrev pub rows_in : List ℕ → Result (List PageRow) TraceFault
rows_in bytes = rows_said (records_of bytes)
