-- What is held of the lines before a record: no row is kept, since each read is told as it comes.
use Rattle.std.specs.Prelude.{◌≤◌, ℕ, ◌+◌, ◌==◌, ◌||◌, not, Bool, true, false, List, [], ◌++◌, Option, Some, None, Result, Ok, Err, is_some, nat_le, if◌then◌else◌}
use Rattle.csv_records.specs.Reason.{◌>>=◌, unless}
use Rattle.csv_records.specs.declared.reason.Reason.{Reason}
use Rattle.csv_records.specs.declared.reason.Reason.TheVariants as reason
use Rattle.csv_records.specs.declared.trace_error.TraceFault.{TraceFault}
use Rattle.vmclock_time.specs.Making.{Made, nothing_made, told_by, with_row}
use Rattle.vmclock_time.specs.Reads.{KnownPage}
use Rattle.vmclock_time.specs.declared.limits.TheConstants.{MOST_PAGE_ROWS}
use Rattle.vmclock_time.specs.declared.rows.PageRow.{PageRow}
use Rattle.vmclock_time.specs.declared.rows.PageRow.TheVariants as row
use Rattle.vmclock_time.specs.declared.rows.PageTold.{PageTold}
use Rattle.pagetime_text.specs.Facts.{breaks_page, row_in}
use Rattle.pagetime_text.specs.Line.{line_of}
use Rattle.pagetime_text.specs.Text.{header_line, premises_line, told_line}
use Rattle.pagetime_text.specs.declared.line.Line.{Line}
use Rattle.pagetime_text.specs.declared.line.Line.TheVariants as line

-- how many lines there were and how many rows, what is made of the rows, and the report's text so far
pub record HeldFacts : Type 0 where
  pub count : ℕ
  pub rows : ℕ
  pub made : Made
  pub text : List ℕ

-- before the first line
abbrev pub held_start : HeldFacts
held_start = record { count = 0; rows = 0; made = nothing_made; text = header_line }

-- what is written of a row: of a page nothing
abbrev pub told_text : Option PageTold → List ℕ
told_text None = []
told_text (Some told) = told_line told

abbrev pub row_text : Option KnownPage → PageRow → List ℕ
row_text last (row.Page page truth) = []
row_text last (row.Read counter truth) = told_text (told_by last counter truth)

-- one line more
abbrev pub with_row_in : HeldFacts → Option PageRow → HeldFacts
with_row_in held None = record { count = held.count + 1; rows = held.rows; made = held.made; text = held.text }
with_row_in held (Some row) =
    record { count = held.count + 1; rows = held.rows + 1; made = with_row held.made row; text = held.text ++ row_text held.made.last row }

abbrev pub taken : HeldFacts → Line → HeldFacts
taken held line = with_row_in held (row_in line)

-- the tests of a line, by what is held
abbrev pub breaks_order : HeldFacts → Line → Bool
breaks_order held line.Header = not (held.count == 0)
breaks_order held (line.Page page truth) = held.count == 0
breaks_order held (line.Read counter truth) = (held.count == 0) || not (is_some held.made.last)

abbrev pub passes_limit : HeldFacts → Line → Bool
passes_limit held line.Header = false
passes_limit held (line.Page page truth) = nat_le MOST_PAGE_ROWS held.rows
passes_limit held (line.Read counter truth) = nat_le MOST_PAGE_ROWS held.rows

abbrev pub fault_of : HeldFacts → Line → Option Reason
fault_of held line =
    if breaks_order held line then Some reason.Order
    else if breaks_page line then Some reason.Page
    else if passes_limit held line then Some reason.Limit
    else None

-- what a record makes of what is held, or why it is refused
unfoldable pub step_of : HeldFacts → List (List ℕ) → Result HeldFacts Reason
step_of held fields = (line_of fields >>= λ line. unless (fault_of held line) line) >>= λ line. Ok (taken held line)

-- the text of the report, where there was a record
abbrev pub ends : HeldFacts → Result (List ℕ) TraceFault
ends held = if held.count == 0 then Err (record { line = 1; reason = reason.Kind }) else Ok (held.text ++ premises_line held.made.failed)

-- its numbers are small
pub record IsHeld (held : HeldFacts) : Type 0 where
  pub most : held.rows ≤ MOST_PAGE_ROWS
  pub reads : held.made.reads ≤ held.rows
  pub counted : held.count ≤ held.rows + 1
