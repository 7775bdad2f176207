-- A record by itself.
use Rattle.std.specs.Prelude.{ℕ, ◌-◌, ◌*◌, ◌^◌, List, length, Option, Result, Ok, Err, if◌then◌else◌}
use Rattle.std.specs.Result.{result_ok}
use Rattle.clock_gate.specs.declared.limits.TheConstants.{LAST_MOMENT, MOST_PAGE_BYTES}
use Rattle.vmclock_page.specs.ClockPage.{ClockPage}
use Rattle.vmclock_page.specs.Page.{page_of}
use Rattle.csv_records.specs.declared.reason.Reason.{Reason}
use Rattle.csv_records.specs.declared.reason.Reason.TheVariants as reason
use Rattle.csv_records.specs.Kind.{kind_in}
use Rattle.csv_records.specs.Parts.{bytes_part, number_part, optional_part}
use Rattle.csv_records.specs.Reason.{◌>>=◌}
use Rattle.pagetime_text.specs.Kind.{allows, kinds, word_of}
use Rattle.pagetime_text.specs.declared.kind.Kind.{Kind}
use Rattle.pagetime_text.specs.declared.kind.Kind.TheVariants as kind
use Rattle.pagetime_text.specs.declared.line.Line.{Line}
use Rattle.pagetime_text.specs.declared.line.Line.TheVariants as line

-- the page that bytes are
abbrev pub page_found : List ℕ → Option ClockPage
page_found bytes = result_ok (page_of bytes)

-- `page,HEX` with at most two digits for each byte of the largest page, or `page,HEX,TRUE`
abbrev pub page_line : List (List ℕ) → Result Line Reason
page_line fields = do
  bytes ← bytes_part (2 * MOST_PAGE_BYTES) 1 fields
  truth ← optional_part 0 LAST_MOMENT 2 fields
  Ok (line.Page (page_found bytes) truth)

-- `read,COUNTER` or `read,COUNTER,TRUTH`
abbrev pub read_line : List (List ℕ) → Result Line Reason
read_line fields = do
  counter ← number_part 0 (2 ^ 64 - 1) 1 fields
  truth ← optional_part 0 LAST_MOMENT 2 fields
  Ok (line.Read counter truth)

abbrev pub line_by : Kind → List (List ℕ) → Result Line Reason
line_by kind.Header fields = number_part 1 1 1 fields >>= λ version. Ok line.Header
line_by kind.Page fields = page_line fields
line_by kind.Read fields = read_line fields

-- what a record says, or the first of these reasons: Kind, Fields, then Number or Hex from the left
unfoldable pub line_of : List (List ℕ) → Result Line Reason
line_of fields = kind_in word_of kinds fields >>= λ kind. (if allows kind (length fields) then line_by kind fields else Err reason.Fields)
