-- What a record of a trace says by itself.
use Rattle.std.specs.Prelude.{ℕ, ◌-◌, ◌*◌, ◌^◌, ◌==◌, List, length, Option, Result, Ok, Err, if◌then◌else◌}
use Rattle.std.specs.Result.{result_ok}
use Rattle.clock_gate.specs.declared.clock_row.ClockRow.{ClockRow}
use Rattle.clock_gate.specs.declared.limits.TheConstants.{LAST_MOMENT, MOST_CLIENTS, MOST_DRIFT, MOST_OF_A_LINE, MOST_PAGE_BYTES, MOST_REPLY_BYTES, MOST_STORES, MOST_TRIES}
use Rattle.clock_gate.specs.declared.trace.PollRow.{PollRow}
use Rattle.clock_gate.specs.declared.trace.Turn.{Turn}
use Rattle.clock_gate.specs.declared.trace.Turn.TheVariants as turns
use Rattle.generation_word.specs.declared.layout.Layout.{Layout}
use Rattle.generation_word.specs.declared.layout.Layout.TheVariants as layouts
use Rattle.vmclock_page.specs.ClockPage.{ClockPage}
use Rattle.vmclock_page.specs.Page.{page_of}
use Rattle.segment_layout.specs.Words.{words_of_image}
use Rattle.csv_records.specs.Reason.{◌>>=◌}
use Rattle.csv_records.specs.Parts.{bytes_part, number_part, optional_part}
use Rattle.csv_records.specs.declared.reason.Reason.{Reason}
use Rattle.csv_records.specs.declared.reason.Reason.TheVariants as reasons
use Rattle.trace_reader.specs.Kind.{allows, kind_in}
use Rattle.trace_reader.specs.Party.{party_part}
use Rattle.trace_reader.specs.declared.kind.Kind.{Kind}
use Rattle.trace_reader.specs.declared.kind.Kind.TheVariants as kinds
use Rattle.trace_reader.specs.declared.line.Line.{Line}
use Rattle.trace_reader.specs.declared.line.Line.TheVariants as lines

abbrev pub moment_part : ℕ → List (List ℕ) → Result ℕ Reason
moment_part place fields = number_part 0 LAST_MOMENT place fields

abbrev pub header_in : List (List ℕ) → Result Line Reason
header_in fields = number_part 1 1 1 fields >>= λ version. Ok lines.Header

abbrev pub drift_line_in : List (List ℕ) → Result Line Reason
drift_line_in fields = number_part 0 MOST_DRIFT 2 fields >>= λ drift. Ok (lines.Drift drift)

abbrev pub tries_line_in : List (List ℕ) → Result Line Reason
tries_line_in fields = number_part 1 MOST_TRIES 2 fields >>= λ tries. Ok (lines.Tries tries)

-- the layout with this version, 2 or 3
abbrev pub layout_named : ℕ → Layout
layout_named version = if version == 2 then layouts.Two else layouts.Three

abbrev pub layout_line_in : List (List ℕ) → Result Line Reason
layout_line_in fields = number_part 2 3 2 fields >>= λ version. Ok (lines.Layout (layout_named version))

-- the ten words of 80 bytes
unfoldable pub image_by : List ℕ → Result Line Reason
image_by bytes = if length bytes == 80 then Ok (lines.Image (words_of_image bytes)) else Err reasons.Hex

abbrev pub image_line_in : List (List ℕ) → Result Line Reason
image_line_in fields = bytes_part 160 1 fields >>= image_by

-- the page that bytes stand for, if they do for one
unfoldable pub page_found : List ℕ → Option ClockPage
page_found bytes = result_ok (page_of bytes)

abbrev pub page_line_in : List (List ℕ) → Result Line Reason
page_line_in fields = bytes_part (2 * MOST_PAGE_BYTES) 1 fields >>= λ bytes. Ok (lines.Page (page_found bytes))

abbrev pub clock_row_in : List (List ℕ) → Result ClockRow Reason
clock_row_in fields =
    moment_part 1 fields >>= λ mono.
    moment_part 2 fields >>= λ real.
    optional_part 0 LAST_MOMENT 3 fields >>= λ truth.
    Ok (record { mono = mono; real = real; truth = truth })

abbrev pub mark_line_in : List (List ℕ) → Result Line Reason
mark_line_in fields = number_part 0 (2 ^ 64 - 1) 1 fields >>= λ marker. Ok (lines.Mark marker)

abbrev pub poll_row_in : List (List ℕ) → Result PollRow Reason
poll_row_in fields =
    bytes_part (2 * MOST_REPLY_BYTES) 1 fields >>= λ reply.
    optional_part 0 MOST_STORES 2 fields >>= λ stop.
    Ok (record { reply = reply; stop = stop })

abbrev pub call_line_in : List (List ℕ) → Result Line Reason
call_line_in fields =
    number_part 1 MOST_CLIENTS 1 fields >>= λ client.
    optional_part 1 MOST_TRIES 2 fields >>= λ tries.
    Ok (lines.Call client tries)

abbrev pub run_in : List (List ℕ) → Result Turn Reason
run_in fields =
    party_part 1 fields >>= λ party.
    number_part 1 MOST_OF_A_LINE 2 fields >>= λ count.
    Ok (turns.Run party count)

abbrev pub jobs_in : List (List ℕ) → Result Turn Reason
jobs_in fields =
    party_part 1 fields >>= λ party.
    number_part 1 MOST_OF_A_LINE 2 fields >>= λ count.
    Ok (turns.Jobs party count)

-- what a record of a kind says, its number of fields being allowed
abbrev pub line_by : Kind → List (List ℕ) → Result Line Reason
line_by kinds.Header fields = header_in fields
line_by kinds.Drift fields = drift_line_in fields
line_by kinds.Tries fields = tries_line_in fields
line_by kinds.Layout fields = layout_line_in fields
line_by kinds.Image fields = image_line_in fields
line_by kinds.Page fields = page_line_in fields
line_by kinds.Clock fields = clock_row_in fields >>= λ row. Ok (lines.Clock row)
line_by kinds.Mark fields = mark_line_in fields
line_by kinds.Disrupt fields = Ok lines.Disrupt
line_by kinds.Poll fields = poll_row_in fields >>= λ row. Ok (lines.Poll row)
line_by kinds.Call fields = call_line_in fields
line_by kinds.Run fields = run_in fields >>= λ turn. Ok (lines.Turns turn)
line_by kinds.Jobs fields = jobs_in fields >>= λ turn. Ok (lines.Turns turn)

-- what a record says, or the first of Kind, Fields, and of Number and Hex from the left
unfoldable pub line_of : List (List ℕ) → Result Line Reason
line_of fields =
    kind_in fields >>= λ kind.
    (if allows kind (length fields) then line_by kind fields else Err reasons.Fields)
