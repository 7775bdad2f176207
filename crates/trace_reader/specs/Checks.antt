-- What a line is tested for by the lines before it.
use Rattle.std.specs.Prelude.{ℕ, ◌+◌, ◌==◌, ◌||◌, ◌&&◌, not, Bool, false, nat_le, nat_lt, List, [], ◌∷◌, length, Option, Some, None, is_some, is_ok, if◌then◌else◌}
use Rattle.clock_gate.specs.Trace.{turns_in, turns_of}
use Rattle.clock_gate.specs.declared.clock_row.ClockRow.{ClockRow}
use Rattle.clock_gate.specs.declared.limits.TheConstants.{MOST_CALLS, MOST_HOST_ROWS, MOST_POLLS, MOST_SCHEDULE_LINES, MOST_TURNS}
use Rattle.clock_gate.specs.declared.trace.Turn.{Turn}
use Rattle.generation_word.specs.declared.layout.Layout.{Layout}
use Rattle.generation_word.specs.declared.layout.Layout.TheVariants.{Two}
use Rattle.vmclock_page.specs.ClockPage.{ClockPage}
use Rattle.vmclock_page.specs.Constants.{has_constants_of}
use Rattle.segment_layout.specs.Image.{image_of}
use Rattle.csv_records.specs.declared.reason.Reason.{Reason}
use Rattle.csv_records.specs.declared.reason.Reason.TheVariants as reasons
use Rattle.trace_reader.specs.Facts.{Facts, given}
use Rattle.trace_reader.specs.declared.line.Line.{Line}
use Rattle.trace_reader.specs.declared.line.Line.TheVariants as lines

abbrev pub is_first : Facts → Bool
is_first facts = facts.count == 0

abbrev pub has_clock : Facts → Bool
has_clock facts = not (length facts.clocks == 0)

-- the header is the first line and no other is; each setting and the image stand once and before the clock, the layout
-- before the image; a schedule stands after the first row of the clock
abbrev pub breaks_order : Facts → Line → Bool
breaks_order facts lines.Header = not (is_first facts)
breaks_order facts (lines.Drift drift) = is_first facts || (has_clock facts || is_some facts.drift)
breaks_order facts (lines.Tries tries) = is_first facts || (has_clock facts || is_some facts.tries)
breaks_order facts (lines.Layout layout) =
    is_first facts || (has_clock facts || (is_some facts.image || is_some facts.layout))
breaks_order facts (lines.Image words) = is_first facts || (has_clock facts || is_some facts.image)
breaks_order facts (lines.Turns turn) = is_first facts || not (has_clock facts)
breaks_order facts _ = is_first facts

-- marks, disruptions, polls, calls and a second page stand after the first row of the clock
abbrev pub lacks_clock : Facts → Line → Bool
lacks_clock facts (lines.Mark marker) = not (has_clock facts)
lacks_clock facts lines.Disrupt = not (has_clock facts)
lacks_clock facts (lines.Poll row) = not (has_clock facts)
lacks_clock facts (lines.Call client tries) = not (has_clock facts)
lacks_clock facts (lines.Page page) = not (has_clock facts) && is_some facts.start
lacks_clock facts _ = false

-- the monotonic time of the last of these rows, or this one where there is none
unfoldable pub last_mono : List ClockRow → ℕ → ℕ
last_mono [] mono = mono
last_mono (row ∷ rest) mono = last_mono rest row.mono

-- the monotonic clock doesn't fall
abbrev pub goes_back : Facts → Line → Bool
goes_back facts (lines.Clock row) = nat_lt row.mono (last_mono facts.clocks 0)
goes_back facts _ = false

-- there is a start page, and this page is one of the same clock
abbrev pub is_of_start : Option ClockPage → ClockPage → Bool
is_of_start None page = false
is_of_start (Some start) page = has_constants_of start page

-- before the clock any page is a start page
abbrev pub is_fit : Facts → Option ClockPage → Bool
is_fit facts None = false
is_fit facts (Some page) = not (has_clock facts) || is_of_start facts.start page

-- a page is one, and after the first row of the clock one of the start page's clock; a mark wants a start page
abbrev pub breaks_page : Facts → Line → Bool
breaks_page facts (lines.Page page) = not (is_fit facts page)
breaks_page facts (lines.Mark marker) = not (is_some facts.start)
breaks_page facts _ = false

-- the layout that holds after these lines: 2, where none is set
abbrev pub layout_held : Facts → Layout
layout_held facts = given facts.layout Two

-- an image is one of the layout that holds
abbrev pub breaks_image : Facts → Line → Bool
breaks_image facts (lines.Image words) = not (is_ok (image_of (layout_held facts) words))
breaks_image facts _ = false

-- the schedule is full, or a line would bring its turns above their limit
abbrev pub overruns : Facts → Turn → Bool
overruns facts turn =
    nat_le MOST_SCHEDULE_LINES (length facts.turns) || nat_lt MOST_TURNS (turns_of facts.turns + turns_in turn)

-- no list of a trace is longer than its limit, and neither are the turns of a schedule together
abbrev pub passes_limit : Facts → Line → Bool
passes_limit facts (lines.Clock row) = nat_le MOST_HOST_ROWS (length facts.host)
passes_limit facts (lines.Mark marker) = nat_le MOST_HOST_ROWS (length facts.host)
passes_limit facts lines.Disrupt = nat_le MOST_HOST_ROWS (length facts.host)
passes_limit facts (lines.Page page) = has_clock facts && nat_le MOST_HOST_ROWS (length facts.host)
passes_limit facts (lines.Poll row) = nat_le MOST_POLLS (length facts.polls)
passes_limit facts (lines.Call client tries) = nat_le MOST_CALLS (length facts.calls)
passes_limit facts (lines.Turns turn) = overruns facts turn
passes_limit facts _ = false

-- the reason of the first of these tests that a line fails
abbrev pub fault_of : Facts → Line → Option Reason
fault_of facts line =
    if breaks_order facts line then Some reasons.Order
    else if lacks_clock facts line then Some reasons.NoClock
    else if goes_back facts line then Some reasons.ClockBack
    else if breaks_page facts line then Some reasons.Page
    else if breaks_image facts line then Some reasons.Image
    else if passes_limit facts line then Some reasons.Limit
    else None
