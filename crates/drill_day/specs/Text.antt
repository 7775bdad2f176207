-- The text of a generated day: the lines of its trace, byte for byte, each ended by a line feed. This project's own.
use Rattle.std.specs.Prelude.{ℕ, ◌==◌, List, [], ◌++◌, codes, decimal, Option, Some, None, if◌then◌else◌}
use Rattle.hex.specs.Hex.{encode_lower}
use Rattle.clock_gate.specs.declared.clock_row.ClockRow.{ClockRow}
use Rattle.clock_gate.specs.declared.trace.Party.{Party}
use Rattle.clock_gate.specs.declared.trace.Party.TheVariants.{Host, Daemon, Client}
use Rattle.clock_gate.specs.declared.trace.Turn.{Turn}
use Rattle.clock_gate.specs.declared.trace.Turn.TheVariants.{Jobs, Run}
use Rattle.vmclock_page.specs.ClockPage.{ClockPage}
use Rattle.vmclock_page.specs.Page.{page_text}
use Rattle.drill_day.specs.Day.{lines_of}
use Rattle.drill_day.specs.Draws.{after_rounds, draw_of, rounds, second_draw_of}
use Rattle.drill_day.specs.Seconds.{clock_row, marked_page, middle_of, reply_of, stop_in, stop_second, turn_of}

unfoldable pub header_text : List ℕ
header_text = codes "clockbound-trace,1\n"

-- `page,HEX`
unfoldable pub page_line : ClockPage → List ℕ
page_line page = codes "page," ++ (encode_lower (page_text page) ++ codes "\n")

-- ---- a second

unfoldable pub disruption_text : ℕ → ℕ → List ℕ
disruption_text middle k = if k == middle then codes "disrupt\nmark,8\n" else []

unfoldable pub truth_text : Option ℕ → List ℕ
truth_text None = codes "\n"
truth_text (Some truth) = codes "," ++ (decimal truth ++ codes "\n")

-- `clock,MONO,REAL,TRUTH`
unfoldable pub clock_text : ClockRow → List ℕ
clock_text row = codes "clock," ++ (decimal row.mono ++ (codes "," ++ (decimal row.real ++ truth_text row.truth)))

unfoldable pub stop_text : Option ℕ → List ℕ
stop_text None = codes "\n"
stop_text (Some stop) = codes "," ++ (decimal stop ++ codes "\n")

-- `poll,HEX`, or `poll,HEX,STOP`
unfoldable pub poll_text : List ℕ → Option ℕ → List ℕ
poll_text reply stop = codes "poll," ++ (encode_lower reply ++ stop_text stop)

unfoldable pub calls_text : List ℕ
calls_text = codes "call,1\ncall,2\ncall,3\n"

-- what second k has, in the order of its lines
unfoldable pub second_text : ℕ → ℕ → ℕ → ℕ → List ℕ
second_text middle stopped k x =
    disruption_text middle k ++ (clock_text (clock_row k (draw_of x))
    ++ (poll_text (reply_of k (second_draw_of x)) (stop_in stopped k) ++ calls_text))

-- ---- the schedule

abbrev pub party_text : Party → List ℕ
party_text Host = codes "h"
party_text Daemon = codes "d"
party_text (Client number) = codes "c" ++ decimal number

unfoldable pub count_text : Party → ℕ → List ℕ
count_text party count = party_text party ++ (codes "," ++ (decimal count ++ codes "\n"))

-- `run,PARTY,N`, or `do,PARTY,N`
unfoldable pub turn_text : Turn → List ℕ
turn_text (Run party count) = codes "run," ++ count_text party count
turn_text (Jobs party count) = codes "do," ++ count_text party count

abbrev pub turn_line : ℕ → ℕ → List ℕ
turn_line k x = turn_text (turn_of (draw_of x) (second_draw_of x))

unfoldable pub schedule_text : ℕ → ℕ → List ℕ
schedule_text seed polls = rounds turn_line (after_rounds seed polls) 1 (lines_of seed polls)

-- ---- the day

unfoldable pub seconds_text : ℕ → ℕ → List ℕ
seconds_text seed polls = rounds (second_text (middle_of polls) (stop_second polls)) seed 1 polls

-- the header, the start page, the seconds in their order, and then the schedule
unfoldable pub day_text : ℕ → ℕ → List ℕ
day_text seed polls = header_text ++ (page_line (marked_page 7) ++ (seconds_text seed polls ++ schedule_text seed polls))
