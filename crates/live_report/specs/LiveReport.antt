-- The report of a run's lines.
use Rattle.std.specs.Prelude.{ℕ, ◌+◌, ◌-◌, if◌then◌else◌, List, [], ◌∷◌, ◌++◌, slice_get, Option, Some, None}
use Rattle.clock_gate.specs.declared.trace.PollRow.{PollRow}
use Rattle.clock_gate.specs.declared.trace.Trace.{Trace}
use Rattle.vmclock_page.specs.Counting.{page_number_of}
use Rattle.vmclock_page.specs.Host.{count_of}
use Rattle.interval_now.specs.declared.answers.Answer.{Answer}
use Rattle.interval_now.specs.declared.answers.Answer.TheVariants as answers
use Rattle.writer_reopen.specs.declared.polled.Polled.{Polled}
use Rattle.writer_reopen.specs.declared.polled.Polled.TheVariants as polls
use Rattle.segment_views.specs.Views.{first_segment}
use Rattle.segment_rule.specs.Polls.{position_after}
use Rattle.lawful_report.specs.declared.counts.Counts.{Counts}
use Rattle.lawful_report.specs.declared.printed.Printed.{Printed}
use Rattle.lawful_report.specs.declared.printed.Printed.TheVariants as printed
use Rattle.lawful_report.specs.Lawful.{no_counts, counts_list, one_publication, one_answer, has_stop, text_of_lines}
use Rattle.live_report.specs.declared.line.Line.{Line}
use Rattle.live_report.specs.declared.line.Line.TheVariants as lines
use Rattle.live_report.specs.LiveRun.{setup_of}

-- ---- what a line prints

-- the number of the page that an answer saw, 0 where it saw none
abbrev pub page_told : Trace → Answer → ℕ
page_told trace (answers.Time timed) = page_number_of (count_of trace.page) timed.sequence
page_told trace (answers.Busy tries first last) = 0
page_told trace answers.NotInitialized = 0
page_told trace (answers.PageBusy first last) = 0
page_told trace (answers.Causality causality) = 0

abbrev pub stop_by : Option PollRow → Option ℕ
stop_by None = None
stop_by (Some row) = row.stop

-- the stop of the poll with this number
abbrev pub stop_of : Trace → (poll : ℕ) → Option ℕ
stop_of trace poll = stop_by (slice_get trace.polls (poll - 1))

-- a poll with a stop after all its stores prints that too
abbrev pub stop_printed : (poll : ℕ) → Option ℕ → List Printed
stop_printed poll stop = if has_stop stop 10 then printed.Stopped poll 10 ∷ [] else []

-- a move comes to the position after this one
abbrev pub move_printed : (position poll : ℕ) → Option ℕ → List Printed
move_printed position poll None = []
move_printed position poll (Some generation) = printed.Moved poll (position + 1) generation ∷ []

-- a publication comes to the position after this one
abbrev pub poll_printed : Trace → (position poll : ℕ) → Polled → List Printed
poll_printed trace position poll (polls.Published daemon publication) =
    printed.Published (position + 1) (page_number_of (count_of trace.page) publication.sequence) publication ∷ stop_printed poll (stop_of trace poll)
poll_printed trace position poll (polls.Skipped first last) = printed.Skipped poll first last ∷ []
poll_printed trace position poll (polls.Stopped stores) = printed.Stopped poll stores ∷ []

-- what a line prints where the segment stands at this position
abbrev pub line_printed : Trace → (position : ℕ) → Line → List Printed
line_printed trace position (lines.Opened poll start moved) = printed.Opened poll start ∷ move_printed position poll moved
line_printed trace position (lines.Polled poll polled) = poll_printed trace position poll polled
line_printed trace position (lines.Answered client call answer) = printed.Answered client call (page_told trace answer) answer ∷ []

-- ---- the positions

abbrev pub position_moved : ℕ → Option ℕ → ℕ
position_moved position None = position
position_moved position (Some generation) = position + 1

-- a move and a finished publication raise the position by one
abbrev pub position_after_line : ℕ → Line → ℕ
position_after_line position (lines.Opened poll start moved) = position_moved position moved
position_after_line position (lines.Polled poll polled) = position_after polled position
position_after_line position (lines.Answered client call answer) = position

abbrev pub lines_printed : Trace → (position : ℕ) → List Line → List Printed
lines_printed trace position [] = []
lines_printed trace position (line ∷ later) = line_printed trace position line ++ lines_printed trace (position_after_line position line) later

-- the position of the image
abbrev pub position_first : Trace → ℕ
position_first trace = (first_segment (setup_of trace)).position

-- ---- the counts

abbrev pub poll_counted : Counts → Polled → Counts
poll_counted counts (polls.Published daemon publication) = one_publication counts
poll_counted counts (polls.Skipped first last) = counts
poll_counted counts (polls.Stopped stores) = counts

abbrev pub line_counted : Counts → Line → Counts
line_counted counts (lines.Opened poll start moved) = counts
line_counted counts (lines.Polled poll polled) = poll_counted counts polled
line_counted counts (lines.Answered client call answer) = one_answer answer counts

abbrev pub lines_counted : Counts → List Line → Counts
lines_counted counts [] = counts
lines_counted counts (line ∷ later) = lines_counted (line_counted counts line) later

-- ---- the report

-- the lines of the report: the first, those of the run's lines, counted from the image's position on, and the counts
abbrev pub report_lines : Trace → List Line → List Printed
report_lines trace lines =
    printed.Header ∷ (lines_printed trace (position_first trace) lines ++ printed.Total (counts_list (lines_counted no_counts lines)) ∷ [])

-- and its bytes
abbrev pub report_of : Trace → List Line → List ℕ
report_of trace lines = text_of_lines (report_lines trace lines)
