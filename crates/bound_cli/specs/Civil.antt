-- The lines of a report with civil times: the line of an answer with an interval has two more fields at its end, the date and time
-- of earliest and that of latest. All other lines are the same.
use Rattle.std.specs.Prelude.{ℕ, ◌-◌, List, ◌++◌, length, take, codes, Option, Some, None, IfSome}
use Rattle.civil_time.specs.Civil.{civil_text, IsInstant}
use Rattle.interval_now.specs.declared.answers.Interval.{Interval}
use Rattle.interval_now.specs.declared.answers.Answer.{Answer}
use Rattle.interval_now.specs.declared.answers.Answer.TheVariants as answers
use Rattle.lawful_report.specs.declared.printed.Printed.{Printed}
use Rattle.lawful_report.specs.declared.printed.Printed.TheVariants as lines
use Rattle.lawful_report.specs.Lines.{line_text}
use Rattle.bound_cli.specs.declared.times.Times.{Times}
use Rattle.bound_cli.specs.declared.times.Times.TheVariants.{Nanoseconds, Civil}

-- the interval of an answer that has one
abbrev pub interval_told : Answer → Option Interval
interval_told (answers.Time timed) = Some timed.interval
interval_told (answers.Busy tries first last) = None
interval_told answers.NotInitialized = None
interval_told (answers.PageBusy first last) = None
interval_told (answers.Causality causality) = None

-- the interval that a line tells
abbrev pub interval_in : Printed → Option Interval
interval_in lines.Header = None
interval_in (lines.Opened poll start) = None
interval_in (lines.Published position page publication) = None
interval_in (lines.Skipped poll first last) = None
interval_in (lines.Stopped poll stores) = None
interval_in (lines.Moved poll position generation) = None
interval_in (lines.Answered client call page answer) = interval_told answer
interval_in (lines.Total counts) = None

-- earliest, latest and the end of the line
unfoldable pub civil_fields : Interval → List ℕ
civil_fields i = codes "," ++ (civil_text i.earliest ++ (codes "," ++ (civil_text i.latest ++ codes "\n")))

-- a line without its line feed
abbrev pub unended : List ℕ → List ℕ
unended line = take (length line - 1) line

abbrev pub with_civil : List ℕ → Option Interval → List ℕ
with_civil line None = line
with_civil line (Some interval) = unended line ++ civil_fields interval

unfoldable pub civil_line : Printed → List ℕ
civil_line line = with_civil (line_text line) (interval_in line)

-- a line as a report with these times has it
abbrev pub line_with : Times → Printed → List ℕ
line_with Nanoseconds line = line_text line
line_with Civil line = civil_line line

-- earliest and latest, where a line tells an interval, are instants of years of four digits
abbrev pub HasDates : Printed → Type 0
HasDates line = IfSome (interval_in line) (λ i. IsInstant i.earliest × IsInstant i.latest)
