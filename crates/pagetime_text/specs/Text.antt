-- The text of a report (this project's format), byte for byte. Each line ends with a line feed.
use Rattle.std.specs.Prelude.{ℕ, List, ◌++◌, codes, decimal, Option, Some, None, Result, Ok, Err}
use Rattle.std.specs.Fmt.{signed_decimal}
use Rattle.std.specs.List.{flat_map}
use Rattle.csv_records.specs.declared.trace_error.TraceFault.{TraceFault}
use Rattle.vmclock_time.specs.PageReport.{failed_of, told_of}
use Rattle.vmclock_time.specs.declared.fault.PageTimeFault.{PageTimeFault}
use Rattle.vmclock_time.specs.declared.fault.PageTimeFault.TheVariants as fault
use Rattle.vmclock_time.specs.declared.rows.PageFailed.{PageFailed}
use Rattle.vmclock_time.specs.declared.rows.PageRow.{PageRow}
use Rattle.vmclock_time.specs.declared.rows.PageTold.{PageTold}
use Rattle.vmclock_time.specs.declared.rows.PageTold.TheVariants.{Time, Refused}
use Rattle.vmclock_time.specs.declared.rows.PageWhy.{PageWhy}
use Rattle.vmclock_time.specs.declared.rows.PageWhy.TheVariants as why
use Rattle.pagetime_text.specs.Facts.{rows_in}

-- the first line
unfoldable pub header_line : List ℕ
header_line = codes "pagetime-report,1\n"

-- the line of a read that is told no time
unfoldable pub refused_line : PageTimeFault → List ℕ
refused_line (fault.TimeType time_type) = codes "refused,type," ++ (decimal time_type ++ codes "\n")
refused_line (fault.Status status) = codes "refused,status," ++ (decimal status ++ codes "\n")
refused_line (fault.Shift shift) = codes "refused,shift," ++ (decimal shift ++ codes "\n")
refused_line (fault.Range seconds) = codes "refused,range," ++ (decimal seconds ++ codes "\n")
refused_line fault.Back = codes "refused,back\n"
refused_line fault.TooFar = codes "refused,toofar\n"

-- the line of a read: `time,EARLIEST,LATEST`, or its refusal
unfoldable pub told_line : PageTold → List ℕ
told_line (Time earliest latest) = codes "time," ++ (signed_decimal earliest ++ (codes "," ++ (signed_decimal latest ++ codes "\n")))
told_line (Refused fault) = refused_line fault

-- the test, at the end of its line
unfoldable pub why_part : PageWhy → List ℕ
why_part why.Untold = codes "untold\n"
why_part why.Page = codes "page\n"
why_part why.Rate = codes "rate\n"

-- `premises,failed,READ,`
unfoldable pub read_part : ℕ → List ℕ
read_part read = codes "premises,failed," ++ (decimal read ++ codes ",")

-- the last line where a read failed: `premises,failed,READ,WHY`
unfoldable pub failed_line : PageFailed → List ℕ
failed_line failed = read_part failed.read ++ why_part failed.why

-- the last line
unfoldable pub premises_line : Option PageFailed → List ℕ
premises_line None = codes "premises,held\n"
premises_line (Some failed) = failed_line failed

-- the lines of the reads, in order
unfoldable pub told_lines : List PageTold → List ℕ
told_lines told = flat_map told_line told

-- the report of rows
unfoldable pub report_text : List PageRow → List ℕ
report_text rows = header_line ++ (told_lines (told_of rows) ++ premises_line (failed_of rows))

abbrev pub text_by : Result (List PageRow) TraceFault → Result (List ℕ) TraceFault
text_by (Ok rows) = Ok (report_text rows)
text_by (Err fault) = Err fault

-- what is written of a text, or its first refused record
unfoldable pub pagetime_text : List ℕ → Result (List ℕ) TraceFault
pagetime_text bytes = text_by (rows_in bytes)
