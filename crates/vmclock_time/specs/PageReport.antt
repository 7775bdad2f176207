-- What a list of rows comes to.
use Rattle.std.specs.Prelude.{List, [], ◌∷◌, ◌++◌, map, Option, Some, None, Result, Ok, Err, ℤ}
use Rattle.vmclock_time.specs.PageTime.{page_time_of}
use Rattle.vmclock_time.specs.Premises.{first_failed}
use Rattle.vmclock_time.specs.Reads.{PageRead, reads_of}
use Rattle.vmclock_time.specs.declared.fault.PageTimeFault.{PageTimeFault}
use Rattle.vmclock_time.specs.declared.rows.PageFailed.{PageFailed}
use Rattle.vmclock_time.specs.declared.rows.PageRow.{PageRow}
use Rattle.vmclock_time.specs.declared.rows.PageTold.{PageTold}
use Rattle.vmclock_time.specs.declared.rows.PageTold.TheVariants.{Time, Refused}

-- what a page tells, as a line of the report
abbrev pub told_as : Result (ℤ × ℤ) PageTimeFault → PageTold
told_as (Ok (earliest, latest)) = Time earliest latest
told_as (Err fault) = Refused fault

-- what a read is told by its page
unfoldable pub told_to : PageRead → PageTold
told_to read = told_as (page_time_of read.page read.counter)

-- one read more, where there is one
abbrev pub told_more : List PageTold → Option PageRead → List PageTold
told_more told None = told
told_more told (Some read) = told ++ told_to read ∷ []

-- what each read is told, in order
unfoldable pub told_of : List PageRow → List PageTold
told_of rows = map told_to (reads_of rows)

-- the first read that fails a test, reads being numbered from 1
unfoldable pub failed_of : List PageRow → Option PageFailed
failed_of rows = first_failed 1 (reads_of rows)
