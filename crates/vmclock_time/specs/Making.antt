-- A report in the making, row by row.
use Rattle.std.specs.Prelude.{ℕ, ◌+◌, Option, Some, None, option_map}
use Rattle.vmclock_time.specs.PageReport.{told_to}
use Rattle.vmclock_time.specs.Premises.{failure_of}
use Rattle.vmclock_time.specs.Reads.{KnownPage, PageRead, page_after, read_by, read_in}
use Rattle.vmclock_time.specs.declared.rows.PageFailed.{PageFailed}
use Rattle.vmclock_time.specs.declared.rows.PageRow.{PageRow}
use Rattle.vmclock_time.specs.declared.rows.PageTold.{PageTold}
use Rattle.vmclock_time.specs.declared.rows.PageWhy.{PageWhy}

-- how many reads there were, the first of them that failed, and the last page
pub record Made : Type 0 where
  pub reads : ℕ
  pub failed : Option PageFailed
  pub last : Option KnownPage

-- before the first row
abbrev pub nothing_made : Made
nothing_made = record { reads = 0; failed = None; last = None }

-- the first failure stays
abbrev pub failed_first : Option PageFailed → ℕ → Option PageWhy → Option PageFailed
failed_first (Some failed) number why = Some failed
failed_first None number None = None
failed_first None number (Some why) = Some (record { read = number; why = why })

-- one read more, where there is one
abbrev pub reads_more : ℕ → Option PageRead → ℕ
reads_more reads None = reads
reads_more reads (Some read) = reads + 1

abbrev pub failed_more : Option PageFailed → ℕ → Option PageRead → Option PageFailed
failed_more failed number None = failed
failed_more failed number (Some read) = failed_first failed number (failure_of read)

-- one row more
abbrev pub with_row : Made → PageRow → Made
with_row m row = record {
  reads = reads_more m.reads (read_in m.last row);
  failed = failed_more m.failed (m.reads + 1) (read_in m.last row);
  last = page_after m.last row;
}

-- what a reading is told by the last page, where there is one
abbrev pub told_by : Option KnownPage → ℕ → Option ℕ → Option PageTold
told_by last counter truth = option_map told_to (read_by last counter truth)
