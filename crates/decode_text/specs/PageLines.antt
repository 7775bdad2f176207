-- The line that tells of a page (this project's format), byte for byte. It ends with a line feed.
use Rattle.std.specs.Prelude.{List, ℕ, ◌++◌, codes, decimal, Result, Ok, Err}
use Rattle.vmclock_page.specs.ClockPage.{ClockPage}
use Rattle.vmclock_page.specs.Page.{page_of}
use Rattle.vmclock_page.specs.declared.fault.PageFault.{PageFault}
use Rattle.vmclock_page.specs.declared.fault.PageFault.TheVariants as fault

-- what never changes: `page,SIZE,COUNTER,TIMETYPE,`
unfoldable pub constant_part : ClockPage → List ℕ
constant_part p = codes "page," ++ (decimal p.size ++ (codes "," ++ (decimal p.counter_id ++ (codes "," ++ (decimal p.time_type ++ codes ",")))))

-- `SEQUENCE,MARKER`
unfoldable pub moving_part : ClockPage → List ℕ
moving_part p = decimal p.seq_count ++ (codes "," ++ (decimal p.disruption_marker ++ codes "\n"))

-- `page,SIZE,COUNTER,TIMETYPE,SEQUENCE,MARKER`
unfoldable pub page_line : ClockPage → List ℕ
page_line p = constant_part p ++ moving_part p

-- the line of bytes that are no page
unfoldable pub refused_page : PageFault → List ℕ
refused_page fault.Short = codes "refused,short\n"
refused_page fault.Magic = codes "refused,magic\n"
refused_page (fault.Size size) = codes "refused,size," ++ (decimal size ++ codes "\n")
refused_page (fault.Version version) = codes "refused,version," ++ (decimal version ++ codes "\n")
refused_page (fault.Odd count) = codes "refused,odd," ++ (decimal count ++ codes "\n")

-- the line of what was read
abbrev pub page_lines : Result ClockPage PageFault → List ℕ
page_lines (Ok p) = page_line p
page_lines (Err fault) = refused_page fault

-- what bytes tell as a page
unfoldable pub page_text : List ℕ → List ℕ
page_text bytes = page_lines (page_of bytes)
