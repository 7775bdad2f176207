-- The traces that may be run.
use Rattle.std.specs.Prelude.{◌≡◌, ◌<◌, ◌^◌, length, slice_index, IfSome, IsOk, ℕ, ◌≤◌, List, Option}
use Rattle.clock_gate.specs.declared.trace.Trace.{Trace}
use Rattle.clock_gate.specs.Trace.{IsLawfulTrace, IsHostOf}
use Rattle.clock_gate.specs.declared.trace.HostRow.{HostRow}
use Rattle.clock_gate.specs.declared.limits.TheConstants.{MOST_HOST_ROWS}
use Rattle.vmclock_page.specs.Rows.{IsStartPage, ArePageRows}
use Rattle.vmclock_page.specs.Words.{AreWords}
use Rattle.segment_layout.specs.Image.{image_of}

-- a lawful trace: its image is admitted in its layout, its start page is accepted, and its page rows are rows of that page
pub record CanRun (trace : Trace) : Type 0 where
  pub lawful : IsLawfulTrace trace
  pub image : IsOk (image_of trace.layout trace.image)
  pub page : IsStartPage trace.page
  pub rows : ArePageRows trace.page trace.host

-- the same, with what the types of its arrays say: the image has ten words and the start page 13, of 64 bits each
pub record IsGiven (trace : Trace) : Type 0 where
  pub can : CanRun trace
  pub wide : IfSome trace.page AreWords
  pub ten : length trace.image ≡ 10
  pub fits : slice_index trace.image 1 < 2 ^ 64

-- the rows of the host as a lawful trace has them, with so many rows of the clock, after a start page
pub record AreRows (start : Option (List ℕ)) (clocks : ℕ) (rows : List HostRow) : Type 0 where
  pub few : length rows ≤ MOST_HOST_ROWS
  pub host : IsHostOf clocks rows
  pub started : IsStartPage start
  pub pages : ArePageRows start rows
  -- the start page has 13 words of 64 bits
  pub wide : IfSome start AreWords
