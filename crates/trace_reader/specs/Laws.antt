-- The grammar in its own words: each record passes after those before it, up to the first that doesn't.
use Rattle.std.specs.Prelude.{◌≡◌, ◌↔◌, ◌⊎◌, ℕ, List, [], Some, None, Ok, Err, IsOk}
use Rattle.clock_gate.specs.Trace.{IsLawfulTrace}
use Rattle.clock_gate.specs.declared.trace.Trace.{Trace}
use Rattle.vmclock_page.specs.Rows.{ArePageRows, IsStartPage}
use Rattle.segment_layout.specs.Image.{image_of}
use Rattle.csv_records.specs.Grammar.{Accepts, RefusedAt}
use Rattle.csv_records.specs.declared.trace_error.TraceFault.{TraceFault}
use Rattle.trace_reader.specs.Facts.{facts_of}
use Rattle.trace_reader.specs.Grammar.{end_fault, grammar, trace_of, trace_said}
use Rattle.trace_reader.specs.declared.line.Line.{Line}

-- all of these records pass, and a trace may not end there
pub record EndsAt (records : List (List (List ℕ))) (fault : TraceFault) : Type 0 where
  pub lines : List Line
  pub accepted : Accepts grammar [] records lines
  pub why : end_fault (facts_of lines) ≡ Some fault

-- all of these records pass, and this trace is what they say
pub record Says (records : List (List (List ℕ))) (trace : Trace) : Type 0 where
  pub lines : List Line
  pub accepted : Accepts grammar [] records lines
  pub whole : end_fault (facts_of lines) ≡ None
  pub is : trace ≡ trace_of (facts_of lines)

-- what is refused is the first record that doesn't pass, by the first reason against it, or the end
abbrev pub FaultsAreFirst : Type 0
FaultsAreFirst =
    (records : List (List (List ℕ))) (fault : TraceFault)
    → (trace_said records ≡ Err fault) ↔ (RefusedAt grammar records fault ⊎ EndsAt records fault)

-- a trace comes of records that all pass, and is what they say
abbrev pub TracesSay : Type 0
TracesSay = (records : List (List (List ℕ))) (trace : Trace) → (trace_said records ≡ Ok trace) ↔ Says records trace

-- a trace that may be run: it is lawful, a daemon of its layout can go on with the image, its start page is one, and each
-- page row is one of the same clock
pub record IsRunnable (trace : Trace) : Type 0 where
  pub lawful : IsLawfulTrace trace
  pub image : IsOk (image_of trace.layout trace.image)
  pub page : IsStartPage trace.page
  pub rows : ArePageRows trace.page trace.host

-- each trace of the grammar may be run
abbrev pub TracesAreRunnable : Type 0
TracesAreRunnable = (records : List (List (List ℕ))) (trace : Trace) → trace_said records ≡ Ok trace → IsRunnable trace
