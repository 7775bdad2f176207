-- The events of a run, whatever the order of its parties' turns.
use Rattle.std.specs.Prelude.{◌≡◌, ℕ, ◌<◌, ◌≤◌, ◌^◌, List, reverse, slice_index, Some, None}
use Rattle.clock_gate.specs.declared.trace.Party.{Party}
use Rattle.clock_gate.specs.declared.trace.Trace.{Trace}
use Rattle.segment_run.specs.SegmentRun.{SegmentRun, published_at}
use Rattle.abstract_run.specs.declared.event.Event.{Event}
use Rattle.abstract_run.specs.Run.{start, turns_by}
use Rattle.abstract_run.specs.RunFacts.{PublishedEvent, told_at, AllTell, AllBased}
use Rattle.abstract_run.specs.RunWhole.{run_of}
use Rattle.abstract_run.specs.Given.{CanRun}
use Rattle.run_promises.specs.Told.{AllMarked}

-- after some turns these are the events
abbrev pub IsRunOf : Trace → List Event → Type 0
IsRunOf trace events = (parties : List Party) × (events ≡ (turns_by trace (start trace) parties).events)

-- those of the whole schedule are some turns
abbrev pub WholeRunIsRun : Type 0
WholeRunIsRun = (trace : Trace) → IsRunOf trace (run_of trace).events

-- ---- what the events tell of the segment

-- the last publication that is told of a position is the one that the segment has there; where none is told, the position is the
-- image's or one that its record was moved to, and no poll gave the base
pub record TellsSegment (segment : SegmentRun) (past : List Event) : Type 0 where
  pub made : (n : ℕ) (told : PublishedEvent) → told_at n past ≡ Some told → published_at segment n ≡ told.publication
  pub others : (n : ℕ) → segment.base < n → n ≤ segment.position → told_at n past ≡ None → (published_at segment n).base ≡ 0

abbrev pub RunsTellSegment : Type 0
RunsTellSegment =
    (trace : Trace) (parties : List Party) → CanRun trace → slice_index trace.image 1 < 2 ^ 64
    → TellsSegment (turns_by trace (start trace) parties).segment (reverse (turns_by trace (start trace) parties).events)

-- ---- what each event tells

-- of rows, positions and bases
abbrev pub AnyRunTells : Type 0
AnyRunTells =
    (trace : Trace) (events : List Event) → CanRun trace → slice_index trace.image 1 < 2 ^ 64 → IsRunOf trace events
    → AllTell trace (reverse events) × AllBased trace (reverse events)

-- of markers, and of the record that an interval is by
abbrev pub AnyRunMarks : Type 0
AnyRunMarks =
    (trace : Trace) (events : List Event) → CanRun trace → slice_index trace.image 1 < 2 ^ 64 → IsRunOf trace events
    → AllMarked trace (reverse events)
