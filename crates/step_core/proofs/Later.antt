-- What a step of one party leaves of what the others have in hand: a later host, and a later segment. And the statements that the
-- steps of a read are proved in.
use Rattle.std.specs.Prelude.{◌≡◌, ℕ, ◌+◌, ◌*◌, ◌≤◌, false, List, Option, Some, None}
use Rattle.clock_gate.specs.declared.trace.HostRow.{HostRow}
use Rattle.seqlock.specs.Tries.{SeqlockRead}
use Rattle.vmclock_page.specs.Host.{count_of}
use Rattle.vmclock_page.specs.PageRead as page_read
use Rattle.vmclock_page.specs.declared.page_seen.PageSeen.TheVariants as page_seen
use Rattle.segment_layout.specs.Words.{flag_of}
use Rattle.segment_run.specs.SegmentRun.{SegmentRun}
use Rattle.shm_reader.specs.declared.seen.Seen.TheVariants as seen
use Rattle.shm_reader.specs.SegmentTries as segment_tries
use Rattle.abstract_run.specs.HostRun.{HostRun, PageShown, page_shown, marker_of, sequence_of}
use Rattle.abstract_run.specs.PageReading.{PageAfter, Looks, Saw, Missed}
use Rattle.abstract_run.specs.ClientRun.{SegmentAfter, Reads, IsWhole, Unpublished, AllFailed}
use Rattle.step_core.specs.ShowsHost.{ShowsPageRead}
use Rattle.step_core.specs.ShowsSegment.{ShowsSegmentRead}

-- twice the page, and one more while the next one is written
abbrev pub page_point : PageShown → ℕ
page_point shown = 2 * shown.page + flag_of shown.is_writing

-- a host that is the same or later
pub record IsHostLater (rows : List HostRow) (old new : HostRun) : Type 0 where
  pub done : old.done ≤ new.done
  pub pages : page_point (page_shown rows old) ≤ page_point (page_shown rows new)

-- what a load of the page leaves in the run, the page reader shows after it
abbrev pub ShowsPageAfter : Option (List ℕ) → List HostRow → HostRun → ℕ → PageAfter → SeqlockRead → Type 0
ShowsPageAfter start rows host tries (Looks reading) read = ShowsPageRead start rows host tries reading read × (page_read.end_of read ≡ None)
ShowsPageAfter start rows host tries (Saw page) read =
    page_read.end_of read ≡ Some (page_seen.Marker (marker_of start rows page) (sequence_of (count_of start) (record { page = page; is_writing = false })))
ShowsPageAfter start rows host tries (Missed first last) read = page_read.end_of read ≡ Some (page_seen.Busy first last)

-- what a load of the segment leaves in the run, the segment reader shows after it
abbrev pub ShowsSegmentAfter : SegmentRun → ℕ → SegmentAfter → SeqlockRead → Type 0
ShowsSegmentAfter segment tries (Reads reading) read = ShowsSegmentRead segment tries reading read × (segment_tries.end_of read ≡ None)
ShowsSegmentAfter segment tries (IsWhole whole) read = segment_tries.end_of read ≡ Some (seen.Whole whole.generation whole.rec)
ShowsSegmentAfter segment tries Unpublished read = segment_tries.end_of read ≡ Some seen.NotInitialized
ShowsSegmentAfter segment tries (AllFailed first last) read = segment_tries.end_of read ≡ Some (seen.Busy tries first last)
