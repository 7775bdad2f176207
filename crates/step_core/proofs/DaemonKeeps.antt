-- What the daemon shows at the start, of a later host, and of words that another party changed.
use Rattle.std.proofs.Common.{◌≡◌, ℕ, ◌<◌, ◌^◌, List, Option, Some, None, Ok, refl, ◌∙◌, arith}
use Rattle.std.specs.Prelude.{slice_index}
use Rattle.clock_gate.specs.declared.trace.Trace.{Trace}
use Rattle.vmclock_page.specs.Host.{count_of}
use Rattle.segment_layout.specs.declared.start.Start.{Start}
use Rattle.segment_layout.specs.declared.start.Start.TheVariants.{Fresh, Kept, Torn}
use Rattle.segment_layout.specs.Image.{image_of}
use Rattle.segment_run.specs.SegmentRun.{SegmentRun, segment_start}
use Rattle.segment_run.specs.ShowsSegment.{KeepsSegment}
use Rattle.segment_run.proofs.SegmentStart.{segment_start_told}
use Rattle.writer_reopen.specs.declared.order.Order.{Order}
use Rattle.writer_reopen.specs.declared.stage.Stage.{Stage}
use Rattle.writer_reopen.specs.declared.stage.Stage.TheVariants as stages
use Rattle.abstract_run.specs.HostRun.{HostRun}
use Rattle.abstract_run.specs.DaemonRun as run_daemon
use Rattle.abstract_run.specs.DaemonRun.{Life, Work, Resting, Opening, Asking, Looking, Taking, Writing, DaemonRun}
use Rattle.step_core.specs.declared.hand.Hand.{Hand}
use Rattle.step_core.specs.declared.hand.Hand.TheVariants as hands
use Rattle.step_core.specs.declared.marks.PollMarks.{PollMarks}
use Rattle.step_core.specs.SharedDaemon as shared_daemon
use Rattle.step_core.specs.SharedDaemon.{DaemonState}
use Rattle.step_core.specs.ShowsDaemon.{ShowsPoll, ShowsWork, HasMagicIn, HasMagicWhile, HasMagicFor, ShowsDaemon}
use Rattle.step_core.proofs.Later.{IsHostLater}
use Rattle.step_core.proofs.HostKeeps.{page_read_later}

-- ---- a later host

poll_later : (trace : Trace) (old new : HostRun) (segment : SegmentRun) (run : DaemonRun) (work : Work) (order : Order) (stage : Stage) (marks : PollMarks) → IsHostLater trace.host old new
    → ShowsPoll trace old segment run work order stage marks → ShowsPoll trace new segment run work order stage marks
poll_later trace old new segment run Resting order stages.Asking marks later is = absurd is
poll_later trace old new segment run Resting order (stages.Looking asked read) marks later is = absurd is
poll_later trace old new segment run Resting order (stages.Taking asked seen) marks later is = absurd is
poll_later trace old new segment run Resting order (stages.Storing taken update) marks later is = absurd is
poll_later trace old new segment run (Opening start early steps) order stages.Asking marks later is = absurd is
poll_later trace old new segment run (Opening start early steps) order (stages.Looking asked read) marks later is = absurd is
poll_later trace old new segment run (Opening start early steps) order (stages.Taking asked seen) marks later is = absurd is
poll_later trace old new segment run (Opening start early steps) order (stages.Storing taken update) marks later is = absurd is
poll_later trace old new segment run Asking order stages.Asking marks later is = is
poll_later trace old new segment run Asking order (stages.Looking asked read) marks later is = absurd is
poll_later trace old new segment run Asking order (stages.Taking asked seen) marks later is = absurd is
poll_later trace old new segment run Asking order (stages.Storing taken update) marks later is = absurd is
poll_later trace old new segment run (Looking row reading marked_at) order stages.Asking marks later is = absurd is
poll_later trace old new segment run (Looking row reading marked_at) order (stages.Looking asked read) marks later is = (is.0, (is.1.0, (is.1.1.0, (page_read_later trace.page trace.host old new trace.tries reading read later is.1.1.1.0, is.1.1.1.1))))
poll_later trace old new segment run (Looking row reading marked_at) order (stages.Taking asked seen) marks later is = absurd is
poll_later trace old new segment run (Looking row reading marked_at) order (stages.Storing taken update) marks later is = absurd is
poll_later trace old new segment run (Taking before) order stages.Asking marks later is = absurd is
poll_later trace old new segment run (Taking before) order (stages.Looking asked read) marks later is = absurd is
poll_later trace old new segment run (Taking before) order (stages.Taking asked seen) marks later is = is
poll_later trace old new segment run (Taking before) order (stages.Storing taken update) marks later is = absurd is
poll_later trace old new segment run (Writing storing) order stages.Asking marks later is = absurd is
poll_later trace old new segment run (Writing storing) order (stages.Looking asked read) marks later is = absurd is
poll_later trace old new segment run (Writing storing) order (stages.Taking asked seen) marks later is = absurd is
poll_later trace old new segment run (Writing storing) order (stages.Storing taken update) marks later is = is

work_later : (trace : Trace) (old new : HostRun) (segment : SegmentRun) (run : DaemonRun) (work : Work) (hand : Hand) → IsHostLater trace.host old new
    → ShowsWork trace old segment run work hand → ShowsWork trace new segment run work hand
work_later trace old new segment run Resting hands.Resting later is = tt
work_later trace old new segment run Resting (hands.Opening reopening) later is = absurd is
work_later trace old new segment run Resting (hands.Polling polling) later is = (is.0, poll_later trace old new segment run Resting polling.machine.order polling.machine.stage polling.marks later is.1)
work_later trace old new segment run (Opening start early steps) hands.Resting later is = absurd is
work_later trace old new segment run (Opening start early steps) (hands.Opening reopening) later is = is
work_later trace old new segment run (Opening start early steps) (hands.Polling polling) later is = (is.0, poll_later trace old new segment run (Opening start early steps) polling.machine.order polling.machine.stage polling.marks later is.1)
work_later trace old new segment run Asking hands.Resting later is = absurd is
work_later trace old new segment run Asking (hands.Opening reopening) later is = absurd is
work_later trace old new segment run Asking (hands.Polling polling) later is = (is.0, poll_later trace old new segment run Asking polling.machine.order polling.machine.stage polling.marks later is.1)
work_later trace old new segment run (Looking row reading marked_at) hands.Resting later is = absurd is
work_later trace old new segment run (Looking row reading marked_at) (hands.Opening reopening) later is = absurd is
work_later trace old new segment run (Looking row reading marked_at) (hands.Polling polling) later is = (is.0, poll_later trace old new segment run (Looking row reading marked_at) polling.machine.order polling.machine.stage polling.marks later is.1)
work_later trace old new segment run (Taking before) hands.Resting later is = absurd is
work_later trace old new segment run (Taking before) (hands.Opening reopening) later is = absurd is
work_later trace old new segment run (Taking before) (hands.Polling polling) later is = (is.0, poll_later trace old new segment run (Taking before) polling.machine.order polling.machine.stage polling.marks later is.1)
work_later trace old new segment run (Writing storing) hands.Resting later is = absurd is
work_later trace old new segment run (Writing storing) (hands.Opening reopening) later is = absurd is
work_later trace old new segment run (Writing storing) (hands.Polling polling) later is = (is.0, poll_later trace old new segment run (Writing storing) polling.machine.order polling.machine.stage polling.marks later is.1)

-- what the daemon shows it shows at a later host too
pub daemon_later : (trace : Trace) (old new : HostRun) (segment : SegmentRun) (run : DaemonRun) (daemon : DaemonState) → IsHostLater trace.host old new
    → ShowsDaemon trace old segment run daemon → ShowsDaemon trace new segment run daemon
daemon_later trace old new segment run daemon later is =
    record {
      same_polled = is.same_polled;
      same_base = is.same_base;
      same_position = is.same_position;
      work = work_later trace old new segment run run.work daemon.hand later is.work;
      idle = is.idle;
    }

-- ---- words 0 to 9 that stay

in_kept : (start : Start) (steps : ℕ) (words after : List ℕ) → KeepsSegment words after → HasMagicIn start steps words → HasMagicIn start steps after
in_kept Fresh steps words after keeps magic = λ past. keeps.same 0 (omega arith) ∙ magic past
in_kept (Torn generation) steps words after keeps magic = keeps.same 0 (omega arith) ∙ magic
in_kept (Kept generation rec) steps words after keeps magic = keeps.same 0 (omega arith) ∙ magic

while_kept : (work : Work) (life : Option Life) (words after : List ℕ) → KeepsSegment words after → HasMagicWhile work life words → HasMagicWhile work life after
while_kept Resting None words after keeps magic = tt
while_kept Resting (Some life) words after keeps magic = keeps.same 0 (omega arith) ∙ magic
while_kept (Opening start old steps) life words after keeps magic = in_kept start steps words after keeps magic
while_kept Asking None words after keeps magic = tt
while_kept Asking (Some life) words after keeps magic = keeps.same 0 (omega arith) ∙ magic
while_kept (Looking row reading marked_at) None words after keeps magic = tt
while_kept (Looking row reading marked_at) (Some life) words after keeps magic = keeps.same 0 (omega arith) ∙ magic
while_kept (Taking before) None words after keeps magic = tt
while_kept (Taking before) (Some life) words after keeps magic = keeps.same 0 (omega arith) ∙ magic
while_kept (Writing storing) None words after keeps magic = tt
while_kept (Writing storing) (Some life) words after keeps magic = keeps.same 0 (omega arith) ∙ magic

-- a step of another party leaves word 0
pub magic_kept : (run : DaemonRun) (words after : List ℕ) → KeepsSegment words after → HasMagicFor run words → HasMagicFor run after
magic_kept run words after keeps magic = while_kept run.work run.life words after keeps magic

-- ---- the start

-- at the start the daemon is stopped, at the position of the image
pub daemon_start_shows : (trace : Trace) (host : HostRun) (start : Start) → slice_index trace.image 1 < 2 ^ 64 → image_of trace.layout trace.image ≡ Ok start
    → ShowsDaemon trace host (segment_start trace.layout trace.image (count_of trace.page)) run_daemon.daemon_start (shared_daemon.daemon_start (slice_index trace.image 1))
daemon_start_shows trace host start fits admitted =
    record {
      same_polled = refl;
      same_base = refl;
      same_position = (segment_start_told trace.layout trace.image (count_of trace.page) start fits admitted).1;
      work = tt;
      idle = tt;
    }

pub magic_at_start : (words : List ℕ) → HasMagicFor run_daemon.daemon_start words
magic_at_start words = tt
