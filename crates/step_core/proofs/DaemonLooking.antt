-- A poll before its reply is taken: the first load of the clock, and the loads of the page.
use Rattle.std.proofs.Common.{◌≡◌, ℕ, ◌<◌, Bool, true, false, List, Option, Some, None, length, refl, ap, sym, ◌∙◌, subst}
use Rattle.std.specs.Prelude.{if◌then◌else◌, slice_index, is_some}
use Rattle.clock_gate.specs.declared.act.Act.{Act}
use Rattle.clock_gate.specs.declared.act.Act.TheVariants.{Load}
use Rattle.clock_gate.specs.declared.clock_row.Reading.{Reading}
use Rattle.clock_gate.specs.declared.trace.Trace.{Trace}
use Rattle.clock_gate.specs.ClockRow.{reading_at}
use Rattle.seqlock.specs.Tries.{SeqlockRead, Progress, Asks, Ends, started, act_of, end_of}
use Rattle.seqlock.proofs.Tries.{asks-first}
use Rattle.vmclock_page.specs.declared.page_seen.PageSeen.{PageSeen}
use Rattle.vmclock_page.specs.Host.{Host, count_of}
use Rattle.vmclock_page.specs.PageRead as page_read
use Rattle.segment_layout.specs.declared.words.TheConstants.{MAGIC}
use Rattle.status_machine.specs.declared.daemon.Daemon.{Daemon}
use Rattle.segment_run.specs.SegmentRun.{SegmentRun}
use Rattle.segment_run.specs.ShowsSegment.{ShowsSegment, IsSegmentLater}
use Rattle.segment_run.proofs.SegmentLater.{later_same}
use Rattle.writer_reopen.specs.declared.order.Order.{Order}
use Rattle.writer_reopen.specs.declared.stage.Stage.TheVariants as stages
use Rattle.writer_reopen.specs.PollMachine.{looking_by, stage_seen, stage_looked, polling_act, polling_given}
use Rattle.writer_reopen.specs.Progress as poll_progress
use Rattle.abstract_run.specs.HostRun.{HostRun, page_shown, marker_of, sequence_of}
use Rattle.abstract_run.specs.PageReading.{PageReading, PageAfter, Looks, Saw, Missed, page_reading, page_load, is_marker_next}
use Rattle.abstract_run.specs.DaemonRun.{Life, Asked, Looking, Taking, DaemonRun, poll_row, look_by, daemon_turn_by, marked_by, ask_by}
use Rattle.abstract_run.specs.Given.{AreRows}
use Rattle.step_core.specs.declared.hand.Polling.{Polling}
use Rattle.step_core.specs.declared.marks.PollMarks.{PollMarks}
use Rattle.step_core.specs.SharedWords.{after_act, value_of}
use Rattle.step_core.specs.SharedDaemon.{DaemonState, polling_by, polling_with, polling_after, noted_clock, noted_poll}
use Rattle.step_core.specs.ShowsHost.{ShowsHost, ShowsPageRead}
use Rattle.step_core.specs.ShowsDaemon.{IsAlive, ShowsResumed, IsUntaken, IsMarkedAt}
use Rattle.step_core.proofs.Later.{ShowsPageAfter}
use Rattle.step_core.proofs.HostKeeps.{page_read_new}
use Rattle.step_core.proofs.PageLoad.{PageLoads, page_word, page_load_shows}
use Rattle.step_core.proofs.DaemonLeaves.{Leaves, Turned, magic_while, order_same}

-- ---- a poll whose reply isn't taken yet

-- the daemon is as it was before the poll
pub record IsOpenPoll (trace : Trace) (segment : SegmentRun) (run : DaemonRun) (order : Order) (daemon : DaemonState) (stop : Option ℕ) : Type 0 where
  pub untaken : IsUntaken trace segment run order
  pub idle : ShowsResumed trace segment run.life daemon.resumed
  pub same_stop : stop ≡ (poll_row trace run).stop
  pub same_polled : daemon.polled ≡ run.polled
  pub same_base : daemon.base ≡ run.base
  pub same_position : daemon.position ≡ segment.position

-- the poll in hand while it looks at the page
abbrev pub in_looking : Order → Reading → SeqlockRead → Option ℕ → PollMarks → Polling
in_looking order asked read stop marks = record { machine = record { order = order; stage = stages.Looking asked read }; stop = stop; marks = marks }

looking_untaken : (trace : Trace) (segment : SegmentRun) (run : DaemonRun) (order : Order) (row marked_at : ℕ) (reading : PageReading)
    → IsUntaken trace segment run order → IsUntaken trace segment (record run { work = Looking row reading marked_at }) order
looking_untaken trace segment run order row marked_at reading is =
    record { order_is = order_same trace run (record run { work = Looking row reading marked_at }) order refl is.order_is; alive = is.alive; numbered = is.numbered }

taking_untaken : (trace : Trace) (segment : SegmentRun) (run : DaemonRun) (order : Order) (asked : Asked)
    → IsUntaken trace segment run order → IsUntaken trace segment (record run { work = Taking asked }) order
taking_untaken trace segment run order asked is =
    record { order_is = order_same trace run (record run { work = Taking asked }) order refl is.order_is; alive = is.alive; numbered = is.numbered }

-- ---- what a load of the page leaves

look_leaves : (trace : Trace) (host : HostRun) (segment : SegmentRun) (run : DaemonRun) (row marked_at : ℕ) (order : Order) (daemon : DaemonState) (asked : Reading) (read : SeqlockRead) (stop : Option ℕ) (marks : PollMarks) (after : PageAfter)
    → IsOpenPoll trace segment run order daemon stop → asked ≡ reading_at trace.clock row → IsMarkedAt marked_at marks → is_some trace.page ≡ true → ShowsPageAfter trace.page trace.host host trace.tries after read
    → Leaves trace host (look_by trace segment run row marked_at after) (polling_with daemon (record { machine = record { order = order; stage = stage_looked asked read }; stop = stop; marks = marks }))
look_leaves trace host segment run row marked_at order daemon asked read stop marks (Looks reading) is at marked paged shows =
    subst (λ (found : Option PageSeen).
    Leaves trace host (look_by trace segment run row marked_at (Looks reading))
    (polling_with daemon (record { machine = record { order = order; stage = stage_seen asked read found }; stop = stop; marks = marks }))) (sym shows.1)
    (subst (λ (found : Option PageSeen).
    Leaves trace host (look_by trace segment run row marked_at (Looks reading))
    (polling_by daemon (in_looking order asked read stop marks) (poll_progress.end_of (looking_by (page_read.act_of read) found)))) (sym shows.1)
    (record {
      shows = record {
        same_polled = is.same_polled;
        same_base = is.same_base;
        same_position = is.same_position;
        work = (is.same_stop, (looking_untaken trace segment run order row marked_at reading is.untaken, (at, (marked, (shows.0, paged)))));
        idle = is.idle;
      };
      told = refl;
    }))
look_leaves trace host segment run row marked_at order daemon asked read stop marks (Saw page) is at marked paged shows =
    subst (λ (found : Option PageSeen).
    Leaves trace host (look_by trace segment run row marked_at (Saw page))
    (polling_with daemon (record { machine = record { order = order; stage = stage_seen asked read found }; stop = stop; marks = marks }))) (sym shows)
    (record {
      shows = record {
        same_polled = is.same_polled;
        same_base = is.same_base;
        same_position = is.same_position;
        work = (
          is.same_stop,
          (
            taking_untaken trace segment run order (record {
              row = row;
              marker = Some (marker_of trace.page trace.host page);
              sequence = sequence_of (count_of trace.page) (record { page = page; is_writing = false });
              marked_at = marked_at;
            }) is.untaken,
            (at, (marked, (refl, (refl, sym paged)))),
          ),
        );
        idle = is.idle;
      };
      told = refl;
    })
look_leaves trace host segment run row marked_at order daemon asked read stop marks (Missed first last) is at marked paged shows =
    subst (λ (found : Option PageSeen).
    Leaves trace host (look_by trace segment run row marked_at (Missed first last))
    (polling_with daemon (record { machine = record { order = order; stage = stage_seen asked read found }; stop = stop; marks = marks }))) (sym shows)
    (subst (λ (found : Option PageSeen).
    Leaves trace host (look_by trace segment run row marked_at (Missed first last))
    (polling_by daemon (in_looking order asked read stop marks) (poll_progress.end_of (looking_by (page_read.act_of read) found)))) (sym shows)
    (record {
      shows = record { same_polled = is.same_polled; same_base = is.same_base; same_position = is.same_position; work = tt; idle = is.idle };
      told = rw is.same_polled refl;
    }))

look_segment : (trace : Trace) (segment : SegmentRun) (run : DaemonRun) (row marked_at : ℕ) (after : PageAfter) → (look_by trace segment run row marked_at after).segment ≡ segment
look_segment trace segment run row marked_at (Looks reading) = refl
look_segment trace segment run row marked_at (Saw page) = refl
look_segment trace segment run row marked_at (Missed first last) = refl

-- ---- the marks of a load

page_marks : (is_marker : Bool) (host_at marked_at : ℕ) (marks : PollMarks) → IsMarkedAt marked_at marks
    → IsMarkedAt (marked_by is_marker host_at marked_at) (noted_poll host_at (Load (if is_marker then 12 else 11)) marks)
page_marks true host_at marked_at marks is = record { asked = is.asked; marked = refl }
page_marks false host_at marked_at marks is = record { asked = is.asked; marked = is.marked }

-- a read that wants a word has not ended
pub unended : (at : Progress) (word : ℕ) → act_of at ≡ Load word → page_read.page_seen (end_of at) ≡ None
unended (Asks other) word wants = refl
unended (Ends outcome) word wants = absurd (cc wants)

some_page : (found : Option (List ℕ)) → is_some found ≡ true → (page : List ℕ) × (found ≡ Some page)
some_page None paged = absurd (cc paged)
some_page (Some page) paged = (page, refl)

-- ---- a load of the page

-- a look at the page loads its next word
pub looking_act : (trace : Trace) (host : HostRun) (machine : Host) (words : List ℕ) (reading : PageReading) (order : Order) (asked : Reading) (read : SeqlockRead) (stop : Option ℕ) (marks : PollMarks)
    → AreRows trace.page (length trace.clock) trace.host → ShowsHost trace.page trace.host host machine words → is_some trace.page ≡ true → ShowsPageRead trace.page trace.host host trace.tries reading read
    → (polling_act (in_looking order asked read stop marks).machine ≡ Load (page_word reading.try)) × PageLoads trace.page trace.host host trace.tries reading read words
looking_act trace host machine words reading order asked read stop marks rows hosted paged reads =
    let page = some_page trace.page paged in
    let loads = page_load_shows trace.page page.0 (length trace.clock) trace.host host machine words trace.tries reading read page.1 rows hosted reads in
    let open_yet : page_read.end_of read ≡ None = unended _ (page_word reading.try) loads.act in
    (ap (λ (found : Option PageSeen). poll_progress.act_of (looking_by (page_read.act_of read) found)) open_yet ∙ loads.act, loads)

pub look_turned : (trace : Trace) (host : HostRun) (machine : Host) (segment : SegmentRun) (words : List ℕ) (run : DaemonRun) (row marked_at : ℕ) (reading : PageReading) (order : Order) (daemon : DaemonState) (asked : Reading) (read : SeqlockRead) (stop : Option ℕ) (marks : PollMarks)
    → AreRows trace.page (length trace.clock) trace.host → ShowsHost trace.page trace.host host machine words → ShowsSegment segment words → slice_index words 0 ≡ MAGIC
    → IsOpenPoll trace segment run order daemon stop → asked ≡ reading_at trace.clock row → IsMarkedAt marked_at marks → is_some trace.page ≡ true → ShowsPageRead trace.page trace.host host trace.tries reading read
    → Turned trace host segment words (after_act words (polling_act (in_looking order asked read stop marks).machine)) (daemon_turn_by trace host segment run (Looking row reading marked_at))
    (polling_with daemon (polling_after trace host.done (in_looking order asked read stop marks) (value_of words (polling_act (in_looking order asked read stop marks).machine))))
look_turned trace host machine segment words run row marked_at reading order daemon asked read stop marks rows hosted shows magic is at marked paged reads =
    let looks = looking_act trace host machine words reading order asked read stop marks rows hosted paged reads in
    let next_segment = look_segment trace segment run row (marked_by (is_marker_next reading.try) host.done marked_at) (page_load (count_of trace.page) (page_shown trace.host host) reading) in
    subst (λ (act : Act).
    Turned trace host segment words (after_act words act) (daemon_turn_by trace host segment run (Looking row reading marked_at))
    (polling_with daemon (record {
      machine = polling_given trace.clock (in_looking order asked read stop marks).machine (value_of words act);
      stop = stop;
      marks = noted_poll host.done act marks;
    }))) (sym looks.0)
    (record {
      leaves =
          look_leaves trace host segment run row (marked_by (is_marker_next reading.try) host.done marked_at) order daemon asked (page_read.given read (slice_index words (page_word reading.try))) stop
          (noted_poll host.done (Load (page_word reading.try)) marks) (page_load (count_of trace.page) (page_shown trace.host host) reading)
          is at (page_marks (is_marker_next reading.try) host.done marked_at marks marked) paged looks.1.after;
      segment_shown = subst (λ (s : SegmentRun). ShowsSegment s words) (sym next_segment) shows;
      later = subst (λ (s : SegmentRun). IsSegmentLater segment s) (sym next_segment) (later_same segment);
      rest = record { same = λ word low high. refl };
      same_layout = ap (λ (s : SegmentRun). s.layout) next_segment;
      magic = magic_while (daemon_turn_by trace host segment run (Looking row reading marked_at)).daemon.work (daemon_turn_by trace host segment run (Looking row reading marked_at)).daemon.life words magic;
    })

-- ---- the first load of the clock

-- the poll in hand before its first reading
abbrev pub in_asking : Order → Option ℕ → PollMarks → Polling
in_asking order stop marks = record { machine = record { order = order; stage = stages.Asking }; stop = stop; marks = marks }

-- a new read has not ended
new_open : (tries : ℕ) → 0 < tries → page_read.end_of (started tries) ≡ None
new_open tries some = ap (λ (at : Progress). page_read.page_seen (end_of at)) (asks-first page_read.page_lock (started tries) some refl)

alive_support : (trace : Trace) (life : Option Life) (daemon : Daemon) → IsAlive trace life daemon → daemon.support ≡ is_some trace.page
alive_support trace None daemon alive = absurd alive
alive_support trace (Some life) daemon alive = alive.past.same_support ∙ alive.support

first_marks : (host_at : ℕ) (marks : PollMarks) → marks.has_asked ≡ false → IsMarkedAt host_at (noted_clock host_at marks)
first_marks host_at marks fresh = record { asked = refl; marked = rw fresh refl }

ask_leaves : (trace : Trace) (host : HostRun) (segment : SegmentRun) (run : DaemonRun) (order : Order) (daemon : DaemonState) (stop : Option ℕ) (marks : PollMarks) (row : ℕ) (page : Option (List ℕ))
    → 0 < trace.tries → IsOpenPoll trace segment run order daemon stop → marks.has_asked ≡ false → trace.page ≡ page
    → Leaves trace host (ask_by trace segment run row host.done page)
    (polling_with daemon (record {
      machine = record { order = order; stage = if is_some page then stages.Looking (reading_at trace.clock row) (started order.tries) else stages.Taking (reading_at trace.clock row) None };
      stop = stop;
      marks = noted_clock host.done marks;
    }))
ask_leaves trace host segment run order daemon stop marks row None some is fresh paged =
    record {
      shows = record {
        same_polled = is.same_polled;
        same_base = is.same_base;
        same_position = is.same_position;
        work = (
          is.same_stop,
          (
            taking_untaken trace segment run order (record { row = row; marker = None; sequence = 0; marked_at = host.done }) is.untaken,
            (refl, (first_marks host.done marks fresh, (refl, (refl, sym (ap is_some paged))))),
          ),
        );
        idle = is.idle;
      };
      told = refl;
    }
ask_leaves trace host segment run order daemon stop marks row (Some page) some is fresh paged =
    let tries_are : order.tries ≡ trace.tries = is.untaken.order_is.tries in
    let open_yet : page_read.end_of (started order.tries) ≡ None = new_open order.tries (subst (λ (n : ℕ). 0 < n) (sym tries_are) some) in
    let reads : ShowsPageRead trace.page trace.host host trace.tries (page_reading trace.tries) (started order.tries) =
    subst (λ (n : ℕ). ShowsPageRead trace.page trace.host host trace.tries (page_reading trace.tries) (started n)) (sym tries_are) (page_read_new trace.page trace.host host trace.tries some) in
    subst (λ (found : Option PageSeen).
    Leaves trace host (ask_by trace segment run row host.done (Some page))
    (polling_by daemon (in_looking order (reading_at trace.clock row) (started order.tries) stop (noted_clock host.done marks)) (poll_progress.end_of (looking_by (page_read.act_of (started order.tries)) found)))) (sym open_yet)
    (record {
      shows = record {
        same_polled = is.same_polled;
        same_base = is.same_base;
        same_position = is.same_position;
        work = (
          is.same_stop,
          (
            looking_untaken trace segment run order row host.done (page_reading trace.tries) is.untaken,
            (refl, (first_marks host.done marks fresh, (reads, ap is_some paged))),
          ),
        );
        idle = is.idle;
      };
      told = refl;
    })

ask_segment : (trace : Trace) (segment : SegmentRun) (run : DaemonRun) (row done : ℕ) (page : Option (List ℕ)) → (ask_by trace segment run row done page).segment ≡ segment
ask_segment trace segment run row done None = refl
ask_segment trace segment run row done (Some page) = refl

-- the first load of the clock gave this row
pub ask_turned : (trace : Trace) (host : HostRun) (segment : SegmentRun) (words : List ℕ) (run : DaemonRun) (order : Order) (daemon : DaemonState) (stop : Option ℕ) (marks : PollMarks) (row : ℕ)
    → 0 < trace.tries → ShowsSegment segment words → slice_index words 0 ≡ MAGIC → IsOpenPoll trace segment run order daemon stop → marks.has_asked ≡ false
    → Turned trace host segment words words (ask_by trace segment run row host.done trace.page) (polling_with daemon (polling_after trace host.done (in_asking order stop marks) row))
ask_turned trace host segment words run order daemon stop marks row some shows magic is fresh =
    let looks : order.daemon.support ≡ is_some trace.page = alive_support trace run.life order.daemon is.untaken.alive in
    let next_segment = ask_segment trace segment run row host.done trace.page in
    record {
      leaves =
          subst (λ (support : Bool).
          Leaves trace host (ask_by trace segment run row host.done trace.page)
          (polling_with daemon (record {
            machine = record { order = order; stage = if support then stages.Looking (reading_at trace.clock row) (started order.tries) else stages.Taking (reading_at trace.clock row) None };
            stop = stop;
            marks = noted_clock host.done marks;
          }))) (sym looks)
          (ask_leaves trace host segment run order daemon stop marks row trace.page some is fresh refl);
      segment_shown = subst (λ (s : SegmentRun). ShowsSegment s words) (sym next_segment) shows;
      later = subst (λ (s : SegmentRun). IsSegmentLater segment s) (sym next_segment) (later_same segment);
      rest = record { same = λ word low high. refl };
      same_layout = ap (λ (s : SegmentRun). s.layout) next_segment;
      magic = magic_while (ask_by trace segment run row host.done trace.page).daemon.work (ask_by trace segment run row host.done trace.page).daemon.life words magic;
    }
