-- The second load of the clock: the reply is taken, and the publication is that of looking back.
use Rattle.std.proofs.Common.{◌≡◌, ℕ, ◌+◌, ◌≤◌, Bool, true, false, List, ◌∷◌, Option, Some, None, refl, ap, sym, ◌∙◌, subst, arith}
use Rattle.std.specs.Prelude.{slice_index, is_some, IfSome, All}
use Rattle.generation_word.specs.declared.layout.Layout.{Layout}
use Rattle.generation_word.specs.Layout.{period_of}
use Rattle.generation_word.specs.Numbering.{odd_after, even_after}
use Rattle.generation_word.proofs.Laws.{odd_after-at_rest, odd_after-in_update, even_after-at_rest, even_after-in_update}
use Rattle.clock_gate.specs.declared.clock_row.Reading.{Reading}
use Rattle.clock_gate.specs.declared.limits.TheConstants.{LAST_MOMENT}
use Rattle.clock_gate.specs.declared.trace.Trace.{Trace}
use Rattle.clock_gate.specs.ClockRow.{reading_at}
use Rattle.clock_gate.specs.Trace.{IsClockRow}
use Rattle.segment_layout.specs.declared.publication.Publication.{Publication}
use Rattle.segment_layout.specs.declared.words.TheConstants.{MAGIC}
use Rattle.segment_layout.specs.Record.{RecordFields}
use Rattle.status_machine.specs.declared.daemon.Daemon.{Daemon}
use Rattle.status_machine.specs.declared.poll.Poll.{Poll}
use Rattle.status_machine.specs.Incarnation.{base_at, record_at}
use Rattle.status_machine.specs.Step.{ShowsPast, daemon_step, record_of}
use Rattle.status_machine.proofs.LookBack.{ShowsPast-step, record_of-shown}
use Rattle.segment_run.specs.SegmentRun.{SegmentRun, number_shown, number_at}
use Rattle.segment_run.specs.ShowsSegment.{ShowsSegment, IsSegmentLater}
use Rattle.segment_run.proofs.SegmentEnded.{KeepsBoundsOf}
use Rattle.segment_run.proofs.SegmentHeader.{number_at_rest, number_in_update, period_positive}
use Rattle.segment_run.proofs.SegmentLater.{later_same}
use Rattle.writer_reopen.specs.declared.order.Order.{Order}
use Rattle.writer_reopen.specs.declared.stage.Sight.{Sight}
use Rattle.writer_reopen.specs.declared.stage.Stage.TheVariants as stages
use Rattle.writer_reopen.specs.Poll.{marker_seen, sequence_seen, poll_for, daemon_for, publication_for, taken_for}
use Rattle.abstract_run.specs.HostRun.{HostRun}
use Rattle.abstract_run.specs.DaemonRun.{Life, Asked, Storing, DaemonRun, poll_row, poll_of, publication_of, taken}
use Rattle.status_machine.specs.Base.{base_number}
use Rattle.step_core.specs.declared.hand.Polling.{Polling}
use Rattle.step_core.specs.declared.marks.PollMarks.{PollMarks}
use Rattle.step_core.specs.SharedDaemon.{DaemonState, polling_with, polling_after, noted_clock}
use Rattle.step_core.specs.ShowsDaemon.{IsWhere, IsAlive, IsOrder, IsMarkedAt}
use Rattle.step_core.proofs.DaemonFits.{moment_most, step_fits, record_bounds}
use Rattle.step_core.proofs.DaemonLeaves.{Leaves, Turned, magic_while, order_same}
use Rattle.step_core.proofs.DaemonStore.{IsMade, after_stores_shows}
use Rattle.step_core.proofs.DaemonStoring.{after_segment}

-- ---- the numbers of the next publication

odd_by : (segment : SegmentRun) (writes : Bool) → segment.is_writing ≡ writes → odd_after (number_shown segment) ≡ number_at segment segment.position + 1
odd_by segment true is = ap odd_after (number_in_update segment is) ∙ odd_after-in_update (period_of segment.layout) segment.position
odd_by segment false is = ap odd_after (number_at_rest segment is) ∙ odd_after-at_rest (period_of segment.layout) segment.position

even_by : (segment : SegmentRun) (writes : Bool) → segment.is_writing ≡ writes → even_after (period_of segment.layout) (number_shown segment) ≡ number_at segment (segment.position + 1)
even_by segment true is = ap (even_after (period_of segment.layout)) (number_in_update segment is) ∙ even_after-in_update (period_of segment.layout) segment.position (period_positive segment.layout)
even_by segment false is = ap (even_after (period_of segment.layout)) (number_at_rest segment is) ∙ even_after-at_rest (period_of segment.layout) segment.position (period_positive segment.layout)

-- the odd number that an update from what word 1 shows stores first
pub odd_next : (segment : SegmentRun) → odd_after (number_shown segment) ≡ number_at segment segment.position + 1
odd_next segment = odd_by segment segment.is_writing refl

-- and the even one that it stores last
pub even_next : (segment : SegmentRun) → even_after (period_of segment.layout) (number_shown segment) ≡ number_at segment (segment.position + 1)
even_next segment = even_by segment segment.is_writing refl

-- ---- the poll, and what it leads to

-- the machine takes the run's poll
poll_same : (trace : Trace) (run : DaemonRun) (before : Asked) (order : Order) (asked : Reading) (seen : Option Sight)
    → IsOrder trace run order → asked ≡ reading_at trace.clock before.row → marker_seen seen ≡ before.marker
    → poll_for order asked seen ≡ poll_of trace run before
poll_same trace run before order asked seen is at marked = rw (is.number, at, marked, is.heard) refl

-- one more poll of a life
abbrev pub longer : Life → Poll → Life
longer life poll = record life { past = poll ∷ life.past }

-- the daemon after a poll is where the life has led with it
pub where_next : (trace : Trace) (life : Life) (daemon : Daemon) (poll : Poll) → All IsClockRow trace.clock → IsWhere trace life daemon → is_some poll.marker ≡ is_some trace.page
    → (row : ℕ) → poll.reading ≡ reading_at trace.clock row → IsWhere trace (longer life poll) (daemon_step daemon poll)
where_next trace life daemon poll rows is marked row at =
    let looks : is_some poll.marker ≡ daemon.support = marked ∙ sym is.support ∙ sym is.past.same_support in
    let moment : poll.reading.mono ≤ LAST_MOMENT = rw at (moment_most trace.clock row rows) in
    record { past = ShowsPast-step life.from life.past daemon poll looks is.past; support = is.support; fits = step_fits daemon poll is.fits moment }

publication_parts : (poll poll_2 generation generation_2 asked asked_2 sequence sequence_2 replied base base_2 : ℕ) (rec rec_2 : RecordFields)
    → poll ≡ poll_2 → generation ≡ generation_2 → asked ≡ asked_2 → sequence ≡ sequence_2 → base ≡ base_2 → rec ≡ rec_2
    → ◌≡◌ {A = Publication} (record { poll = poll; generation = generation; asked = asked; sequence = sequence; replied = replied; base = base; rec = rec })
    (record { poll = poll_2; generation = generation_2; asked = asked_2; sequence = sequence_2; replied = replied; base = base_2; rec = rec_2 })
publication_parts poll poll_2 generation generation_2 asked asked_2 sequence sequence_2 replied base base_2 rec rec_2 e1 e2 e3 e4 e5 e6 = rw (e1, e2, e3, e4, e5, e6) refl

-- what the machine publishes is the run's publication
pub publication_same : (trace : Trace) (segment : SegmentRun) (run : DaemonRun) (life : Life) (before : Asked) (order : Order) (asked : Reading) (seen : Option Sight) (replied : ℕ)
    → IsOrder trace run order → order.layout ≡ segment.layout → order.generation ≡ number_shown segment → asked ≡ reading_at trace.clock before.row → marker_seen seen ≡ before.marker → sequence_seen seen ≡ before.sequence
    → ShowsPast life.from (poll_of trace run before ∷ life.past) (daemon_step order.daemon (poll_of trace run before))
    → publication_for order asked seen replied ≡ publication_of segment life (poll_of trace run before) before replied
publication_same trace segment run life before order asked seen replied is same number at marked counted past =
    let poll_is : poll_for order asked seen ≡ poll_of trace run before = poll_same trace run before order asked seen is at marked in
    let even : even_after (period_of order.layout) order.generation ≡ number_at segment (segment.position + 1) =
    ap (λ (layout : Layout). even_after (period_of layout) order.generation) same ∙ ap (even_after (period_of segment.layout)) number ∙ even_next segment in
    let base : base_number (daemon_for order asked seen).base ≡ base_number (base_at life.from (poll_of trace run before ∷ life.past)) =
    ap (λ (poll : Poll). base_number (daemon_step order.daemon poll).base) poll_is ∙ ap base_number past.base in
    let rec : record_of (daemon_for order asked seen) (poll_for order asked seen) ≡ record_at life.from (poll_of trace run before) life.past =
    ap (λ (poll : Poll). record_of (daemon_step order.daemon poll) poll) poll_is ∙ record_of-shown life.from life.past (daemon_step order.daemon (poll_of trace run before)) (poll_of trace run before) past in
    publication_parts order.number run.polled (even_after (period_of order.layout) order.generation) (number_at segment (segment.position + 1)) asked.row before.row (sequence_seen seen) before.sequence replied
    (base_number (daemon_for order asked seen).base) (base_number (base_at life.from (poll_of trace run before ∷ life.past)))
    (record_of (daemon_for order asked seen) (poll_for order asked seen)) (record_at life.from (poll_of trace run before) life.past)
    is.number even (ap (λ (reading : Reading). reading.row) at) counted base rec

-- ---- the load

any_stop : (stop : Option ℕ) → IfSome stop (λ s. 0 ≤ s)
any_stop None = tt
any_stop (Some stop) = omega arith

-- the publication of a poll, of which no store is made
abbrev pub storing_for : Trace → HostRun → SegmentRun → DaemonRun → Life → Asked → (replied : ℕ) → Storing
storing_for trace host segment run life before replied =
    record { publication = publication_of segment life (poll_of trace run before) before replied; stores = 0; marked_at = before.marked_at; replied_at = host.done }

-- the poll in hand before its reply is taken
abbrev pub in_taking : Order → Reading → Option Sight → Option ℕ → PollMarks → Polling
in_taking order asked seen stop marks = record { machine = record { order = order; stage = stages.Taking asked seen }; stop = stop; marks = marks }

-- a poll whose reply is taken
pub record IsTaking (trace : Trace) (segment : SegmentRun) (run : DaemonRun) (before : Asked) (order : Order) (daemon : DaemonState) (asked : Reading) (seen : Option Sight) (stop : Option ℕ) (marks : PollMarks) : Type 0 where
  pub order_is : IsOrder trace run order
  pub same_layout : order.layout ≡ segment.layout
  pub numbered : order.generation ≡ number_shown segment
  pub at : asked ≡ reading_at trace.clock before.row
  pub marked : marker_seen seen ≡ before.marker
  pub counted : sequence_seen seen ≡ before.sequence
  pub looked : is_some before.marker ≡ is_some trace.page
  pub marked_at : IsMarkedAt before.marked_at marks
  pub same_stop : stop ≡ (poll_row trace run).stop
  pub same_polled : daemon.polled ≡ run.polled
  pub same_base : daemon.base ≡ run.base
  pub same_position : daemon.position ≡ segment.position

made_none : (trace : Trace) (host : HostRun) (segment : SegmentRun) (run : DaemonRun) (life : Life) (before : Asked) (order : Order) (daemon : DaemonState) (asked : Reading) (seen : Option Sight) (stop : Option ℕ) (marks : PollMarks) (replied : ℕ)
    → All IsClockRow trace.clock → IsWhere trace life order.daemon → IsTaking trace segment run before order daemon asked seen stop marks
    → IsMade trace segment (record run { life = Some (longer life (poll_of trace run before)) }) (storing_for trace host segment run life before replied) order daemon (taken_for order asked seen replied) stop (noted_clock host.done marks)
made_none trace host segment run life before order daemon asked seen stop marks replied rows alive is =
    let poll_is : poll_for order asked seen ≡ poll_of trace run before = poll_same trace run before order asked seen is.order_is is.at is.marked in
    let next : IsWhere trace (longer life (poll_of trace run before)) (daemon_step order.daemon (poll_of trace run before)) =
    where_next trace life order.daemon (poll_of trace run before) rows alive is.looked before.row refl in
    let bounds : KeepsBoundsOf (record_at life.from (poll_of trace run before) life.past) =
    subst KeepsBoundsOf (record_of-shown life.from life.past (daemon_step order.daemon (poll_of trace run before)) (poll_of trace run before) next.past)
    (record_bounds (daemon_step order.daemon (poll_of trace run before)) (poll_of trace run before) next.fits (moment_most trace.clock before.row rows)) in
    record {
      order_is = order_same trace run (record run { life = Some (longer life (poll_of trace run before)) }) order refl is.order_is;
      alive = subst (λ (poll : Poll). IsWhere trace (longer life (poll_of trace run before)) (daemon_step order.daemon poll)) (sym poll_is) next;
      same_layout = is.same_layout;
      same_publication = publication_same trace segment run life before order asked seen replied is.order_is is.same_layout is.numbered is.at is.marked is.counted next.past;
      same_stop = is.same_stop;
      marked = record { asked = refl; marked = rw is.marked_at.asked is.marked_at.marked };
      replied = refl;
      until = any_stop (poll_row trace run).stop;
      most = omega arith;
      same_polled = is.same_polled;
      same_base = is.same_base;
      goes = λ few. (
        record {
          odd = ap odd_after is.numbered ∙ odd_next segment;
          even = ap (even_after (period_of segment.layout)) is.numbered ∙ even_next segment;
          writes = λ some. absurd (omega (arith, some));
          begun = λ some. absurd (omega (arith, some));
          few = omega arith;
          bounds = bounds;
        },
        (refl, is.same_position),
      );
      ended = λ full. absurd (omega (arith, full));
    }

-- the reply is taken
pub taken_turned : (trace : Trace) (host : HostRun) (segment : SegmentRun) (words : List ℕ) (run : DaemonRun) (found : Option Life) (before : Asked) (order : Order) (daemon : DaemonState) (asked : Reading) (seen : Option Sight) (stop : Option ℕ) (marks : PollMarks) (replied : ℕ)
    → All IsClockRow trace.clock → ShowsSegment segment words → slice_index words 0 ≡ MAGIC → IsAlive trace found order.daemon → IsTaking trace segment run before order daemon asked seen stop marks
    → Turned trace host segment words words (taken trace segment run before (poll_of trace run before) replied host.done found) (polling_with daemon (polling_after trace host.done (in_taking order asked seen stop marks) replied))
taken_turned trace host segment words run None before order daemon asked seen stop marks replied rows shows magic alive is = absurd alive
taken_turned trace host segment words run (Some life) before order daemon asked seen stop marks replied rows shows magic alive is =
    let made = made_none trace host segment run life before order daemon asked seen stop marks replied rows alive is in
    let next_segment = after_segment trace segment (record run { life = Some (longer life (poll_of trace run before)) }) (storing_for trace host segment run life before replied) in
    record {
      leaves =
          subst (λ (p : Publication).
          Leaves trace host (taken trace segment run before (poll_of trace run before) replied host.done (Some life))
          (polling_with daemon (record {
            machine = record { order = order; stage = stages.Storing (taken_for order asked seen replied) (record { rec = p.rec; layout = order.layout; generation = order.generation; made = 0 }) };
            stop = stop;
            marks = noted_clock host.done marks;
          }))) (sym made.same_publication)
          (after_stores_shows trace host segment (record run { life = Some (longer life (poll_of trace run before)) }) (storing_for trace host segment run life before replied) order daemon (taken_for order asked seen replied) stop (noted_clock host.done marks) made);
      segment_shown = subst (λ (s : SegmentRun). ShowsSegment s words) (sym next_segment) shows;
      later = subst (λ (s : SegmentRun). IsSegmentLater segment s) (sym next_segment) (later_same segment);
      rest = record { same = λ word low high. refl };
      same_layout = ap (λ (s : SegmentRun). s.layout) next_segment;
      magic =
          magic_while (taken trace segment run before (poll_of trace run before) replied host.done (Some life)).daemon.work (taken trace segment run before (poll_of trace run before) replied host.done (Some life)).daemon.life words magic;
    }
