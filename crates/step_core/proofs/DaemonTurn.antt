-- One turn of the daemon: what is in hand, and the words, show the run after it.
use Rattle.std.proofs.Common.{◌≡◌, ℕ, ◌+◌, ◌-◌, ◌<◌, ◌^◌, Bool, false, List, [], Option, Some, None, length, refl, ap, sym, ◌∙◌, subst, arith}
use Rattle.std.specs.Prelude.{slice_get, slice_index, slice_index_or}
use Rattle.std.proofs.lemmas.Option.{get_or_from_slice_get}
use Rattle.generation_word.specs.declared.layout.Layout.{Layout}
use Rattle.clock_gate.specs.declared.clock_row.Reading.{Reading}
use Rattle.clock_gate.specs.declared.trace.PollRow.{PollRow}
use Rattle.clock_gate.specs.declared.trace.Trace.{Trace}
use Rattle.clock_gate.specs.Trace.{IsLawfulTrace}
use Rattle.seqlock.specs.Tries.{SeqlockRead}
use Rattle.vmclock_page.specs.Host.{Host}
use Rattle.segment_layout.specs.declared.start.Start.{Start}
use Rattle.segment_layout.specs.declared.words.TheConstants.{MAGIC}
use Rattle.status_machine.specs.declared.daemon.Daemon.{Daemon}
use Rattle.status_machine.specs.Poll.{heard_of}
use Rattle.segment_layout.specs.Image.{is_old_header}
use Rattle.segment_run.specs.SegmentRun.{SegmentRun, header_shown, is_old, start_found}
use Rattle.segment_run.specs.ShowsSegment.{ShowsSegment}
use Rattle.segment_run.proofs.SegmentLater.{later_same}
use Rattle.shm_writer.specs.Publisher.{Publishing}
use Rattle.writer_reopen.specs.declared.order.Order.{Order}
use Rattle.writer_reopen.specs.declared.stage.Sight.{Sight}
use Rattle.writer_reopen.specs.declared.stage.Stage.{Stage}
use Rattle.writer_reopen.specs.declared.stage.Stage.TheVariants as stages
use Rattle.writer_reopen.specs.declared.stage.Taken.{Taken}
use Rattle.writer_reopen.specs.Opening.{OpenerState, IsAdmitted, opening_act}
use Rattle.writer_reopen.specs.PollMachine.{polling_act}
use Rattle.abstract_run.specs.HostRun.{HostRun}
use Rattle.abstract_run.specs.PageReading.{PageReading}
use Rattle.abstract_run.specs.DaemonRun.{Life, Asked, Storing, Work, Resting, Opening, Asking, Looking, Taking, Writing, DaemonRun, no_poll, poll_row, poll_of, ask_by, taken, opening_step, poll_begins, next_poll, daemon_turn_by, daemon_turn}
use Rattle.abstract_run.specs.Given.{AreRows}
use Rattle.step_core.specs.declared.hand.Hand.{Hand}
use Rattle.step_core.specs.declared.hand.Hand.TheVariants as hands
use Rattle.step_core.specs.declared.hand.Job.{Job}
use Rattle.step_core.specs.declared.hand.Polling.{Polling}
use Rattle.step_core.specs.declared.hand.Resumed.{Resumed}
use Rattle.step_core.specs.declared.marks.PollMarks.{PollMarks}
use Rattle.step_core.specs.SharedWords.{after_act, value_of}
use Rattle.step_core.specs.SharedDaemon.{DaemonState, job_of, no_poll_marks, polling_for, hand_for, daemon_takes, daemon_ready_by, daemon_ready, hand_act, daemon_act, polling_with, polling_after, resting, daemon_after_by, daemon_after}
use Rattle.step_core.specs.ShowsHost.{ShowsHost}
use Rattle.step_core.specs.ShowsDaemon.{IsAlive, ShowsResumed, IsJob, ShowsOpening, IsOrder, ShowsPoll, ShowsWork, ShowsIdle, ShowsDaemon, HasMagicIn, HasMagicWhile, HasMagicFor}
use Rattle.step_core.proofs.SegmentOpen.{IsInOpening}
use Rattle.step_core.proofs.SegmentOpening.{opening_shows, opening_begins, magic_begins}
use Rattle.step_core.proofs.DaemonLeaves.{Turned}
use Rattle.step_core.proofs.DaemonStore.{in_stores}
use Rattle.step_core.proofs.DaemonStoring.{store_turned}
use Rattle.step_core.proofs.DaemonTaking.{in_taking, taken_turned}
use Rattle.step_core.proofs.DaemonLooking.{in_looking, in_asking, IsOpenPoll, look_turned, ask_turned}
use Rattle.step_core.proofs.Admits.{opening_admits}
use Rattle.step_core.proofs.DaemonOpening.{values_of, opener_at}
use Rattle.step_core.proofs.DaemonOpenStep.{opening_act_is, opening_turned}

-- a turn comes in a lawful trace, on words that show the host and the segment
pub record IsTurnOn (trace : Trace) (host : HostRun) (machine : Host) (segment : SegmentRun) (words : List ℕ) : Type 0 where
  pub lawful : IsLawfulTrace trace
  pub rows : AreRows trace.page (length trace.clock) trace.host
  pub hosted : ShowsHost trace.page trace.host host machine words
  pub shows : ShowsSegment segment words
  pub layout_is : segment.layout ≡ trace.layout
  pub fits : slice_index segment.image 1 < 2 ^ 64

-- a turn of the daemon with this in hand
abbrev pub HandTurned : Trace → HostRun → SegmentRun → List ℕ → DaemonRun → Work → DaemonState → Hand → Type 0
HandTurned trace host segment words run work daemon hand =
    Turned trace host segment words (after_act words (hand_act hand)) (daemon_turn_by trace host segment run work) (daemon_after_by trace host.done (resting daemon) (value_of words (hand_act hand)) hand)

-- the numbers of the daemon
pub record SameNumbers (segment : SegmentRun) (run : DaemonRun) (daemon : DaemonState) : Type 0 where
  pub same_polled : daemon.polled ≡ run.polled
  pub same_base : daemon.base ≡ run.base
  pub same_position : daemon.position ≡ segment.position

-- ---- word 0 while the daemon lives

alive_magic : (trace : Trace) (life : Option Life) (daemon : Daemon) (words : List ℕ) → IsAlive trace life daemon → HasMagicWhile Asking life words → slice_index words 0 ≡ MAGIC
alive_magic trace None daemon words alive magic = absurd alive
alive_magic trace (Some life) daemon words alive magic = magic

look_magic : (row marked_at : ℕ) (reading : PageReading) (life : Option Life) (words : List ℕ) → HasMagicWhile (Looking row reading marked_at) life words → HasMagicWhile Asking life words
look_magic row marked_at reading None words magic = tt
look_magic row marked_at reading (Some life) words magic = magic

take_magic : (asked : Asked) (life : Option Life) (words : List ℕ) → HasMagicWhile (Taking asked) life words → HasMagicWhile Asking life words
take_magic asked None words magic = tt
take_magic asked (Some life) words magic = magic

store_magic : (storing : Storing) (life : Option Life) (words : List ℕ) → HasMagicWhile (Writing storing) life words → HasMagicWhile Asking life words
store_magic storing None words magic = tt
store_magic storing (Some life) words magic = magic

-- ---- a poll in hand

-- the first load of the clock
asking_turned : (trace : Trace) (host : HostRun) (machine : Host) (segment : SegmentRun) (words : List ℕ) (run : DaemonRun) (order : Order) (daemon : DaemonState) (stop : Option ℕ) (marks : PollMarks)
    → IsTurnOn trace host machine segment words → IsOpenPoll trace segment run order daemon stop → slice_index words 0 ≡ MAGIC → marks.has_asked ≡ false
    → HandTurned trace host segment words run Asking daemon (hands.Polling (in_asking order stop marks))
asking_turned trace host machine segment words run order daemon stop marks on is magic fresh =
    let some = on.lawful.tries.0 in
    subst (λ (row : ℕ).
    Turned trace host segment words words (ask_by trace segment run row host.done trace.page) (polling_with (resting daemon) (polling_after trace host.done (in_asking order stop marks) (slice_index words 23)))) on.hosted.clock
    (ask_turned trace host segment words run order (resting daemon) stop marks (slice_index words 23) (omega (arith, some)) on.shows magic
    (record { untaken = is.untaken; idle = is.idle; same_stop = is.same_stop; same_polled = is.same_polled; same_base = is.same_base; same_position = is.same_position }) fresh)

-- a load of the page
looking_turned : (trace : Trace) (host : HostRun) (machine : Host) (segment : SegmentRun) (words : List ℕ) (run : DaemonRun) (row marked_at : ℕ) (reading : PageReading) (order : Order) (asked : Reading) (read : SeqlockRead) (daemon : DaemonState) (stop : Option ℕ) (marks : PollMarks)
    → IsTurnOn trace host machine segment words → SameNumbers segment run daemon → ShowsResumed trace segment run.life daemon.resumed → HasMagicWhile Asking run.life words → stop ≡ (poll_row trace run).stop
    → ShowsPoll trace host segment run (Looking row reading marked_at) order (stages.Looking asked read) marks
    → HandTurned trace host segment words run (Looking row reading marked_at) daemon (hands.Polling (in_looking order asked read stop marks))
looking_turned trace host machine segment words run row marked_at reading order asked read daemon stop marks on same idle magic same_stop is =
    look_turned trace host machine segment words run row marked_at reading order (resting daemon) asked read stop marks on.rows on.hosted on.shows (alive_magic trace run.life order.daemon words is.0.alive magic)
    (record { untaken = is.0; idle = idle; same_stop = same_stop; same_polled = same.same_polled; same_base = same.same_base; same_position = same.same_position })
    is.1.0 is.1.1.0 is.1.1.1.1 is.1.1.1.0

-- the second load of the clock
taking_turned : (trace : Trace) (host : HostRun) (machine : Host) (segment : SegmentRun) (words : List ℕ) (run : DaemonRun) (before : Asked) (order : Order) (asked : Reading) (seen : Option Sight) (daemon : DaemonState) (stop : Option ℕ) (marks : PollMarks)
    → IsTurnOn trace host machine segment words → SameNumbers segment run daemon → HasMagicWhile Asking run.life words → stop ≡ (poll_row trace run).stop
    → ShowsPoll trace host segment run (Taking before) order (stages.Taking asked seen) marks
    → HandTurned trace host segment words run (Taking before) daemon (hands.Polling (in_taking order asked seen stop marks))
taking_turned trace host machine segment words run before order asked seen daemon stop marks on same magic same_stop is =
    subst (λ (row : ℕ).
    Turned trace host segment words words (taken trace segment run before (poll_of trace run before) row host.done run.life)
    (polling_with (resting daemon) (polling_after trace host.done (in_taking order asked seen stop marks) (slice_index words 23)))) on.hosted.clock
    (taken_turned trace host segment words run run.life before order (resting daemon) asked seen stop marks (slice_index words 23) on.lawful.clock on.shows (alive_magic trace run.life order.daemon words is.0.alive magic) is.0.alive
    (record {
      order_is = is.0.order_is;
      same_layout = is.0.order_is.layout ∙ sym on.layout_is;
      numbered = is.0.numbered;
      at = is.1.0;
      marked = is.1.1.1.0;
      counted = is.1.1.1.1.0;
      looked = is.1.1.1.1.1;
      marked_at = is.1.1.0;
      same_stop = same_stop;
      same_polled = same.same_polled;
      same_base = same.same_base;
      same_position = same.same_position;
    }))

-- a store
writing_turned : (trace : Trace) (host : HostRun) (machine : Host) (segment : SegmentRun) (words : List ℕ) (run : DaemonRun) (storing : Storing) (order : Order) (taken : Taken) (update : Publishing) (daemon : DaemonState) (stop : Option ℕ) (marks : PollMarks)
    → IsTurnOn trace host machine segment words → SameNumbers segment run daemon → HasMagicWhile Asking run.life words → stop ≡ (poll_row trace run).stop
    → ShowsPoll trace host segment run (Writing storing) order (stages.Storing taken update) marks
    → HandTurned trace host segment words run (Writing storing) daemon (hands.Polling (record { machine = record { order = order; stage = stages.Storing taken update }; stop = stop; marks = marks }))
writing_turned trace host machine segment words run storing order taken update daemon stop marks on same magic same_stop is =
    subst (λ (u : Publishing).
    HandTurned trace host segment words run (Writing storing) daemon (hands.Polling (record { machine = record { order = order; stage = stages.Storing taken u }; stop = stop; marks = marks }))) (sym is.1.1.0)
    (store_turned trace host segment words run storing order (resting daemon) taken stop marks (value_of words (polling_act (in_stores order taken storing stop marks).machine))
    on.shows (alive_magic trace run.life taken.daemon words is.0.alive magic) (is.0.order_is.layout ∙ sym on.layout_is) is.0 is.1.0 is.1.1.1.0 is.1.1.1.1 same_stop
    same.same_polled same.same_base same.same_position)

-- ---- an opening in hand

-- the opener that was given these values
pub machine_is : (machine : OpenerState) (layout : Layout) (values : List ℕ) → machine.layout ≡ layout → machine.values ≡ values → machine ≡ record { layout = layout; values = values }
machine_is machine layout values same are = rw (← same, ← are) refl

-- where an opening in hand stands
pub opens_stands : (trace : Trace) (segment : SegmentRun) (start : Start) (old : Bool) (steps : ℕ) (opener : OpenerState) → segment.layout ≡ trace.layout → (is : ShowsOpening trace segment start old steps opener) → IsInOpening segment start old steps is.header
opens_stands trace segment start old steps opener layout_is is =
    record {
      stands = is.stands;
      few = is.few;
      is_old = subst (λ (layout : Layout). old ≡ is_old_header layout is.header) (sym layout_is) is.is_old;
      tells = is.tells;
      unchanged = is.unchanged;
      unheaded = is.unheaded;
    }

-- and what its next step is given
pub opens_value : (trace : Trace) (segment : SegmentRun) (words : List ℕ) (start : Start) (old : Bool) (steps : ℕ) (opener : OpenerState) → segment.layout ≡ trace.layout → ShowsSegment segment words → HasMagicIn start steps words
    → (is : ShowsOpening trace segment start old steps opener) → value_of words (opening_act (opener_at trace.layout (values_of is.first is.header start) steps)) ≡ slice_index (values_of is.first is.header start) steps
opens_value trace segment words start old steps opener layout_is shows magic is =
    let step = opening_shows segment start old steps is.header words shows (opens_stands trace segment start old steps opener layout_is is) magic in
    ap (value_of words) (opening_act_is trace segment start old steps is.first is.header layout_is is.few) ∙ step.value is.first is.begun

opens_turned : (trace : Trace) (host : HostRun) (machine : Host) (segment : SegmentRun) (words : List ℕ) (run : DaemonRun) (start : Start) (old : Bool) (steps : ℕ) (opener : OpenerState) (job : Job) (daemon : DaemonState)
    → IsTurnOn trace host machine segment words → SameNumbers segment run daemon → HasMagicIn start steps words → ShowsOpening trace segment start old steps opener → IsJob trace run job
    → HandTurned trace host segment words run (Opening start old steps) daemon (hands.Opening (record { machine = opener; job = job }))
opens_turned trace host machine segment words run start old steps opener job daemon on same magic is job_is =
    subst (λ (m : OpenerState).
    HandTurned trace host segment words run (Opening start old steps) daemon (hands.Opening (record { machine = m; job = job }))) (sym (machine_is opener trace.layout _ is.same_layout is.values))
    (opening_turned trace host segment words run (resting daemon) job start old steps is.first is.header
    (record {
      slow = on.lawful.drift;
      layout_is = on.layout_is;
      stands = opens_stands trace segment start old steps opener on.layout_is is;
      admitted = is.admitted;
      job_is = job_is;
      same_polled = same.same_polled;
      same_base = same.same_base;
      same_position = same.same_position;
    }) on.shows magic (opens_value trace segment words start old steps opener on.layout_is on.shows magic is))

-- ---- the first step of a poll

row_next : (trace : Trace) (run : DaemonRun) (polled : ℕ) (row : PollRow) → run.polled ≡ polled + 1 → slice_get trace.polls polled ≡ Some row → poll_row trace run ≡ row
row_next trace run polled row next found =
    let place : run.polled - 1 ≡ polled = omega (arith, next) in
    ap (λ (n : ℕ). slice_index_or trace.polls n no_poll) place ∙ get_or_from_slice_get trace.polls polled row no_poll found

-- that of a stopped daemon is of an opening, which begins with the words of the segment
pub begins_admits : (trace : Trace) (segment : SegmentRun) (words : List ℕ) → segment.layout ≡ trace.layout → slice_index segment.image 1 < 2 ^ 64 → ShowsSegment segment words → IsAdmitted trace.layout (values_of (slice_index words 0) (header_shown segment) (start_found segment))
begins_admits trace segment words layout_is fits shows =
    subst (λ (layout : Layout). IsAdmitted layout (values_of (slice_index words 0) (header_shown segment) (start_found segment))) layout_is (opening_admits segment words fits shows)

begins_turned : (trace : Trace) (host : HostRun) (machine : Host) (segment : SegmentRun) (words : List ℕ) (run : DaemonRun) (job : Job) (daemon : DaemonState)
    → IsTurnOn trace host machine segment words → SameNumbers segment run daemon → IsJob trace run job
    → Turned trace host segment words (after_act words (hand_act (hands.Opening (record { machine = record { layout = trace.layout; values = [] }; job = job })))) (opening_step trace segment run (start_found segment) (is_old segment) 0)
    (daemon_after_by trace host.done (resting daemon) (value_of words (hand_act (hands.Opening (record { machine = record { layout = trace.layout; values = [] }; job = job })))) (hands.Opening (record { machine = record { layout = trace.layout; values = [] }; job = job })))
begins_turned trace host machine segment words run job daemon on same job_is =
    opening_turned trace host segment words run (resting daemon) job (start_found segment) (is_old segment) 0 (value_of words (opening_act (record { layout = trace.layout; values = [] }))) (header_shown segment)
    (record {
      slow = on.lawful.drift;
      layout_is = on.layout_is;
      stands = opening_begins segment on.shows.is;
      admitted = begins_admits trace segment words on.layout_is on.fits on.shows;
      job_is = job_is;
      same_polled = same.same_polled;
      same_base = same.same_base;
      same_position = same.same_position;
    }) on.shows (magic_begins segment words on.shows) refl

-- a poll in hand, by its stage
polls_turned : (trace : Trace) (host : HostRun) (machine : Host) (segment : SegmentRun) (words : List ℕ) (run : DaemonRun) (work : Work) (order : Order) (stage : Stage) (daemon : DaemonState) (stop : Option ℕ) (marks : PollMarks)
    → IsTurnOn trace host machine segment words → SameNumbers segment run daemon → ShowsIdle trace segment work run.life daemon.resumed → HasMagicWhile work run.life words → stop ≡ (poll_row trace run).stop
    → ShowsPoll trace host segment run work order stage marks
    → HandTurned trace host segment words run work daemon (hands.Polling (record { machine = record { order = order; stage = stage }; stop = stop; marks = marks }))
polls_turned trace host machine segment words run Resting order stages.Asking daemon stop marks on same idle magic same_stop is = absurd is
polls_turned trace host machine segment words run Resting order (stages.Looking asked read) daemon stop marks on same idle magic same_stop is = absurd is
polls_turned trace host machine segment words run Resting order (stages.Taking asked seen) daemon stop marks on same idle magic same_stop is = absurd is
polls_turned trace host machine segment words run Resting order (stages.Storing taken update) daemon stop marks on same idle magic same_stop is = absurd is
polls_turned trace host machine segment words run (Opening start old steps) order stages.Asking daemon stop marks on same idle magic same_stop is = absurd is
polls_turned trace host machine segment words run (Opening start old steps) order (stages.Looking asked read) daemon stop marks on same idle magic same_stop is = absurd is
polls_turned trace host machine segment words run (Opening start old steps) order (stages.Taking asked seen) daemon stop marks on same idle magic same_stop is = absurd is
polls_turned trace host machine segment words run (Opening start old steps) order (stages.Storing taken update) daemon stop marks on same idle magic same_stop is = absurd is
polls_turned trace host machine segment words run Asking order stages.Asking daemon stop marks on same idle magic same_stop is =
    asking_turned trace host machine segment words run order daemon stop marks on
    (record { untaken = is.0; idle = idle; same_stop = same_stop; same_polled = same.same_polled; same_base = same.same_base; same_position = same.same_position })
    (alive_magic trace run.life order.daemon words is.0.alive magic) is.1
polls_turned trace host machine segment words run Asking order (stages.Looking asked read) daemon stop marks on same idle magic same_stop is = absurd is
polls_turned trace host machine segment words run Asking order (stages.Taking asked seen) daemon stop marks on same idle magic same_stop is = absurd is
polls_turned trace host machine segment words run Asking order (stages.Storing taken update) daemon stop marks on same idle magic same_stop is = absurd is
polls_turned trace host machine segment words run (Looking row reading marked_at) order stages.Asking daemon stop marks on same idle magic same_stop is = absurd is
polls_turned trace host machine segment words run (Looking row reading marked_at) order (stages.Looking asked read) daemon stop marks on same idle magic same_stop is =
    looking_turned trace host machine segment words run row marked_at reading order asked read daemon stop marks on same idle (look_magic row marked_at reading run.life words magic) same_stop is
polls_turned trace host machine segment words run (Looking row reading marked_at) order (stages.Taking asked seen) daemon stop marks on same idle magic same_stop is = absurd is
polls_turned trace host machine segment words run (Looking row reading marked_at) order (stages.Storing taken update) daemon stop marks on same idle magic same_stop is = absurd is
polls_turned trace host machine segment words run (Taking before) order stages.Asking daemon stop marks on same idle magic same_stop is = absurd is
polls_turned trace host machine segment words run (Taking before) order (stages.Looking asked read) daemon stop marks on same idle magic same_stop is = absurd is
polls_turned trace host machine segment words run (Taking before) order (stages.Taking asked seen) daemon stop marks on same idle magic same_stop is =
    taking_turned trace host machine segment words run before order asked seen daemon stop marks on same (take_magic before run.life words magic) same_stop is
polls_turned trace host machine segment words run (Taking before) order (stages.Storing taken update) daemon stop marks on same idle magic same_stop is = absurd is
polls_turned trace host machine segment words run (Writing storing) order stages.Asking daemon stop marks on same idle magic same_stop is = absurd is
polls_turned trace host machine segment words run (Writing storing) order (stages.Looking asked read) daemon stop marks on same idle magic same_stop is = absurd is
polls_turned trace host machine segment words run (Writing storing) order (stages.Taking asked seen) daemon stop marks on same idle magic same_stop is = absurd is
polls_turned trace host machine segment words run (Writing storing) order (stages.Storing taken update) daemon stop marks on same idle magic same_stop is =
    writing_turned trace host machine segment words run storing order taken update daemon stop marks on same (store_magic storing run.life words magic) same_stop is

-- ---- the first step of a poll, and of any work

begins_order : (trace : Trace) (run : DaemonRun) (daemon : DaemonState) (resumed : Resumed) (row : PollRow) → daemon.polled ≡ run.polled → slice_get trace.polls run.polled ≡ Some row
    → IsOrder trace (record run { polled = run.polled + 1 }) (polling_for trace resumed (daemon.polled + 1) (job_of row)).machine.order
begins_order trace run daemon resumed row same found =
    let row_is : poll_row trace (record run { polled = run.polled + 1 }) ≡ row = row_next trace (record run { polled = run.polled + 1 }) run.polled row refl found in
    record {
      layout = refl;
      number = ap (λ (n : ℕ). n + 1) same;
      heard = ap (λ (r : PollRow). heard_of r.reply) (sym row_is);
      stop = ap (λ (r : PollRow). r.stop) (sym row_is);
      tries = refl;
    }

-- a poll's row is taken
first_turned : (trace : Trace) (host : HostRun) (machine : Host) (segment : SegmentRun) (words : List ℕ) (run : DaemonRun) (daemon : DaemonState) (row : PollRow) (life : Option Life) (resumed : Option Resumed)
    → IsTurnOn trace host machine segment words → SameNumbers segment run daemon → slice_get trace.polls run.polled ≡ Some row → run.life ≡ life → daemon.resumed ≡ resumed → ShowsResumed trace segment life resumed → HasMagicWhile Resting life words
    → Turned trace host segment words (after_act words (hand_act (hand_for trace (daemon.polled + 1) (job_of row) resumed))) (poll_begins trace host segment (record run { polled = run.polled + 1 }) life)
    (daemon_after_by trace host.done (resting (record daemon { polled = daemon.polled + 1 })) (value_of words (hand_act (hand_for trace (daemon.polled + 1) (job_of row) resumed))) (hand_for trace (daemon.polled + 1) (job_of row) resumed))
first_turned trace host machine segment words run daemon row None None on same found lives stands idle magic =
    let row_is : poll_row trace (record run { polled = run.polled + 1 }) ≡ row = row_next trace (record run { polled = run.polled + 1 }) run.polled row refl found in
    begins_turned trace host machine segment words (record run { polled = run.polled + 1 }) (job_of row) (record daemon { polled = daemon.polled + 1 }) on
    (record { same_polled = ap (λ (n : ℕ). n + 1) same.same_polled; same_base = same.same_base; same_position = same.same_position })
    (record { heard = ap (λ (r : PollRow). heard_of r.reply) (sym row_is); stop = ap (λ (r : PollRow). r.stop) (sym row_is) })
first_turned trace host machine segment words run daemon row None (Some resumed) on same found lives stands idle magic = absurd idle
first_turned trace host machine segment words run daemon row (Some life) None on same found lives stands idle magic = absurd idle
first_turned trace host machine segment words run daemon row (Some life) (Some resumed) on same found lives stands idle magic =
    let order_is = begins_order trace run daemon resumed row same.same_polled found in
    asking_turned trace host machine segment words (record run { polled = run.polled + 1 }) (polling_for trace resumed (daemon.polled + 1) (job_of row)).machine.order (record daemon { polled = daemon.polled + 1 }) row.stop no_poll_marks on
    (record {
      untaken = record { order_is = order_is; alive = subst (λ (l : Option Life). IsAlive trace l resumed.daemon) (sym lives) idle.0; numbered = idle.1 };
      idle = subst (λ (l : Option Life). ShowsResumed trace segment l daemon.resumed) (sym lives) (subst (λ (r : Option Resumed). ShowsResumed trace segment (Some life) r) (sym stands) idle);
      same_stop = order_is.stop;
      same_polled = ap (λ (n : ℕ). n + 1) same.same_polled;
      same_base = same.same_base;
      same_position = same.same_position;
    }) magic refl

-- a turn of the daemon that is ready like this
abbrev pub ReadyTurned : Trace → HostRun → SegmentRun → List ℕ → DaemonRun → Work → DaemonState → Type 0
ReadyTurned trace host segment words run work ready =
    Turned trace host segment words (after_act words (daemon_act ready)) (daemon_turn_by trace host segment run work) (daemon_after trace host.done ready (value_of words (daemon_act ready)))

-- nothing is in hand
rest_turned : (trace : Trace) (host : HostRun) (machine : Host) (segment : SegmentRun) (words : List ℕ) (run : DaemonRun) (daemon : DaemonState) (found : Option PollRow)
    → IsTurnOn trace host machine segment words → SameNumbers segment run daemon → run.work ≡ Resting → daemon.hand ≡ hands.Resting → slice_get trace.polls run.polled ≡ found → ShowsResumed trace segment run.life daemon.resumed → HasMagicWhile Resting run.life words
    → Turned trace host segment words (after_act words (daemon_act (daemon_takes trace daemon found))) (next_poll trace host segment run found)
    (daemon_after trace host.done (daemon_takes trace daemon found) (value_of words (daemon_act (daemon_takes trace daemon found))))
rest_turned trace host machine segment words run daemon None on same at_rest holds found idle magic =
    subst (λ (hand : Hand).
    Turned trace host segment words (after_act words (hand_act hand)) (next_poll trace host segment run None) (daemon_after_by trace host.done (resting daemon) (value_of words (hand_act hand)) hand)) (sym holds)
    (record {
      leaves = record {
        shows = record {
          same_polled = same.same_polled;
          same_base = same.same_base;
          same_position = same.same_position;
          work = subst (λ (work : Work). ShowsWork trace host segment run work hands.Resting) (sym at_rest) tt;
          idle = subst (λ (work : Work). ShowsIdle trace segment work run.life daemon.resumed) (sym at_rest) idle;
        };
        told = refl;
      };
      segment_shown = on.shows;
      later = later_same segment;
      rest = record { same = λ word low high. refl };
      same_layout = refl;
      magic = subst (λ (work : Work). HasMagicWhile work run.life words) (sym at_rest) magic;
    })
rest_turned trace host machine segment words run daemon (Some row) on same at_rest holds found idle magic =
    first_turned trace host machine segment words run daemon row run.life daemon.resumed on same found refl refl idle magic

-- the stop of a poll in hand, and its stage
pub poll_stop : (trace : Trace) (host : HostRun) (segment : SegmentRun) (run : DaemonRun) (work : Work) (polling : Polling) → ShowsWork trace host segment run work (hands.Polling polling) → polling.stop ≡ (poll_row trace run).stop
poll_stop trace host segment run Resting polling shows = shows.0
poll_stop trace host segment run (Opening start old steps) polling shows = shows.0
poll_stop trace host segment run Asking polling shows = shows.0
poll_stop trace host segment run (Looking row reading marked_at) polling shows = shows.0
poll_stop trace host segment run (Taking before) polling shows = shows.0
poll_stop trace host segment run (Writing storing) polling shows = shows.0

pub poll_stage : (trace : Trace) (host : HostRun) (segment : SegmentRun) (run : DaemonRun) (work : Work) (polling : Polling) → ShowsWork trace host segment run work (hands.Polling polling)
    → ShowsPoll trace host segment run work polling.machine.order polling.machine.stage polling.marks
poll_stage trace host segment run Resting polling shows = shows.1
poll_stage trace host segment run (Opening start old steps) polling shows = shows.1
poll_stage trace host segment run Asking polling shows = shows.1
poll_stage trace host segment run (Looking row reading marked_at) polling shows = shows.1
poll_stage trace host segment run (Taking before) polling shows = shows.1
poll_stage trace host segment run (Writing storing) polling shows = shows.1

by_hand : (trace : Trace) (host : HostRun) (machine : Host) (segment : SegmentRun) (words : List ℕ) (run : DaemonRun) (daemon : DaemonState) (work : Work) (hand : Hand)
    → IsTurnOn trace host machine segment words → SameNumbers segment run daemon → run.work ≡ work → daemon.hand ≡ hand
    → ShowsWork trace host segment run work hand → ShowsIdle trace segment work run.life daemon.resumed → HasMagicWhile work run.life words
    → ReadyTurned trace host segment words run work (daemon_ready_by trace daemon hand)
by_hand trace host machine segment words run daemon Resting hands.Resting on same works holds shows idle magic =
    subst (λ (polled : ℕ).
    Turned trace host segment words (after_act words (daemon_act (daemon_takes trace daemon (slice_get trace.polls polled)))) (next_poll trace host segment run (slice_get trace.polls run.polled))
    (daemon_after trace host.done (daemon_takes trace daemon (slice_get trace.polls polled)) (value_of words (daemon_act (daemon_takes trace daemon (slice_get trace.polls polled)))))) (sym same.same_polled)
    (rest_turned trace host machine segment words run daemon (slice_get trace.polls run.polled) on same works holds refl idle magic)
by_hand trace host machine segment words run daemon (Opening start old steps) (hands.Opening reopening) on same works holds shows idle magic =
    subst (λ (hand : Hand). HandTurned trace host segment words run (Opening start old steps) daemon hand) (sym holds)
    (opens_turned trace host machine segment words run start old steps reopening.machine reopening.job daemon on same magic shows.0 shows.1)
by_hand trace host machine segment words run daemon work (hands.Polling polling) on same works holds shows idle magic =
    subst (λ (hand : Hand). HandTurned trace host segment words run work daemon hand) (sym holds)
    (polls_turned trace host machine segment words run work polling.machine.order polling.machine.stage daemon polling.stop polling.marks on same idle magic (poll_stop trace host segment run work polling shows) (poll_stage trace host segment run work polling shows))
by_hand trace host machine segment words run daemon Resting (hands.Opening reopening) on same works holds shows idle magic = absurd shows
by_hand trace host machine segment words run daemon Asking (hands.Opening reopening) on same works holds shows idle magic = absurd shows
by_hand trace host machine segment words run daemon (Looking row reading marked_at) (hands.Opening reopening) on same works holds shows idle magic = absurd shows
by_hand trace host machine segment words run daemon (Taking before) (hands.Opening reopening) on same works holds shows idle magic = absurd shows
by_hand trace host machine segment words run daemon (Writing storing) (hands.Opening reopening) on same works holds shows idle magic = absurd shows
by_hand trace host machine segment words run daemon (Opening start old steps) hands.Resting on same works holds shows idle magic = absurd shows
by_hand trace host machine segment words run daemon Asking hands.Resting on same works holds shows idle magic = absurd shows
by_hand trace host machine segment words run daemon (Looking row reading marked_at) hands.Resting on same works holds shows idle magic = absurd shows
by_hand trace host machine segment words run daemon (Taking before) hands.Resting on same works holds shows idle magic = absurd shows
by_hand trace host machine segment words run daemon (Writing storing) hands.Resting on same works holds shows idle magic = absurd shows

-- ---- any turn

-- one turn of the daemon: what is in hand, the words and what is told are those of the run's turn
pub daemon_turn_shows : (trace : Trace) (host : HostRun) (machine : Host) (segment : SegmentRun) (words : List ℕ) (run : DaemonRun) (daemon : DaemonState)
    → IsLawfulTrace trace → AreRows trace.page (length trace.clock) trace.host → ShowsHost trace.page trace.host host machine words → ShowsSegment segment words → segment.layout ≡ trace.layout → slice_index segment.image 1 < 2 ^ 64
    → ShowsDaemon trace host segment run daemon → HasMagicFor run words
    → Turned trace host segment words (after_act words (daemon_act (daemon_ready trace daemon))) (daemon_turn trace host segment run)
    (daemon_after trace host.done (daemon_ready trace daemon) (value_of words (daemon_act (daemon_ready trace daemon))))
daemon_turn_shows trace host machine segment words run daemon lawful rows hosted shows layout_is fits is magic =
    by_hand trace host machine segment words run daemon run.work daemon.hand
    (record { lawful = lawful; rows = rows; hosted = hosted; shows = shows; layout_is = layout_is; fits = fits })
    (record { same_polled = is.same_polled; same_base = is.same_base; same_position = is.same_position })
    refl refl is.work is.idle magic
