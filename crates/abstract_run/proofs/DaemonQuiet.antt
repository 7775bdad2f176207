-- The daemon's turns tell of no answer, and the position never falls.
use Rattle.std.proofs.Common.{ℕ, ◌+◌, ◌≤◌, Bool, true, false, List, [], ◌∷◌, Option, Some, None, arith}
use Rattle.std.specs.Prelude.{◌==◌, slice_get, if◌then◌else◌}
use Rattle.clock_gate.specs.declared.trace.PollRow.{PollRow}
use Rattle.clock_gate.specs.declared.trace.Trace.{Trace}
use Rattle.vmclock_page.specs.Host.{count_of}
use Rattle.segment_layout.specs.declared.publication.Publication.{Publication}
use Rattle.segment_layout.specs.declared.start.Start.{Start}
use Rattle.segment_layout.specs.declared.start.Start.TheVariants.{Fresh, Kept, Torn}
use Rattle.status_machine.specs.declared.poll.Poll.{Poll}
use Rattle.segment_run.specs.SegmentRun.{SegmentRun, number_shown, opening_effect, opening_length, headed, opened_update, moved_once, stored, stored_by, is_old, start_found, one_store_more}
use Rattle.abstract_run.specs.declared.event.Event.{Event}
use Rattle.abstract_run.specs.declared.event.Event.TheVariants as events
use Rattle.abstract_run.specs.HostRun.{HostRun, clocks_at, page_shown}
use Rattle.abstract_run.specs.PageReading.{PageAfter, Looks, Saw, Missed, page_load, is_marker_next}
use Rattle.abstract_run.specs.DaemonRun as run_daemon
use Rattle.abstract_run.specs.DaemonRun.{Life, Asked, Storing, Work, Resting, Opening, Asking, Looking, Taking, Writing, DaemonRun, DaemonTurn, daemon_turn, marked_by}

-- ---- the daemon's turns tell of no answer, and the position never falls

-- none of these events is an answer
abbrev pub AreQuiet : List Event → Type 0
AreQuiet [] = Unit {0}
AreQuiet (events.Opened poll begins ∷ told) = AreQuiet told
AreQuiet (events.Moved poll position generation ∷ told) = AreQuiet told
AreQuiet (events.Published position publication marked_at replied_at ∷ told) = AreQuiet told
AreQuiet (events.Skipped poll first last ∷ told) = AreQuiet told
AreQuiet (events.Stopped poll stores ∷ told) = AreQuiet told
AreQuiet (events.Answered which call answer trail ∷ told) = ⊥

pub record IsQuiet (segment : SegmentRun) (next : DaemonTurn) : Type 0 where
  pub rises : segment.position ≤ next.segment.position
  pub none : AreQuiet next.events

either_quiet : (test : Bool) (segment : SegmentRun) (one other : DaemonTurn) → IsQuiet segment one → IsQuiet segment other → IsQuiet segment (if test then one else other)
either_quiet true segment one other first second = first
either_quiet false segment one other first second = second

either_rises : (test : Bool) (segment one other : SegmentRun) → segment.position ≤ one.position → segment.position ≤ other.position → segment.position ≤ (if test then one else other).position
either_rises true segment one other first second = first
either_rises false segment one other first second = second

effect_rises : (begins : Start) (steps : ℕ) (segment : SegmentRun) → segment.position ≤ (opening_effect begins steps segment).position
effect_rises Fresh steps segment = either_rises (steps == 3) segment (headed segment) segment (omega arith) (omega arith)
effect_rises (Torn generation) steps segment = either_rises (steps == 2) segment (headed segment) segment (omega arith) (omega arith)
effect_rises (Kept generation rec) steps segment =
    either_rises (steps == 10) segment (opened_update segment) (if steps == 11 then moved_once segment else segment) (omega arith)
    (either_rises (steps == 11) segment (moved_once segment) segment (omega arith) (omega arith))

stored_rises : (segment : SegmentRun) (publication : Publication) (stores : ℕ) → segment.position ≤ (stored segment publication stores).position
stored_rises segment publication stores =
    either_rises (stores == 0) segment _ (stored_by segment publication stores) (omega arith)
    (either_rises (stores == 9) segment _ (record segment { begun = one_store_more segment.begun }) (omega arith) (omega arith))

opening_told : (moved : Bool) (poll : ℕ) (begins : Start) (segment : SegmentRun) → AreQuiet (if moved then events.Opened poll begins ∷ events.Moved poll segment.position (number_shown segment) ∷ [] else events.Opened poll begins ∷ [])
opening_told true poll begins segment = tt
opening_told false poll begins segment = tt

module _ (trace : Trace) (host : HostRun) (segment : SegmentRun) (daemon : DaemonRun) where
  opening_quiet : (begins : Start) (old : Bool) (steps : ℕ) (run : DaemonRun) → IsQuiet segment (run_daemon.opening_step trace segment run begins old steps)
  opening_quiet begins old steps run =
      let after = opening_effect begins steps segment in
      let rises = effect_rises begins steps segment in
      either_quiet (steps + 1 == opening_length old begins) segment
      (run_daemon.opening_ends trace after run begins (run_daemon.is_move old begins))
      (record { segment = after; daemon = record run { work = Opening begins old (steps + 1) }; events = [] })
      (record { rises = rises; none = opening_told (run_daemon.is_move old begins) run.polled begins after })
      (record { rises = rises; none = tt })

  publication_quiet : (after : SegmentRun) (run : DaemonRun) (storing : Storing) → segment.position ≤ after.position → IsQuiet segment (run_daemon.publication_ends trace after run storing)
  publication_quiet after run storing rises =
      either_quiet (run_daemon.is_stop (run_daemon.poll_row trace run).stop 10) segment _ _ (record { rises = rises; none = tt }) (record { rises = rises; none = tt })

  stores_quiet : (after : SegmentRun) (run : DaemonRun) (storing : Storing) → segment.position ≤ after.position → IsQuiet segment (run_daemon.after_stores trace after run storing)
  stores_quiet after run storing rises =
      either_quiet (storing.stores == 10) segment _ _ (publication_quiet after run storing rises)
      (either_quiet (run_daemon.is_stop (run_daemon.poll_row trace run).stop storing.stores) segment _ _ (record { rises = rises; none = tt }) (record { rises = rises; none = tt }))

  taken_quiet : (asked : Asked) (poll : Poll) (replied replied_at : ℕ) (life : Option Life) → IsQuiet segment (run_daemon.taken trace segment daemon asked poll replied replied_at life)
  taken_quiet asked poll replied replied_at None = record { rises = omega arith; none = tt }
  taken_quiet asked poll replied replied_at (Some life) =
      stores_quiet segment (record daemon { life = Some (record life { past = poll ∷ life.past }) })
      (record { publication = run_daemon.publication_of segment life poll asked replied; stores = 0; marked_at = asked.marked_at; replied_at = replied_at }) (omega arith)

  look_quiet : (row marked_at : ℕ) (after : PageAfter) → IsQuiet segment (run_daemon.look_by trace segment daemon row marked_at after)
  look_quiet row marked_at (Looks reading) = record { rises = omega arith; none = tt }
  look_quiet row marked_at (Saw page) = record { rises = omega arith; none = tt }
  look_quiet row marked_at (Missed first last) = record { rises = omega arith; none = tt }

  ask_quiet : (run : DaemonRun) (row done : ℕ) (page : Option (List ℕ)) → IsQuiet segment (run_daemon.ask_by trace segment run row done page)
  ask_quiet run row done None = record { rises = omega arith; none = tt }
  ask_quiet run row done (Some page) = record { rises = omega arith; none = tt }

  begins_quiet : (run : DaemonRun) (life : Option Life) → IsQuiet segment (run_daemon.poll_begins trace host segment run life)
  begins_quiet run None = opening_quiet (start_found segment) (is_old segment) 0 run
  begins_quiet run (Some life) = ask_quiet run (clocks_at trace.host host.done) host.done trace.page

  next_quiet : (poll : Option PollRow) → IsQuiet segment (run_daemon.next_poll trace host segment daemon poll)
  next_quiet None = record { rises = omega arith; none = tt }
  next_quiet (Some row) = begins_quiet (record daemon { polled = daemon.polled + 1 }) daemon.life

  work_quiet : (work : Work) → IsQuiet segment (run_daemon.daemon_turn_by trace host segment daemon work)
  work_quiet Resting = next_quiet (slice_get trace.polls daemon.polled)
  work_quiet (Opening begins old steps) = opening_quiet begins old steps daemon
  work_quiet Asking = ask_quiet daemon (clocks_at trace.host host.done) host.done trace.page
  work_quiet (Looking row reading marked_at) =
      look_quiet row (marked_by (is_marker_next reading.try) host.done marked_at) (page_load (count_of trace.page) (page_shown trace.host host) reading)
  work_quiet (Taking asked) = taken_quiet asked (run_daemon.poll_of trace daemon asked) (clocks_at trace.host host.done) host.done daemon.life
  work_quiet (Writing storing) = stores_quiet (stored segment storing.publication storing.stores) daemon (record storing { stores = storing.stores + 1 }) (stored_rises segment storing.publication storing.stores)

  pub daemon_quiet : IsQuiet segment (daemon_turn trace host segment daemon)
  daemon_quiet = work_quiet daemon.work
