-- The poll in hand is one of the trace's: each turn of the daemon keeps it.
use Rattle.std.proofs.Common.{◌≡◌, ℕ, ◌+◌, ◌≤◌, ◌<◌, Bool, true, false, List, length, Option, Some, None, refl, arith, ◌∷◌}
use Rattle.std.specs.Prelude.{slice_get, if◌then◌else◌, ◌==◌}
use Rattle.std.proofs.lemmas.Option.{slice_get_within}
use Rattle.clock_gate.specs.declared.trace.PollRow.{PollRow}
use Rattle.clock_gate.specs.declared.trace.Trace.{Trace}
use Rattle.vmclock_page.specs.Host.{count_of}
use Rattle.segment_layout.specs.declared.start.Start.{Start}
use Rattle.status_machine.specs.declared.poll.Poll.{Poll}
use Rattle.segment_run.specs.SegmentRun.{SegmentRun, is_old, start_found, opening_effect, opening_length, stored}
use Rattle.abstract_run.specs.HostRun.{HostRun, clocks_at, page_shown}
use Rattle.abstract_run.specs.PageReading.{PageAfter, Looks, Saw, Missed, page_load, is_marker_next}
use Rattle.abstract_run.specs.DaemonRun as run_daemon
use Rattle.abstract_run.specs.DaemonRun.{Life, Asked, Storing, Work, Resting, Opening, Asking, Looking, Taking, Writing, DaemonRun, DaemonTurn, daemon_turn, marked_by}
use Rattle.abstract_run.specs.RunWhole.{is_resting}

-- no more polls were begun than the trace has, and one that is in hand was begun
pub record Numbered (trace : Trace) (daemon : DaemonRun) : Type 0 where
  pub most : daemon.polled ≤ length trace.polls
  pub begun : is_resting daemon.work ≡ false → 0 < daemon.polled

-- a poll was begun
pub record IsBegun (trace : Trace) (polled : ℕ) : Type 0 where
  pub most : polled ≤ length trace.polls
  pub some : 0 < polled

module _ (trace : Trace) where
  any : (daemon : DaemonRun) → IsBegun trace daemon.polled → Numbered trace daemon
  any daemon is = record { most = is.most; begun = λ off. is.some }

  either : (test : Bool) (one other : DaemonTurn) → Numbered trace one.daemon → Numbered trace other.daemon → Numbered trace (if test then one else other).daemon
  either true one other first second = first
  either false one other first second = second

  opening : (segment : SegmentRun) (daemon : DaemonRun) (begins : Start) (old : Bool) (steps : ℕ) → IsBegun trace daemon.polled → Numbered trace (run_daemon.opening_step trace segment daemon begins old steps).daemon
  opening segment daemon begins old steps is =
      either (steps + 1 == opening_length old begins) (run_daemon.opening_ends trace (opening_effect begins steps segment) daemon begins (run_daemon.is_move old begins)) _
      (record { most = is.most; begun = λ off. is.some }) (record { most = is.most; begun = λ off. is.some })

  after : (segment : SegmentRun) (daemon : DaemonRun) (storing : Storing) → IsBegun trace daemon.polled → Numbered trace (run_daemon.after_stores trace segment daemon storing).daemon
  after segment daemon storing is =
      either (storing.stores == 10) (run_daemon.publication_ends trace segment daemon storing) _
      (either (run_daemon.is_stop (run_daemon.poll_row trace daemon).stop 10) _ _ (record { most = is.most; begun = λ off. is.some }) (record { most = is.most; begun = λ off. is.some }))
      (either (run_daemon.is_stop (run_daemon.poll_row trace daemon).stop storing.stores) _ _ (record { most = is.most; begun = λ off. is.some }) (record { most = is.most; begun = λ off. is.some }))

  taken : (segment : SegmentRun) (daemon : DaemonRun) (asked : Asked) (poll : Poll) (replied replied_at : ℕ) (life : Option Life) → IsBegun trace daemon.polled
      → Numbered trace (run_daemon.taken trace segment daemon asked poll replied replied_at life).daemon
  taken segment daemon asked poll replied replied_at None is = any daemon is
  taken segment daemon asked poll replied replied_at (Some life) is =
      after segment (record daemon { life = Some (record life { past = poll ∷ life.past }) })
      (record { publication = run_daemon.publication_of segment life poll asked replied; stores = 0; marked_at = asked.marked_at; replied_at = replied_at }) is

  look : (segment : SegmentRun) (daemon : DaemonRun) (row marked_at : ℕ) (seen : PageAfter) → IsBegun trace daemon.polled → Numbered trace (run_daemon.look_by trace segment daemon row marked_at seen).daemon
  look segment daemon row marked_at (Looks reading) is = record { most = is.most; begun = λ off. is.some }
  look segment daemon row marked_at (Saw page) is = record { most = is.most; begun = λ off. is.some }
  look segment daemon row marked_at (Missed first last) is = record { most = is.most; begun = λ off. is.some }

  ask : (segment : SegmentRun) (daemon : DaemonRun) (row done : ℕ) (page : Option (List ℕ)) → IsBegun trace daemon.polled → Numbered trace (run_daemon.ask_by trace segment daemon row done page).daemon
  ask segment daemon row done None is = record { most = is.most; begun = λ off. is.some }
  ask segment daemon row done (Some page) is = record { most = is.most; begun = λ off. is.some }

  begins : (host : HostRun) (segment : SegmentRun) (daemon : DaemonRun) (life : Option Life) → IsBegun trace daemon.polled → Numbered trace (run_daemon.poll_begins trace host segment daemon life).daemon
  begins host segment daemon None is = opening segment daemon (start_found segment) (is_old segment) 0 is
  begins host segment daemon (Some life) is = ask segment daemon (clocks_at trace.host host.done) host.done trace.page is

  next : (host : HostRun) (segment : SegmentRun) (daemon : DaemonRun) (poll : Option PollRow) → slice_get trace.polls daemon.polled ≡ poll → Numbered trace daemon
      → Numbered trace (run_daemon.next_poll trace host segment daemon poll).daemon
  next host segment daemon None at is = is
  next host segment daemon (Some row) at is =
      let within = slice_get_within trace.polls daemon.polled row at in
      begins host segment (record daemon { polled = daemon.polled + 1 }) daemon.life (record { most = omega (arith, within); some = omega arith })

  by_work : (host : HostRun) (segment : SegmentRun) (daemon : DaemonRun) (work : Work) → daemon.work ≡ work → Numbered trace daemon → (is_resting work ≡ false → IsBegun trace daemon.polled)
      → Numbered trace (run_daemon.daemon_turn_by trace host segment daemon work).daemon
  by_work host segment daemon Resting same is begun = next host segment daemon (slice_get trace.polls daemon.polled) refl is
  by_work host segment daemon (Opening start old steps) same is begun = opening segment daemon start old steps (begun refl)
  by_work host segment daemon Asking same is begun = ask segment daemon (clocks_at trace.host host.done) host.done trace.page (begun refl)
  by_work host segment daemon (Looking row reading marked_at) same is begun =
      look segment daemon row (marked_by (is_marker_next reading.try) host.done marked_at) (page_load (count_of trace.page) (page_shown trace.host host) reading) (begun refl)
  by_work host segment daemon (Taking asked) same is begun =
      taken segment daemon asked (run_daemon.poll_of trace daemon asked) (clocks_at trace.host host.done) host.done daemon.life (begun refl)
  by_work host segment daemon (Writing storing) same is begun =
      after (stored segment storing.publication storing.stores) daemon (record storing { stores = storing.stores + 1 }) (begun refl)

  pub turn_numbered : (host : HostRun) (segment : SegmentRun) (daemon : DaemonRun) → Numbered trace daemon → Numbered trace (daemon_turn trace host segment daemon).daemon
  turn_numbered host segment daemon is = by_work host segment daemon daemon.work refl is (λ off. record { most = is.most; some = is.begun off })
