-- Where the trace stops a poll the daemon stops: a publication comes only where it doesn't, or not before the tenth store.
use Rattle.std.proofs.Common.{◌≡◌, ℕ, ◌+◌, ◌-◌, ◌≤◌, ◌<◌, Bool, true, false, List, [], ◌∷◌, ◌++◌, Option, Some, None, IfSome, refl, ap, sym, ◌∙◌, subst, arith, inl, inr}
use Rattle.std.specs.Prelude.{◌==◌, slice_get, if◌then◌else◌}
use Rattle.std.proofs.lemmas.Bool.{cases_eq}
use Rattle.std.proofs.lemmas.Bool.Decides.{nat_tests}
use Rattle.clock_gate.specs.declared.trace.Party.{Party}
use Rattle.clock_gate.specs.declared.trace.Party.TheVariants.{Host, Daemon, Client}
use Rattle.clock_gate.specs.declared.trace.PollRow.{PollRow}
use Rattle.clock_gate.specs.declared.trace.Trace.{Trace}
use Rattle.vmclock_page.specs.Host.{count_of}
use Rattle.segment_layout.specs.declared.start.Start.{Start}
use Rattle.status_machine.specs.declared.poll.Poll.{Poll}
use Rattle.segment_run.specs.SegmentRun.{SegmentRun, opening_effect, opening_length, stored, is_old, start_found}
use Rattle.abstract_run.specs.declared.event.Event.{Event}
use Rattle.abstract_run.specs.declared.event.Event.TheVariants.{Opened, Moved, Published, Skipped, Stopped, Answered}
use Rattle.abstract_run.specs.Run.{Run, turn, turns_by, start, answer_events, client_turn_in, client_at}
use Rattle.abstract_run.specs.HostRun.{HostRun, clocks_at, page_shown}
use Rattle.abstract_run.specs.PageReading.{PageAfter, Looks, Saw, Missed, page_load, is_marker_next}
use Rattle.abstract_run.specs.DaemonRun as run_daemon
use Rattle.abstract_run.specs.DaemonRun.{Life, Asked, Storing, Work, Resting, Opening, Asking, Looking, Taking, Writing, DaemonRun, DaemonTurn, daemon_turn, marked_by}
use Rattle.abstract_run.specs.ClientRun as run_client
use Rattle.abstract_run.specs.ClientRun.{Answered as AnswerWithTrail, ClientRun}
use Rattle.run_progress.specs.Progress.{stop_in, StopsAfter}

-- ---- what holds of each event, with those after it

module _ (Holds : Event → List Event → Type 0) where
  abbrev pub EachFrom : List Event → Type 0
  EachFrom [] = Unit {0}
  EachFrom (event ∷ later) = Holds event later × EachFrom later

  pub from_at : (told before after : List Event) (event : Event) → EachFrom told → told ≡ before ++ event ∷ after → Holds event after
  from_at [] [] after event are is = absurd (cc is)
  from_at [] (other ∷ before) after event are is = absurd (cc is)
  from_at (first ∷ told) [] after event are is =
      let same : first ≡ event = cc is in
      let rest : told ≡ after = cc is in
      subst (λ (e : Event). Holds e after) same (subst (Holds first) rest are.0)
  from_at (first ∷ told) (other ∷ before) after event are is = let rest : told ≡ before ++ event ∷ after = cc is in from_at told before after event are.1 rest

module _ (Holds : Event → List Event → Type 0) (stays : (event : Event) (later more : List Event) → Holds event later → Holds event (later ++ more)) where
  from_more : (told more : List Event) → EachFrom Holds told → EachFrom Holds more → EachFrom Holds (told ++ more)
  from_more [] more are next = next
  from_more (event ∷ told) more are next = (stays event told more are.0, from_more told more are.1 next)

-- ---- a publication, with the events after it

abbrev pub IsStopTold : Trace → Event → List Event → Type 0
IsStopTold trace (Published position publication marked_at replied_at) after = StopsAfter (stop_in trace publication.poll) publication.poll after
IsStopTold trace other after = Unit {0}

stops_later : (stop : Option ℕ) (poll : ℕ) (after more : List Event) → StopsAfter stop poll after → StopsAfter stop poll (after ++ more)
stops_later None poll after more is = tt
stops_later (Some stores) poll after more is = (is.0, λ ten. (let next = is.1 ten in (next.0 ++ more, ap (λ (l : List Event). l ++ more) next.1)))

told_later : (trace : Trace) (event : Event) (after more : List Event) → IsStopTold trace event after → IsStopTold trace event (after ++ more)
told_later trace (Published position publication marked_at replied_at) after more is = stops_later (stop_in trace publication.poll) publication.poll after more is
told_later trace (Opened poll found) after more is = tt
told_later trace (Moved poll position generation) after more is = tt
told_later trace (Skipped poll first last) after more is = tt
told_later trace (Stopped poll stores) after more is = tt
told_later trace (Answered client call answer trail) after more is = tt

-- ---- a turn of the daemon

-- the stop of this poll, where there is one, comes after so many stores at the earliest
abbrev IsAtLeast : Option ℕ → (stores : ℕ) → Type 0
IsAtLeast stop stores = IfSome stop (λ s. stores ≤ s)

-- a publication in hand is of the poll in hand, and no stop has come
abbrev pub WorkStops : Trace → (polled : ℕ) → Work → Type 0
WorkStops trace polled (Writing storing) = (storing.publication.poll ≡ polled) × IfSome (stop_in trace polled) (λ s. storing.stores < s)
WorkStops trace polled other = Unit {0}

module _ (trace : Trace) where
  abbrev TurnStops : DaemonTurn → Type 0
  TurnStops next = EachFrom (IsStopTold trace) next.events × WorkStops trace next.daemon.polled next.daemon.work

  either_when : (test : Bool) (one other : DaemonTurn) → (test ≡ true → TurnStops one) → (test ≡ false → TurnStops other) → TurnStops (if test then one else other)
  either_when true one other first second = first refl
  either_when false one other first second = second refl

  -- an opening
  ends : (segment : SegmentRun) (daemon : DaemonRun) (found : Start) (moved : Bool) → TurnStops (run_daemon.opening_ends trace segment daemon found moved)
  ends segment daemon found true = ((tt, (tt, tt)), tt)
  ends segment daemon found false = ((tt, tt), tt)

  opening : (segment : SegmentRun) (daemon : DaemonRun) (found : Start) (old : Bool) (steps : ℕ) → TurnStops (run_daemon.opening_step trace segment daemon found old steps)
  opening segment daemon found old steps =
      either_when (steps + 1 == opening_length old found) (run_daemon.opening_ends trace (opening_effect found steps segment) daemon found (run_daemon.is_move old found)) _
      (λ on. ends (opening_effect found steps segment) daemon found (run_daemon.is_move old found)) (λ off. (tt, tt))

  -- a publication that has ended
  stop_next : (stop : Option ℕ) (poll polled : ℕ) → poll ≡ polled → run_daemon.is_stop stop 10 ≡ true → StopsAfter stop poll (Stopped polled 10 ∷ [])
  stop_next None poll polled same is = tt
  stop_next (Some stores) poll polled same is =
      let ten : stores ≡ 10 = grind (arith, nat_tests, is) in
      (omega (arith, ten), λ again. ([], ap (λ (n : ℕ). Stopped n 10 ∷ []) (sym same)))

  no_stop : (stop : Option ℕ) (poll : ℕ) → IsAtLeast stop 10 → run_daemon.is_stop stop 10 ≡ false → StopsAfter stop poll []
  no_stop None poll least off = tt
  no_stop (Some stores) poll least off = (least, λ ten. (let on : (stores == 10) ≡ true = grind (arith, nat_tests, ten) in absurd (cc (on, off))))

  -- no stop has come yet: it comes later
  stop_later : (stop : Option ℕ) (stores : ℕ) → IsAtLeast stop stores → run_daemon.is_stop stop stores ≡ false → IfSome stop (λ s. stores < s)
  stop_later None stores least off = tt
  stop_later (Some stop) stores least off = elim (cases_eq stop stores) [
    | inl same ↦ (let on : (stop == stores) ≡ true = grind (arith, nat_tests, same) in absurd (cc (on, off)))
    | inr differs ↦ omega (arith, least, differs)
  ]

  after : (segment : SegmentRun) (daemon : DaemonRun) (storing : Storing) → storing.publication.poll ≡ daemon.polled → IsAtLeast (stop_in trace daemon.polled) storing.stores
      → TurnStops (run_daemon.after_stores trace segment daemon storing)
  after segment daemon storing own least =
      let stop : Option ℕ = (run_daemon.poll_row trace daemon).stop in
      let poll : ℕ = storing.publication.poll in
      either_when (storing.stores == 10) (run_daemon.publication_ends trace segment daemon storing) _
      (λ all. (
      let ten : storing.stores ≡ 10 = grind (arith, nat_tests, all) in
      let most : IsAtLeast stop 10 = subst (IsAtLeast stop) ten least in
      either_when (run_daemon.is_stop stop 10) _ _
      (λ on. ((subst (λ (n : ℕ). StopsAfter (stop_in trace n) poll (Stopped daemon.polled 10 ∷ [])) (sym own) (stop_next stop poll daemon.polled own on), (tt, tt)), tt))
      (λ off. ((subst (λ (n : ℕ). StopsAfter (stop_in trace n) poll []) (sym own) (no_stop stop poll most off), tt), tt))
      ))
      (λ few. either_when (run_daemon.is_stop stop storing.stores) _ _ (λ on. ((tt, tt), tt)) (λ off. (tt, (own, stop_later stop storing.stores least off))))

  -- a poll
  any_stop : (stop : Option ℕ) → IsAtLeast stop 0
  any_stop None = tt
  any_stop (Some stop) = omega arith

  one_more : (stop : Option ℕ) (stores : ℕ) → IfSome stop (λ s. stores < s) → IsAtLeast stop (stores + 1)
  one_more None stores is = tt
  one_more (Some stop) stores is = omega (arith, is)

  taken : (segment : SegmentRun) (daemon : DaemonRun) (asked : Asked) (poll : Poll) (replied replied_at : ℕ) (life : Option Life) → poll.number ≡ daemon.polled → WorkStops trace daemon.polled daemon.work
      → TurnStops (run_daemon.taken trace segment daemon asked poll replied replied_at life)
  taken segment daemon asked poll replied replied_at None own held = (tt, held)
  taken segment daemon asked poll replied replied_at (Some life) own held =
      after segment (record daemon { life = Some (record life { past = poll ∷ life.past }) })
      (record { publication = run_daemon.publication_of segment life poll asked replied; stores = 0; marked_at = asked.marked_at; replied_at = replied_at }) own (any_stop (stop_in trace daemon.polled))

  look : (segment : SegmentRun) (daemon : DaemonRun) (row marked_at : ℕ) (seen : PageAfter) → TurnStops (run_daemon.look_by trace segment daemon row marked_at seen)
  look segment daemon row marked_at (Looks reading) = (tt, tt)
  look segment daemon row marked_at (Saw page) = (tt, tt)
  look segment daemon row marked_at (Missed first last) = ((tt, tt), tt)

  ask : (segment : SegmentRun) (daemon : DaemonRun) (row done : ℕ) (page : Option (List ℕ)) → TurnStops (run_daemon.ask_by trace segment daemon row done page)
  ask segment daemon row done None = (tt, tt)
  ask segment daemon row done (Some page) = (tt, tt)

  begins : (host : HostRun) (segment : SegmentRun) (daemon : DaemonRun) (life : Option Life) → TurnStops (run_daemon.poll_begins trace host segment daemon life)
  begins host segment daemon None = opening segment daemon (start_found segment) (is_old segment) 0
  begins host segment daemon (Some life) = ask segment daemon (clocks_at trace.host host.done) host.done trace.page

  next : (host : HostRun) (segment : SegmentRun) (daemon : DaemonRun) (poll : Option PollRow) → WorkStops trace daemon.polled daemon.work → TurnStops (run_daemon.next_poll trace host segment daemon poll)
  next host segment daemon None held = (tt, held)
  next host segment daemon (Some row) held = begins host segment (record daemon { polled = daemon.polled + 1 }) daemon.life

  by_work : (host : HostRun) (segment : SegmentRun) (daemon : DaemonRun) (work : Work) → WorkStops trace daemon.polled work → WorkStops trace daemon.polled daemon.work
      → TurnStops (run_daemon.daemon_turn_by trace host segment daemon work)
  by_work host segment daemon Resting is held = next host segment daemon (slice_get trace.polls daemon.polled) held
  by_work host segment daemon (Opening found old steps) is held = opening segment daemon found old steps
  by_work host segment daemon Asking is held = ask segment daemon (clocks_at trace.host host.done) host.done trace.page
  by_work host segment daemon (Looking row reading marked_at) is held =
      look segment daemon row (marked_by (is_marker_next reading.try) host.done marked_at) (page_load (count_of trace.page) (page_shown trace.host host) reading)
  by_work host segment daemon (Taking asked) is held =
      taken segment daemon asked (run_daemon.poll_of trace daemon asked) (clocks_at trace.host host.done) host.done daemon.life refl held
  by_work host segment daemon (Writing storing) is held =
      after (stored segment storing.publication storing.stores) daemon (record storing { stores = storing.stores + 1 }) is.0 (one_more (stop_in trace daemon.polled) storing.stores is.1)

  -- ---- any turns

  abbrev RunStops : Run → Type 0
  RunStops run = EachFrom (IsStopTold trace) run.events × WorkStops trace run.daemon.polled run.daemon.work

  more_told : (told more : List Event) → EachFrom (IsStopTold trace) told → EachFrom (IsStopTold trace) more → EachFrom (IsStopTold trace) (told ++ more)
  more_told told more are next = from_more (IsStopTold trace) (told_later trace) told more are next

  each_answer : (client call : ℕ) (answered : Option AnswerWithTrail) → EachFrom (IsStopTold trace) (answer_events client call answered)
  each_answer client call None = tt
  each_answer client call (Some answered) = (tt, tt)

  client_stops : (run : Run) (client : ℕ) (state : Option ClientRun) → RunStops run → RunStops (client_turn_in trace run client state)
  client_stops run client None is = is
  client_stops run client (Some state) is =
      let next = run_client.client_turn trace run.host run.segment state in
      (more_told run.events (answer_events client next.client.begun next.answered) is.0 (each_answer client next.client.begun next.answered), is.1)

  run_stops : (run : Run) (who : Party) → RunStops run → RunStops (turn trace run who)
  run_stops run Host is = is
  run_stops run Daemon is =
      let next : DaemonTurn = daemon_turn trace run.host run.segment run.daemon in
      let turned : TurnStops next = by_work run.host run.segment run.daemon run.daemon.work is.1 is.1 in
      (more_told run.events next.events is.0 turned.0, turned.1)
  run_stops run (Client client) is = client_stops run client (client_at run.clients client) is

  runs_stop : (turns : List Party) (run : Run) → RunStops run → RunStops (turns_by trace run turns)
  runs_stop [] run is = is
  runs_stop (who ∷ turns) run is = runs_stop turns (turn trace run who) (run_stops run who is)

  pub turns_stop : (turns : List Party) → EachFrom (IsStopTold trace) (turns_by trace (start trace) turns).events
  turns_stop turns = (runs_stop turns (start trace) (tt, tt)).0
