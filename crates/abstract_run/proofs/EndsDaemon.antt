-- Each turn of the daemon with a poll in hand or left brings this poll nearer to its end.
use Rattle.std.proofs.Common.{◌≡◌, ℕ, ◌+◌, ◌-◌, ◌*◌, ◌<◌, ◌≤◌, Bool, true, false, List, [], ◌∷◌, length, Option, Some, None, refl, sym, ap, ◌∙◌, subst, inl, inr, arith}
use Rattle.std.specs.Prelude.{◌⊎◌, ◌==◌, nat_lt, slice_get, if◌then◌else◌}
use Rattle.std.proofs.lemmas.Bool.Decides.{nat_tests}
use Rattle.std.proofs.lemmas.Option.{slice_get_within, slice_get-get_or}
use Rattle.clock_gate.specs.declared.trace.PollRow.{PollRow}
use Rattle.clock_gate.specs.declared.trace.Trace.{Trace}
use Rattle.vmclock_page.specs.Host.{count_of}
use Rattle.segment_layout.specs.declared.start.Start.{Start}
use Rattle.segment_layout.specs.declared.start.Start.TheVariants.{Fresh, Kept, Torn}
use Rattle.status_machine.specs.declared.poll.Poll.{Poll}
use Rattle.segment_run.specs.SegmentRun.{SegmentRun, opening_length, opening_effect, start_found, is_old, stored}
use Rattle.abstract_run.specs.declared.event.Event.TheVariants.{Stopped}
use Rattle.abstract_run.specs.HostRun.{HostRun, clocks_at, page_shown}
use Rattle.abstract_run.specs.PageReading.{PageAfter, Looks, Saw, Missed, page_reading, page_load, is_marker_next}
use Rattle.abstract_run.specs.DaemonRun.{Life, Asked, Storing, Work, Resting, Opening, Asking, Looking, Taking, Writing, DaemonRun, no_poll, poll_row, is_move, life_from, opening_ends, opening_step, poll_of, is_stop, stops, published, publication_ends, publication_of, after_stores, store_step, taken, look_by, marked_by, ask_by, poll_begins, next_poll, daemon_turn_by}
use Rattle.abstract_run.specs.RunWhole.{is_resting, polls_ended, has_poll}
use Rattle.abstract_run.proofs.EndsPage.{page_left, IsPageNearer, page_nearer, page_some}

-- the turns that a poll has left at most, which may begin with an opening
abbrev pub work_left : (tries : ℕ) → Work → ℕ
work_left tries Resting = 3 * tries + 24
work_left tries (Opening start old steps) = opening_length old start - steps + (3 * tries + 12)
work_left tries Asking = 3 * tries + 12
work_left tries (Looking row reading marked_at) = page_left reading + 11
work_left tries (Taking asked) = 11
work_left tries (Writing storing) = 10 - storing.stores

abbrev IsAlive : Option Life → Type 0
IsAlive None = ⊥
IsAlive (Some life) = Unit {0}

-- an opening has a step left, a publication a store, and a poll in between an incarnation to join
abbrev WorkEnds : Option Life → Work → Type 0
WorkEnds life Resting = Unit {0}
WorkEnds life (Opening start old steps) = steps < opening_length old start
WorkEnds life Asking = IsAlive life
WorkEnds life (Looking row reading marked_at) = IsAlive life
WorkEnds life (Taking asked) = IsAlive life
WorkEnds life (Writing storing) = storing.stores < 10

pub record DaemonEnds (trace : Trace) (daemon : DaemonRun) : Type 0 where
  pub work : WorkEnds daemon.life daemon.work
  pub few : work_left trace.tries daemon.work ≤ 3 * trace.tries + 24
  pub begun : is_resting daemon.work ≡ false → 1 ≤ daemon.polled
  pub polled : daemon.polled ≤ length trace.polls

-- one more poll has ended, or as many and there are fewer turns left
pub record HasMoved (trace : Trace) (ended left : ℕ) (next : DaemonRun) : Type 0 where
  pub ends : DaemonEnds trace next
  pub moved : (ended < polls_ended next) ⊎ ((polls_ended next ≡ ended) × (work_left trace.tries next.work < left))

opening_some : (old : Bool) (start : Start) → (0 < opening_length old start) × (opening_length old start ≤ 12)
opening_some old Fresh = (omega arith, omega arith)
opening_some true (Torn generation) = (omega arith, omega arith)
opening_some false (Torn generation) = (omega arith, omega arith)
opening_some true (Kept generation rec) = (omega arith, omega arith)
opening_some false (Kept generation rec) = (omega arith, omega arith)

pub work_some : (tries : ℕ) (life : Option Life) (work : Work) → WorkEnds life work → 0 < work_left tries work
work_some tries life Resting ends = omega arith
work_some tries life (Opening start old steps) ends = omega arith
work_some tries life Asking ends = omega arith
work_some tries life (Looking row reading marked_at) ends = omega arith
work_some tries life (Taking asked) ends = omega arith
work_some tries life (Writing storing) ends = omega (arith, ends)

module _ (trace : Trace) (polled left : ℕ) (some : 1 ≤ polled) (within : polled ≤ length trace.polls) where
  -- the poll has ended
  rests : (life : Option Life) (base : ℕ) → HasMoved trace (polled - 1) left (record { life = life; work = Resting; polled = polled; base = base })
  rests life base = record { ends = record { work = tt; few = omega arith; begun = λ e. absurd (cc e); polled = within }; moved = inl (omega (arith, some)) }

  -- it goes on
  goes : (life : Option Life) (work : Work) (base : ℕ) → is_resting work ≡ false → WorkEnds life work → work_left trace.tries work < left → left ≤ 3 * trace.tries + 24
      → HasMoved trace (polled - 1) left (record { life = life; work = work; polled = polled; base = base })
  goes life work base on ends nearer few =
      record { ends = record { work = ends; few = omega (arith, nearer, few); begun = λ e. some; polled = within }; moved = inr (rw on refl, nearer) }

  -- ---- the stores

  stops_by : (test : Bool) (segment : SegmentRun) (daemon : DaemonRun) (storing : Storing) → daemon.polled ≡ polled → storing.stores < 10 → 10 - storing.stores < left → left ≤ 3 * trace.tries + 24
      → HasMoved trace (polled - 1) left
      (if test then stops trace segment daemon storing.stores (Stopped daemon.polled storing.stores ∷ [])
      else record { segment = segment; daemon = record daemon { work = Writing storing }; events = [] }).daemon
  stops_by true segment daemon storing same low nearer few = subst (λ (n : ℕ). HasMoved trace (polled - 1) left (record { life = None; work = Resting; polled = n; base = daemon.base })) (sym same) (rests None daemon.base)
  stops_by false segment daemon storing same low nearer few =
      subst (λ (n : ℕ). HasMoved trace (polled - 1) left (record { life = daemon.life; work = Writing storing; polled = n; base = daemon.base })) (sym same)
      (goes daemon.life (Writing storing) daemon.base refl low nearer few)

  published_by : (test : Bool) (segment : SegmentRun) (daemon : DaemonRun) (storing : Storing) → daemon.polled ≡ polled
      → HasMoved trace (polled - 1) left
      (if test then stops trace segment (record daemon { base = storing.publication.base }) 10 (published daemon segment storing ∷ Stopped daemon.polled 10 ∷ [])
      else record { segment = segment; daemon = record daemon { work = Resting; base = storing.publication.base }; events = published daemon segment storing ∷ [] }).daemon
  published_by true segment daemon storing same =
      subst (λ (n : ℕ). HasMoved trace (polled - 1) left (record { life = None; work = Resting; polled = n; base = storing.publication.base })) (sym same) (rests None storing.publication.base)
  published_by false segment daemon storing same =
      subst (λ (n : ℕ). HasMoved trace (polled - 1) left (record { life = daemon.life; work = Resting; polled = n; base = storing.publication.base })) (sym same) (rests daemon.life storing.publication.base)

  stored_by : (test : Bool) (segment : SegmentRun) (daemon : DaemonRun) (storing : Storing) → (storing.stores == 10) ≡ test → daemon.polled ≡ polled → storing.stores ≤ 10 → 10 - storing.stores < left
      → left ≤ 3 * trace.tries + 24
      → HasMoved trace (polled - 1) left
      (if test then publication_ends trace segment daemon storing
      else if is_stop (poll_row trace daemon).stop storing.stores then stops trace segment daemon storing.stores (Stopped daemon.polled storing.stores ∷ [])
      else record { segment = segment; daemon = record daemon { work = Writing storing }; events = [] }).daemon
  stored_by true segment daemon storing is same high nearer few = published_by (is_stop (poll_row trace daemon).stop 10) segment daemon storing same
  stored_by false segment daemon storing is same high nearer few =
      let low : storing.stores < 10 = grind (arith, nat_tests) in
      stops_by (is_stop (poll_row trace daemon).stop storing.stores) segment daemon storing same low nearer few

  stores_move : (segment : SegmentRun) (daemon : DaemonRun) (storing : Storing) → daemon.polled ≡ polled → storing.stores ≤ 10 → 10 - storing.stores < left → left ≤ 3 * trace.tries + 24
      → HasMoved trace (polled - 1) left (after_stores trace segment daemon storing).daemon
  stores_move segment daemon storing same high nearer few = stored_by (storing.stores == 10) segment daemon storing refl same high nearer few

  -- ---- the steps before

  taken_moves : (segment : SegmentRun) (daemon : DaemonRun) (asked : Asked) (poll : Poll) (replied replied_at : ℕ) (life : Option Life) → IsAlive life → daemon.polled ≡ polled → 10 < left → left ≤ 3 * trace.tries + 24
      → HasMoved trace (polled - 1) left (taken trace segment daemon asked poll replied replied_at life).daemon
  taken_moves segment daemon asked poll replied replied_at None lives same nearer few = absurd lives
  taken_moves segment daemon asked poll replied replied_at (Some life) lives same nearer few =
      stores_move segment (record daemon { life = Some (record life { past = poll ∷ life.past }) })
      (record { publication = publication_of segment life poll asked replied; stores = 0; marked_at = asked.marked_at; replied_at = replied_at })
      same (omega arith) nearer few

  works_move : (daemon : DaemonRun) (work : Work) → daemon.polled ≡ polled → is_resting work ≡ false → WorkEnds daemon.life work → work_left trace.tries work < left → left ≤ 3 * trace.tries + 24
      → HasMoved trace (polled - 1) left (record daemon { work = work })
  works_move daemon work same on ends nearer few =
      subst (λ (n : ℕ). HasMoved trace (polled - 1) left (record { life = daemon.life; work = work; polled = n; base = daemon.base })) (sym same) (goes daemon.life work daemon.base on ends nearer few)

  look_moves : (segment : SegmentRun) (daemon : DaemonRun) (row marked_at loads : ℕ) (after : PageAfter) → IsAlive daemon.life → daemon.polled ≡ polled → IsPageNearer loads after → 0 < loads → loads + 11 ≤ left
      → left ≤ 3 * trace.tries + 24 → HasMoved trace (polled - 1) left (look_by trace segment daemon row marked_at after).daemon
  look_moves segment daemon row marked_at loads (Looks reading) lives same nearer some more few =
      works_move daemon (Looking row reading marked_at) same refl lives (omega (arith, nearer, more)) few
  look_moves segment daemon row marked_at loads (Saw page) lives same nearer some more few = works_move daemon _ same refl lives (omega (arith, some, more)) few
  look_moves segment daemon row marked_at loads (Missed first last) lives same nearer some more few =
      subst (λ (n : ℕ). HasMoved trace (polled - 1) left (record { life = daemon.life; work = Resting; polled = n; base = daemon.base })) (sym same) (rests daemon.life daemon.base)

  ask_moves : (segment : SegmentRun) (daemon : DaemonRun) (row done : ℕ) (page : Option (List ℕ)) → IsAlive daemon.life → daemon.polled ≡ polled → 1 ≤ trace.tries → 3 * trace.tries + 12 ≤ left
      → left ≤ 3 * trace.tries + 24 → HasMoved trace (polled - 1) left (ask_by trace segment daemon row done page).daemon
  ask_moves segment daemon row done None lives same some more few = works_move daemon (Taking (record { row = row; marker = None; sequence = 0; marked_at = done })) same refl lives (omega (arith, more)) few
  ask_moves segment daemon row done (Some page) lives same some more few = works_move daemon (Looking row (page_reading trace.tries) done) same refl lives (omega (arith, some, more)) few

  opening_by : (test : Bool) (segment : SegmentRun) (daemon : DaemonRun) (start : Start) (old : Bool) (steps : ℕ) → (steps + 1 == opening_length old start) ≡ test → daemon.polled ≡ polled
      → steps < opening_length old start → opening_length old start - steps + (3 * trace.tries + 12) ≤ left → left ≤ 3 * trace.tries + 24
      → HasMoved trace (polled - 1) left
      (if test then opening_ends trace (opening_effect start steps segment) daemon start (is_move old start)
      else record { segment = opening_effect start steps segment; daemon = record daemon { work = Opening start old (steps + 1) }; events = [] }).daemon
  opening_by true segment daemon start old steps is same low more few =
      subst (λ (n : ℕ). HasMoved trace (polled - 1) left (record { life = Some (life_from trace start (if is_move old start then 0 else daemon.base)); work = Asking; polled = n; base = if is_move old start then 0 else daemon.base })) (sym same)
      (goes (Some (life_from trace start (if is_move old start then 0 else daemon.base))) Asking (if is_move old start then 0 else daemon.base) refl tt (omega (arith, low, more)) few)
  opening_by false segment daemon start old steps is same low more few =
      let next : steps + 1 < opening_length old start = grind (arith, nat_tests) in
      works_move daemon (Opening start old (steps + 1)) same refl next (omega (arith, next, more)) few

  opening_moves : (segment : SegmentRun) (daemon : DaemonRun) (start : Start) (old : Bool) (steps : ℕ) → daemon.polled ≡ polled → steps < opening_length old start
      → opening_length old start - steps + (3 * trace.tries + 12) ≤ left → left ≤ 3 * trace.tries + 24 → HasMoved trace (polled - 1) left (opening_step trace segment daemon start old steps).daemon
  opening_moves segment daemon start old steps same low more few = opening_by (steps + 1 == opening_length old start) segment daemon start old steps refl same low more few

-- ---- a turn

-- where the daemon has a poll in hand or left, a turn brings it on
pub record HasTurned (trace : Trace) (old next : DaemonRun) : Type 0 where
  pub ends : DaemonEnds trace next
  pub moved : has_poll trace.polls old ≡ true → (polls_ended old < polls_ended next) ⊎ ((polls_ended next ≡ polls_ended old) × (work_left trace.tries next.work < work_left trace.tries old.work))

turned : (trace : Trace) (old next : DaemonRun) (ended left : ℕ) → polls_ended old ≡ ended → work_left trace.tries old.work ≡ left → HasMoved trace ended left next → HasTurned trace old next
turned trace old next ended left same_ended same_left moves =
    record {
      ends = moves.ends;
      moved = λ has. subst (λ (l : ℕ). (polls_ended old < polls_ended next) ⊎ ((polls_ended next ≡ polls_ended old) × (work_left trace.tries next.work < l))) (sym same_left)
          (subst (λ (n : ℕ). (n < polls_ended next) ⊎ ((polls_ended next ≡ n) × (work_left trace.tries next.work < left))) (sym same_ended) moves.moved);
    }

none_left : (polls : List PollRow) (polled : ℕ) → slice_get polls polled ≡ None → nat_lt polled (length polls) ≡ true → ⊥
none_left polls polled none has =
    let low : polled < length polls = grind (arith, nat_tests) in
    absurd (cc (sym none ∙ slice_get-get_or polls polled no_poll low))

begins_moves : (trace : Trace) (host : HostRun) (segment : SegmentRun) (daemon : DaemonRun) (polled : ℕ) (life : Option Life) → daemon.life ≡ life → daemon.polled ≡ polled → 1 ≤ polled → polled ≤ length trace.polls
    → 1 ≤ trace.tries → HasMoved trace (polled - 1) (3 * trace.tries + 24) (poll_begins trace host segment daemon life).daemon
begins_moves trace host segment daemon polled None is same some within tries =
    let fits = opening_some (is_old segment) (start_found segment) in
    let low = fits.0 in
    let high = fits.1 in
    opening_moves trace polled (3 * trace.tries + 24) some within segment daemon (start_found segment) (is_old segment) 0 same low (omega (arith, high)) (omega arith)
begins_moves trace host segment daemon polled (Some life) is same some within tries =
    ask_moves trace polled (3 * trace.tries + 24) some within segment daemon (clocks_at trace.host host.done) host.done trace.page (subst IsAlive (sym is) tt) same tries (omega arith) (omega arith)

next_turns : (trace : Trace) (host : HostRun) (segment : SegmentRun) (daemon : DaemonRun) (row : Option PollRow) → slice_get trace.polls daemon.polled ≡ row → daemon.work ≡ Resting → DaemonEnds trace daemon
    → 1 ≤ trace.tries → HasTurned trace daemon (next_poll trace host segment daemon row).daemon
next_turns trace host segment daemon None at rest ends tries =
    record { ends = ends; moved = λ has. absurd (none_left trace.polls daemon.polled at (sym (rw rest refl) ∙ has)) }
next_turns trace host segment daemon (Some row) at rest ends tries =
    let within : daemon.polled < length trace.polls = slice_get_within trace.polls daemon.polled row at in
    let one_less : daemon.polled + 1 - 1 ≡ daemon.polled = omega arith in
    let ended : polls_ended daemon ≡ daemon.polled = rw rest refl in
    turned trace daemon (poll_begins trace host segment (record daemon { polled = daemon.polled + 1 }) daemon.life).daemon (daemon.polled + 1 - 1) (3 * trace.tries + 24) (ended ∙ sym one_less)
    (ap (work_left trace.tries) rest)
    (begins_moves trace host segment (record daemon { polled = daemon.polled + 1 }) (daemon.polled + 1) daemon.life refl refl (omega arith) (omega (arith, within)) tries)

pub daemon_turns : (trace : Trace) (host : HostRun) (segment : SegmentRun) (daemon : DaemonRun) (work : Work) → daemon.work ≡ work → DaemonEnds trace daemon → 1 ≤ trace.tries
    → HasTurned trace daemon (daemon_turn_by trace host segment daemon work).daemon
daemon_turns trace host segment daemon Resting is ends tries = next_turns trace host segment daemon (slice_get trace.polls daemon.polled) refl is ends tries
daemon_turns trace host segment daemon (Opening start old steps) is ends tries =
    let some : 1 ≤ daemon.polled = ends.begun (ap is_resting is) in
    let low : steps < opening_length old start = subst (WorkEnds daemon.life) is ends.work in
    let few : work_left trace.tries (Opening start old steps) ≤ 3 * trace.tries + 24 = subst (λ (w : Work). work_left trace.tries w ≤ 3 * trace.tries + 24) is ends.few in
    turned trace daemon (opening_step trace segment daemon start old steps).daemon (daemon.polled - 1) (work_left trace.tries (Opening start old steps)) (rw is refl) (ap (work_left trace.tries) is)
    (opening_moves trace daemon.polled (work_left trace.tries (Opening start old steps)) some ends.polled segment daemon start old steps refl low (omega arith) few)
daemon_turns trace host segment daemon Asking is ends tries =
    let some : 1 ≤ daemon.polled = ends.begun (ap is_resting is) in
    let lives : IsAlive daemon.life = subst (WorkEnds daemon.life) is ends.work in
    turned trace daemon (ask_by trace segment daemon (clocks_at trace.host host.done) host.done trace.page).daemon (daemon.polled - 1) (3 * trace.tries + 12) (rw is refl) (ap (work_left trace.tries) is)
    (ask_moves trace daemon.polled (3 * trace.tries + 12) some ends.polled segment daemon (clocks_at trace.host host.done) host.done trace.page lives refl tries (omega arith) (omega arith))
daemon_turns trace host segment daemon (Looking row reading marked_at) is ends tries =
    let some : 1 ≤ daemon.polled = ends.begun (ap is_resting is) in
    let lives : IsAlive daemon.life = subst (WorkEnds daemon.life) is ends.work in
    let few : page_left reading + 11 ≤ 3 * trace.tries + 24 = subst (λ (w : Work). work_left trace.tries w ≤ 3 * trace.tries + 24) is ends.few in
    let after : PageAfter = page_load (count_of trace.page) (page_shown trace.host host) reading in
    let at = marked_by (is_marker_next reading.try) host.done marked_at in
    turned trace daemon (look_by trace segment daemon row at after).daemon (daemon.polled - 1) (page_left reading + 11) (rw is refl) (ap (work_left trace.tries) is)
    (look_moves trace daemon.polled (page_left reading + 11) some ends.polled segment daemon row at (page_left reading) after lives refl
    (page_nearer (count_of trace.page) (page_shown trace.host host) reading reading.try) (page_some reading reading.try) (omega arith) few)
daemon_turns trace host segment daemon (Taking asked) is ends tries =
    let some : 1 ≤ daemon.polled = ends.begun (ap is_resting is) in
    let lives : IsAlive daemon.life = subst (WorkEnds daemon.life) is ends.work in
    turned trace daemon (daemon_turn_by trace host segment daemon (Taking asked)).daemon (daemon.polled - 1) 11 (rw is refl) (ap (work_left trace.tries) is)
    (taken_moves trace daemon.polled 11 some ends.polled segment daemon asked (poll_of trace daemon asked) (clocks_at trace.host host.done) host.done daemon.life lives refl (omega arith) (omega (arith, tries)))
daemon_turns trace host segment daemon (Writing storing) is ends tries =
    let some : 1 ≤ daemon.polled = ends.begun (ap is_resting is) in
    let low : storing.stores < 10 = subst (WorkEnds daemon.life) is ends.work in
    turned trace daemon (store_step trace segment daemon storing).daemon (daemon.polled - 1) (10 - storing.stores) (rw is refl) (ap (work_left trace.tries) is)
    (stores_move trace daemon.polled (10 - storing.stores) some ends.polled (stored segment storing.publication storing.stores) daemon (record storing { stores = storing.stores + 1 }) refl
    (omega (arith, low)) (omega (arith, low)) (omega (arith, tries)))
