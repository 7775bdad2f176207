-- Stores of the daemon's poll at once are its turns one after another.
use Rattle.std.proofs.Common.{◌≡◌, ◌≢◌, ℕ, suc, ◌+◌, ◌-◌, true, List, [], ◌∷◌, ◌++◌, length, refl, sym, ap, subst, ◌∙◌, inl, inr, arith, append-nil}
use Rattle.std.specs.Prelude.{◌||◌, not, slice_set, nat_le, nat_lt, if◌then◌else◌}
use Rattle.clock_gate.specs.declared.act.Act.{Act}
use Rattle.clock_gate.specs.declared.act.Act.TheVariants.{Store, End}
use Rattle.clock_gate.specs.declared.clock_row.ClockRow.{ClockRow}
use Rattle.clock_gate.specs.declared.trace.Party.TheVariants.{Daemon}
use Rattle.shm_writer.specs.Publisher.{IsGoodStore}
use Rattle.shm_writer.specs.Leaps.{MakesStores}
use Rattle.writer_reopen.specs.PollMachine.{Polling as PollState, polling_progress, polling_act, polling_given}
use Rattle.writer_reopen.proofs.InOrder.{end_of_asking, store_goes_on}
use Rattle.abstract_run.specs.declared.event.Event.{Event}
use Rattle.abstract_run.specs.Schedule as schedule
use Rattle.step_core.specs.declared.hand.Hand.{Hand}
use Rattle.step_core.specs.declared.hand.Hand.TheVariants as hands
use Rattle.step_core.specs.declared.hand.Polling.{Polling}
use Rattle.step_core.specs.SharedWords.{after_act, value_of}
use Rattle.step_core.specs.SharedDaemon.{DaemonState, noted_poll, hand_act, daemon_act, daemon_ready_by, polling_by, polling_after, resting, daemon_after, daemon_after_by, is_resting}
use Rattle.step_core.specs.Shared.{Shared, shared_turn, jobs_ended, has_job, with_daemon, daemon_steps}
use Rattle.step_core.specs.Reached.{IsReached}
use Rattle.step_core.specs.DaemonLeaps.{stored, PollLeaps, HandLeaps, DaemonLeaps, PartyLeaps}
use Rattle.step_core.proofs.Schedules.{turns_less, until_less}
use Rattle.step_core.proofs.Reached.{reached_turn}

-- ---- one store

-- the run after a store of its poll
abbrev stored_once : Shared → Polling → (word value : ℕ) → Shared
stored_once w polling word value =
    record w { words = slice_set w.words word value; daemon = record w.daemon { hand = hands.Polling (record polling { machine = polling_given w.trace.clock polling.machine 0 }) } }

-- the poll in hand stores this value, and goes on
record Stores (w : Shared) (polling : Polling) (word value : ℕ) : Type 0 where
  hand : w.daemon.hand ≡ hands.Polling polling
  act : polling_act polling.machine ≡ Store word value
  good : IsGoodStore (Store word value)
  goes_on : polling_act (polling_given w.trace.clock polling.machine 0) ≢ End

store_act : (w : Shared) (polling : Polling) (word value : ℕ) → Stores w polling word value → daemon_act w.daemon ≡ Store word value
store_act w polling word value is = ap hand_act is.hand ∙ is.act

store_after : (w : Shared) (polling : Polling) (word value : ℕ) → Stores w polling word value
    → daemon_after w.trace w.host.done w.daemon (value_of w.words (daemon_act w.daemon)) ≡ record { daemon = (stored_once w polling word value).daemon; told = [] }
store_after w polling word value is =
    let next : Polling = polling_after w.trace w.host.done polling 0 in
    ap (λ (act : Act). daemon_after w.trace w.host.done w.daemon (value_of w.words act)) (store_act w polling word value is)
    ∙ (ap (daemon_after_by w.trace w.host.done (resting w.daemon) 0) is.hand
    ∙ (ap (polling_by (resting w.daemon) next) (end_of_asking (polling_progress next.machine) is.goes_on)
    ∙ ap (λ (act : Act). record { daemon = record w.daemon { hand = hands.Polling (record { machine = next.machine; stop = polling.stop; marks = noted_poll w.host.done act polling.marks }) }; told = [] }) is.act))

store_steps : (w : Shared) (polling : Polling) (word value : ℕ) → Stores w polling word value → daemon_steps w w.daemon ≡ stored_once w polling word value
store_steps w polling word value is =
    let new : DaemonState = (stored_once w polling word value).daemon in
    ap (with_daemon w w.daemon) (store_after w polling word value is)
    ∙ (ap (λ (act : Act). record w { words = after_act w.words act; daemon = new; events = w.events ++ [] }) (store_act w polling word value is)
    ∙ ap (λ (events : List Event). record w { words = slice_set w.words word value; daemon = new; events = events }) (append-nil w.events))

store_turn : (w : Shared) (polling : Polling) (word value : ℕ) → Stores w polling word value → shared_turn w Daemon ≡ stored_once w polling word value
store_turn w polling word value is = ap (daemon_steps w) (ap (daemon_ready_by w.trace w.daemon) is.hand) ∙ store_steps w polling word value is

store_done : (w : Shared) (polling : Polling) (word value jobs : ℕ) → Stores w polling word value
    → schedule.is_done shared_turn jobs_ended has_job Daemon jobs (stored_once w polling word value) ≡ schedule.is_done shared_turn jobs_ended has_job Daemon jobs w
store_done w polling word value jobs is =
    sym (ap (λ (hand : Hand). nat_le jobs (if is_resting hand then w.daemon.polled else w.daemon.polled - 1) || not (if is_resting hand then nat_lt w.daemon.polled (length w.trace.polls) else true)) is.hand)

-- ---- so many turns

pub record DaemonLept (turns : ℕ) (w new : Shared) : Type 0 where
  pub leaps : PartyLeaps Daemon turns w new
  pub reached : IsReached w → IsReached new

lept_none : (w : Shared) → DaemonLept 0 w w
lept_none w =
    record {
      leaps = record {
        turned = λ more. let same : 0 + more ≡ more = omega arith in ap (λ (n : ℕ). schedule.turns_of shared_turn jobs_ended has_job n Daemon w) same;
        done = λ jobs. refl;
        until = λ more jobs goes. let same : 0 + more ≡ more = omega arith in ap (λ (n : ℕ). schedule.until_done shared_turn jobs_ended has_job n Daemon jobs w) same;
      };
      reached = λ r. r;
    }

lept_one : (turns : ℕ) (w : Shared) (polling : Polling) (word value : ℕ) (new : Shared) → Stores w polling word value → DaemonLept turns (stored_once w polling word value) new → DaemonLept (suc turns) w new
lept_one turns w polling word value new is rest =
    let turn = store_turn w polling word value is in
    record {
      leaps = record {
        turned = λ more.
            let count : suc turns + more - 1 ≡ turns + more = omega arith in
            turns_less (suc turns + more) Daemon w (omega arith)
            ∙ (ap (λ (n : ℕ). schedule.turns_of shared_turn jobs_ended has_job n Daemon (shared_turn w Daemon)) count
            ∙ (ap (schedule.turns_of shared_turn jobs_ended has_job (turns + more) Daemon) turn
            ∙ rest.leaps.turned more));
        done = λ jobs. rest.leaps.done jobs ∙ store_done w polling word value jobs is;
        until = λ more jobs goes.
            let count : suc turns + more - 1 ≡ turns + more = omega arith in
            until_less (suc turns + more) Daemon jobs w (omega arith) goes
            ∙ (ap (λ (n : ℕ). schedule.until_done shared_turn jobs_ended has_job n Daemon jobs (shared_turn w Daemon)) count
            ∙ (ap (schedule.until_done shared_turn jobs_ended has_job (turns + more) Daemon jobs) turn
            ∙ rest.leaps.until more jobs (store_done w polling word value jobs is ∙ goes)));
      };
      reached = λ r. rest.reached (subst IsReached turn (reached_turn w Daemon r));
    }

goes_on : (clock : List ClockRow) (word : ℕ) (values : List ℕ) (poll later : PollState) → MakesStores polling_act (polling_given clock) word values poll later → polling_act poll ≢ End
goes_on clock word [] poll later makes = subst (λ (p : PollState). polling_act p ≢ End) (sym makes.0) makes.1
goes_on clock word (value ∷ values) poll later makes = λ ends. store_goes_on word value (sym makes.0 ∙ ends)

leap_stores : (values : List ℕ) (word : ℕ) (w : Shared) (polling : Polling) (later : PollState) → w.daemon.hand ≡ hands.Polling polling → MakesStores polling_act (polling_given w.trace.clock) word values polling.machine later
    → DaemonLept (length values) w (record w { words = stored w.words word values; daemon = record w.daemon { hand = hands.Polling (record polling { machine = later }) } })
leap_stores [] word w polling later hand makes =
    let same : w.daemon.hand ≡ hands.Polling (record polling { machine = later }) = hand ∙ ap (λ (machine : PollState). hands.Polling (record polling { machine = machine })) makes.0 in
    subst (λ (h : Hand). DaemonLept 0 w (record w { daemon = record w.daemon { hand = h } })) same (lept_none w)
leap_stores (value ∷ values) word w polling later hand makes =
    let next : PollState = polling_given w.trace.clock polling.machine 0 in
    lept_one (length values) w polling word value _ (record { hand = hand; act = makes.0; good = makes.1; goes_on = goes_on w.trace.clock (suc word) values next later makes.2 })
    (leap_stores values (suc word) (stored_once w polling word value) (record polling { machine = next }) later refl makes.2)

-- ---- a leap

pub hand_stays : (hand : Hand) (words : List ℕ) → HandLeaps 0 hand words hand words
hand_stays hands.Resting words = (refl, refl, refl)
hand_stays (hands.Opening reopening) words = (refl, refl, refl)
hand_stays (hands.Polling polling) words = (polling.machine, refl, inl (refl, refl, refl))

lept_still : (turns : ℕ) (w : Shared) (new : DaemonState) (after : List ℕ) → turns ≡ 0 → new ≡ record w.daemon { hand = new.hand } → new.hand ≡ w.daemon.hand → after ≡ w.words
    → DaemonLept turns w (record w { words = after; daemon = new })
lept_still turns w new after none is hand words =
    let here : new ≡ w.daemon = is ∙ ap (λ (h : Hand). record w.daemon { hand = h }) hand in
    subst (λ (n : ℕ). DaemonLept n w (record w { words = after; daemon = new })) (sym none)
    (subst (λ (d : DaemonState). DaemonLept 0 w (record w { words = after; daemon = d })) (sym here)
    (subst (λ (ws : List ℕ). DaemonLept 0 w (record w { words = ws })) (sym words) (lept_none w)))

lept_poll : (turns : ℕ) (w : Shared) (new : DaemonState) (after : List ℕ) (polling : Polling) (machine : PollState) → w.daemon.hand ≡ hands.Polling polling → new ≡ record w.daemon { hand = new.hand }
    → new.hand ≡ hands.Polling (record polling { machine = machine }) → PollLeaps turns polling.machine w.words machine after → DaemonLept turns w (record w { words = after; daemon = new })
lept_poll turns w new after polling machine hand is to (inl (none, same, words)) =
    lept_still turns w new after none is (to ∙ (ap (λ (m : PollState). hands.Polling (record polling { machine = m })) same ∙ sym hand)) words
lept_poll turns w new after polling machine hand is to (inr (values, count, words, makes)) =
    let here : new ≡ record w.daemon { hand = hands.Polling (record polling { machine = machine }) } = is ∙ ap (λ (h : Hand). record w.daemon { hand = h }) to in
    subst (λ (n : ℕ). DaemonLept n w (record w { words = after; daemon = new })) (sym count)
    (subst (λ (d : DaemonState). DaemonLept (length values) w (record w { words = after; daemon = d })) (sym here)
    (subst (λ (ws : List ℕ). DaemonLept (length values) w (record w { words = ws; daemon = record w.daemon { hand = hands.Polling (record polling { machine = machine }) } })) (sym words)
    (leap_stores values 1 w polling machine hand (makes w.trace.clock))))

pub daemon_leapt : (turns : ℕ) (w : Shared) (new : DaemonState) (after : List ℕ) → DaemonLeaps turns w.daemon w.words new after → DaemonLept turns w (record w { words = after; daemon = new })
daemon_leapt turns w new after leaps = by_hand w.daemon.hand refl leaps.1
  where
    by_hand : (hand : Hand) → w.daemon.hand ≡ hand → HandLeaps turns hand w.words new.hand after → DaemonLept turns w (record w { words = after; daemon = new })
    by_hand hands.Resting same is = lept_still turns w new after is.0 leaps.0 (is.1 ∙ sym same) is.2
    by_hand (hands.Opening reopening) same is = lept_still turns w new after is.0 leaps.0 (is.1 ∙ sym same) is.2
    by_hand (hands.Polling polling) same is = lept_poll turns w new after polling is.0 same leaps.0 is.1 is.2
