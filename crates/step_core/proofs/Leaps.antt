-- Turns of a client at once are its turns one after another.
use Rattle.std.proofs.Common.{◌≡◌, ℕ, zero, suc, ◌+◌, ◌-◌, ◌<◌, ◌≤◌, Bool, true, false, List, [], ◌∷◌, length, refl, sym, ap, subst, ◌∙◌, inl, inr, arith, Option, Some, None, append-nil}
use Rattle.std.specs.Prelude.{slice_index, slice_get, slice_set, replicate, is_some, ◌==◌, ◌||◌, not, nat_le}
use Rattle.std.proofs.lemmas.List.{length-set}
use Rattle.std.proofs.lemmas.Bool.Decides.{nat_tests}
use Rattle.clock_gate.specs.declared.act.Act.{Act}
use Rattle.clock_gate.specs.declared.act.Act.TheVariants.{Load}
use Rattle.clock_gate.specs.declared.clock_row.ClockRow.{ClockRow}
use Rattle.clock_gate.specs.declared.trace.Trace.{Trace}
use Rattle.clock_gate.specs.declared.trace.Party.TheVariants.{Client}
use Rattle.clock_gate.specs.Acts.{after}
use Rattle.interval_now.specs.Call.{Call, IsStage, act_of, given, end_of, StageFailsOdd}
use Rattle.interval_now.proofs.CallSteps.{stage_nearer}
use Rattle.interval_now.proofs.GivenWords.{goes_on, odd_once}
use Rattle.abstract_run.specs.declared.event.Event.{Event}
use Rattle.abstract_run.specs.Schedule as schedule
use Rattle.step_core.specs.declared.marks.Marks.{Marks}
use Rattle.step_core.specs.declared.marks.Place.{Place}
use Rattle.step_core.specs.SharedWords.{value_of}
use Rattle.step_core.specs.SharedClient.{ClientState, noted, client_ready_by, client_stepped, client_after_by, client_turned, call_act, call_by, client_ended, client_has_job}
use Rattle.step_core.specs.Shared.{Shared, shared_turn, jobs_ended, has_job, place_of, client_turn, with_client}
use Rattle.step_core.specs.Leaps.{data_words, TakesWords, GoesOn, LeapsBy, Leaps, CallLeaps, headed, WorldLeaps}
use Rattle.step_core.proofs.Idle.{client_at_place, done_at_place, set_same}
use Rattle.step_core.specs.Reached.{IsReached}
use Rattle.step_core.proofs.Clients.{data_at}
use Rattle.step_core.proofs.Reached.{reached_turn}
use Rattle.abstract_run.specs.RunWhole.{in_hand}
use Rattle.step_core.proofs.Schedules.{turns_less, until_less}

-- ---- the call

-- a load of a data word leaves the marks
noted_data : (place : Place) (word : ℕ) (marks : Marks) → 2 ≤ word → word < 10 → noted place (Load word) marks ≡ marks
noted_data place word marks low high =
    let one : (word == 1) ≡ false = grind (arith, nat_tests) in
    let clock : (word == 23) ≡ false = grind (arith, nat_tests) in
    let page : (word == 12) ≡ false = grind (arith, nat_tests) in
    rw (one, clock, page) refl

went_one : (clock : List ClockRow) (words : List ℕ) (place : Place) (call : Call) (marks : Marks) (word value turns : ℕ) (later : Call) → IsStage call.stage → act_of call ≡ Load word → 2 ≤ word → word < 10 → value ≡ slice_index words word
    → GoesOn clock words place turns (given clock call value) marks later marks → GoesOn clock words place (suc turns) call marks later marks
went_one clock words place call marks word value turns later is act low high found rest =
    let goes = goes_on clock call.tries call.support call.stage word value is act low high in
    let value_is : value_of words (act_of call) ≡ value = ap (value_of words) act ∙ sym found in
    let stay : noted place (act_of call) marks ≡ marks = ap (λ (a : Act). noted place a marks) act ∙ noted_data place word marks low high in
    subst (λ (n : ℕ). (end_of (given clock call n) ≡ None) × GoesOn clock words place turns (given clock call n) (noted place (act_of call) marks) later marks) (sym value_is)
    (goes.on, subst (λ (m : Marks). GoesOn clock words place turns (given clock call value) m later marks) (sym stay) rest)

went_words : (clock : List ClockRow) (words : List ℕ) (place : Place) (call : Call) (marks : Marks) (word : ℕ) (values : List ℕ) → 0 < call.tries → IsStage call.stage → act_of call ≡ Load word → 2 ≤ word → word + length values ≤ 10
    → ((k : ℕ) → k < length values → slice_index values k ≡ slice_index words (word + k)) → GoesOn clock words place (length values) call marks (after act_of (given clock) call values) marks
went_words clock words place call marks word [] some is act low few are = (refl, refl)
went_words clock words place call marks word (value ∷ []) some is act low few are =
    let here : word + 0 ≡ word = omega arith in
    went_one clock words place call marks word value 0 (given clock call value) is act low (omega arith) (are 0 (omega arith) ∙ ap (slice_index words) here) (refl, refl)
went_words clock words place call marks word (value ∷ next ∷ values) some is act low few are =
    let here : word + 0 ≡ word = omega arith in
    let goes = goes_on clock call.tries call.support call.stage word value is act low (omega arith) in
    went_one clock words place call marks word value (length (next ∷ values)) (after act_of (given clock) (given clock call value) (next ∷ values)) is act low (omega arith) (are 0 (omega arith) ∙ ap (slice_index words) here)
    (went_words clock words place (given clock call value) marks (word + 1) (next ∷ values) some (stage_nearer clock call.tries call.support call.stage value some is (λ ends. absurd (cc (sym act ∙ ends)))).0 (goes.next (omega arith)) (omega arith) (omega arith)
    (λ k less. let there : word + suc k ≡ word + 1 + k = omega arith in are (suc k) (omega arith) ∙ ap (slice_index words) there))

headed_more : (place : Place) (count : ℕ) (marks : Marks) → headed place count (record marks { from = marks.to; to = place.position }) ≡ headed place (suc count) marks
headed_more place zero marks = refl
headed_more place (suc zero) marks = refl
headed_more place (suc (suc more)) marks = refl

went_odd : (clock : List ClockRow) (words : List ℕ) (place : Place) (count : ℕ) (call : Call) (marks : Marks) → (0 < count → StageFailsOdd call.stage (slice_index words 1) count)
    → GoesOn clock words place count call marks (after act_of (given clock) call (replicate count (slice_index words 1))) (headed place count marks)
went_odd clock words place zero call marks fails = (refl, refl)
went_odd clock words place (suc count) call marks fails =
    let header : ℕ = slice_index words 1 in
    let once = odd_once clock call.tries call.support call.stage header count (fails (omega arith)) in
    let found : value_of words (act_of call) ≡ header = ap (value_of words) once.act in
    let next : Call = given clock call header in
    let after_one : Marks = record marks { from = marks.to; to = place.position } in
    let seen : noted place (act_of call) marks ≡ after_one = ap (λ (a : Act). noted place a marks) once.act in
    subst (λ (n : ℕ). (end_of (given clock call n) ≡ None) × GoesOn clock words place count (given clock call n) (noted place (act_of call) marks) (after act_of (given clock) next (replicate count header)) (headed place (suc count) marks)) (sym found) (
      once.on,
      subst (λ (m : Marks). GoesOn clock words place count next m (after act_of (given clock) next (replicate count header)) (headed place (suc count) marks)) (sym seen)
          (subst (λ (m : Marks). GoesOn clock words place count next after_one (after act_of (given clock) next (replicate count header)) m) (headed_more place count marks)
          (went_odd clock words place count next after_one (λ some. once.next))),
    )

-- ---- the client

pub call_leaps : (clock : List ClockRow) (words : List ℕ) (place : Place) (call : Call) (marks : Marks) (turns heads : ℕ) (later : Call) → (act_of call ≡ Load 2 → TakesWords words call) → CallLeaps clock words call turns heads later
    → GoesOn clock words place turns call marks later (headed place heads marks)
call_leaps clock words place call marks turns heads later takes (inl taken) =
    let is = takes taken.2 in
    rw (taken.0, taken.1, taken.3) (went_words clock words place call marks 2 (data_words words) is.some is.stage taken.2 (omega arith) (omega arith) (λ k less. data_at words k less))
call_leaps clock words place call marks turns heads later takes (inr failed) =
    rw (← failed.0, failed.2) (went_odd clock words place turns call marks failed.1)

-- ---- the run

-- a turn after which the call goes on
turn_on : (trace : Trace) (words : List ℕ) (stands : Place) (client : ClientState) (call : Call) → client.call ≡ Some call → end_of (given trace.clock call (value_of words (act_of call))) ≡ None
    → client_turned trace words stands client ≡ record { client = record client { call = Some (given trace.clock call (value_of words (act_of call))); marks = noted stands (act_of call) client.marks }; told = [] }
turn_on trace words stands client call same on =
    ap (client_stepped trace words stands) (ap (client_ready_by (is_some trace.page) client) same)
    ∙ ap (λ (c : Option Call). client_after_by trace.clock stands client (value_of words (call_act c)) c) same
    ∙ ap (call_by client (noted stands (act_of call) client.marks) (given trace.clock call (value_of words (act_of call)))) on

get_set : (clients : List ClientState) (place : ℕ) (client : ClientState) → place < length clients → slice_get (slice_set clients place client) place ≡ Some client
get_set [] place client within = absurd (omega arith)
get_set (first ∷ clients) zero client within = refl
get_set (first ∷ clients) (suc place) client within = get_set clients place client (omega arith)

set_twice : (clients : List ClientState) (place : ℕ) (one two : ClientState) → slice_set (slice_set clients place one) place two ≡ slice_set clients place two
set_twice [] place one two = refl
set_twice (first ∷ clients) zero one two = refl
set_twice (first ∷ clients) (suc place) one two = ap (λ (later : List ClientState). first ∷ later) (set_twice clients place one two)

ended_hand : (client : ClientState) (call : Call) → client.call ≡ Some call → client_ended client ≡ client.begun - 1
unfolding client_ended
ended_hand client call same = ap (λ (c : Option Call). client.begun - in_hand c) same

job_hand : (client : ClientState) (call : Call) → client.call ≡ Some call → client_has_job client ≡ true
job_hand client call same = rw same refl

pub record Lept (place turns : ℕ) (w new : Shared) : Type 0 where
  pub leaps : WorldLeaps place turns w new
  pub reached : IsReached w → IsReached new

lept_none : (place : ℕ) (w : Shared) → Lept place 0 w w
lept_none place w = record { leaps = record { clients = refl; turned = λ more. let same : 0 + more ≡ more = omega arith in ap (λ (n : ℕ). schedule.turns_of shared_turn jobs_ended has_job n (Client (place + 1)) w) same; done = λ jobs. refl; until = λ more jobs goes. let same : 0 + more ≡ more = omega arith in ap (λ (n : ℕ). schedule.until_done shared_turn jobs_ended has_job n (Client (place + 1)) jobs w) same }; reached = λ r. r }

lept_one : (place turns : ℕ) (w next new : Shared) → shared_turn w (Client (place + 1)) ≡ next → length next.clients ≡ length w.clients
    → ((jobs : ℕ) → schedule.is_done shared_turn jobs_ended has_job (Client (place + 1)) jobs next ≡ schedule.is_done shared_turn jobs_ended has_job (Client (place + 1)) jobs w)
    → Lept place turns next new → Lept place (suc turns) w new
lept_one place turns w next new turn long done rest =
    record {
      leaps = record {
        clients = rest.leaps.clients ∙ long;
        turned = λ more.
            let count : suc turns + more - 1 ≡ turns + more = omega arith in
            turns_less (suc turns + more) (Client (place + 1)) w (omega arith)
            ∙ ap (λ (n : ℕ). schedule.turns_of shared_turn jobs_ended has_job n (Client (place + 1)) (shared_turn w (Client (place + 1)))) count
            ∙ ap (schedule.turns_of shared_turn jobs_ended has_job (turns + more) (Client (place + 1))) turn
            ∙ rest.leaps.turned more;
        done = λ jobs. rest.leaps.done jobs ∙ done jobs;
        until = λ more jobs goes.
            let count : suc turns + more - 1 ≡ turns + more = omega arith in
            until_less (suc turns + more) (Client (place + 1)) jobs w (omega arith) goes
            ∙ ap (λ (n : ℕ). schedule.until_done shared_turn jobs_ended has_job n (Client (place + 1)) jobs (shared_turn w (Client (place + 1)))) count
            ∙ ap (schedule.until_done shared_turn jobs_ended has_job (turns + more) (Client (place + 1)) jobs) turn
            ∙ rest.leaps.until more jobs (done jobs ∙ goes);
      };
      reached = λ r. rest.reached (subst IsReached turn (reached_turn w (Client (place + 1)) r));
    }

pub leap_turns : (turns : ℕ) (w : Shared) (place : ℕ) (client : ClientState) (call later : Call) (marks : Marks) → place < length w.clients → slice_get w.clients place ≡ Some client → client.call ≡ Some call
    → GoesOn w.trace.clock w.words (place_of w) turns call client.marks later marks → Lept place turns w (record w { clients = slice_set w.clients place (record client { call = Some later; marks = marks }) })
leap_turns zero w place client call later marks within at same went =
    let here : record client { call = Some later; marks = marks } ≡ client =
    ap (λ (c : Option Call). record client { call = c; marks = marks }) (ap Some (sym went.0) ∙ sym same) ∙ ap (λ (m : Marks). record client { marks = m }) (sym went.1) in
    let set : slice_set w.clients place (record client { call = Some later; marks = marks }) ≡ w.clients = ap (slice_set w.clients place) here ∙ set_same w.clients place client at in
    subst (λ (clients : List ClientState). Lept place 0 w (record w { clients = clients })) (sym set) (lept_none place w)
leap_turns (suc turns) w place client call later marks within at same went =
    let next_call : Call = given w.trace.clock call (value_of w.words (act_of call)) in
    let next : ClientState = record client { call = Some next_call; marks = noted (place_of w) (act_of call) client.marks } in
    let turned = turn_on w.trace w.words (place_of w) client call same went.0 in
    let told : client_turn w place (Some client) ≡ record w { clients = slice_set w.clients place next } =
    ap (with_client w place) turned ∙ ap (λ (events : List Event). record w { clients = slice_set w.clients place next; events = events }) (append-nil w.events) in
    let turn : shared_turn w (Client (place + 1)) ≡ record w { clients = slice_set w.clients place next } = client_at_place w place ∙ (ap (client_turn w place) at ∙ told) in
    let long : length (slice_set w.clients place next) ≡ length w.clients = length-set w.clients place next in
    let at_next : slice_get (slice_set w.clients place next) place ≡ Some next = get_set w.clients place next within in
    let rest = leap_turns turns (record w { clients = slice_set w.clients place next }) place next next_call later marks (omega (arith, within, long)) at_next refl went.1 in
    lept_one place turns w (record w { clients = slice_set w.clients place next }) _ turn long
    (λ jobs. done_at_place (record w { clients = slice_set w.clients place next }) place jobs next at_next
    ∙ (ap (λ (n : ℕ). nat_le jobs n || not true) (ended_hand next next_call refl ∙ sym (ended_hand client call same))
    ∙ (ap (λ (b : Bool). nat_le jobs (client_ended client) || not b) (sym (job_hand client call same)) ∙ sym (done_at_place w place jobs client at))))
    (subst (λ (clients : List ClientState). Lept place turns (record w { clients = slice_set w.clients place next }) (record w { clients = clients }))
    (set_twice w.clients place next (record client { call = Some later; marks = marks })) rest)

-- a leap of the client at a place
pub leapt : (turns : ℕ) (w : Shared) (place : ℕ) (client new : ClientState) → place < length w.clients → slice_get w.clients place ≡ Some client → Leaps w.trace.clock w.words (place_of w) turns client new
    → Lept place turns w (record w { clients = slice_set w.clients place new })
leapt turns w place client new within at leaps = by_call client.call refl leaps
  where
    by_call : (call : Option Call) → client.call ≡ call → LeapsBy w.trace.clock w.words (place_of w) turns client new call → Lept place turns w (record w { clients = slice_set w.clients place new })
    by_call None same is =
        let set : slice_set w.clients place new ≡ w.clients = ap (slice_set w.clients place) is.1 ∙ set_same w.clients place client at in
        subst (λ (n : ℕ). Lept place n w (record w { clients = slice_set w.clients place new })) (sym is.0)
        (subst (λ (clients : List ClientState). Lept place 0 w (record w { clients = clients })) (sym set) (lept_none place w))
    by_call (Some call) same is =
        subst (λ (c : ClientState). Lept place turns w (record w { clients = slice_set w.clients place c })) (sym is.2) (leap_turns turns w place client call is.0 is.1 within at same is.3)

pub leaps_none : (clock : List ClockRow) (words : List ℕ) (place : Place) (client : ClientState) → client.call ≡ None → Leaps clock words place 0 client client
leaps_none clock words place client same = subst (LeapsBy clock words place 0 client client) (sym same) (refl, refl)

pub leaps_some : (clock : List ClockRow) (words : List ℕ) (place : Place) (client : ClientState) (call later : Call) (turns heads : ℕ) → client.call ≡ Some call → (act_of call ≡ Load 2 → TakesWords words call) → CallLeaps clock words call turns heads later
    → Leaps clock words place turns client (record client { call = Some later; marks = headed place heads client.marks })
leaps_some clock words place client call later turns heads same takes leap =
    subst (LeapsBy clock words place turns client (record client { call = Some later; marks = headed place heads client.marks })) (sym same)
    (later, headed place heads client.marks, refl, call_leaps clock words place call client.marks turns heads later takes leap)
