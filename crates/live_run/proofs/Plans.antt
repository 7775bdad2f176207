-- What each client begins with.
use Rattle.std.proofs.Common.{◌≡◌, ◌≢◌, ℕ, ◌+◌, ◌≤◌, Bool, true, false, List, [], ◌∷◌, ◌++◌, length, refl, sym, ap, ◌∙◌, subst, ne_eqb, arith}
use Rattle.std.specs.Prelude.{All, ◌==◌, if◌then◌else◌, vec_len}
use Rattle.std.specs.List.{filter}
use Rattle.std.proofs.lemmas.List.Elements.{All-map, All-filter, All-weaker}
use Rattle.clock_gate.specs.declared.limits.TheConstants.{MOST_CLIENTS, MOST_TRIES}
use Rattle.clock_gate.specs.declared.trace.CallRow.{CallRow}
use Rattle.clock_gate.specs.declared.trace.Trace.{Trace}
use Rattle.clock_gate.specs.Trace.{IsCallRow, IsFrom, IsLawfulTrace}
use Rattle.interval_now.specs.declared.answers.Answer.{Answer}
use Rattle.segment_views.specs.declared.setup.Setup.{Setup}
use Rattle.segment_views.specs.Views.{SeatView}
use Rattle.segment_views.specs.Seats.{part_of}
use Rattle.segment_rule.specs.Ruled.{TableView}
use Rattle.segment_rule.specs.Calls.{ClientState}
use Rattle.lawful_report.specs.Composed.{tries_of_client}
use Rattle.live_report.specs.ClientCalls.{client_first, client_start}
use Rattle.live_report.specs.LiveRun.{setup_of}
use Rattle.live_report.proofs.Clients.{tries_few}
use Rattle.live_run.specs.declared.workers.Plan.{Plan}
use Rattle.live_run.specs.Dealt.{IsPlan, ArePlans, CanSit, IsReady}
use Rattle.live_run.proofs.DaemonLines.{clock_moments}

-- one plan more at the end, and one less
pub plans_more : (rows : List CallRow) (number : ℕ) (plans : List Plan) (p : Plan) → ArePlans rows number plans → IsPlan rows (number + length plans) p → ArePlans rows number (plans ++ p ∷ [])
plans_more rows number [] p are is = (let same : number + 0 ≡ number = omega arith in subst (λ (n : ℕ). IsPlan rows n p) same is, tt)
plans_more rows number (q ∷ plans) p are is =
    let same : number + length (q ∷ plans) ≡ number + 1 + length plans = omega arith in
    (are.0, plans_more rows (number + 1) plans p are.1 (subst (λ (n : ℕ). IsPlan rows n p) same is))

pub plans_less : (rows : List CallRow) (number : ℕ) (plans : List Plan) (p : Plan) → ArePlans rows number (plans ++ p ∷ []) → ArePlans rows number plans × IsPlan rows (number + length plans) p
plans_less rows number [] p are = (tt, let same : number ≡ number + 0 = omega arith in subst (λ (n : ℕ). IsPlan rows n p) same are.0)
plans_less rows number (q ∷ plans) p are =
    let same : number + 1 + length plans ≡ number + length (q ∷ plans) = omega arith in
    let later = plans_less rows (number + 1) plans p are.1 in
    ((are.0, later.0), subst (λ (n : ℕ). IsPlan rows n p) same later.1)

tries_fit : (trace : Trace) (client : ℕ) → IsLawfulTrace trace → All (IsFrom 1 MOST_TRIES) (tries_of_client trace.calls client)
tries_fit trace client lawful =
    let mine = filter (λ (row : CallRow). row.client == client) trace.calls in
    All-map (IsFrom 1 MOST_TRIES) (λ (row : CallRow). row.tries) mine
    (All-weaker IsCallRow (λ (row : CallRow). IsFrom 1 MOST_TRIES row.tries) (λ row is. is.tries) mine (All-filter (λ (row : CallRow). row.client == client) IsCallRow trace.calls lawful.calls))

start_setup : (setup : Setup) (client : ℕ) → (client_start setup client).setup ≡ setup
start_setup setup client = by (client == 1)
  where
    by : (b : Bool) → (if b then client_first setup else part_of (client_first setup)).setup ≡ setup
    by true = refl
    by false = refl

-- a further client begins with a part of what the first one has
pub start_further : (setup : Setup) (client : ℕ) → client ≢ 1 → client_start setup client ≡ part_of (client_first setup)
start_further setup client other = let test : (client == 1) ≡ false = ne_eqb client 1 other in rw test refl

-- a client that takes its seat
pub plan_ready : (table : TableView) (trace : Trace) (number : ℕ) (plan : Plan) (seat : ClientState) → number ≤ MOST_CLIENTS → CanSit table trace number seat → IsPlan trace.calls number plan
    → IsReady table trace number (record { number = number; seat = seat; calls = plan.calls; answers = plan.answers })
plan_ready table trace number plan seat few sits is =
    let long : vec_len plan.calls ≡ length (tries_of_client trace.calls number) = plan.calls.ok.0 ∙ ap (λ (l : List ℕ). length l) is.calls in
    let most = tries_few trace.calls number in
    let calls = sits.lawful.calls_few in
    let none : vec_len plan.answers ≡ 0 = plan.answers.ok.0 ∙ ap (λ (l : List Answer). length l) is.none in
    record {
      number_is = refl;
      can = record {
        of_table = sits.of_table;
        of_setup = ap (λ (v : SeatView). v.setup) sits.view ∙ (start_setup (setup_of trace) number ∙ sym sits.setup);
        rows = ap (λ (s : Setup). s.rows) (sym sits.setup);
        moments = clock_moments trace sits.lawful;
        number_few = few;
        few = omega (arith, long, most, calls);
        room = is.room;
        done = omega (arith, none);
        tries = subst (λ (l : List ℕ). All (IsFrom 1 MOST_TRIES) l) (sym is.calls) (tries_fit trace number sits.lawful);
        hand = λ e. absurd (off e);
        same_tries = λ e. absurd (off e);
        reading = λ e. absurd (off e);
      };
      calls = is.calls;
      none = is.none;
      view = sits.view;
      hand = sits.hand;
    }
  where
    off : seat.in_hand ≡ true → ⊥
    off e = (let no_way : true ≡ false = sym e ∙ sits.hand in cc no_way)
