-- Clients on the stacks of workers.
use Rattle.std.proofs.Common.{◌≡◌, ℕ, zero, suc, ◌+◌, ◌-◌, ◌%◌, ◌<◌, inl, inr, List, [], ◌∷◌, ◌++◌, map, length, slice_index_or, slice_set, take, vec_len, refl, sym, ◌∙◌, ap, subst, arith}
use Rattle.std.specs.Global.{Vec}
use Rattle.std.specs.Prelude.{Some, Option}
use Rattle.std.specs.List.{AllZip, range_with_len}
use Rattle.std.proofs.lemmas.Bool.{cases_eq}
use Rattle.std.proofs.lemmas.List.{set-set, set-get_or, get_or-set_same, get_or-set_other, length-set, length-map, map-set, take_all, take_at, get_or_at, length_push}
use Rattle.std.proofs.lemmas.Nat.{mod_below}
use Rattle.clock_gate.specs.declared.clock_row.ClockRow.{ClockRow}
use Rattle.clock_gate.specs.declared.trace.Trace.{Trace}
use Rattle.interval_now.specs.declared.answers.Answer.{Answer}
use Rattle.segment_views.specs.Views.{SeatView}
use Rattle.segment_rule.specs.Ruled.{TableView}
use Rattle.lawful_report.specs.Composed.{tries_of_client}
use Rattle.live_report.specs.ClientCalls.{AllClientCalls, ClientCalls, client_start}
use Rattle.live_report.specs.LiveRun.{setup_of}
use Rattle.live_run.specs.declared.clients.Client.{Client}
use Rattle.live_run.specs.declared.clients.ClientWorker.{ClientWorker}
use Rattle.live_run.specs.Work.{Stands, Worked, WorkersDone}
use Rattle.live_run.specs.Dealt.{stacks_of, Stacked, IsReady, AreReady, IsDone, AreDone, IsDealt, IsWorkedOff}
use Rattle.live_run.proofs.Turns.{stands_first}

-- ---- one client more

pub stacked_more : (place : ℕ) (stacks : List (List Client)) (rest : List Client) (client : Client) (clients : List Client) → place % length stacks < length stacks
    → slice_index_or stacks (place % length stacks) [] ≡ rest → Stacked (place + 1) stacks clients
    → Stacked place (slice_set stacks (place % length stacks) (rest ++ client ∷ [])) (client ∷ clients)
stacked_more place stacks rest client clients here at on =
    let q = place % length stacks in
    let more = slice_set stacks q (rest ++ client ∷ []) in
    let long : length more ≡ length stacks = length-set stacks q (rest ++ client ∷ []) in
    let back : slice_set more q rest ≡ stacks = set-set stacks q (rest ++ client ∷ []) rest ∙ (ap (slice_set stacks q) (sym at) ∙ set-get_or stacks q []) in
    let P : ℕ → Type 0 = λ n. (r : List Client) × (place % n < n) × (slice_index_or more (place % n) [] ≡ r ++ client ∷ []) × Stacked (place + 1) (slice_set more (place % n) r) clients in
    subst P (sym long) (rest, here, get_or-set_same stacks q (rest ++ client ∷ []) [] here, subst (λ (s : List (List Client)). Stacked (place + 1) s clients) (sym back) on)

-- ---- the stack of one worker

stack_at : (workers : List ClientWorker) (q : ℕ) (w : ClientWorker) → q < length workers → w ≡ slice_index_or workers q w → slice_index_or (stacks_of workers) q [] ≡ w.clients.items
stack_at [] q w here at = absurd (omega arith)
stack_at (v ∷ workers) zero w here at = ap (λ (x : ClientWorker). x.clients.items) (sym at)
stack_at (v ∷ workers) (suc q) w here at = stack_at workers q w (omega arith) at

-- a client goes to the worker whose turn it is
pub deal_stacked : (place len : ℕ) (workers : List ClientWorker) (w v : ClientWorker) (client : Client) (clients : List Client) → len ≡ length workers → 0 < length workers
    → w ≡ slice_index_or workers (place % len) w → v.clients.items ≡ w.clients.items ++ client ∷ [] → Stacked (place + 1) (stacks_of workers) clients
    → Stacked place (stacks_of (slice_set workers (place % len) v)) (client ∷ clients)
deal_stacked place len workers w v client clients lens some at more on =
    let long : length (stacks_of workers) ≡ len = length-map workers (λ (x : ClientWorker). x.clients.items) ∙ sym lens in
    let q = place % len in
    let below : q < len = mod_below place len (omega arith) in
    let here : q < length workers = omega arith in
    let same : place % length (stacks_of workers) ≡ q = ap (λ (n : ℕ). place % n) long in
    let stack : slice_index_or (stacks_of workers) (place % length (stacks_of workers)) [] ≡ w.clients.items = ap (λ (n : ℕ). slice_index_or (stacks_of workers) n []) same ∙ stack_at workers q w here at in
    let dealt = stacked_more place (stacks_of workers) w.clients.items client clients (subst (λ (n : ℕ). place % n < n) (sym long) below) stack on in
    let set : slice_set (stacks_of workers) (place % length (stacks_of workers)) (w.clients.items ++ client ∷ []) ≡ stacks_of (slice_set workers q v) =
    ap (λ (n : ℕ). slice_set (stacks_of workers) n (w.clients.items ++ client ∷ [])) same
    ∙ (ap (slice_set (stacks_of workers) q) (sym more) ∙ sym (map-set (λ (x : ClientWorker). x.clients.items) workers q v)) in
    subst (λ (s : List (List Client)). Stacked place s (client ∷ clients)) set dealt

-- and is taken from it again
take_end : (xs rest : List Client) (client : Client) (len : ℕ) → len ≡ length xs → xs ≡ rest ++ client ∷ [] → (0 < len) × (slice_index_or xs (len - 1) client ≡ client) × (take (len - 1) xs ≡ rest)
take_end xs rest client len lens is =
    let long : length xs ≡ length rest + 1 = ap (λ (l : List Client). length l) is ∙ length_push rest client in
    let place : length rest ≡ len - 1 = omega (arith, long, lens) in (
      omega (arith, long, lens),
      ap (λ (l : List Client). slice_index_or l (len - 1) client) is ∙ get_or_at rest client [] client (len - 1) place,
      ap (λ (l : List Client). take (len - 1) l) is ∙ take_at rest (client ∷ []) (len - 1) place,
    )

pub take_stacked : (place len : ℕ) (workers : List ClientWorker) (w v : ClientWorker) (client : Client) (clients : List Client) (found : Option Client) → len ≡ length workers → 0 < length workers
    → w ≡ slice_index_or workers (place % len) w
    → ((d : Client) → 0 < vec_len w.clients → found ≡ Some (slice_index_or w.clients.items (vec_len w.clients - 1) d)) → v.clients.items ≡ take (vec_len w.clients - 1) w.clients.items
    → Stacked place (stacks_of workers) (client ∷ clients) → (found ≡ Some client) × Stacked (place + 1) (stacks_of (slice_set workers (place % len) v)) clients
take_stacked place len workers w v client clients found lens some at last left on =
    let long : length (stacks_of workers) ≡ len = length-map workers (λ (x : ClientWorker). x.clients.items) ∙ sym lens in
    let q = place % len in
    let below : q < len = mod_below place len (omega arith) in
    let here : q < length workers = omega arith in
    let same : place % length (stacks_of workers) ≡ q = ap (λ (n : ℕ). place % n) long in
    let stack : w.clients.items ≡ on.0 ++ client ∷ [] = sym (ap (λ (n : ℕ). slice_index_or (stacks_of workers) n []) same ∙ stack_at workers q w here at) ∙ on.2 in
    let e = take_end w.clients.items on.0 client (vec_len w.clients) w.clients.ok.0 stack in
    let set : slice_set (stacks_of workers) (place % length (stacks_of workers)) on.0 ≡ stacks_of (slice_set workers q v) =
    ap (λ (n : ℕ). slice_set (stacks_of workers) n on.0) same
    ∙ (ap (slice_set (stacks_of workers) q) (sym (left ∙ e.2)) ∙ sym (map-set (λ (x : ClientWorker). x.clients.items) workers q v)) in
    (last client e.0 ∙ ap (λ (c : Client). Some c) e.1, subst (λ (s : List (List Client)). Stacked (place + 1) s clients) set on.3)

-- ---- after the work

-- two lists side by side, of which the first ends with an item
zip_end : {X : Type 0} (R : X → X → Type 0) (xs : List X) (x : X) (ys : List X) → AllZip R (xs ++ x ∷ []) ys → (rest : List X) × (y : X) × (ys ≡ rest ++ y ∷ []) × AllZip R xs rest × R x y
zip_end R [] x [] z = absurd z
zip_end R [] x (y ∷ []) z = ([], y, refl, tt, z.0)
zip_end R [] x (y ∷ w ∷ ys) z = absurd z.1
zip_end R (a ∷ xs) x [] z = absurd z
zip_end {X = X} R (a ∷ xs) x (b ∷ ys) z = let e = zip_end R xs x ys z.1 in (b ∷ e.0, e.1, ap (λ (l : List X). b ∷ l) e.2, (z.0, e.3), e.4)

-- the same items index by index
zip_from : {X : Type 0} (R : X → X → Type 0) (xs ys : List X) → length ys ≡ length xs → ((k : ℕ) (d : X) → k < length xs → R (slice_index_or xs k d) (slice_index_or ys k d)) → AllZip R xs ys
zip_from R [] [] same each = tt
zip_from R [] (y ∷ ys) same each = absurd (omega arith)
zip_from R (x ∷ xs) [] same each = absurd (omega arith)
zip_from R (x ∷ xs) (y ∷ ys) same each = (each 0 x (omega arith), zip_from R xs ys (omega arith) (λ k d here. each (suc k) d (omega arith)))

module _ (clock : List ClockRow) where
  -- each stack has the clients that it had, after their work
  abbrev pub StacksDone : List (List Client) → List (List Client) → Type 0
  StacksDone old now = (q : ℕ) → q < length old → AllZip (Worked clock) (slice_index_or old q []) (slice_index_or now q [])

  done_set : (old now : List (List Client)) (p : ℕ) (r s : List Client) → length now ≡ length old → p < length old → StacksDone old now → AllZip (Worked clock) r s → StacksDone (slice_set old p r) (slice_set now p s)
  done_set old now p r s same here each z q there =
      let within : q < length old = (let long = length-set old p r in omega arith) in
      elim (cases_eq q p) [
        | inl is ↦ subst (λ (k : ℕ). AllZip (Worked clock) (slice_index_or (slice_set old p r) k []) (slice_index_or (slice_set now p s) k [])) (sym is)
            (subst (λ (x : List Client × List Client). AllZip (Worked clock) x.0 x.1) (λ i. (sym (get_or-set_same old p r [] here) i, sym (get_or-set_same now p s [] (omega arith)) i)) z)
        | inr other ↦ subst (λ (x : List Client × List Client). AllZip (Worked clock) x.0 x.1) (λ i. (sym (get_or-set_other old p q r [] other) i, sym (get_or-set_other now p q s [] other) i)) (each q within)
      ]

  pub stacked_done : (place : ℕ) (old now : List (List Client)) (clients : List Client) → length now ≡ length old → StacksDone old now → Stacked place old clients
      → (after : List Client) × Stacked place now after × AllZip (Worked clock) clients after
  stacked_done place old now [] same each on = ([], tt, tt)
  stacked_done place old now (client ∷ clients) same each on =
      let q = place % length old in
      let e = zip_end (Worked clock) on.0 client (slice_index_or now q []) (subst (λ (l : List Client). AllZip (Worked clock) l (slice_index_or now q [])) on.2 (each q on.1)) in
      let lens : length (slice_set now q e.0) ≡ length (slice_set old q on.0) = length-set now q e.0 ∙ (same ∙ sym (length-set old q on.0)) in
      let later = stacked_done (place + 1) (slice_set old q on.0) (slice_set now q e.0) clients lens (done_set old now q on.0 e.0 same on.1 each e.3) on.3 in
      let P : ℕ → Type 0 = λ n. (rest : List Client) × (place % n < n) × (slice_index_or now (place % n) [] ≡ rest ++ e.1 ∷ []) × Stacked (place + 1) (slice_set now (place % n) rest) later.0 in
      (e.1 ∷ later.0, subst P (sym same) (e.0, on.1, e.2, later.1), (e.4, later.2))

  -- workers after their work
  stacks_done : (old now : List ClientWorker) → WorkersDone clock old now → StacksDone (stacks_of old) (stacks_of now)
  stacks_done [] [] done q here = absurd (omega arith)
  stacks_done [] (w ∷ now) done q here = absurd (omega arith)
  stacks_done (v ∷ old) [] done q here = let long = done.len in absurd (omega arith)
  stacks_done (v ∷ old) (w ∷ now) done zero here = let d = done.each 0 v (omega arith) in zip_from (Worked clock) v.clients.items w.clients.items (sym w.clients.ok.0 ∙ (d.len ∙ v.clients.ok.0)) (λ k x within. d.each k x (let same = v.clients.ok.0 in omega (arith, same, within)))
  stacks_done (v ∷ old) (w ∷ now) done (suc q) here =
      stacks_done old now (record { len = (let long = done.len in omega arith); each = λ k d within. done.each (suc k) d (omega arith) }) q (omega arith)

ended : (table : TableView) (trace : Trace) (number : ℕ) (c d : Client) → IsReady table trace number c → Worked trace.clock c d → IsDone table trace number d
ended table trace number c d ready worked =
    let none : vec_len c.answers ≡ 0 = c.answers.ok.0 ∙ ap (λ (l : List Answer). length l) ready.none in
    let first = client_start (setup_of trace) number in
    let start : Stands trace.clock (take (vec_len c.answers) c.calls.items) c.answers.items first c.seat =
    subst (λ (x : ℕ × List Answer). Stands trace.clock (take x.0 c.calls.items) x.1 first c.seat) (λ i. (sym none i, sym ready.none i)) (stands_first trace.clock first c.seat ready.view ready.hand) in
    let st = worked.turned.stands first start in
    let same : d.calls.items ≡ tries_of_client trace.calls number = ap (λ (v : Vec ℕ). v.items) worked.turned.calls ∙ ready.calls in
    let all : take (vec_len d.answers) d.calls.items ≡ tries_of_client trace.calls number = take_all (vec_len d.answers) d.calls.items (let calls = d.calls.ok.0 in omega (arith, worked.done, calls)) ∙ same in
    let at = st.rests worked.hand in
    record {
      number_is = worked.turned.number ∙ ready.number_is;
      of_table = worked.turned.table ∙ ready.can.of_table;
      calls = subst (λ (x : List ℕ × SeatView). ClientCalls trace.clock x.0 first d.answers.items x.1) (λ i. (all i, sym at i)) st.calls;
      few = worked.done ∙ (d.calls.ok.0 ∙ ap (λ (l : List ℕ). length l) same);
      hand = worked.hand;
    }

pub all_ended : (table : TableView) (trace : Trace) (number : ℕ) (old now : List Client) → AreReady table trace number old → AllZip (Worked trace.clock) old now → AreDone table trace number now
all_ended table trace number [] [] ready worked = tt
all_ended table trace number [] (d ∷ now) ready worked = absurd worked
all_ended table trace number (c ∷ old) [] ready worked = absurd worked
all_ended table trace number (c ∷ old) (d ∷ now) ready worked = (ended table trace number c d ready.0 worked.0, all_ended table trace (number + 1) old now ready.1 worked.1)

zip_len : {X : Type 0} (R : X → X → Type 0) (xs ys : List X) → AllZip R xs ys → length ys ≡ length xs
zip_len R [] [] z = refl
zip_len R [] (y ∷ ys) z = absurd z
zip_len R (x ∷ xs) [] z = absurd z
zip_len R (x ∷ xs) (y ∷ ys) z = ap suc (zip_len R xs ys z.1)

-- what was dealt is worked off
pub worked_off : (table : TableView) (trace : Trace) (old now : List ClientWorker) → IsDealt table trace old → WorkersDone trace.clock old now → IsWorkedOff table trace now
worked_off table trace old now dealt done =
    let lens : length (stacks_of now) ≡ length (stacks_of old) = length-map now (λ (w : ClientWorker). w.clients.items) ∙ (done.len ∙ sym (length-map old (λ (w : ClientWorker). w.clients.items))) in
    let d = stacked_done trace.clock 0 (stacks_of old) (stacks_of now) dealt.clients lens (stacks_done trace.clock old now done) dealt.stacked in
    record { clients = d.0; all = zip_len (Worked trace.clock) dealt.clients d.0 d.2 ∙ dealt.all; stacked = d.1; done = all_ended table trace 1 dealt.clients d.0 dealt.ready d.2 }

-- ---- the calls of all clients

abbrev pub answers_of : List Client → List (List Answer)
answers_of clients = map (λ (c : Client). c.answers.items) clients

abbrev pub views_of : List Client → List SeatView
views_of clients = map (λ (c : Client). c.seat.view) clients

pub all_calls : (table : TableView) (trace : Trace) (number : ℕ) (clients : List Client) → AreDone table trace number clients
    → AllClientCalls trace (setup_of trace) (range_with_len number (length clients)) (answers_of clients) (views_of clients)
all_calls table trace number [] done = tt
all_calls table trace number (c ∷ clients) done = (done.0.calls, all_calls table trace (number + 1) clients done.1)

-- ---- dealing

-- the workers have the clients from a place on
pub record DealtFrom (table : TableView) (trace : Trace) (place : ℕ) (workers : List ClientWorker) : Type 0 where
  pub clients : List Client
  pub all : place + length clients ≡ trace.clients
  pub stacked : Stacked place (stacks_of workers) clients
  pub ready : AreReady table trace (place + 1) clients

pub dealt_more : (table : TableView) (trace : Trace) (place : ℕ) (old new : List ClientWorker) (client : Client) → IsReady table trace (place + 1) client
    → ((clients : List Client) → Stacked (place + 1) (stacks_of old) clients → Stacked place (stacks_of new) (client ∷ clients))
    → DealtFrom table trace (place + 1) old → DealtFrom table trace place new
dealt_more table trace place old new client ready stacks d = record {
  clients = client ∷ d.clients;
  all = (let all = d.all in omega (arith, all));
  stacked = stacks d.clients d.stacked;
  ready = (ready, d.ready);
}

pub dealt_all : (table : TableView) (trace : Trace) (workers : List ClientWorker) → DealtFrom table trace 0 workers → IsDealt table trace workers
dealt_all table trace workers d = record { clients = d.clients; all = (let all = d.all in omega (arith, all)); stacked = d.stacked; ready = d.ready }
