-- What is gathered of the clients, one after another.
use Rattle.std.specs.Global.{Vec}
use Rattle.std.proofs.Common.{◌≡◌, ℕ, suc, ◌+◌, ◌<◌, ◌≤◌, List, [], ◌∷◌, ◌++◌, length, map, vec_len, vec_capacity, refl, sym, ap, ◌∙◌, subst, arith, length-append, append_assoc, append-nil}
use Rattle.std.specs.Prelude.{All}
use Rattle.std.specs.List.{range_with_len}
use Rattle.std.proofs.lemmas.List.{length-map, map-append}
use Rattle.std.proofs.lemmas.List.Elements.{All-map, All-nil, All-push, All-weaker}
use Rattle.clock_gate.specs.declared.trace.Trace.{Trace}
use Rattle.interval_now.specs.declared.answers.Answer.{Answer}
use Rattle.segment_views.specs.Views.{SeatView}
use Rattle.segment_rule.specs.Calls.{ClientState}
use Rattle.segment_rule.specs.Ruled.{TableView}
use Rattle.segment_rule.specs.Settled.{IsSameBut, AreSettled}
use Rattle.live_report.specs.declared.line.Line.{Line}
use Rattle.live_report.specs.ClientCalls.{AllClientCalls, client_lines}
use Rattle.live_report.specs.DaemonCalls.{DaemonPlace, DaemonCalls, place_first}
use Rattle.live_report.specs.LiveRun.{setup_of, host_done, IsRunOf}
use Rattle.live_report.proofs.Chains.{same_but_on, settled_on}
use Rattle.live_run.specs.declared.clients.Client.{Client}
use Rattle.live_run.specs.declared.clients.ClientWorker.{ClientWorker}
use Rattle.live_run.specs.declared.gather.Gathered.{Gathered}
use Rattle.live_run.specs.Dealt.{stacks_of, Stacked, IsDone, AreDone, IsWorkedOff}
use Rattle.live_run.specs.Gathered.{Gathering, WasGathered}
use Rattle.live_run.proofs.Dealing.{answers_of, views_of, all_calls}

-- ---- so far

abbrev pub seat_views : List ClientState → List SeatView
seat_views seats = map (λ (s : ClientState). s.view) seats

-- the clients before this place were gathered, of all these, and these are left
pub record HasGathered (table : TableView) (trace : Trace) (place : ℕ) (workers : List ClientWorker) (g : Gathered) : Type 0 where
  pub host_table : g.host.table ≡ table.id
  pub daemon_table : g.daemon.table ≡ table.id
  pub host : IsSameBut (host_done trace) g.host.view
  pub last : DaemonPlace
  pub calls : DaemonCalls trace (place_first (setup_of trace)) g.lines.items last
  pub polled : last.polled ≡ length trace.polls
  pub daemon : IsSameBut last.view g.daemon.view
  pub all : List Client
  pub total : length all ≡ trace.clients
  pub all_done : AreDone table trace 1 all
  pub left : List Client
  pub many : place + length left ≡ trace.clients
  pub stacked : Stacked place (stacks_of workers) left
  pub done : AreDone table trace (place + 1) left
  pub answers : g.answers.items ++ answers_of left ≡ answers_of all
  pub seats : seat_views g.clients.items ++ views_of left ≡ views_of all
  pub tables : All (λ (s : ClientState). s.table ≡ table.id) g.clients.items
  pub settled : All (λ (s : ClientState). AreSettled g.host.view g.daemon.view s.view) g.clients.items
  pub answer_places : vec_len g.answers + length left ≤ vec_capacity g.answers
  pub places : vec_len g.clients + length left ≤ vec_capacity g.clients

pub gathered_none : (table : TableView) (trace : Trace) (workers : List ClientWorker) (g : Gathered) → IsWorkedOff table trace workers → Gathering table trace g → HasGathered table trace 0 workers g
gathered_none table trace workers g off begins =
    let many = off.all in
    let places = begins.places in
    let none : vec_len g.clients ≡ 0 = g.clients.ok.0 ∙ ap (λ (l : List ClientState). length l) begins.none in
    let answer_places = begins.answer_places in
    let no_answers : vec_len g.answers ≡ 0 = g.answers.ok.0 ∙ ap (λ (l : List (List Answer)). length l) begins.no_answers in
    record {
      host_table = begins.host_table;
      daemon_table = begins.daemon_table;
      host = subst (λ (v : SeatView). IsSameBut (host_done trace) v) (sym begins.host) refl;
      last = begins.last;
      calls = begins.calls;
      polled = begins.polled;
      daemon = subst (λ (v : SeatView). IsSameBut begins.last.view v) (sym begins.daemon) refl;
      all = off.clients;
      total = off.all;
      all_done = off.done;
      left = off.clients;
      many = omega (arith, many);
      stacked = off.stacked;
      done = off.done;
      answers = ap (λ (l : List (List Answer)). l ++ answers_of off.clients) begins.no_answers;
      seats = ap (λ (l : List ClientState). seat_views l ++ views_of off.clients) begins.none;
      tables = subst (λ (l : List ClientState). All (λ (s : ClientState). s.table ≡ table.id) l) (sym begins.none) (All-nil (λ (s : ClientState). s.table ≡ table.id));
      settled = subst (λ (l : List ClientState). All (λ (s : ClientState). AreSettled g.host.view g.daemon.view s.view) l) (sym begins.none) (All-nil (λ (s : ClientState). AreSettled g.host.view g.daemon.view s.view));
      answer_places = omega (arith, no_answers, many, answer_places);
      places = omega (arith, none, many, places);
    }

-- a client is left
pub record HasNext (table : TableView) (trace : Trace) (place : ℕ) (workers : List ClientWorker) (g : Gathered) (client : Client) : Type 0 where
  pub so_far : HasGathered table trace place workers g
  pub later : List Client
  pub left_is : so_far.left ≡ client ∷ later

next_in : (left : List Client) → 0 < length left → (client : Client) × (later : List Client) × (left ≡ client ∷ later)
next_in [] some_left = absurd (omega arith)
next_in (c ∷ clients) some_left = (c, clients, refl)

pub next_left : (table : TableView) (trace : Trace) (place : ℕ) (workers : List ClientWorker) (g : Gathered) → place < trace.clients → HasGathered table trace place workers g → (client : Client) × HasNext table trace place workers g client
next_left table trace place workers g here so_far =
    let many = so_far.many in
    let n = next_in so_far.left (omega (arith, many, here)) in
    (n.0, record { so_far = so_far; later = n.1; left_is = n.2 })

module _ (table : TableView) (trace : Trace) (place : ℕ) (workers : List ClientWorker) (g : Gathered) (client : Client) (n : HasNext table trace place workers g client) where
  pub next_stacked : Stacked place (stacks_of workers) (client ∷ n.later)
  next_stacked = subst (λ (l : List Client). Stacked place (stacks_of workers) l) n.left_is n.so_far.stacked

  pub next_done : IsDone table trace (place + 1) client
  next_done = (subst (λ (l : List Client). AreDone table trace (place + 1) l) n.left_is n.so_far.done).0

  pub next_answers : vec_len g.answers < vec_capacity g.answers
  next_answers =
      let places = n.so_far.answer_places in
      let same : length n.so_far.left ≡ suc (length n.later) = ap (λ (l : List Client). length l) n.left_is in
      omega (arith, places, same)

  pub next_place : vec_len g.clients < vec_capacity g.clients
  next_place =
      let places = n.so_far.places in
      let same : length n.so_far.left ≡ suc (length n.later) = ap (λ (l : List Client). length l) n.left_is in
      omega (arith, places, same)

  pub gathered_more : (after : List ClientWorker) (h : Gathered) → Stacked (place + 1) (stacks_of after) n.later → WasGathered client g h → HasGathered table trace (place + 1) after h
  gathered_more after h stacked was =
      let so_far = n.so_far in
      let many = so_far.many in
      let answer_places = so_far.answer_places in
      let places = so_far.places in
      let same : length so_far.left ≡ suc (length n.later) = ap (λ (l : List Client). length l) n.left_is in
      let answer_room = was.answer_places in
      let seat_room = was.places in
      let answers_len = h.answers.ok.0 in
      let seats_len = h.clients.ok.0 in
      record {
        host_table = was.host_table ∙ so_far.host_table;
        daemon_table = was.daemon_table ∙ so_far.daemon_table;
        host = same_but_on (host_done trace) g.host.view h.host.view so_far.host was.host;
        last = so_far.last;
        calls = subst (λ (l : Vec Line). DaemonCalls trace (place_first (setup_of trace)) l.items so_far.last) (sym was.lines) so_far.calls;
        polled = so_far.polled;
        daemon = same_but_on so_far.last.view g.daemon.view h.daemon.view so_far.daemon was.daemon;
        all = so_far.all;
        total = so_far.total;
        all_done = so_far.all_done;
        left = n.later;
        many = omega (arith, many, same);
        stacked = stacked;
        done = (subst (λ (l : List Client). AreDone table trace (place + 1) l) n.left_is so_far.done).1;
        answers = ap (λ (l : List (List Answer)). l ++ answers_of n.later) was.answers
            ∙ (append_assoc g.answers.items (client.answers.items ∷ []) (answers_of n.later)
            ∙ (ap (λ (l : List Client). g.answers.items ++ answers_of l) (sym n.left_is)
            ∙ so_far.answers));
        seats = ap (λ (l : List ClientState). seat_views l ++ views_of n.later) was.clients
            ∙ (ap (λ (l : List SeatView). l ++ views_of n.later) (map-append (λ (s : ClientState). s.view) g.clients.items (client.seat ∷ []))
            ∙ (append_assoc (seat_views g.clients.items) (client.seat.view ∷ []) (views_of n.later)
            ∙ (ap (λ (l : List Client). seat_views g.clients.items ++ views_of l) (sym n.left_is)
            ∙ so_far.seats)));
        tables = subst (λ (l : List ClientState). All (λ (s : ClientState). s.table ≡ table.id) l) (sym was.clients) (All-push (λ (s : ClientState). s.table ≡ table.id) g.clients.items client.seat so_far.tables next_done.of_table);
        settled = subst (λ (l : List ClientState). All (λ (s : ClientState). AreSettled h.host.view h.daemon.view s.view) l) (sym was.clients)
            (All-push (λ (s : ClientState). AreSettled h.host.view h.daemon.view s.view) g.clients.items client.seat
            (All-weaker (λ (s : ClientState). AreSettled g.host.view g.daemon.view s.view) (λ (s : ClientState). AreSettled h.host.view h.daemon.view s.view)
            (λ s are. settled_on g.host.view g.daemon.view s.view h.host.view h.daemon.view are was.host was.daemon) g.clients.items so_far.settled) was.settled);
        answer_places = omega (arith, answer_places, same, answer_room, answers_len, g.answers.ok.0, ap (λ (l : List (List Answer)). length l) was.answers, length-append g.answers.items (client.answers.items ∷ []));
        places = omega (arith, places, same, seat_room, seats_len, g.clients.ok.0, ap (λ (l : List ClientState). length l) was.clients, length-append g.clients.items (client.seat ∷ []));
      }

-- ---- at the end

none_left : (left : List Client) → length left ≡ 0 → left ≡ []
none_left [] e = refl
none_left (c ∷ clients) e = absurd (omega (arith, e))

module _ (table : TableView) (trace : Trace) (place : ℕ) (workers : List ClientWorker) (g : Gathered) (all : trace.clients ≤ place) (h : HasGathered table trace place workers g) where
  none : h.left ≡ []
  none = let many = h.many in none_left h.left (omega (arith, many, all))

  all_answers : g.answers.items ≡ answers_of h.all
  all_answers = sym (append-nil g.answers.items) ∙ (ap (λ (l : List Client). g.answers.items ++ answers_of l) (sym none) ∙ h.answers)

  -- there are answers for each client
  pub answers_many : length g.answers.items ≡ trace.clients
  answers_many = ap (λ (l : List (List Answer)). length l) all_answers ∙ (length-map h.all (λ (c : Client). c.answers.items) ∙ h.total)

  pub gathered_all : IsRunOf trace (g.lines.items ++ client_lines (range_with_len 1 (length g.answers.items)) g.answers.items) g.host.view g.daemon.view (seat_views g.clients.items)
  gathered_all =
      let views : seat_views g.clients.items ≡ views_of h.all = sym (append-nil (seat_views g.clients.items)) ∙ (ap (λ (l : List Client). seat_views g.clients.items ++ views_of l) (sym none) ∙ h.seats) in
      record {
        host_rows = h.host;
        daemon_lines = g.lines.items;
        daemon_last = h.last;
        daemon_calls = h.calls;
        all_polls = h.polled;
        daemon_seat = h.daemon;
        answers = g.answers.items;
        client_calls = subst (λ (x : ℕ × (List (List Answer) × List SeatView)). AllClientCalls trace (setup_of trace) (range_with_len 1 x.0) x.1.0 x.1.1) (λ i. (h.total i, (sym all_answers i, sym views i))) (all_calls table trace 1 h.all h.all_done);
        lines_are = ap (λ (k : ℕ). g.lines.items ++ client_lines (range_with_len 1 k) g.answers.items) answers_many;
        settled = All-map (λ (v : SeatView). AreSettled g.host.view g.daemon.view v) (λ (s : ClientState). s.view) g.clients.items h.settled;
      }
