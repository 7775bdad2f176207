-- What the loads of all calls of all clients show.
use Rattle.std.proofs.Common.{◌≡◌, ℕ, ◌<◌, ◌≤◌, Bool, true, false, List, [], ◌∷◌, length, map, refl, sym, ap, ◌∙◌, subst, arith}
use Rattle.std.specs.Prelude.{All, filter, ◌==◌, if◌then◌else◌}
use Rattle.std.proofs.lemmas.List.Elements.{All-head, All-tail, All-map, All-weaker, All-filter}
use Rattle.clock_gate.specs.declared.trace.CallRow.{CallRow}
use Rattle.clock_gate.specs.declared.trace.Trace.{Trace}
use Rattle.clock_gate.specs.Trace.{IsCallRow}
use Rattle.segment_layout.specs.History.{History}
use Rattle.interval_now.specs.declared.answers.Answer.{Answer}
use Rattle.segment_views.specs.Views.{Begins, SeatView, HostPart, first_segment, point_of, page_point_of}
use Rattle.segment_views.specs.Views as views
use Rattle.segment_views.specs.Seats.{part_of}
use Rattle.segment_views.proofs.Lists.{begins_self, begins_trans}
use Rattle.segment_rule.specs.Answered.{AnswersStand}
use Rattle.segment_rule.specs.Settled.{AreSettled}
use Rattle.lawful_report.specs.declared.seen.Seen.{Seen}
use Rattle.lawful_report.specs.Calls.{seen_first}
use Rattle.lawful_report.specs.Course.{Course, course_start}
use Rattle.lawful_report.specs.Showed.{IsNotPast, Said, AllShown}
use Rattle.lawful_report.specs.Composed.{tries_of_client, ClientsShown}
use Rattle.live_report.specs.LiveRun.{setup_of}
use Rattle.live_report.specs.LiveReport.{page_told}
use Rattle.live_report.specs.ClientCalls.{client_first, client_start, ClientCalls, AllClientCalls}
use Rattle.live_report.proofs.Started.{FewPages, Started}
use Rattle.live_report.proofs.HostDone.{HostDone}
use Rattle.live_report.proofs.CourseFits.{Grows, sound_grows}
use Rattle.live_report.proofs.ClientFits.{CourseTold, ClientWithin, shown_of}
use Rattle.live_report.proofs.AnswersShown.{is_shown}

-- what a call said
abbrev pub said_of : Trace → Answer → Said
said_of trace answer = record { page = page_told trace answer; answer = answer }

-- ---- what grows

grows_self : (v : SeatView) → Grows v v
grows_self v = record { rows = omega arith; page_point = omega arith; point = omega arith; pages = begins_self v.seen.pages; history = begins_self v.seen.history }

grows_on : (v w x : SeatView) → Grows v w → Grows w x → Grows v x
grows_on v w x a b =
    let rows_a = a.rows in
    let rows_b = b.rows in
    let pages_a = a.page_point in
    let pages_b = b.page_point in
    let point_a = a.point in
    let point_b = b.point in
    record {
      rows = omega (arith, rows_a, rows_b);
      page_point = omega (arith, pages_a, pages_b);
      point = omega (arith, point_a, point_b);
      pages = begins_trans v.seen.pages w.seen.pages x.seen.pages a.pages b.pages;
      history = begins_trans v.seen.history w.seen.history x.seen.history a.history b.history;
    }

-- through all calls
pub calls_grow : (trace : Trace) (tries : List ℕ) (v : SeatView) (answers : List Answer) (w : SeatView) → ClientCalls trace.clock tries v answers w → Grows v w × (w.setup ≡ v.setup)
calls_grow trace [] v [] w calls = (subst (Grows v) calls (grows_self v), ap (λ (x : SeatView). x.setup) (sym calls))
calls_grow trace [] v (answer ∷ answers) w calls = absurd calls
calls_grow trace (t ∷ tries) v [] w calls = absurd calls
calls_grow trace (t ∷ tries) v (answer ∷ answers) w calls =
    let rest = calls_grow trace tries calls.0 answers w calls.2 in
    (grows_on v calls.0 w (sound_grows v calls.0 calls.1.before calls.1.nows.ran) rest.0, rest.1 ∙ calls.1.setup)

module _ (stand : AnswersStand) (trace : Trace) (few : FewPages trace) (host : HostPart) (done : HostDone trace host) (history : History) (course : Course) (told : CourseTold trace history course) where
  within_before : (v w : SeatView) → Grows v w → v.setup ≡ setup_of trace → (course_start trace).point ≤ v.seen.point → ClientWithin trace host history course w → ClientWithin trace host history course v
  within_before v w grows setup start within =
      let rows = grows.rows in
      let pages = grows.page_point in
      let point = grows.point in
      let most_rows = within.rows in
      let most_pages = within.page_point in
      let most_point = within.point in
      record {
        setup = setup;
        history_is = begins_trans v.seen.history w.seen.history history grows.history within.history_is;
        point = omega (arith, point, most_point);
        start = start;
        rows = omega (arith, rows, most_rows);
        page_point = omega (arith, pages, most_pages);
        pages = begins_trans v.seen.pages w.seen.pages host.pages grows.pages within.pages;
      }

  -- the calls of one client
  client_shown : (tries : List ℕ) (v : SeatView) (answers : List Answer) (w : SeatView) (seen : Seen) → All (λ (t : ℕ). 0 < t) tries → ClientCalls trace.clock tries v answers w → ClientWithin trace host history course w
      → v.setup ≡ setup_of trace → (course_start trace).point ≤ v.seen.point → IsNotPast seen (shown_of v) → AllShown trace course seen tries (map (said_of trace) answers)
  client_shown [] v [] w seen some calls within setup start past = tt
  client_shown [] v (answer ∷ answers) w seen some calls within setup start past = absurd calls
  client_shown (t ∷ tries) v [] w seen some calls within setup start past = absurd calls
  client_shown (t ∷ tries) v (answer ∷ answers) w seen some calls within setup start past =
      let next = calls.0 in
      let x = calls.1 in
      let tries_some = All-head (λ (n : ℕ). 0 < n) t tries some in
      let rest = calls_grow trace tries next answers w calls.2 in
      let grows = sound_grows v next x.before x.nows.ran in
      let setup_next : next.setup ≡ setup_of trace = x.setup ∙ setup in
      let up = grows.point in
      let start_next : (course_start trace).point ≤ next.seen.point = omega (arith, start, up) in
      let inside = within_before next w rest.0 setup_next start_next within in
      let point = ap (λ (s : views.Seen). s.point) x.before in
      let rows = ap (λ (s : views.Seen). s.rows) x.before in
      let pages = ap (λ (s : views.Seen). s.page_point) x.before in
      let point_past = past.point_order in
      let row_past = past.row_order in
      let page_past = past.page_order in
      let shown = is_shown trace few host done history course told next inside x.nows.ran (omega (arith, start, point)) seen (omega (arith, point_past, point)) (omega (arith, row_past, rows)) (omega (arith, page_past, pages)) t tries_some answer x.nows
      (stand trace.clock t answer next tries_some x.nows) in
      (shown.0, shown.1, client_shown tries next answers w shown.0 (All-tail (λ (n : ℕ). 0 < n) t tries some) calls.2 within setup_next start_next shown.2)

  -- ---- how a client begins

  record BeginsAt (v : SeatView) : Type 0 where
    setup : v.setup ≡ setup_of trace
    point : v.seen.point ≡ point_of (first_segment (setup_of trace))
    rows : v.seen.rows ≡ 1

  begins_by : (b : Bool) → BeginsAt (if b then client_first (setup_of trace) else part_of (client_first (setup_of trace)))
  begins_by true = record { setup = refl; point = refl; rows = refl }
  begins_by false = record { setup = refl; point = refl; rows = refl }

  some_tries : (calls : List CallRow) (client : ℕ) → All IsCallRow calls → All (λ (t : ℕ). 0 < t) (tries_of_client calls client)
  some_tries calls client all =
      All-map (λ (t : ℕ). 0 < t) (λ (row : CallRow). row.tries) (filter (λ (row : CallRow). row.client == client) calls)
      (All-filter (λ (row : CallRow). row.client == client) (λ (row : CallRow). 0 < row.tries) calls
      (All-weaker IsCallRow (λ (row : CallRow). 0 < row.tries) (λ row is. (let low = is.tries.0 in omega (arith, low))) calls all))

  module _ (began : Started trace) (rows : All IsCallRow trace.calls) (host_view daemon : SeatView) (host_is : host_view.host_part ≡ host) (history_is : daemon.daemon_part.segment.history ≡ history) (point_is : point_of daemon.daemon_part.segment ≡ course.point) where
    within_last : (client : ℕ) (answers : List Answer) (w : SeatView) → ClientCalls trace.clock (tries_of_client trace.calls client) (client_start (setup_of trace) client) answers w → AreSettled host_view daemon w → ClientWithin trace host history course w
    within_last client answers w calls are =
        let b = begins_by (client == 1) in
        let grows = calls_grow trace (tries_of_client trace.calls client) (client_start (setup_of trace) client) answers w calls in
        let up = grows.0.point in
        let point = are.point in
        let start = began.point in
        let first = b.point in
        let all = done.rows in
        let last = done.pages in
        let host_rows : host_view.host_part.rows ≡ host.rows = ap (λ (p : HostPart). p.rows) host_is in
        let host_pages : length host_view.host_part.pages ≡ length host.pages = ap (λ (p : HostPart). length p.pages) host_is in
        let row = are.rows in
        let begun = are.begun in
        record {
          setup = grows.1 ∙ b.setup;
          history_is = subst (Begins w.seen.history) history_is are.history;
          point = omega (arith, point, point_is);
          start = omega (arith, up, start, first);
          rows = omega (arith, row, host_rows, all);
          page_point = omega (arith, begun, host_pages, last);
          pages = subst (λ (p : HostPart). Begins w.seen.pages p.pages) host_is are.pages;
        }

    -- the calls of all clients
    pub clients_shown : (clients : List ℕ) (answers : List (List Answer)) (seats : List SeatView) → AllClientCalls trace (setup_of trace) clients answers seats → All (λ (w : SeatView). AreSettled host_view daemon w) seats
        → ClientsShown trace course clients (map (map (said_of trace)) answers)
    clients_shown [] [] [] calls settled = tt
    clients_shown [] [] (w ∷ seats) calls settled = absurd calls
    clients_shown [] (said ∷ answers) seats calls settled = absurd calls
    clients_shown (client ∷ clients) [] seats calls settled = absurd calls
    clients_shown (client ∷ clients) (said ∷ answers) [] calls settled = absurd calls
    clients_shown (client ∷ clients) (said ∷ answers) (w ∷ seats) calls settled =
        let b = begins_by (client == 1) in
        let start = began.point in
        let first = b.point in
        let row = b.rows in
        let are = All-head (λ (x : SeatView). AreSettled host_view daemon x) w seats settled in (
          client_shown (tries_of_client trace.calls client) (client_start (setup_of trace) client) said w (seen_first trace) (some_tries trace.calls client rows) calls.0 (within_last client said w calls.0 are) b.setup (omega (arith, start, first))
              (record { point_order = omega (arith, start, first); row_order = omega (arith, row); page_order = omega arith }),
          clients_shown clients answers seats calls.1 (All-tail (λ (x : SeatView). AreSettled host_view daemon x) w seats settled),
        )
