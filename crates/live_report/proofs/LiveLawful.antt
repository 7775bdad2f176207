-- Every run of a trace has a lawful report, and the history of its lines.
use Rattle.std.proofs.Common.{◌≡◌, ℕ, suc, ◌+◌, ◌/◌, ◌<◌, ◌≤◌, Bool, true, false, List, [], ◌∷◌, ◌++◌, length, drop, map, refl, sym, ap, ◌∙◌, subst, arith, inl, Option, None}
use Rattle.std.specs.Prelude.{All, nat_lt, Result, Ok, Err, cond, if◌then◌else◌}
use Rattle.std.specs.List.{range_with_len}
use Rattle.std.proofs.lemmas.Bool.Decides.{nat_tests}
use Rattle.std.proofs.lemmas.List.Elements.{All-head}
use Rattle.std.proofs.lemmas.List.FromFn.{length-range_with_len}
use Rattle.clock_gate.specs.declared.trace.CallRow.{CallRow}
use Rattle.clock_gate.specs.declared.trace.Trace.{Trace}
use Rattle.clock_gate.specs.Trace.{larger, largest_from}
use Rattle.generation_word.specs.declared.layout.Layout.{Layout}
use Rattle.generation_word.specs.declared.layout.Layout.TheVariants.{Two, Three}
use Rattle.generation_word.specs.Layout.{period_of}
use Rattle.segment_layout.specs.declared.image_fault.ImageFault.{ImageFault}
use Rattle.segment_layout.specs.declared.start.Start.{Start}
use Rattle.segment_layout.specs.declared.start.Start.TheVariants.{Fresh, Kept, Torn}
use Rattle.segment_layout.specs.Image.{image_of}
use Rattle.segment_layout.specs.History.{History}
use Rattle.segment_run.specs.SegmentRun.{SegmentRun}
use Rattle.interval_now.specs.declared.answers.Answer.{Answer}
use Rattle.abstract_run.specs.Given.{IsGiven}
use Rattle.segment_views.specs.declared.setup.Setup.{Setup}
use Rattle.segment_views.specs.Views.{Begins, DaemonPart, HostPart, SeatView, first_segment, point_of}
use Rattle.segment_views.specs.Views as views
use Rattle.segment_views.specs.Seats.{first_host_part}
use Rattle.segment_views.specs.Steps.{calls_of as calls_in}
use Rattle.segment_rule.specs.Answered.{AnswersStand}
use Rattle.segment_rule.specs.Settled.{AreSettled}
use Rattle.lawful_report.specs.declared.counts.Counts.{Counts}
use Rattle.lawful_report.specs.declared.printed.Printed.{Printed}
use Rattle.lawful_report.specs.declared.printed.Printed.TheVariants as printed
use Rattle.lawful_report.specs.Course.{Life, course_by, course_start}
use Rattle.lawful_report.specs.Lawful.{no_counts, Standing, standing_start, going_on, Follow, text_of_lines, IsLawfulReport, opening_or_poll, Answering}
use Rattle.lawful_report.specs.Calls.{seen_first, calls_of}
use Rattle.lawful_report.specs.Composed.{clients_next, ThreadsAreLawful}
use Rattle.live_report.specs.declared.line.Line.{Line}
use Rattle.live_report.specs.ClientCalls.{AllClientCalls, answer_lines, client_lines}
use Rattle.live_report.specs.DaemonCalls.{place_first}
use Rattle.live_report.specs.LiveRun.{setup_of, part_after_rows, IsRunOf}
use Rattle.live_report.specs.LiveReport.{position_first, lines_printed, lines_counted, report_lines, report_of}
use Rattle.live_report.specs.LiveLaws.{LiveReportsAreLawful, HistoriesAreOfLines, HostsDoAllRows, CallsAreOfLines, line_published, lines_published}
use Rattle.live_report.proofs.HostDone.{HostDone, all_pages, host_is_done}
use Rattle.live_report.proofs.Started.{FewPages, few_pages, entry_told, Started, started}
use Rattle.live_report.proofs.CourseFits.{half_point, LifeFits, PlaceFits}
use Rattle.live_report.proofs.PollLines.{Within}
use Rattle.live_report.proofs.DaemonLines.{Leads, all_lead}
use Rattle.live_report.proofs.PagesDone.{pages_done}
use Rattle.live_report.proofs.ClientFits.{CourseTold}
use Rattle.live_report.proofs.ClientsShown.{said_of, clients_shown}
use Rattle.live_report.proofs.CallsMade.{daemon_calls, clients_hold}
use Rattle.live_report.proofs.ReportText.{Matches, report_is}

-- ---- before the first call

plain_start : (found : Result Start ImageFault) → ((course_by found).polled ≡ 0) × ((course_by found).row ≡ 1) × ((course_by found).page ≡ 0) × ((course_by found).life ≡ None)
plain_start (Ok Fresh) = (refl, refl, refl, refl)
plain_start (Ok (Torn generation)) = (refl, refl, refl, refl)
plain_start (Ok (Kept generation rec)) = (refl, refl, refl, refl)
plain_start (Err fault) = (refl, refl, refl, refl)

starts_fit : (trace : Trace) → Started trace → PlaceFits trace (place_first (setup_of trace)) (course_start trace)
starts_fit trace began =
    let plain = plain_start (image_of trace.layout trace.image) in
    let row = plain.1 in
    let page = plain.2 in
    record {
      setup = refl;
      polled = plain.0;
      segment = record {
        layout = began.layout;
        image = began.image;
        base = refl;
        before = began.before;
        known = began.is.known;
        calm = began.is.calm;
        point = began.point;
        entries = began.entries;
      };
      row = omega (arith, row);
      page = omega (arith, page);
      base_same = sym began.no_base;
      life = subst (λ (l : Option Life). LifeFits trace None l) (sym plain.3) tt;
      header = inl (refl, refl, refl, refl);
    }

-- ---- some client was settled

largest_some : (least : ℕ) (calls : List CallRow) → 1 ≤ least → 1 ≤ largest_from least calls
unfolding largest_from larger
largest_some least [] some = some
largest_some least (row ∷ rest) some = largest_some (cond (nat_lt least row.client) row.client least) rest (by (nat_lt least row.client) refl)
  where
    by : (b : Bool) → nat_lt least row.client ≡ b → 1 ≤ cond b row.client least
    by true is = (let above : least < row.client = grind (arith, nat_tests, is) in omega (arith, above))
    by false is = some

seats_many : (trace : Trace) (setup : Setup) (clients : List ℕ) (answers : List (List Answer)) (seats : List SeatView) → AllClientCalls trace setup clients answers seats → (length seats ≡ length clients) × Matches clients answers
seats_many trace setup [] [] [] calls = (refl, tt)
seats_many trace setup [] [] (w ∷ seats) calls = absurd calls
seats_many trace setup [] (said ∷ answers) seats calls = absurd calls
seats_many trace setup (client ∷ clients) [] seats calls = absurd calls
seats_many trace setup (client ∷ clients) (said ∷ answers) [] calls = absurd calls
seats_many trace setup (client ∷ clients) (said ∷ answers) (w ∷ seats) calls =
    let rest = seats_many trace setup clients answers seats calls.1 in
    (ap suc rest.0, rest.1)

some_settled : (host daemon : SeatView) (seats : List SeatView) → 0 < length seats → All (λ (w : SeatView). AreSettled host daemon w) seats → (w : SeatView) × AreSettled host daemon w
some_settled host daemon [] some settled = absurd (omega (arith, some))
some_settled host daemon (w ∷ seats) some settled = (w, All-head (λ (x : SeatView). AreSettled host daemon x) w seats settled)

tries_some : (trace : Trace) → IsGiven trace → 0 < trace.tries
tries_some trace given = let low = given.can.lawful.tries.0 in omega (arith, low)

-- the clients' lines publish nothing
answers_publish : (image : SegmentRun) (client number : ℕ) (answers : List Answer) (more : List Line) → lines_published image (answer_lines client number answers ++ more) ≡ lines_published image more
answers_publish image client number [] more = refl
answers_publish image client number (answer ∷ answers) more = answers_publish image client (number + 1) answers more

clients_publish : (image : SegmentRun) (clients : List ℕ) (answers : List (List Answer)) → lines_published image (client_lines clients answers) ≡ []
clients_publish image [] answers = refl
clients_publish image (client ∷ clients) [] = refl
clients_publish image (client ∷ clients) (said ∷ answers) = answers_publish image client 1 said (client_lines clients answers) ∙ clients_publish image clients answers

published_append : (image : SegmentRun) (xs ys : List Line) → lines_published image ys ≡ [] → lines_published image (xs ++ ys) ≡ lines_published image xs
published_append image [] ys none = none
published_append image (x ∷ xs) ys none = ap (λ (h : History). line_published image x ++ h) (published_append image xs ys none)

-- ---- a run

module _ (trace : Trace) (lines : List Line) (host daemon : SeatView) (clients : List SeatView) (given : IsGiven trace) (run : IsRunOf trace lines host daemon clients) where
  began : Started trace
  began = started trace given

  few : FewPages trace
  few = few_pages trace given

  host_is : host.host_part ≡ part_after_rows (drop 1 trace.host) (first_host_part (setup_of trace))
  host_is = ap (λ (v : SeatView). v.host_part) run.host_rows

  done : HostDone trace host.host_part
  done = subst (HostDone trace) (sym host_is) (host_is_done trace given)

  daemon_part_is : daemon.daemon_part ≡ run.daemon_last.view.daemon_part
  daemon_part_is = ap (λ (v : SeatView). v.daemon_part) run.daemon_seat

  daemon_seen_is : daemon.seen ≡ run.daemon_last.view.seen
  daemon_seen_is = ap (λ (v : SeatView). v.seen) run.daemon_seat

  seats : (length clients ≡ length (range_with_len 1 trace.clients)) × Matches (range_with_len 1 trace.clients) run.answers
  seats = seats_many trace (setup_of trace) (range_with_len 1 trace.clients) run.answers clients run.client_calls

  one_settled : (w : SeatView) × AreSettled host daemon w
  one_settled =
      let many = seats.0 in
      let long = length-range_with_len 1 trace.clients in
      let some : 1 ≤ trace.clients = subst (λ (n : ℕ). 1 ≤ n) (sym given.can.lawful.clients) (largest_some 1 trace.calls (omega arith)) in
      some_settled host daemon clients (omega (arith, many, long, some)) run.settled

  within : Within trace host.host_part run.daemon_last.view
  within =
      let are = one_settled.1 in
      let all = done.rows in
      let last = done.pages in
      let rows = are.daemon_rows in
      let begun = are.daemon_begun in
      subst (λ (s : views.Seen). Within trace host.host_part (record run.daemon_last.view { seen = s })) daemon_seen_is
      (record { rows = omega (arith, rows, all); page_point = omega (arith, begun, last); pages = are.daemon_pages })

  leads : Leads trace few host.host_part done (tries_some trace given) given.can.lawful.polls (place_first (setup_of trace)) run.daemon_lines run.daemon_last (course_start trace) no_counts
  leads = all_lead trace few host.host_part done (tries_some trace given) given.can.lawful.polls began (place_first (setup_of trace)) run.daemon_lines run.daemon_last (course_start trace) no_counts (starts_fit trace began) run.daemon_calls within

  pub history_is : daemon.daemon_part.segment.history ≡ (first_segment (setup_of trace)).history ++ lines_published (first_segment (setup_of trace)) lines
  history_is = ap (λ (p : DaemonPart). p.segment.history) daemon_part_is ∙ (leads.history ∙ ap (λ (h : History). (first_segment (setup_of trace)).history ++ h) (sym (published_append (first_segment (setup_of trace)) run.daemon_lines (client_lines (range_with_len 1 trace.clients) run.answers) (clients_publish (first_segment (setup_of trace)) (range_with_len 1 trace.clients) run.answers)) ∙ ap (lines_published (first_segment (setup_of trace))) (sym run.lines_are)))

  -- ---- the daemon's lines

  abbrev counts : Counts
  counts = lines_counted no_counts run.daemon_lines

  polled_all : leads.last.polled ≡ length trace.polls
  polled_all = leads.fits.polled ∙ run.all_polls

  clients_due : going_on trace counts leads.last ≡ clients_next trace leads.last counts
  clients_due =
      let all = polled_all in
      let test : nat_lt leads.last.polled (length trace.polls) ≡ false = grind (arith, nat_tests, all) in
      λ j. record { course = leads.last; counts = counts; due = (if test j then opening_or_poll leads.last.life else Answering (seen_first trace) (calls_of trace)) }

  daemon_printed : List Printed
  daemon_printed = printed.Header ∷ lines_printed trace (position_first trace) run.daemon_lines

  follow : Follow trace (standing_start trace) daemon_printed (clients_next trace leads.last counts)
  unfolding daemon_printed
  follow =
      let first : (course_start trace).point / 2 ≡ position_first trace = ap (λ (n : ℕ). n / 2) began.point ∙ half_point (first_segment (setup_of trace)) in (
        going_on trace no_counts (course_start trace),
        refl,
        subst (λ (x : ℕ × Standing). Follow trace (going_on trace no_counts (course_start trace)) (lines_printed trace x.0 run.daemon_lines) x.1) (λ j. (first j, clients_due j)) leads.follow,
      )

  -- ---- what the daemon's lines came to

  near_by : (layout : Layout) → trace.layout ≡ layout → length trace.polls < period_of trace.layout → leads.last.point / 2 < (course_start trace).point / 2 + period_of trace.layout
  near_by Two is few_polls =
      let far = leads.far.two is in
      let all = polled_all in
      let none = (plain_start (image_of trace.layout trace.image)).0 in
      omega (arith, far, all, none, few_polls)
  near_by Three is few_polls =
      let far = leads.far.any in
      let all = polled_all in
      let none = (plain_start (image_of trace.layout trace.image)).0 in
      let most = given.can.lawful.polls_few in
      let period : period_of trace.layout ≡ 2147483647 = ap period_of is in
      omega (arith, far, all, none, most, period)

  told : length trace.polls < period_of trace.layout → CourseTold trace daemon.daemon_part.segment.history leads.last
  told few_polls =
      record {
        before = leads.fits.segment.before;
        entries = leads.fits.segment.entries ∙ ap (λ (p : DaemonPart). map (entry_told trace) p.segment.history) (sym daemon_part_is);
        near = near_by trace.layout refl few_polls;
        pages = pages_done trace daemon_printed (clients_next trace leads.last counts) follow;
      }

  pub report_is_lawful : ThreadsAreLawful → AnswersStand → length trace.polls < period_of trace.layout → IsLawfulReport trace (report_of trace lines)
  unfolding daemon_printed
  report_is_lawful threads stand few_polls =
      let point : point_of daemon.daemon_part.segment ≡ leads.last.point = ap (λ (p : DaemonPart). point_of p.segment) daemon_part_is ∙ sym leads.fits.segment.point in
      let shown = clients_shown stand trace few host.host_part done daemon.daemon_part.segment.history leads.last (told few_polls) began given.can.lawful.calls host daemon refl refl point (range_with_len 1 trace.clients) run.answers clients run.client_calls run.settled in
      let lawful = threads trace daemon_printed leads.last counts (map (map (said_of trace)) run.answers) follow shown in
      let whole = ap (report_lines trace) run.lines_are ∙ report_is trace run.daemon_lines (range_with_len 1 trace.clients) run.answers seats.1 in
      subst (λ (l : List Printed). IsLawfulReport trace (text_of_lines l)) (sym whole) lawful

pub live_lawful : ThreadsAreLawful → AnswersStand → LiveReportsAreLawful
live_lawful threads stand trace lines host daemon clients given run few_polls = report_is_lawful trace lines host daemon clients given run threads stand few_polls

pub live_histories : HistoriesAreOfLines
live_histories trace lines host daemon clients given run = history_is trace lines host daemon clients given run

pub live_hosts : HostsDoAllRows
live_hosts trace lines host daemon clients given run =
    let is = ap (λ (v : SeatView). v.host_part) run.host_rows in
    let pages = all_pages trace given host.host_part is in
    record { rows = ap (λ (p : HostPart). p.rows) is ∙ (host_is_done trace given).rows; pages = pages.0; none_in_hand = pages.1 }

pub live_calls : CallsAreOfLines
live_calls trace lines host daemon clients given run = (
  ap calls_in run.daemon_seat ∙ daemon_calls trace (place_first (setup_of trace)) run.daemon_lines run.daemon_last run.daemon_calls,
  clients_hold trace (setup_of trace) (range_with_len 1 trace.clients) run.answers clients run.client_calls,
)
