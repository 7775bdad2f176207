-- The daemon's lines follow one another in a report.
use Rattle.std.proofs.Common.{◌≡◌, ℕ, ◌+◌, ◌-◌, ◌/◌, ◌<◌, ◌≤◌, Bool, true, false, List, [], ◌∷◌, ◌++◌, length, append-nil, append_assoc, refl, sym, ap, ◌∙◌, subst, arith, inl, inr, Option, Some, None}
use Rattle.std.specs.Prelude.{◌⊎◌, nat_lt, if◌then◌else◌, slice_get, All, IfSome}
use Rattle.std.proofs.lemmas.Bool.Decides.{nat_tests}
use Rattle.std.proofs.lemmas.List.Elements.{All-get_or}
use Rattle.std.proofs.lemmas.Option.{get_or_from_slice_get}
use Rattle.clock_gate.specs.declared.trace.PollRow.{PollRow}
use Rattle.clock_gate.specs.declared.trace.Trace.{Trace}
use Rattle.clock_gate.specs.Trace.{IsPollRow}
use Rattle.generation_word.specs.declared.layout.Layout.TheVariants.{Two}
use Rattle.segment_layout.specs.History.{History}
use Rattle.segment_run.specs.SegmentRun.{SegmentRun, published_at}
use Rattle.segment_views.specs.Views.{HostPart, first_segment}
use Rattle.segment_views.specs.Shown.{touches_of}
use Rattle.segment_views.proofs.Lists.{begins_trans}
use Rattle.segment_rule.specs.Polls.{order_for, history_after, position_after}
use Rattle.status_machine.specs.Poll.{heard_of}
use Rattle.writer_reopen.specs.declared.polled.Polled.{Polled}
use Rattle.writer_reopen.specs.declared.polled.Polled.TheVariants as polls
use Rattle.writer_reopen.specs.Poll.{polled_by}
use Rattle.lawful_report.specs.declared.counts.Counts.{Counts}
use Rattle.lawful_report.specs.declared.printed.Printed.{Printed}
use Rattle.lawful_report.specs.declared.printed.Printed.TheVariants as printed
use Rattle.lawful_report.specs.Course.{Course, opened, moved, ended}
use Rattle.lawful_report.specs.Lawful.{going_on, Follow}
use Rattle.lawful_report.proofs.Composed.{follow_on}
use Rattle.live_report.specs.declared.line.Line.{Line}
use Rattle.live_report.specs.declared.line.Line.TheVariants as lines
use Rattle.live_report.specs.LiveReport.{stop_of, stop_by, stop_printed, poll_printed, poll_counted, line_printed, position_after_line, lines_printed, line_counted, lines_counted}
use Rattle.live_report.specs.LiveRun.{setup_of}
use Rattle.live_report.specs.LiveLaws.{published_by, lines_published}
use Rattle.live_report.specs.DaemonCalls.{DaemonPlace, PollsNext, CallsNext, DaemonCalls}
use Rattle.live_report.proofs.PollRun.{Missed, Told, poll_did}
use Rattle.live_report.proofs.HostDone.{HostDone}
use Rattle.live_report.proofs.Started.{FewPages, Started}
use Rattle.live_report.proofs.CourseFits.{place, PlaceFits, IsFirst, IsNew, Grows, sound_grows}
use Rattle.live_report.proofs.OpeningLines.{opens_still, opens_moving, moves_first}
use Rattle.live_report.proofs.PollLines.{Within, PollFacts, within_list, facts, skips, stops}
use Rattle.live_report.proofs.PublishLines.{page_is, after, publishes_on, publishes_last}

-- ---- a poll

-- a poll's lines follow, and lead to a course that fits
abbrev LeadsOn : Trace → (position poll : ℕ) → Course → Counts → DaemonPlace → Polled → Type 0
LeadsOn trace position poll course counts q polled =
    (after : Course) × Follow trace (going_on trace counts course) (poll_printed trace position poll polled) (going_on trace (poll_counted counts polled) after) × PlaceFits trace q after

stop_few : (trace : Trace) (k : ℕ) (row : PollRow) → All IsPollRow trace.polls → k < length trace.polls → slice_get trace.polls k ≡ Some row → IfSome row.stop (λ stores. stores ≤ 10)
stop_few trace k row all low is = (subst IsPollRow (get_or_from_slice_get trace.polls k row row is) (All-get_or IsPollRow trace.polls k row low all)).stop

module _ (trace : Trace) (few : FewPages trace) (host : HostPart) (done : HostDone trace host) (some_tries : 0 < trace.tries) (rows : All IsPollRow trace.polls) where
  module _ (p q : DaemonPlace) (poll : ℕ) (polled : Polled) (course : Course) (counts : Counts) (fits : PlaceFits trace p course) (x : PollsNext trace p poll polled q) (within : Within trace host q.view) where
    abbrev position : ℕ
    position = p.view.daemon_part.segment.position

    known : PollFacts trace p q poll x.row x.daemon course
    known = facts trace few host done some_tries p q poll polled course counts fits x within

    stop_is : stop_of trace poll ≡ x.row.stop
    stop_is =
        let number = known.number in
        let place_is : poll - 1 ≡ course.polled = omega (arith, number) in
        ap stop_by (ap (slice_get trace.polls) place_is ∙ known.row_due)

    missed_leads : (first last : ℕ) → polled ≡ polls.Skipped first last → Missed trace.clock (order_for p.view x.daemon poll (heard_of x.row.reply) x.row.stop trace.tries) (touches_of q.view.steps) (polls.Skipped first last) → LeadsOn trace position poll course counts q polled
    missed_leads first last is m =
        subst (LeadsOn trace position poll course counts q) (sym is) (skips trace few host done some_tries p q poll polled course counts fits x within first last is m)

    published_on : (k : Told trace.clock (order_for p.view x.daemon poll (heard_of x.row.reply) x.row.stop trace.tries) (touches_of q.view.steps) polled) → polled ≡ polls.Published k.taken.daemon k.taken.publication → x.row.stop ≡ None → LeadsOn trace position poll course counts q polled
    published_on k is stop =
        let page = page_is trace few host done some_tries p q poll polled course counts fits x within known k.taken k.at in
        let leads = publishes_on trace few host done some_tries p q poll polled course counts fits x within known k.taken k.at is stop in
        let none : stop_printed poll (stop_of trace poll) ≡ [] = ap (stop_printed poll) (stop_is ∙ stop) in
        subst (LeadsOn trace position poll course counts q) (sym is) (
          after trace few host done some_tries p q poll polled course counts fits x within known k.taken k.at,
          subst (λ (l : List Printed). Follow trace (going_on trace counts course) l (going_on trace (poll_counted counts (polls.Published k.taken.daemon k.taken.publication)) (after trace few host done some_tries p q poll polled course counts fits x within known k.taken k.at)))
              (λ j. printed.Published (position + 1) (sym page j) k.taken.publication ∷ sym none j) leads.0,
          leads.1,
        )

    published_last : (k : Told trace.clock (order_for p.view x.daemon poll (heard_of x.row.reply) x.row.stop trace.tries) (touches_of q.view.steps) polled) → polled ≡ polls.Published k.taken.daemon k.taken.publication → x.row.stop ≡ Some 10 → LeadsOn trace position poll course counts q polled
    published_last k is stop =
        let page = page_is trace few host done some_tries p q poll polled course counts fits x within known k.taken k.at in
        let leads = publishes_last trace few host done some_tries p q poll polled course counts fits x within known k.taken k.at is stop in
        let one : stop_printed poll (stop_of trace poll) ≡ printed.Stopped poll 10 ∷ [] = ap (stop_printed poll) (stop_is ∙ stop) in
        subst (LeadsOn trace position poll course counts q) (sym is) (
          ended (after trace few host done some_tries p q poll polled course counts fits x within known k.taken k.at),
          subst (λ (l : List Printed). Follow trace (going_on trace counts course) l (going_on trace (poll_counted counts (polls.Published k.taken.daemon k.taken.publication)) (ended (after trace few host done some_tries p q poll polled course counts fits x within known k.taken k.at))))
              (λ j. printed.Published (position + 1) (sym page j) k.taken.publication ∷ sym one j) leads.0,
          leads.1,
        )

    told_leads : (stop : Option ℕ) → x.row.stop ≡ stop → IfSome stop (λ stores. stores ≤ 10) → Told trace.clock (order_for p.view x.daemon poll (heard_of x.row.reply) x.row.stop trace.tries) (touches_of q.view.steps) polled → LeadsOn trace position poll course counts q polled
    told_leads None stop most k = published_on k (k.is ∙ ap (λ (o : Option ℕ). polled_by o k.taken) stop) stop
    told_leads (Some stores) stop most k = by (nat_lt stores 10) refl
      where
        is_by : (b : Bool) → nat_lt stores 10 ≡ b → polled ≡ (if b then polls.Stopped stores else polls.Published k.taken.daemon k.taken.publication)
        is_by b test = k.is ∙ (ap (λ (o : Option ℕ). polled_by o k.taken) stop ∙ ap (λ (c : Bool). if c then polls.Stopped stores else polls.Published k.taken.daemon k.taken.publication) test)

        by : (b : Bool) → nat_lt stores 10 ≡ b → LeadsOn trace position poll course counts q polled
        by true test =
            let below : stores < 10 = grind (arith, nat_tests, test) in
            let is : polled ≡ polls.Stopped stores = is_by true test in
            subst (LeadsOn trace position poll course counts q) (sym is) (stops trace few host done some_tries p q poll polled course counts fits x within stores is stop below)
        by false test =
            let late : 10 ≤ stores = grind (arith, nat_tests, test) in
            let ten : stores ≡ 10 = omega (arith, late, most) in
            published_last k (is_by false test) (stop ∙ ap Some ten)

    poll_leads : LeadsOn trace position poll course counts q polled
    poll_leads = by (poll_did trace.clock (order_for p.view x.daemon poll (heard_of x.row.reply) x.row.stop trace.tries) (touches_of q.view.steps) polled x.polls.steps x.polls.answer)
      where
        by : Missed trace.clock (order_for p.view x.daemon poll (heard_of x.row.reply) x.row.stop trace.tries) (touches_of q.view.steps) polled ⊎ Told trace.clock (order_for p.view x.daemon poll (heard_of x.row.reply) x.row.stop trace.tries) (touches_of q.view.steps) polled
            → LeadsOn trace position poll course counts q polled
        by (inl m) =
            missed_leads m.first m.last m.is
            (record { support = m.support; asked = m.asked; later = m.later; begun = m.begun; first = m.first; last = m.last; fails = m.fails; is = refl })
        by (inr k) =
            told_leads x.row.stop refl
            (stop_few trace p.polled x.row rows (within_list trace.polls p.polled x.row x.row_is) x.row_is) k

  -- ---- how far the position comes

  -- each poll raises it by one at most, and a move, which there is only before the first poll in layout 3, by one more
  pub record Far (p : DaemonPlace) (course last : Course) : Type 0 where
    pub new : IsNew trace p → last.point / 2 + course.polled ≤ course.point / 2 + last.polled
    pub two : trace.layout ≡ Two → last.point / 2 + course.polled ≤ course.point / 2 + last.polled
    pub any : last.point / 2 + course.polled ≤ course.point / 2 + last.polled + 1

  new_by : (q : DaemonPlace) (course : Course) → PlaceFits trace q course → (q.daemon ≡ None → 0 < q.polled) → IsNew trace q
  new_by q course fits runs = by fits.header
    where
      by : IsFirst trace q ⊎ IsNew trace q → IsNew trace q
      by (inl first) = absurd (let some = runs first.3 in let none = first.0 in omega (arith, some, none))
      by (inr new) = new

  -- ---- all calls

  -- what these calls lead to
  pub record Leads (p : DaemonPlace) (lines : List Line) (q : DaemonPlace) (course : Course) (counts : Counts) : Type 0 where
    pub last : Course
    pub follow : Follow trace (going_on trace counts course) (lines_printed trace (course.point / 2) lines) (going_on trace (lines_counted counts lines) last)
    pub fits : PlaceFits trace q last
    pub far : Far p course last
    pub history : q.view.daemon_part.segment.history ≡ p.view.daemon_part.segment.history ++ lines_published (first_segment (setup_of trace)) lines

  within_before : (v w : DaemonPlace) → Grows v.view w.view → Within trace host w.view → Within trace host v.view
  within_before v w grows within =
      let rows = grows.rows in
      let pages = grows.page_point in
      let most_rows = within.rows in
      let most_pages = within.page_point in
      record { rows = omega (arith, rows, most_rows); page_point = omega (arith, pages, most_pages); pages = begins_trans v.view.seen.pages w.view.seen.pages host.pages grows.pages within.pages }

  call_grows : (p : DaemonPlace) (line : Line) (q : DaemonPlace) → CallsNext trace p line q → Grows p.view q.view
  call_grows p (lines.Opened poll start moved) q x = sound_grows p.view q.view x.reopens.before x.reopens.sound
  call_grows p (lines.Polled poll polled) q x = sound_grows p.view q.view x.polls.before x.polls.sound
  call_grows p (lines.Answered client call answer) q x = absurd x

  pub within_first : (p : DaemonPlace) (later : List Line) (q : DaemonPlace) → DaemonCalls trace p later q → Within trace host q.view → Within trace host p.view
  within_first p [] q calls within = subst (λ (x : DaemonPlace). Within trace host x.view) (sym calls) within
  within_first p (line ∷ later) q calls within = within_before p calls.0 (call_grows p line calls.0 calls.1) (within_first calls.0 later q calls.2 within)

  -- the rest, after the lines of a call
  joins : (p : DaemonPlace) (line : Line) (later : List Line) (q : DaemonPlace) (course middle : Course) (counts : Counts) (reached : ℕ) → reached ≡ middle.point / 2
      → Follow trace (going_on trace counts course) (line_printed trace (course.point / 2) line) (going_on trace (line_counted counts line) middle) → position_after_line (course.point / 2) line ≡ reached
      → (l : Leads p later q middle (line_counted counts line)) → Follow trace (going_on trace counts course) (lines_printed trace (course.point / 2) (line ∷ later)) (going_on trace (lines_counted counts (line ∷ later)) l.last)
  joins p line later q course middle counts reached at follow next l =
      follow_on trace (line_printed trace (course.point / 2) line) (lines_printed trace (position_after_line (course.point / 2) line) later) (going_on trace counts course) (going_on trace (line_counted counts line) middle) (going_on trace (lines_counted (line_counted counts line) later) l.last)
      follow (subst (λ (n : ℕ). Follow trace (going_on trace (line_counted counts line) middle) (lines_printed trace n later) (going_on trace (lines_counted (line_counted counts line) later) l.last)) (sym (next ∙ at)) l.follow)

  module _ (began : Started trace) where
    pub all_lead : (p : DaemonPlace) (later : List Line) (q : DaemonPlace) (course : Course) (counts : Counts) → PlaceFits trace p course → DaemonCalls trace p later q → Within trace host q.view → Leads p later q course counts
    all_lead p [] q course counts fits calls within =
        record {
          last = course;
          follow = refl;
          fits = subst (λ (x : DaemonPlace). PlaceFits trace x course) calls fits;
          far = record { new = λ _. omega arith; two = λ _. omega arith; any = omega arith };
          history = ap (λ (x : DaemonPlace). x.view.daemon_part.segment.history) (sym calls) ∙ sym (append-nil p.view.daemon_part.segment.history);
        }
    all_lead p (lines.Opened poll start None ∷ later) q course counts fits calls within =
        let m = calls.0 in
        let step = opens_still trace began p m poll start course counts fits calls.1 in
        let rest = all_lead m later q (opened trace course) counts step.1 calls.2 within in
        let new = new_by m (opened trace course) step.1 (λ none. absurd (cc (none, calls.1.daemon_after))) in
        let far = rest.far.new new in
        record {
          last = rest.last;
          follow = joins m (lines.Opened poll start None) later q course (opened trace course) counts (course.point / 2) refl step.0 refl rest;
          fits = rest.fits;
          far = record { new = λ _. far; two = λ _. far; any = omega (arith, far) };
          history = rest.history ∙ ap (λ (h : History). h ++ lines_published (first_segment (setup_of trace)) later) calls.1.reopens.history;
        }
    all_lead p (lines.Opened poll start (Some generation) ∷ later) q course counts fits calls within =
        let m = calls.0 in
        let next : Course = moved (opened trace course) in
        let step = opens_moving trace began p m poll start course counts fits generation calls.1 in
        let rest = all_lead m later q next counts step.1 calls.2 within in
        let new = new_by m next step.1 (λ none. absurd (cc (none, calls.1.daemon_after))) in
        let far = rest.far.new new in
        let first = moves_first trace began p m poll start course counts fits generation calls.1 in
        let at : p.view.daemon_part.segment.position ≡ course.point / 2 = sym (place trace p.view.daemon_part.segment course fits.segment) in
        let follow = subst (λ (n : ℕ). Follow trace (going_on trace counts course) (printed.Opened poll start ∷ printed.Moved poll (n + 1) generation ∷ []) (going_on trace counts next)) at step.0 in
        record {
          last = rest.last;
          follow = joins m (lines.Opened poll start (Some generation)) later q course next counts (course.point / 2 + 1) (omega arith) follow refl rest;
          fits = rest.fits;
          far = record {
            new = λ is. absurd (let some = is.0 first.0.3 in let none = first.0.0 in omega (arith, some, none));
            two = λ is. absurd (cc (is, first.1));
            any = omega (arith, far);
          };
          history = rest.history
              ∙ (ap (λ (h : History). h ++ lines_published (first_segment (setup_of trace)) later) calls.1.reopens.history
              ∙ (append_assoc p.view.daemon_part.segment.history (published_at p.view.daemon_part.segment p.view.daemon_part.segment.position ∷ []) (lines_published (first_segment (setup_of trace)) later)
              ∙ ap (λ (g : SegmentRun). p.view.daemon_part.segment.history ++ published_at g g.position ∷ lines_published (first_segment (setup_of trace)) later) first.0.2));
        }
    all_lead p (lines.Polled poll polled ∷ later) q course counts fits calls within =
        let m = calls.0 in
        let x = calls.1 in
        let inside = within_first m later q calls.2 within in
        let step = poll_leads p m poll polled course counts fits x inside in
        let rest = all_lead m later q step.0 (poll_counted counts polled) step.2 calls.2 within in
        let polled_is = x.polled_after in
        let new = new_by m step.0 step.2 (λ none. omega (arith, polled_is)) in
        let far = rest.far.new new in
        let at : p.view.daemon_part.segment.position ≡ course.point / 2 = sym (place trace p.view.daemon_part.segment course fits.segment) in
        let place_is : step.0.point / 2 ≡ position_after polled (course.point / 2) = place trace m.view.daemon_part.segment step.0 step.2.segment ∙ (x.polls.segment.position ∙ ap (position_after polled) at) in
        let most = one_more polled (course.point / 2) in
        let was = fits.polled in
        let is = step.2.polled in
        let follow = subst (λ (n : ℕ). Follow trace (going_on trace counts course) (poll_printed trace n poll polled) (going_on trace (poll_counted counts polled) step.0)) at step.1 in
        let near : rest.last.point / 2 + course.polled ≤ course.point / 2 + rest.last.polled = omega (arith, far, place_is, most, was, is, polled_is) in
        record {
          last = rest.last;
          follow = joins m (lines.Polled poll polled) later q course step.0 counts (position_after polled (course.point / 2)) (sym place_is) follow refl rest;
          fits = rest.fits;
          far = record { new = λ _. near; two = λ _. near; any = omega (arith, near) };
          history = rest.history
              ∙ (ap (λ (h : History). h ++ lines_published (first_segment (setup_of trace)) later) (x.polls.history ∙ history_by polled p.view.daemon_part.segment.history)
              ∙ append_assoc p.view.daemon_part.segment.history (published_by polled) (lines_published (first_segment (setup_of trace)) later));
        }
      where
        history_by : (r : Polled) (h : History) → history_after r h ≡ h ++ published_by r
        history_by (polls.Published daemon publication) h = refl
        history_by (polls.Skipped first last) h = sym (append-nil h)
        history_by (polls.Stopped stores) h = sym (append-nil h)

        one_more : (r : Polled) (n : ℕ) → position_after r n ≤ n + 1
        one_more (polls.Published daemon publication) n = omega arith
        one_more (polls.Skipped first last) n = omega arith
        one_more (polls.Stopped stores) n = omega arith
    all_lead p (lines.Answered client call answer ∷ later) q course counts fits calls within = absurd calls.1
