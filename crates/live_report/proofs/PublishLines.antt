-- The line of a publication follows in a report.
use Rattle.std.proofs.Common.{◌≡◌, ℕ, ◌+◌, ◌-◌, ◌<◌, ◌≤◌, Bool, true, false, List, [], ◌∷◌, ◌++◌, length, map, length-append, refl, sym, ap, ◌∙◌, subst, arith, Option, Some, None}
use Rattle.std.specs.Prelude.{if◌then◌else◌, slice_index, slice_index_or}
use Rattle.clock_gate.specs.declared.clock_row.Reading.{Reading}
use Rattle.clock_gate.specs.declared.trace.Trace.{Trace}
use Rattle.clock_gate.specs.Acts.{Touch}
use Rattle.generation_word.specs.declared.layout.Layout.{Layout}
use Rattle.generation_word.specs.Layout.{period_of}
use Rattle.generation_word.specs.Numbering.{generation_at, even_after}
use Rattle.seqlock.specs.TriedRun.{load}
use Rattle.vmclock_page.specs.Host.{count_of}
use Rattle.vmclock_page.specs.Words.{count_in_word}
use Rattle.vmclock_page.specs.Counting.{page_number_of}
use Rattle.segment_layout.specs.declared.publication.Publication.{Publication}
use Rattle.segment_layout.specs.Words.{flag_of}
use Rattle.segment_run.specs.SegmentRun.{SegmentRun, number_shown, published_at, no_publication}
use Rattle.segment_views.specs.declared.setup.Setup.{Setup}
use Rattle.segment_views.specs.Views.{HostPart, no_page_try}
use Rattle.segment_views.specs.Shown.{touches_of, StandsRow}
use Rattle.segment_rule.specs.Polls.{order_for, history_after, LeavesSegment}
use Rattle.segment_rule.proofs.Stores.{even_next}
use Rattle.status_machine.specs.declared.daemon.Daemon.{Daemon}
use Rattle.status_machine.specs.declared.poll.Poll.{Poll}
use Rattle.status_machine.specs.Incarnation.{record_at, base_at}
use Rattle.status_machine.specs.Base.{base_number}
use Rattle.status_machine.specs.Poll.{heard_of}
use Rattle.status_machine.specs.Step.{ShowsPast, daemon_step}
use Rattle.status_machine.proofs.LookBack.{ShowsPast-step, record_of-shown}
use Rattle.writer_reopen.specs.declared.order.Order.{Order}
use Rattle.writer_reopen.specs.declared.polled.Polled.{Polled}
use Rattle.writer_reopen.specs.declared.polled.Polled.TheVariants as polls
use Rattle.writer_reopen.specs.declared.stage.Sight.{Sight}
use Rattle.writer_reopen.specs.declared.stage.Taken.{Taken}
use Rattle.writer_reopen.specs.Poll.{sequence_seen, poll_for, taken_for}
use Rattle.lawful_report.specs.declared.counts.Counts.{Counts}
use Rattle.lawful_report.specs.declared.printed.Printed.TheVariants as printed
use Rattle.lawful_report.specs.Pages.{marker_of_page, marker_from}
use Rattle.lawful_report.specs.Course.{Course, poll_at, entry_of, published, ended, IsPublished}
use Rattle.lawful_report.specs.Lawful.{Due, Stopping, Standing, going_on, one_publication, after_publication, has_stop, DoesNotStop, FollowsAt, Follow}
use Rattle.live_report.specs.LiveRun.{setup_of}
use Rattle.live_report.specs.DaemonCalls.{DaemonPlace, PollsNext, goes_on, base_left, unless_stopped}
use Rattle.live_report.proofs.Loads.{load_at}
use Rattle.live_report.proofs.PageTries.{page_found}
use Rattle.live_report.proofs.PollRun.{Saw, TakenAt}
use Rattle.live_report.proofs.HostDone.{HostDone}
use Rattle.live_report.proofs.Started.{FewPages, entry_told}
use Rattle.live_report.proofs.PageNumbers.{found_told}
use Rattle.live_report.proofs.Lists.{map_append}
use Rattle.live_report.proofs.CourseFits.{SegmentFits, place, LifeFits, PlaceFits, at_the_end}
use Rattle.live_report.proofs.PollLines.{Within, TookPage, PollFacts, no_page}

module _ (trace : Trace) (few : FewPages trace) (host : HostPart) (done : HostDone trace host) (some_tries : 0 < trace.tries) (p q : DaemonPlace) (poll : ℕ) (polled : Polled) (course : Course) (counts : Counts) (fits : PlaceFits trace p course) (x : PollsNext trace p poll polled q) (within : Within trace host q.view) (facts : PollFacts trace p q poll x.row x.daemon course) where
  abbrev s : SegmentRun
  s = p.view.daemon_part.segment

  abbrev t : SegmentRun
  t = q.view.daemon_part.segment

  abbrev order : Order
  order = order_for p.view x.daemon poll (heard_of x.row.reply) x.row.stop trace.tries

  -- ---- the page that was seen

  took_none : x.daemon.support ≡ false → TookPage trace course q.view None false
  took_none none =
      let missing : trace.page ≡ None = no_page trace.page (sym facts.support_is ∙ none) in
      let last = done.none missing in
      let most = within.page_point in
      let page = fits.page in
      let pages = facts.grows.page_point in
      let number : page_number_of (count_of trace.page) 0 ≡ 0 = ap (λ (o : Option (List ℕ)). page_number_of (count_of o) 0) missing in
      record {
        kept = omega (arith, last, most, page, pages, number);
        done = omega (arith, number);
        within = omega (arith, number);
        marker = (λ j. marker_from (sym missing j) trace.host (sym number j));
        has = refl;
      }

  took_sight : (sight : Sight) (before later after : List Touch) → touches_of q.view.steps ≡ before ++ (later ++ after) → Saw trace.clock order true later (Some sight) → TookPage trace course q.view (Some sight) true
  took_sight sight before later after is saw =
      let found = page_found (setup_of trace) q.view.before.page_point q.view.seen.page_point q.view.steps facts.page_climbs q.view.seen.pages no_page_try trace.tries before later after saw.0 saw.1 facts.page_sound few.even is saw.2 in
      let told = found_told trace few host done q.view.seen.pages q.view.before.page_point q.view.seen.page_point q.view.steps _ _ (slice_index saw.1 0) (count_in_word saw.0) within.pages within.page_point found in
      let sequence : page_number_of (count_of trace.page) sight.sequence ≡ page_number_of (count_of trace.page) (count_in_word saw.0) = ap (page_number_of (count_of trace.page)) saw.4 in
      let page = fits.page in
      let start = facts.from_page in
      let low = told.low in
      let high = told.high in
      let most = within.page_point in
      record {
        kept = omega (arith, page, start, low, sequence);
        done = omega (arith, high, most, sequence);
        within = omega (arith, high, sequence);
        marker = ap Some saw.3 ∙ (sym told.is ∙ ap (marker_of_page trace) (sym sequence));
        has = refl;
      }

  took_by : (support : Bool) (sight : Option Sight) (before later after : List Touch) → x.daemon.support ≡ support → touches_of q.view.steps ≡ before ++ (later ++ after) → Saw trace.clock order support later sight → TookPage trace course q.view sight support
  took_by false None before later after same is saw = took_none same
  took_by false (Some sight) before later after same is saw = absurd saw
  took_by true None before later after same is saw = absurd saw
  took_by true (Some sight) before later after same is saw = took_sight sight before later after is saw

  -- ---- what was taken

  module _ (taken : Taken) (at : TakenAt trace.clock order (touches_of q.view.steps) taken) where
    abbrev row : ℕ
    row = at.looked.begun.row

    abbrev page : ℕ
    page = page_number_of (count_of trace.page) (sequence_seen at.seen)

    abbrev own : Poll
    own = poll_for order at.asked at.seen

    -- the steps, load by load
    made : touches_of q.view.steps ≡ (load 23 row ∷ []) ++ (at.looked.later ++ (load 23 at.replied ∷ at.stores))
    made = at.made ∙ ap (λ (l : List Touch). l ++ load 23 at.replied ∷ at.stores) at.looked.begun.made

    took : TookPage trace course q.view at.seen x.daemon.support
    took = took_by x.daemon.support at.seen (load 23 row ∷ []) at.looked.later (load 23 at.replied ∷ at.stores) refl made at.looked.saw

    rows_rise : (p.view.seen.rows ≤ row) × (row ≤ at.replied) × (at.replied ≤ q.view.seen.rows)
    rows_rise =
        let a = load_at 23 StandsRow q.view.before.rows q.view.seen.rows q.view.steps [] (at.looked.later ++ (load 23 at.replied ∷ at.stores)) row refl x.polls.sound.rows made in
        let b = load_at 23 StandsRow a.shown q.view.seen.rows a.after at.looked.later at.stores at.replied refl a.climbs a.back_is in
        let start = facts.from_rows in
        let one = a.stands in
        let two = b.stands in
        let low = a.low in
        let order_is = b.low in
        let high = b.high in
        (omega (arith, start, one, low), omega (arith, one, two, order_is), omega (arith, two, high))

    asked_is : at.asked.row ≡ row
    asked_is = ap (λ (r : Reading). r.row) at.looked.begun.reading_is

    -- the poll is that of the course
    own_is : own ≡ poll_at trace course row page x.row
    own_is = λ j. record { number = facts.number j; reading = at.looked.begun.reading_is j; marker = took.marker j; heard = heard_of x.row.reply }

    shows : ShowsPast facts.life.0.from (own ∷ facts.life.0.past) (daemon_step x.daemon own)
    shows = ShowsPast-step facts.life.0.from facts.life.0.past x.daemon own took.has facts.life.2

    publication_is : taken.publication ≡ (taken_for order at.asked at.seen at.replied).publication
    publication_is = ap (λ (k : Taken). k.publication) at.taken_is

    is_published : IsPublished trace course facts.life.0 x.row (s.position + 1) page taken.publication
    is_published =
        let half = place trace s course fits.segment in
        let f = fits.segment in
        let row_kept = fits.row in
        let rise = rows_rise in
        let low = rise.0 in
        let high = rise.2 in
        let most = within.rows in
        let back = sym half in
        subst (IsPublished trace course facts.life.0 x.row (s.position + 1) page) (sym publication_is)
        (record {
          position_is = ap (λ (n : ℕ). n + 1) back;
          poll = facts.number;
          generation = ap (λ (l : Layout). even_after (period_of l) (number_shown s)) (ap (λ (c : Setup). c.layout) fits.setup ∙ sym f.layout) ∙ (even_next s ∙ (λ j. generation_at (period_of (f.layout j)) (back j + 1)));
          asked = omega (arith, row_kept, low, asked_is);
          replied = (let order_is = rise.1 in omega (arith, order_is, asked_is));
          done = omega (arith, high, most);
          page_kept = took.kept;
          page_done = took.done;
          rec = record_of-shown facts.life.0.from facts.life.0.past (daemon_step x.daemon own) own shows ∙ ap (λ (k : Poll). record_at facts.life.0.from k facts.life.0.past) (own_is ∙ ap (λ (r : ℕ). poll_at trace course r page x.row) (sym asked_is));
          base = ap base_number (shows.base ∙ ap (λ (k : Poll). base_at facts.life.0.from (k ∷ facts.life.0.past)) (own_is ∙ ap (λ (r : ℕ). poll_at trace course r page x.row) (sym asked_is)));
        })

    -- ---- the course after it

    abbrev own_at : Poll
    own_at = poll_at trace course taken.publication.asked page x.row

    abbrev pub after : Course
    after = published course facts.life.0 own_at taken.publication.replied page

    replied_is : taken.publication.replied ≡ at.replied
    replied_is = ap (λ (e : Publication). e.replied) publication_is

    pub page_is : page_number_of (count_of trace.page) taken.publication.sequence ≡ page
    page_is = ap (λ (e : Publication). page_number_of (count_of trace.page) e.sequence) publication_is

    entry_is : entry_of facts.life.0 own_at taken.publication.replied page ≡ entry_told trace taken.publication
    entry_is = λ j. record { rec = sym is_published.rec j; replied = taken.publication.replied; page = sym page_is j; base = sym is_published.base j }

    published_segment : LeavesSegment polled s t → polled ≡ polls.Published taken.daemon taken.publication → SegmentFits trace t after
    published_segment leaves is =
        let f = fits.segment in
        let l = subst (λ (r : Polled). LeavesSegment r s t) is leaves in
        let history : t.history ≡ s.history ++ taken.publication ∷ [] = x.polls.history ∙ ap (λ (r : Polled). history_after r s.history) is in
        let known = f.known in
        let base = l.base in
        let position = l.position in
        let half = place trace s course f in
        let long : length t.history ≡ length s.history + 1 = ap (λ (h : List Publication). length h) history ∙ length-append s.history (taken.publication ∷ []) in
        let off : flag_of t.is_writing ≡ 0 = ap flag_of l.writing in
        record {
          layout = l.layout ∙ f.layout;
          image = l.image ∙ f.image;
          base = l.base ∙ f.base;
          before = f.before;
          known = omega (arith, known, long, base, position);
          calm = λ calm some. omega (arith, known, base, position);
          point = omega (arith, half, position, off);
          entries = (λ j. f.entries j ++ entry_is j ∷ []) ∙ (sym (map_append (entry_told trace) s.history (taken.publication ∷ [])) ∙ ap (map (entry_told trace)) (sym history));
        }

    published_base : polled ≡ polls.Published taken.daemon taken.publication → q.base ≡ (published_at t t.position).base
    published_base is =
        let f = fits.segment in
        let l = subst (λ (r : Polled). LeavesSegment r s t) is x.polls.segment in
        let history : t.history ≡ s.history ++ taken.publication ∷ [] = x.polls.history ∙ ap (λ (r : Polled). history_after r s.history) is in
        let known = f.known in
        let base = l.base in
        let position = l.position in
        let newest : published_at t t.position ≡ taken.publication =
        ap (λ (h : List Publication). slice_index_or h (t.position - t.base - 1) no_publication) history ∙ at_the_end s.history taken.publication (t.position - t.base - 1) (omega (arith, known, base, position)) in
        x.base_after ∙ (ap (base_left p.base) is ∙ sym (ap (λ (e : Publication). e.base) newest))

    goes : ShowsPast facts.life.0.from (own_at ∷ facts.life.0.past) taken.daemon
    goes =
        let same : own ≡ own_at = own_is ∙ ap (λ (r : ℕ). poll_at trace course r page x.row) (sym asked_is ∙ sym (ap (λ (e : Publication). e.asked) publication_is)) in
        subst (λ (k : Poll × Daemon). ShowsPast facts.life.0.from (k.0 ∷ facts.life.0.past) k.1) (λ j. (same j, (ap (λ (k : Taken). k.daemon) (sym at.taken_is)) j)) shows

    row_within : at.replied ≤ q.view.seen.rows
    row_within = rows_rise.2

    -- it goes on
    pub publishes_on : polled ≡ polls.Published taken.daemon taken.publication → x.row.stop ≡ None
        → Follow trace (going_on trace counts course) (printed.Published (s.position + 1) page taken.publication ∷ []) (going_on trace (one_publication counts) after) × PlaceFits trace q after
    publishes_on is stop =
        let next : Standing = going_on trace (one_publication counts) after in
        let here : next ≡ after_publication trace (one_publication counts) x.row after = ap (λ (o : Option ℕ). if has_stop o 10 then record { course = ended after; counts = one_publication counts; due = Stopping } else next) (sym stop) in
        let high = row_within in
        let lives : LifeFits trace q.daemon after.life =
        subst (λ (d : Option Daemon). LifeFits trace d after.life) (sym (x.daemon_after ∙ (ap (goes_on x.row.stop x.daemon) is ∙ ap (λ (o : Option ℕ). unless_stopped o taken.daemon) stop))) (goes, facts.life.3) in (
          (
            next,
            subst (λ (d : Due). FollowsAt trace (going_on trace counts course) d (printed.Published (s.position + 1) page taken.publication) next) (sym facts.due)
                (record {
                  row = x.row;
                  life = facts.life.0;
                  here = record { row_is = facts.row_due; life_is = facts.life.1 };
                  goes_on = subst DoesNotStop (sym stop) tt;
                  is = is_published;
                  after_is = here;
                }),
            refl,
          ),
          facts.place_after after refl (published_segment x.polls.segment is) (omega (arith, high, replied_is)) took.within (published_base is) lives,
        )

    -- it stops after all its stores
    pub publishes_last : polled ≡ polls.Published taken.daemon taken.publication → x.row.stop ≡ Some 10
        → Follow trace (going_on trace counts course) (printed.Published (s.position + 1) page taken.publication ∷ printed.Stopped poll 10 ∷ []) (going_on trace (one_publication counts) (ended after)) × PlaceFits trace q (ended after)
    publishes_last is stop =
        let next : Standing = record { course = ended after; counts = one_publication counts; due = Stopping } in
        let here : next ≡ after_publication trace (one_publication counts) x.row after = ap (λ (o : Option ℕ). if has_stop o 10 then next else going_on trace (one_publication counts) after) (sym stop) in
        let high = row_within in
        let segment = published_segment x.polls.segment is in
        let lives : LifeFits trace q.daemon None =
        subst (λ (d : Option Daemon). LifeFits trace d None) (sym (x.daemon_after ∙ (ap (goes_on x.row.stop x.daemon) is ∙ ap (λ (o : Option ℕ). unless_stopped o taken.daemon) stop))) tt in (
          (
            next,
            subst (λ (d : Due). FollowsAt trace (going_on trace counts course) d (printed.Published (s.position + 1) page taken.publication) next) (sym facts.due)
                (record {
                  row = x.row;
                  life = facts.life.0;
                  here = record { row_is = facts.row_due; life_is = facts.life.1 };
                  goes_on = subst DoesNotStop (sym stop) refl;
                  is = is_published;
                  after_is = here;
                }),
            (
              going_on trace (one_publication counts) (ended after),
              record { poll_is = facts.number; all = refl; after_is = refl },
              refl,
            ),
          ),
          facts.place_after (ended after) refl
              (record { layout = segment.layout; image = segment.image; base = segment.base; before = segment.before; known = segment.known; calm = segment.calm; point = segment.point; entries = segment.entries })
              (omega (arith, high, replied_is)) took.within (published_base is) lives,
        )
