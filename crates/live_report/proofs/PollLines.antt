-- The lines of a poll follow in a report.
use Rattle.std.proofs.Common.{◌≡◌, ℕ, ◌+◌, ◌-◌, ◌*◌, ◌/◌, ◌<◌, ◌≤◌, Bool, true, false, List, [], ◌∷◌, ◌++◌, length, map, append-nil, refl, sym, ap, ◌∙◌, subst, arith, inl, inr, Option, Some, None}
use Rattle.std.specs.Prelude.{◌==◌, ◌⊎◌, if◌then◌else◌, slice_get, slice_index, slice_index_or, is_some}
use Rattle.std.proofs.lemmas.Bool.{cases_lt}
use Rattle.std.proofs.lemmas.Option.{slice_get_past}
use Rattle.clock_gate.specs.declared.trace.PollRow.{PollRow}
use Rattle.clock_gate.specs.declared.trace.Trace.{Trace}
use Rattle.clock_gate.specs.Acts.{Touch}
use Rattle.generation_word.specs.declared.layout.Layout.{Layout}
use Rattle.seqlock.specs.TriedRun.{load}
use Rattle.vmclock_page.specs.Host.{count_of}
use Rattle.vmclock_page.specs.Counting.{page_number_of}
use Rattle.segment_layout.specs.declared.publication.Publication.{Publication}
use Rattle.segment_layout.specs.Image.{is_old_header}
use Rattle.segment_layout.specs.Words.{flag_of}
use Rattle.segment_run.specs.SegmentRun.{SegmentRun, header_shown, published_at, no_publication}
use Rattle.segment_views.specs.declared.setup.Setup.{Setup}
use Rattle.segment_views.specs.Views.{Begins, HostPart, SeatView, point_of, no_page_try}
use Rattle.segment_views.specs.Shown.{touches_of, Climbs, StandsPage, PageSoundFrom}
use Rattle.segment_rule.specs.Polls.{order_for, history_after, headed_after, LeavesSegment}
use Rattle.status_machine.specs.declared.daemon.Daemon.{Daemon}
use Rattle.status_machine.specs.Poll.{heard_of}
use Rattle.status_machine.specs.Step.{ShowsPast}
use Rattle.writer_reopen.specs.declared.order.Order.{Order}
use Rattle.writer_reopen.specs.declared.polled.Polled.{Polled}
use Rattle.writer_reopen.specs.declared.polled.Polled.TheVariants as polls
use Rattle.writer_reopen.specs.declared.stage.Sight.{Sight}
use Rattle.writer_reopen.specs.Poll.{marker_seen, sequence_seen}
use Rattle.lawful_report.specs.declared.counts.Counts.{Counts}
use Rattle.lawful_report.specs.declared.printed.Printed.TheVariants as printed
use Rattle.lawful_report.specs.Pages.{marker_of_page, last_page, page_seen}
use Rattle.lawful_report.specs.Course.{Course, Life, point_stopped, skipped, stopped}
use Rattle.lawful_report.specs.Lawful.{Due, Polling, due_next, going_on, FollowsAt, Follow}
use Rattle.live_report.specs.LiveRun.{setup_of}
use Rattle.live_report.specs.DaemonCalls.{DaemonPlace, PollsNext, goes_on, base_left}
use Rattle.live_report.proofs.PageTries.{page_fails}
use Rattle.live_report.proofs.PollRun.{Missed}
use Rattle.live_report.proofs.HostDone.{HostDone}
use Rattle.live_report.proofs.Started.{FewPages, entry_told}
use Rattle.live_report.proofs.PageNumbers.{busy_told}
use Rattle.live_report.proofs.CourseFits.{SegmentFits, place, LifeFits, IsFirst, IsNew, PlaceFits, Grows, sound_grows}
use Rattle.live_report.proofs.OpeningLines.{due_polling, own_shown}

-- what was seen lies within what the host has done
pub record Within (trace : Trace) (host : HostPart) (v : SeatView) : Type 0 where
  pub rows : v.seen.rows ≤ length trace.clock
  pub page_point : v.seen.page_point ≤ 2 * last_page trace
  pub pages : Begins v.seen.pages host.pages

-- the incarnation of a daemon that goes on
some_life : (trace : Trace) (running : Option Daemon) (life : Option Life) (daemon : Daemon) → running ≡ Some daemon → LifeFits trace running life
    → (l : Life) × (life ≡ Some l) × ShowsPast l.from l.past daemon × (l.from.support ≡ is_some trace.page)
some_life trace None life daemon is fits = absurd (cc is)
some_life trace (Some other) None daemon is fits = absurd fits
some_life trace (Some other) (Some l) daemon is fits =
    let same : other ≡ daemon = cc is in
    (l, refl, subst (λ (d : Daemon). ShowsPast l.from l.past d) same fits.0, fits.1)

pub within_list : (polls : List PollRow) (k : ℕ) (row : PollRow) → slice_get polls k ≡ Some row → k < length polls
within_list polls k row is = elim (cases_lt k (length polls)) [
  | inl below ↦ below
  | inr past ↦ let late = past in absurd (cc (is, slice_get_past polls k (omega (arith, late))))
]

-- ---- the header

unheaded_before : (polled : Polled) (before after : Bool) → after ≡ headed_after polled before → after ≡ false → before ≡ false
unheaded_before (polls.Published daemon publication) before after is none = absurd (cc (is, none))
unheaded_before (polls.Skipped first last) before after is none = sym is ∙ none
unheaded_before (polls.Stopped stores) before after is none = by (stores == 0) is
  where
    by : (b : Bool) → after ≡ (if b then before else true) → before ≡ false
    by true is = sym is ∙ none
    by false is = absurd (cc (is, none))

unheaded_shown : (segment : SegmentRun) → segment.is_headed ≡ false → header_shown segment ≡ slice_index segment.image 1
unheaded_shown segment is = rw is refl

-- a header that is new stays new
still_new : (trace : Trace) (polled : Polled) (s t : SegmentRun) → LeavesSegment polled s t → s.layout ≡ trace.layout → is_old_header trace.layout (header_shown s) ≡ false → is_old_header trace.layout (header_shown t) ≡ false
still_new trace polled s t leaves layout new = by t.is_headed refl
  where
    by : (b : Bool) → t.is_headed ≡ b → is_old_header trace.layout (header_shown t) ≡ false
    by true is = ap (λ (l : Layout). is_old_header l (header_shown t)) (sym (leaves.layout ∙ layout)) ∙ own_shown t is
    by false is =
        let before = unheaded_before polled s.is_headed t.is_headed leaves.headed is in
        let same : header_shown t ≡ header_shown s = unheaded_shown t is ∙ (ap (λ (l : List ℕ). slice_index l 1) leaves.image ∙ sym (unheaded_shown s before)) in
        ap (is_old_header trace.layout) same ∙ new

-- ---- a segment whose history stays

history_stays : (trace : Trace) (s t : SegmentRun) (course after : Course) → SegmentFits trace s course → t.layout ≡ s.layout → t.image ≡ s.image → t.base ≡ s.base → t.position ≡ s.position → t.history ≡ s.history
    → (t.is_writing ≡ false → s.is_writing ≡ false) → after.before ≡ course.before → after.entries ≡ course.entries → after.point ≡ point_of t → SegmentFits trace t after
history_stays trace s t course after f layout image base position history rests before entries point =
    let known = f.known in
    let long : length t.history ≡ length s.history = ap (λ (l : List Publication). length l) history in
    record {
      layout = layout ∙ f.layout;
      image = image ∙ f.image;
      base = base ∙ f.base;
      before = before ∙ f.before;
      known = omega (arith, known, long, base, position);
      calm = λ calm some. (let above = f.calm (rests calm) (omega (arith, some, position)) in omega (arith, above, base, position));
      point = point;
      entries = entries ∙ (f.entries ∙ ap (map (entry_told trace)) (sym history));
    }

base_stays : (s t : SegmentRun) → t.base ≡ s.base → t.position ≡ s.position → t.history ≡ s.history → (published_at s s.position).base ≡ (published_at t t.position).base
base_stays s t base position history = λ j. (slice_index_or (sym history j) (sym position j - sym base j - 1) no_publication).base

-- ---- one poll

-- what a poll took, by its loads
pub record TookPage (trace : Trace) (course : Course) (w : SeatView) (sight : Option Sight) (support : Bool) : Type 0 where
  pub kept : course.page ≤ page_number_of (count_of trace.page) (sequence_seen sight)
  pub done : page_number_of (count_of trace.page) (sequence_seen sight) ≤ last_page trace
  pub within : 2 * page_number_of (count_of trace.page) (sequence_seen sight) ≤ w.seen.page_point
  pub marker : marker_seen sight ≡ marker_of_page trace (page_number_of (count_of trace.page) (sequence_seen sight))
  pub has : is_some (marker_seen sight) ≡ support

pub no_page : (page : Option (List ℕ)) → is_some page ≡ false → page ≡ None
no_page None is = refl
no_page (Some words) is = absurd (cc is)

-- what is known of a poll, whatever it came to
pub record PollFacts (trace : Trace) (p q : DaemonPlace) (poll : ℕ) (row : PollRow) (daemon : Daemon) (course : Course) : Type 0 where
  pub setup : q.view.setup ≡ setup_of trace
  pub grows : Grows p.view q.view
  pub life : (l : Life) × (course.life ≡ Some l) × ShowsPast l.from l.past daemon × (l.from.support ≡ is_some trace.page)
  pub support_is : daemon.support ≡ is_some trace.page
  pub number : poll ≡ course.polled + 1
  pub row_due : slice_get trace.polls course.polled ≡ Some row
  pub due : due_next trace course ≡ Polling
  pub from_page : q.view.before.page_point ≡ p.view.seen.page_point
  pub from_rows : q.view.before.rows ≡ p.view.seen.rows
  pub page_climbs : Climbs 11 (StandsPage (setup_of trace)) q.view.before.page_point q.view.steps q.view.seen.page_point
  pub page_sound : PageSoundFrom (setup_of trace) q.view.seen.pages no_page_try q.view.steps
  pub place_after : (after : Course) → after.polled ≡ course.polled + 1 → SegmentFits trace q.view.daemon_part.segment after → after.row ≤ q.view.seen.rows → 2 * after.page ≤ q.view.seen.page_point
      → q.base ≡ (published_at q.view.daemon_part.segment q.view.daemon_part.segment.position).base → LifeFits trace q.daemon after.life → PlaceFits trace q after

module _ (trace : Trace) (few : FewPages trace) (host : HostPart) (done : HostDone trace host) (some_tries : 0 < trace.tries) (p q : DaemonPlace) (poll : ℕ) (polled : Polled) (course : Course) (counts : Counts) (fits : PlaceFits trace p course) (x : PollsNext trace p poll polled q) (within : Within trace host q.view) where
  abbrev s : SegmentRun
  s = p.view.daemon_part.segment

  abbrev t : SegmentRun
  t = q.view.daemon_part.segment

  abbrev order : Order
  order = order_for p.view x.daemon poll (heard_of x.row.reply) x.row.stop trace.tries

  leaves : LeavesSegment polled s t
  leaves = x.polls.segment

  setup : q.view.setup ≡ setup_of trace
  setup = x.polls.setup ∙ fits.setup

  grows : Grows p.view q.view
  grows = sound_grows p.view q.view x.polls.before x.polls.sound

  life : (l : Life) × (course.life ≡ Some l) × ShowsPast l.from l.past x.daemon × (l.from.support ≡ is_some trace.page)
  life = some_life trace p.daemon course.life x.daemon x.goes fits.life

  support_is : x.daemon.support ≡ is_some trace.page
  support_is = life.2.same_support ∙ life.3

  number : poll ≡ course.polled + 1
  number = x.poll_is ∙ ap (λ (n : ℕ). n + 1) (sym fits.polled)

  row_due : slice_get trace.polls course.polled ≡ Some x.row
  row_due = ap (slice_get trace.polls) fits.polled ∙ x.row_is

  due : due_next trace course ≡ Polling
  due = due_polling trace course life.0 (within_list trace.polls course.polled x.row row_due) life.1

  from_page : q.view.before.page_point ≡ p.view.seen.page_point
  from_page = ap (λ seen. seen.page_point) x.polls.before

  from_rows : q.view.before.rows ≡ p.view.seen.rows
  from_rows = ap (λ seen. seen.rows) x.polls.before

  page_climbs : Climbs 11 (StandsPage (setup_of trace)) q.view.before.page_point q.view.steps q.view.seen.page_point
  page_climbs = subst (λ (c : Setup). Climbs 11 (StandsPage c) q.view.before.page_point q.view.steps q.view.seen.page_point) setup x.polls.sound.page_points

  page_sound : PageSoundFrom (setup_of trace) q.view.seen.pages no_page_try q.view.steps
  page_sound = subst (λ (c : Setup). PageSoundFrom c q.view.seen.pages no_page_try q.view.steps) setup x.polls.sound.page_sound

  -- the header stays new
  header_new : is_old_header trace.layout (header_shown t) ≡ false
  header_new = still_new trace polled s t leaves fits.segment.layout (by fits.header)
    where
      by : IsFirst trace p ⊎ IsNew trace p → is_old_header trace.layout (header_shown s) ≡ false
      by (inl first) = absurd (cc (first.3, x.goes))
      by (inr new) = new.1

  later_polled : q.daemon ≡ None → 0 < q.polled
  later_polled none = let more = x.polled_after in omega (arith, more)

  -- what the course keeps, whatever the poll came to
  place_after : (after : Course) → after.polled ≡ course.polled + 1 → SegmentFits trace t after → after.row ≤ q.view.seen.rows → 2 * after.page ≤ q.view.seen.page_point → q.base ≡ (published_at t t.position).base → LifeFits trace q.daemon after.life → PlaceFits trace q after
  place_after after polled_is segment row page base lives =
      record {
        setup = setup;
        polled = polled_is ∙ (ap (λ (n : ℕ). n + 1) fits.polled ∙ sym x.polled_after);
        segment = segment;
        row = row;
        page = page;
        base_same = base;
        life = lives;
        header = inr (later_polled, header_new);
      }

  pub facts : PollFacts trace p q poll x.row x.daemon course
  facts = record {
    setup = setup;
    grows = grows;
    life = life;
    support_is = support_is;
    number = number;
    row_due = row_due;
    due = due;
    from_page = from_page;
    from_rows = from_rows;
    page_climbs = page_climbs;
    page_sound = page_sound;
    place_after = place_after;
  }

  -- ---- it was skipped

  pub skips : (first last : ℕ) → polled ≡ polls.Skipped first last → Missed trace.clock order (touches_of q.view.steps) (polls.Skipped first last) → (after : Course) × Follow trace (going_on trace counts course) (printed.Skipped poll first last ∷ []) (going_on trace counts after) × PlaceFits trace q after
  skips first last is m =
      let same : (m.first ≡ first) × (m.last ≡ last) = same_counts m.first m.last first last m.is in
      let made : touches_of q.view.steps ≡ (load 23 m.begun.row ∷ []) ++ (m.later ++ []) = m.begun.made ∙ ap (λ (l : List Touch). load 23 m.begun.row ∷ l) (sym (append-nil m.later)) in
      let failed = page_fails (setup_of trace) q.view.before.page_point q.view.seen.page_point q.view.steps page_climbs trace.tries (load 23 m.begun.row ∷ []) m.later [] m.first m.last some_tries made m.fails in
      let page = fits.page in
      let told = busy_told trace few q.view.before.page_point q.view.seen.page_point m.first m.last course.page (sym support_is ∙ m.support) failed (omega (arith, page, from_page)) within.page_point in
      let most = told.1 in
      let row = fits.row in
      let rows = grows.rows in
      let l = subst (λ (r : Polled). LeavesSegment r s t) is leaves in
      let history : t.history ≡ s.history = x.polls.history ∙ ap (λ (r : Polled). history_after r s.history) is in
      let point : course.point ≡ point_of t = fits.segment.point ∙ (λ j. 2 * sym l.position j + flag_of (sym l.writing j)) in
      let after : Course = skipped course (page_seen trace m.last) in
      let lives : LifeFits trace q.daemon course.life =
      subst (λ (d : Option Daemon). LifeFits trace d course.life) (sym (x.daemon_after ∙ ap (goes_on x.row.stop x.daemon) is)) (subst (λ (o : Option Life). LifeFits trace (Some x.daemon) o) (sym life.1) (life.2, life.3)) in (
        after,
        (
          going_on trace counts after,
          subst (λ (d : Due). FollowsAt trace (going_on trace counts course) d (printed.Skipped poll first last) (going_on trace counts after)) (sym due)
              (subst (λ (c : ℕ × ℕ). FollowsAt trace (going_on trace counts course) Polling (printed.Skipped poll c.0 c.1) (going_on trace counts after)) (λ j. (same.0 j, same.1 j))
              (record { poll_is = number; fails = told.0; after_is = refl })),
          refl,
        ),
        place_after after refl
            (history_stays trace s t course after fits.segment l.layout l.image l.base l.position history (λ calm. sym l.writing ∙ calm) refl refl point)
            (omega (arith, row, rows)) most
            (x.base_after ∙ (ap (base_left p.base) is ∙ (fits.base_same ∙ base_stays s t l.base l.position history))) lives,
      )
    where
      same_counts : (a b c d : ℕ) → polls.Skipped c d ≡ polls.Skipped a b → (a ≡ c) × (b ≡ d)
      same_counts a b c d e = (cc, cc)

  -- ---- it stopped

  stopped_point : (stores : ℕ) → polled ≡ polls.Stopped stores → point_stopped course.point stores ≡ point_of t
  stopped_point stores is = by (stores == 0) refl
    where
      half : course.point / 2 ≡ s.position
      half = place trace s course fits.segment

      l : LeavesSegment (polls.Stopped stores) s t
      l = subst (λ (r : Polled). LeavesSegment r s t) is leaves

      by : (b : Bool) → (stores == 0) ≡ b → point_stopped course.point stores ≡ point_of t
      by true none =
          let writes : t.is_writing ≡ s.is_writing = l.writing ∙ ap (λ (b : Bool). if b then s.is_writing else true) none in
          ap (λ (b : Bool). if b then course.point else 2 * (course.point / 2) + 1) none ∙ (fits.segment.point ∙ (λ j. 2 * sym l.position j + flag_of (sym writes j)))
      by false some =
          let writes : t.is_writing ≡ true = l.writing ∙ ap (λ (b : Bool). if b then s.is_writing else true) some in
          ap (λ (b : Bool). if b then course.point else 2 * (course.point / 2) + 1) some ∙ (λ j. 2 * (half ∙ sym l.position) j + flag_of (sym writes j))

  rests_before : (stores : ℕ) → polled ≡ polls.Stopped stores → t.is_writing ≡ false → s.is_writing ≡ false
  rests_before stores is calm = by (stores == 0) (sym calm ∙ (leaves_stopped.writing))
    where
      leaves_stopped : LeavesSegment (polls.Stopped stores) s t
      leaves_stopped = subst (λ (r : Polled). LeavesSegment r s t) is leaves

      by : (b : Bool) → false ≡ (if b then s.is_writing else true) → s.is_writing ≡ false
      by true same = sym same
      by false same = absurd (cc same)

  pub stops : (stores : ℕ) → polled ≡ polls.Stopped stores → x.row.stop ≡ Some stores → stores < 10 → (after : Course) × Follow trace (going_on trace counts course) (printed.Stopped poll stores ∷ []) (going_on trace counts after) × PlaceFits trace q after
  stops stores is stop below =
      let l = subst (λ (r : Polled). LeavesSegment r s t) is leaves in
      let history : t.history ≡ s.history = x.polls.history ∙ ap (λ (r : Polled). history_after r s.history) is in
      let after : Course = stopped course stores in
      let row = fits.row in
      let rows = grows.rows in
      let page = fits.page in
      let pages = grows.page_point in
      let lives : LifeFits trace q.daemon None = subst (λ (d : Option Daemon). LifeFits trace d None) (sym (x.daemon_after ∙ ap (goes_on x.row.stop x.daemon) is)) tt in (
        after,
        (
          going_on trace counts after,
          subst (λ (d : Due). FollowsAt trace (going_on trace counts course) d (printed.Stopped poll stores) (going_on trace counts after)) (sym due)
              (record { row = x.row; is = row_due; poll_is = number; few = omega (arith, below); stop = stop; after_is = refl }),
          refl,
        ),
        place_after after refl
            (history_stays trace s t course after fits.segment l.layout l.image l.base l.position history (rests_before stores is) refl refl (stopped_point stores is))
            (omega (arith, row, rows)) (omega (arith, page, pages))
            (x.base_after ∙ (ap (base_left p.base) is ∙ (fits.base_same ∙ base_stays s t l.base l.position history))) lives,
      )
