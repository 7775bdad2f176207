-- The lines of an opening follow in a report.
use Rattle.std.proofs.Common.{◌≡◌, ℕ, ◌+◌, ◌-◌, ◌<◌, Bool, true, false, List, [], ◌∷◌, ◌++◌, length, length-append, refl, sym, ap, ◌∙◌, subst, arith, inl, inr, Option, Some, None}
use Rattle.std.specs.Prelude.{◌==◌, ◌&&◌, ◌⊎◌, nat_lt, if◌then◌else◌, slice_index, is_some}
use Rattle.std.proofs.lemmas.Bool.Decides.{nat_tests}
use Rattle.clock_gate.specs.declared.trace.Trace.{Trace}
use Rattle.generation_word.specs.declared.layout.Layout.{Layout}
use Rattle.generation_word.specs.declared.layout.Layout.TheVariants.{Two, Three}
use Rattle.generation_word.specs.Layout.{period_of}
use Rattle.generation_word.specs.Numbering.{generation_at, even_after}
use Rattle.segment_layout.specs.declared.publication.Publication.{Publication}
use Rattle.segment_layout.specs.declared.start.Start.{Start}
use Rattle.segment_layout.specs.declared.start.Start.TheVariants.{Fresh, Kept, Torn}
use Rattle.segment_layout.specs.Image.{is_old_header}
use Rattle.segment_run.specs.SegmentRun.{SegmentRun, header_shown, number_shown, number_at, published_at, headed, opened_update, moved_once}
use Rattle.segment_run.specs.SegmentRun as runs
use Rattle.segment_rule.proofs.Stores.{even_next}
use Rattle.segment_views.specs.Views.{DaemonPart}
use Rattle.segment_rule.specs.Opens.{opened_of, moved_by}
use Rattle.status_machine.specs.declared.daemon.Daemon.{Daemon}
use Rattle.status_machine.specs.Incarnation.{Incarnation}
use Rattle.status_machine.specs.Step.{daemon_begun}
use Rattle.status_machine.proofs.LookBack.{ShowsPast-begun}
use Rattle.lawful_report.specs.declared.counts.Counts.{Counts}
use Rattle.lawful_report.specs.declared.entry.Entry.{Entry}
use Rattle.lawful_report.specs.declared.printed.Printed.TheVariants as printed
use Rattle.lawful_report.specs.Course.{Course, Life, first_entry, last_entry, next_generation, start_found, keeps, is_move, life_from, opened, moved}
use Rattle.lawful_report.specs.Lawful.{Due, Opening, Moving, Polling, Standing, due_next, going_on, FollowsAt, Follows, Follow}
use Rattle.live_report.specs.DaemonCalls.{DaemonPlace, OpensNext}
use Rattle.live_report.proofs.Started.{Started, entry_told}
use Rattle.live_report.proofs.Lists.{map_append}
use Rattle.live_report.proofs.CourseFits.{SegmentFits, place, last_known, last_base, found_same, LifeFits, IsFirst, IsNew, PlaceFits, own_is_new, sound_grows, at_the_end}

-- ---- what is due

pub due_opening : (trace : Trace) (course : Course) → course.polled < length trace.polls → course.life ≡ None → due_next trace course ≡ Opening
due_opening trace course due none = let test : nat_lt course.polled (length trace.polls) ≡ true = grind (arith, nat_tests, due) in rw (test, none) refl

pub due_polling : (trace : Trace) (course : Course) (life : Life) → course.polled < length trace.polls → course.life ≡ Some life → due_next trace course ≡ Polling
due_polling trace course life due is = let test : nat_lt course.polled (length trace.polls) ≡ true = grind (arith, nat_tests, due) in rw (test, is) refl

pub no_life : (trace : Trace) (daemon : Option Daemon) (life : Option Life) → daemon ≡ None → LifeFits trace daemon life → life ≡ None
no_life trace None None is fits = refl
no_life trace None (Some life) is fits = absurd fits
no_life trace (Some daemon) life is fits = absurd (cc is)

-- ---- whether it moves

-- an old header over a record
abbrev moves : (old : Bool) → Start → Bool
moves old start = old && keeps start

none_moved : (start : Start) (old : Bool) (number : ℕ) → moved_by start old number ≡ None → moves old start ≡ false
none_moved Fresh true number is = refl
none_moved Fresh false number is = refl
none_moved (Torn generation) true number is = refl
none_moved (Torn generation) false number is = refl
none_moved (Kept generation rec) true number is = absurd (cc is)
none_moved (Kept generation rec) false number is = refl

some_moved : (start : Start) (old : Bool) (number generation : ℕ) → moved_by start old number ≡ Some generation → (moves old start ≡ true) × (generation ≡ even_after (period_of Three) number)
some_moved Fresh old number generation is = absurd (cc is)
some_moved (Torn torn) old number generation is = absurd (cc is)
some_moved (Kept kept rec) true number generation is = (refl, (let same : even_after (period_of Three) number ≡ generation = cc is in sym same))
some_moved (Kept kept rec) false number generation is = absurd (cc is)

-- without a move the segment stays but for its header
abbrev StaysBut : SegmentRun → SegmentRun → Type 0
StaysBut s t = (t ≡ headed s) ⊎ (t ≡ s)

stays_by : (start : Start) (old : Bool) (part : DaemonPart) → moves old start ≡ false → StaysBut part.segment (opened_of start old part).segment × ((opened_of start old part).segment.is_headed ≡ true ⊎ (old ≡ false) × ((opened_of start old part).segment ≡ part.segment))
stays_by Fresh old part none = (inl refl, inl refl)
stays_by (Torn generation) true part none = (inl refl, inl refl)
stays_by (Torn generation) false part none = (inr refl, inr (refl, refl))
stays_by (Kept generation rec) true part none = absurd (cc none)
stays_by (Kept generation rec) false part none = (inr refl, inr (refl, refl))

moves_by : (start : Start) (old : Bool) (part : DaemonPart) → moves old start ≡ true → ((opened_of start old part).segment ≡ moved_once (opened_update part.segment)) × (old ≡ true)
moves_by Fresh true part some = absurd (cc some)
moves_by Fresh false part some = absurd (cc some)
moves_by (Torn generation) true part some = absurd (cc some)
moves_by (Torn generation) false part some = absurd (cc some)
moves_by (Kept generation rec) true part some = (refl, refl)
moves_by (Kept generation rec) false part some = absurd (cc some)

old_three : (layout : Layout) (header : ℕ) → is_old_header layout header ≡ true → layout ≡ Three
old_three Two header is = absurd (cc is)
old_three Three header is = refl

pub own_shown : (segment : SegmentRun) → segment.is_headed ≡ true → is_old_header segment.layout (header_shown segment) ≡ false
own_shown segment is = rw is (own_is_new segment.layout (number_shown segment))

module _ (trace : Trace) (began : Started trace) (p q : DaemonPlace) (poll : ℕ) (found : Start) (course : Course) (counts : Counts) (fits : PlaceFits trace p course) where
  abbrev s : SegmentRun
  s = p.view.daemon_part.segment

  abbrev old : Bool
  old = is_old_header s.layout (header_shown s)

  abbrev left : SegmentRun
  left = (opened_of (runs.start_found s) old p.view.daemon_part).segment

  -- the course moves exactly where the opening does
  move_same : p.daemon ≡ None → is_move trace course ≡ moves old (runs.start_found s)
  move_same stopped = by fits.header
    where
      f : SegmentFits trace s course
      f = fits.segment

      by : IsFirst trace p ⊎ IsNew trace p → is_move trace course ≡ moves old (runs.start_found s)
      by (inl first) =
          let none : course.polled ≡ 0 = fits.polled ∙ first.0 in
          let test : (course.polled == 0) ≡ true = grind (arith, nat_tests, none) in
          let header : slice_index trace.image 1 ≡ header_shown s =
          ap (λ (l : List ℕ). slice_index l 1) (sym f.image)
          ∙ subst (λ (b : Bool). slice_index s.image 1 ≡ header_shown (record s { is_headed = b })) (sym (ap (λ (g : SegmentRun). g.is_headed) first.2 ∙ began.unheaded)) refl in
          λ j. test j && (is_old_header (sym f.layout j) (header j) && keeps (found_same trace s course f j))
      by (inr new) =
          let some = new.0 stopped in
          let same = fits.polled in
          let test : (course.polled == 0) ≡ false = grind (arith, nat_tests, same, some) in
          let none : old ≡ false = ap (λ (l : Layout). is_old_header l (header_shown s)) f.layout ∙ new.1 in
          ap (λ (b : Bool). b && (is_old_header trace.layout (slice_index trace.image 1) && keeps (start_found trace course))) test ∙ sym (ap (λ (b : Bool). b && keeps (runs.start_found s)) none)

  -- the incarnation that it begins
  life_begins : (base : ℕ) → found ≡ runs.start_found s → base ≡ p.base → (daemon : Option Daemon) → daemon ≡ Some (daemon_begun (record { start = found; drift = trace.drift; support = is_some trace.page; base = base }))
      → LifeFits trace daemon (Some (life_from trace (start_found trace course) (last_entry course).base))
  life_begins base start same daemon is =
      let from : Incarnation = record { start = start_found trace course; drift = trace.drift; support = is_some trace.page; base = (last_entry course).base } in
      let starts : start_found trace course ≡ found = found_same trace s course fits.segment ∙ sym start in
      let bases : (last_entry course).base ≡ base = last_base trace s course fits.segment ∙ (sym fits.base_same ∙ sym same) in
      let begins : daemon_begun from ≡ daemon_begun (record { start = found; drift = trace.drift; support = is_some trace.page; base = base }) =
      λ j. daemon_begun (record { start = starts j; drift = trace.drift; support = is_some trace.page; base = bases j }) in
      subst (λ (d : Option Daemon). LifeFits trace d (Some (life_from trace (start_found trace course) (last_entry course).base))) (ap Some begins ∙ sym is) (ShowsPast-begun from, refl)

  -- ---- without a move

  stays_fits : (t : SegmentRun) → StaysBut s t → SegmentFits trace t (opened trace course)
  stays_fits t (inl is) =
      let f = fits.segment in
      subst (λ (g : SegmentRun). SegmentFits trace g (opened trace course)) (sym is)
      (record { layout = f.layout; image = f.image; base = f.base; before = f.before; known = f.known; calm = f.calm; point = f.point; entries = f.entries })
  stays_fits t (inr is) =
      let f = fits.segment in
      subst (λ (g : SegmentRun). SegmentFits trace g (opened trace course)) (sym is)
      (record { layout = f.layout; image = f.image; base = f.base; before = f.before; known = f.known; calm = f.calm; point = f.point; entries = f.entries })

  stays_base : (t : SegmentRun) → StaysBut s t → (published_at s s.position).base ≡ (published_at t t.position).base
  stays_base t (inl is) = ap (λ (g : SegmentRun). (published_at g g.position).base) (sym is)
  stays_base t (inr is) = ap (λ (g : SegmentRun). (published_at g g.position).base) (sym is)

  stays_new : (t : SegmentRun) → t.layout ≡ trace.layout → (t.is_headed ≡ true) ⊎ ((old ≡ false) × (t ≡ s)) → is_old_header trace.layout (header_shown t) ≡ false
  stays_new t layout (inl headed_is) = ap (λ (l : Layout). is_old_header l (header_shown t)) (sym layout) ∙ own_shown t headed_is
  stays_new t layout (inr same) = ap (λ (l : Layout). is_old_header l (header_shown t)) (sym layout) ∙ (ap (λ (g : SegmentRun). is_old_header g.layout (header_shown g)) same.1 ∙ same.0)

  pub opens_still : OpensNext trace p poll found None q → Follow trace (going_on trace counts course) (printed.Opened poll found ∷ []) (going_on trace counts (opened trace course)) × PlaceFits trace q (opened trace course)
  opens_still x =
      let r = x.reopens in
      let number = x.due in
      let polled = fits.polled in
      let due : course.polled < length trace.polls = omega (arith, number, polled) in
      let none = none_moved (runs.start_found s) old (number_shown s) (sym r.moved) in
      let no_move : is_move trace course ≡ false = move_same x.stopped ∙ none in
      let dues : due_next trace (opened trace course) ≡ (if is_move trace course then Moving else Polling) =
      due_polling trace (opened trace course) (life_from trace (start_found trace course) (last_entry course).base) due refl ∙ sym (ap (λ (b : Bool). if b then Moving else Polling) no_move) in
      let next : Standing = going_on trace counts (opened trace course) in
      let here : Follows trace (going_on trace counts course) (printed.Opened poll found) next =
      subst (λ (d : Due). FollowsAt trace (going_on trace counts course) d (printed.Opened poll found) next) (sym (due_opening trace course due (no_life trace p.daemon course.life x.stopped fits.life)))
      (record { poll_is = x.poll_is ∙ ap (λ (n : ℕ). n + 1) (sym polled); start_is = r.start ∙ sym (found_same trace s course fits.segment); after_is = λ j. record { course = opened trace course; counts = counts; due = dues j } }) in
      let stays = stays_by (runs.start_found s) old p.view.daemon_part none in
      let is : q.view.daemon_part.segment ≡ left = ap (λ (part : DaemonPart). part.segment) r.daemon_part in
      let grows = sound_grows p.view q.view r.before r.sound in
      let rows = grows.rows in
      let pages = grows.page_point in
      let row = fits.row in
      let page = fits.page in
      let segment_fits = subst (λ (g : SegmentRun). SegmentFits trace g (opened trace course)) (sym is) (stays_fits left stays.0) in (
        (next, here, refl),
        record {
          setup = r.setup ∙ fits.setup;
          polled = fits.polled ∙ sym x.polled_after;
          segment = segment_fits;
          row = omega (arith, row, rows);
          page = omega (arith, page, pages);
          base_same = x.base_after ∙ (fits.base_same ∙ (stays_base left stays.0 ∙ ap (λ (g : SegmentRun). (published_at g g.position).base) (sym is)));
          life = life_begins p.base r.start refl q.daemon x.daemon_after;
          header = inr (
            λ stopped. absurd (cc (x.daemon_after, stopped)),
            subst (λ (g : SegmentRun). is_old_header trace.layout (header_shown g) ≡ false) (sym is) (stays_new left (ap (λ (g : SegmentRun). g.layout) (sym is) ∙ segment_fits.layout) stays.1),
          );
        },
      )

  -- ---- with a move

  moved_fits : IsFirst trace p → s.base < s.position → s.is_writing ≡ false → SegmentFits trace (moved_once (opened_update s)) (moved (opened trace course))
  moved_fits first above calm =
      let f = fits.segment in
      let known = f.known in
      let half = place trace s course f in
      let more = length-append s.history (published_at s s.position ∷ []) in
      let last : first_entry (last_entry course).rec ≡ entry_told trace (published_at s s.position) =
      ap (λ (e : Entry). first_entry e.rec) (last_known trace s course f above)
      ∙ sym (subst (λ (g : SegmentRun). g.base < g.position → entry_told trace (published_at g g.position) ≡ first_entry (published_at g g.position).rec) (sym first.2) began.last above) in
      record {
        layout = f.layout;
        image = f.image;
        base = f.base;
        before = f.before;
        known = omega (arith, known, more);
        calm = λ rests some. omega (arith, above);
        point = omega (arith, half);
        entries = (λ j. f.entries j ++ last j ∷ []) ∙ sym (map_append (entry_told trace) s.history (published_at s s.position ∷ []));
      }

  moved_base : SegmentFits trace s course → (published_at (moved_once (opened_update s)) (s.position + 1)).base ≡ (published_at s s.position).base
  moved_base f = let known = f.known in ap (λ (e : Publication). e.base) (at_the_end s.history (published_at s s.position) (s.position + 1 - s.base - 1) (omega (arith, known)))

  kept_by : (writes none : Bool) → s.is_writing ≡ writes → (s.position == 0) ≡ none → keeps (runs.start_found s) ≡ true → (s.is_writing ≡ false) × (0 < s.position)
  kept_by true none is test kept = absurd (cc (rw is at kept))
  kept_by false true is test kept = absurd (cc (rw (is, test) at kept))
  kept_by false false is test kept = (is, (let some : 0 < s.position = grind (arith, nat_tests, test) in some))

  both : (a b : Bool) → (a && b) ≡ true → (a ≡ true) × (b ≡ true)
  both true true is = (refl, refl)
  both true false is = absurd (cc is)
  both false b is = absurd (cc is)

  is_first : (old ≡ true) → IsFirst trace p ⊎ IsNew trace p → IsFirst trace p
  is_first is (inl first) = first
  is_first is (inr new) =
      let f = fits.segment in
      let none : old ≡ false = ap (λ (l : Layout). is_old_header l (header_shown s)) f.layout ∙ new.1 in
      absurd (cc (is, none))

  pub opens_moving : (generation : ℕ) → OpensNext trace p poll found (Some generation) q
      → Follow trace (going_on trace counts course) (printed.Opened poll found ∷ printed.Moved poll (s.position + 1) generation ∷ []) (going_on trace counts (moved (opened trace course))) × PlaceFits trace q (moved (opened trace course))
  opens_moving generation x =
      let r = x.reopens in
      let number = x.due in
      let polled = fits.polled in
      let due : course.polled < length trace.polls = omega (arith, number, polled) in
      let some = some_moved (runs.start_found s) old (number_shown s) generation (sym r.moved) in
      let olds = both old (keeps (runs.start_found s)) some.0 in
      let first = is_first olds.0 fits.header in
      let rests = kept_by s.is_writing (s.position == 0) refl refl olds.1 in
      let f = fits.segment in
      let above = f.calm rests.0 rests.1 in
      let half = place trace s course f in
      let is_moved : is_move trace course ≡ true = move_same x.stopped ∙ some.0 in
      let three : s.layout ≡ Three = old_three s.layout (header_shown s) olds.0 in
      let back = sym half in
      let numbers : generation ≡ next_generation trace (opened trace course) =
      some.1
      ∙ (ap (λ (l : Layout). even_after (period_of l) (number_shown s)) (sym three)
      ∙ (even_next s ∙ (λ j. generation_at (period_of (f.layout j)) (back j + 1)))) in
      let begins : Standing = record { course = opened trace course; counts = counts; due = if is_move trace course then Moving else Polling } in
      let next : Standing = going_on trace counts (moved (opened trace course)) in
      let here : Follows trace (going_on trace counts course) (printed.Opened poll found) begins =
      subst (λ (d : Due). FollowsAt trace (going_on trace counts course) d (printed.Opened poll found) begins) (sym (due_opening trace course due (no_life trace p.daemon course.life x.stopped fits.life)))
      (record { poll_is = x.poll_is ∙ ap (λ (n : ℕ). n + 1) (sym polled); start_is = r.start ∙ sym (found_same trace s course fits.segment); after_is = refl }) in
      let there : Follows trace begins (printed.Moved poll (s.position + 1) generation) next =
      subst (λ (d : Due). FollowsAt trace begins d (printed.Moved poll (s.position + 1) generation) next) (sym (ap (λ (b : Bool). if b then Moving else Polling) is_moved))
      (record {
        poll_is = x.poll_is ∙ ap (λ (n : ℕ). n + 1) (sym polled);
        position_is = ap (λ (n : ℕ). n + 1) (sym half);
        generation_is = numbers;
        after_is = (λ j. record { course = moved (opened trace course); counts = counts; due = due_polling trace (moved (opened trace course)) (life_from trace (start_found trace course) (last_entry course).base) due refl j });
      }) in
      let left_is = moves_by (runs.start_found s) old p.view.daemon_part some.0 in
      let is : q.view.daemon_part.segment ≡ moved_once (opened_update s) = ap (λ (part : DaemonPart). part.segment) r.daemon_part ∙ left_is.0 in
      let grows = sound_grows p.view q.view r.before r.sound in
      let rows = grows.rows in
      let pages = grows.page_point in
      let row = fits.row in
      let page = fits.page in
      let segment_fits : SegmentFits trace (moved_once (opened_update s)) (moved (opened trace course)) = moved_fits first above rests.0 in
      let none_based : 0 ≡ p.base = sym first.1 in (
        (begins, here, (next, there, refl)),
        record {
          setup = r.setup ∙ fits.setup;
          polled = fits.polled ∙ sym x.polled_after;
          segment = subst (λ (g : SegmentRun). SegmentFits trace g (moved (opened trace course))) (sym is) segment_fits;
          row = omega (arith, row, rows);
          page = omega (arith, page, pages);
          base_same = x.base_after ∙ (none_based ∙ (fits.base_same ∙ (sym (moved_base f) ∙ ap (λ (g : SegmentRun). (published_at g g.position).base) (sym is))));
          life = life_begins 0 r.start none_based q.daemon x.daemon_after;
          header = inr (
            λ stopped. absurd (cc (x.daemon_after, stopped)),
            subst (λ (g : SegmentRun). is_old_header trace.layout (header_shown g) ≡ false) (sym is) (ap (λ (l : Layout). is_old_header l (header_shown (moved_once (opened_update s)))) (sym f.layout) ∙ own_shown (moved_once (opened_update s)) refl),
          );
        },
      )

  -- a move is that of the first opening, in layout 3
  pub moves_first : (generation : ℕ) → OpensNext trace p poll found (Some generation) q → IsFirst trace p × (trace.layout ≡ Three)
  moves_first generation x =
      let some = some_moved (runs.start_found s) old (number_shown s) generation (sym x.reopens.moved) in
      let olds = both old (keeps (runs.start_found s)) some.0 in
      (is_first olds.0 fits.header, sym fits.segment.layout ∙ old_three s.layout (header_shown s) olds.0)
