-- One load more.
use Rattle.std.proofs.Common.{◌≡◌, ℕ, ◌-◌, ◌*◌, ◌/◌, ◌<◌, ◌≤◌, length, Bool, true, false, List, [], ◌∷◌, ◌++◌, refl, sym, ap, ◌∙◌, subst, arith}
use Rattle.std.specs.Prelude.{◌==◌, ◌&&◌, ◌||◌, not, slice_index}
use Rattle.segment_layout.specs.declared.publication.Publication.{Publication}
use Rattle.vmclock_page.specs.Host.{count_of}
use Rattle.vmclock_page.specs.Counting.{page_number_of}
use Rattle.segment_run.specs.SegmentRun.{no_publication}
use Rattle.segment_views.specs.declared.setup.Setup.{Setup}
use Rattle.segment_views.specs.Views.{Begins, Step, SeatView, SegmentTry, PageTry, no_segment_try, no_page_try, DaemonPart, point_of, base_of, after_step, segment_try_after, page_after_step, page_try_after}
use Rattle.segment_views.specs.Rule.{AreWordsOf}
use Rattle.segment_views.specs.Steps.{loaded, stored, ShowsPoint, IsBounded, IsWholeRead, IsSteady, IsWholePageRead}
use Rattle.segment_views.specs.Shown.{touches_of, is_load_of, When, next_shown, last_shown, Rises, Moves, Climbs, SoundFrom, SteadyFrom, PageSoundFrom, StandsPage, StandsRow, known_after, known_through, IsRowAfter, IsPageAfter, FollowsFrom, IsSoundCall, AddsLoad, AddsStore, point_through, PointsFollow}
use Rattle.segment_views.proofs.Lists.{begins_trans, begins_length, begins_at}

pub touches-snoc : (steps : List Step) (s : Step) → touches_of (steps ++ s ∷ []) ≡ touches_of steps ++ s.touch ∷ []
touches-snoc [] s = refl
touches-snoc (x ∷ steps) s = ap (λ l. x.touch ∷ l) (touches-snoc steps s)

module _ (i : ℕ) (Stands : ℕ → ℕ → Type 0) where
  pub rises_snoc : (from : ℕ) (ts : List Step) (t : Step) → Rises i Stands from ts → When (is_load_of i t) (Stands t.touch.value t.shown × (last_shown i from ts ≤ t.shown)) → Rises i Stands from (ts ++ t ∷ [])
  rises_snoc from [] t r h = (h, tt)
  rises_snoc from (s ∷ ts) t r h = (r.0, rises_snoc (next_shown (is_load_of i s) from s.shown) ts t r.1 h)

  pub last_shown-snoc : (from : ℕ) (ts : List Step) (t : Step) → last_shown i from (ts ++ t ∷ []) ≡ next_shown (is_load_of i t) (last_shown i from ts) t.shown
  last_shown-snoc from [] t = refl
  last_shown-snoc from (s ∷ ts) t = last_shown-snoc (next_shown (is_load_of i s) from s.shown) ts t

  moved : (b : Bool) (old new shown value : ℕ) → (b ≡ true → Stands value shown × (old ≤ shown) × (new ≡ shown)) → (b ≡ false → new ≡ old) → When b (Stands value shown × (old ≤ shown)) × (next_shown b old shown ≡ new)
  moved true old new shown value f g = let h = f refl in ((h.0, h.1), sym h.2)
  moved false old new shown value f g = (tt, sym (g refl))

  pub climbs_none : (from : ℕ) → Climbs i Stands from [] from
  climbs_none from = record { rises = tt; last = refl }

  pub climbs_more : (from old new : ℕ) (ts : List Step) (t : Step) → Climbs i Stands from ts old → Moves i Stands t old new → Climbs i Stands from (ts ++ t ∷ []) new
  climbs_more from old new ts t c m =
      let h = moved (is_load_of i t) old new t.shown t.touch.value m.load m.other in record {
        rises = rises_snoc from ts t c.rises (rw c.last h.0);
        last = last_shown-snoc from ts t ∙ (ap (λ x. next_shown (is_load_of i t) x t.shown) c.last ∙ h.1);
      }

-- ---- sound tries

sound-snoc : (c : Setup) (history : List Publication) (t : SegmentTry) (ts : List Step) (s : Step) → SoundFrom c history t ts → When (is_load_of 1 s) (IsWholeRead c history (segment_try_after t ts) s.touch.value s.shown) → SoundFrom c history t (ts ++ s ∷ [])
sound-snoc c history t [] s h one = (one, tt)
sound-snoc c history t (x ∷ ts) s h one = (h.0, sound-snoc c history (after_step t x) ts s h.1 one)

steady-snoc : (t : SegmentTry) (ts : List Step) (s : Step) → SteadyFrom t ts → When (is_load_of 1 s) (IsSteady (segment_try_after t ts) s.touch.value s.shown) → SteadyFrom t (ts ++ s ∷ [])
steady-snoc t [] s h one = (one, tt)
steady-snoc t (x ∷ ts) s h one = (h.0, steady-snoc (after_step t x) ts s h.1 one)

page_sound-snoc : (c : Setup) (pages : List (List ℕ)) (t : PageTry) (ts : List Step) (s : Step) → PageSoundFrom c pages t ts → When (is_load_of 11 s) (IsWholePageRead c pages (page_try_after t ts) s.touch.value s.shown)
    → PageSoundFrom c pages t (ts ++ s ∷ [])
page_sound-snoc c pages t [] s h one = (one, tt)
page_sound-snoc c pages t (x ∷ ts) s h one = (h.0, page_sound-snoc c pages (page_after_step t x) ts s h.1 one)

when_grows : (b : Bool) (P Q : Type 0) → (P → Q) → When b P → When b Q
when_grows true P Q f p = f p
when_grows false P Q f p = tt

whole_grows : (c : Setup) (h g : List Publication) (t : SegmentTry) (found shown : ℕ) → Begins h g → IsWholeRead c h t found shown → IsWholeRead c g t found shown
whole_grows c h g t found shown begins whole = λ same even above header near.
    let w = whole same even above header near in
    let more = begins_length h g begins in
    let low = w.1 in
    let entry = subst (λ (p : Publication). AreWordsOf p.rec t.loads × IsBounded p) (sym (begins_at h g (t.shown / 2 - base_of c - 1) no_publication begins (omega (arith, low, above)))) (w.2, w.3) in (
      w.0,
      omega (arith, low, more),
      entry.0,
      entry.1,
    )

sound_grows : (c : Setup) (h g : List Publication) (t : SegmentTry) (ts : List Step) → Begins h g → SoundFrom c h t ts → SoundFrom c g t ts
sound_grows c h g t [] begins sound = tt
sound_grows c h g t (s ∷ ts) begins sound =
    (when_grows (is_load_of 1 s) _ _ (whole_grows c h g t s.touch.value s.shown begins) sound.0, sound_grows c h g (after_step t s) ts begins sound.1)

page_whole_grows : (c : Setup) (h g : List (List ℕ)) (t : PageTry) (found shown : ℕ) → Begins h g → IsWholePageRead c h t found shown → IsWholePageRead c g t found shown
page_whole_grows c h g t found shown begins whole = λ same word marker even.
    let w = whole same word marker even in
    let more = begins_length h g begins in
    let low = w.1 in (
      w.0,
      omega (arith, low, more),
      w.2 ∙ ap (λ x. slice_index x 2) (sym (begins_at h g (shown / 2) [] begins low)),
    )

page_sound_grows : (c : Setup) (h g : List (List ℕ)) (t : PageTry) (ts : List Step) → Begins h g → PageSoundFrom c h t ts → PageSoundFrom c g t ts
page_sound_grows c h g t [] begins sound = tt
page_sound_grows c h g t (s ∷ ts) begins sound =
    (when_grows (is_load_of 11 s) _ _ (page_whole_grows c h g t s.touch.value s.shown begins) sound.0, page_sound_grows c h g (page_after_step t s) ts begins sound.1)

-- ---- what follows on the entries known

entries-snoc : (c : Setup) (history : List Publication) (known : ℕ) (ts : List Step) (s : Step) → FollowsFrom c history known ts
    → When (is_load_of 23 s) ((k : ℕ) → k < known_through c known ts → IsRowAfter history k s.shown) → When (is_load_of 11 s) ((k : ℕ) → k < known_through c known ts → IsPageAfter c history k s.shown)
    → FollowsFrom c history known (ts ++ s ∷ [])
entries-snoc c history known [] s are row page = (row, page, tt)
entries-snoc c history known (x ∷ ts) s are row page = (are.0, are.1, entries-snoc c history (known_after c known x) ts s are.2 row page)

known-snoc : (c : Setup) (known : ℕ) (ts : List Step) (s : Step) → known_through c known (ts ++ s ∷ []) ≡ known_after c (known_through c known ts) s
known-snoc c known [] s = refl
known-snoc c known (x ∷ ts) s = known-snoc c (known_after c known x) ts s

row_grows : (h g : List Publication) (k row : ℕ) → Begins h g → IsRowAfter h k row → IsRowAfter g k row
row_grows h g k row begins is =
    let more = begins_length h g begins in
    let low = is.0 in
    (omega (arith, low, more), subst (λ (p : Publication). p.replied ≤ row) (sym (begins_at h g k no_publication begins low)) is.1)

page_grows : (c : Setup) (h g : List Publication) (k point : ℕ) → Begins h g → IsPageAfter c h k point → IsPageAfter c g k point
page_grows c h g k point begins is =
    let more = begins_length h g begins in
    let low = is.0 in
    (omega (arith, low, more), subst (λ (p : Publication). 2 * page_number_of (count_of c.page) p.sequence ≤ point) (sym (begins_at h g k no_publication begins low)) is.1)

follows_grows : (c : Setup) (h g : List Publication) (known : ℕ) (ts : List Step) → Begins h g → FollowsFrom c h known ts → FollowsFrom c g known ts
follows_grows c h g known [] begins are = tt
follows_grows c h g known (s ∷ ts) begins are = (
  when_grows (is_load_of 23 s) _ _ (λ row k low. row_grows h g k s.shown begins (row k low)) are.0,
  when_grows (is_load_of 11 s) _ _ (λ page k low. page_grows c h g k s.shown begins (page k low)) are.1,
  follows_grows c h g (known_after c known s) ts begins are.2,
)

known_here : (b : Bool) (known here old new : ℕ) → When b (here ≡ new) → known ≤ old → old ≤ new → next_shown (b && not false) known here ≤ new
known_here true known here old new same low more = omega (arith, same)
known_here false known here old new same low more = omega (arith, low, more)

-- ---- a call

when_all : (b : Bool) {P : Type 0} → P → When b P
when_all true p = p
when_all false p = tt

plain : (b : Bool) (P : Type 0) → When b P → When (b && not false) P
plain true P p = p
plain false P p = tt

-- the view with these parts, so that only what a load changes is spoken of
ran_first_at : (c : Setup) (v w : SeatView) (i n : ℕ) (l : AddsLoad true i n v w) → IsSoundCall (record w { setup = v.setup; before = v.seen; steps = loaded i n l.shown ∷ [] })
ran_first_at c v w i n l = record {
  history = l.history;
  pages = l.pages;
  sound = (plain (i == 1) _ l.sound, tt);
  steady = (plain (i == 1) _ l.steady, tt);
  page_sound = (plain (i == 11) _ l.page_sound, tt);
  points = climbs_more 1 (ShowsPoint v.setup) v.seen.point v.seen.point w.seen.point [] (loaded i n l.shown) (climbs_none 1 (ShowsPoint v.setup) v.seen.point) l.points;
  page_points = climbs_more 11 (StandsPage v.setup) v.seen.page_point v.seen.page_point w.seen.page_point [] (loaded i n l.shown) (climbs_none 11 (StandsPage v.setup) v.seen.page_point) l.page_points;
  rows = climbs_more 23 StandsRow v.seen.rows v.seen.rows w.seen.rows [] (loaded i n l.shown) (climbs_none 23 StandsRow v.seen.rows) l.rows;
  known = known_here (i == 1) 0 (l.shown / 2 - base_of v.setup) 0 (length w.seen.history) l.place (omega arith) (omega arith);
  follows = (plain (i == 23) _ (when_all (i == 23) (λ k low. absurd (omega (arith, low)))), plain (i == 11) _ (when_all (i == 11) (λ k low. absurd (omega (arith, low)))), tt);
}

ran_more_at : (v w : SeatView) (i n : ℕ) (l : AddsLoad false i n v w) → IsSoundCall v → IsSoundCall (record w { setup = v.setup; before = v.before; steps = v.steps ++ loaded i n l.shown ∷ [] })
ran_more_at v w i n l r = record {
  history = begins_trans _ _ _ r.history l.history;
  pages = begins_trans _ _ _ r.pages l.pages;
  sound = sound-snoc v.setup w.seen.history no_segment_try v.steps (loaded i n l.shown) (sound_grows v.setup v.seen.history w.seen.history no_segment_try v.steps l.history r.sound) (plain (i == 1) _ l.sound);
  steady = steady-snoc no_segment_try v.steps (loaded i n l.shown) r.steady (plain (i == 1) _ l.steady);
  page_sound = page_sound-snoc v.setup w.seen.pages no_page_try v.steps (loaded i n l.shown) (page_sound_grows v.setup v.seen.pages w.seen.pages no_page_try v.steps l.pages r.page_sound) (plain (i == 11) _ l.page_sound);
  points = climbs_more 1 (ShowsPoint v.setup) v.before.point v.seen.point w.seen.point v.steps (loaded i n l.shown) r.points l.points;
  page_points = climbs_more 11 (StandsPage v.setup) v.before.page_point v.seen.page_point w.seen.page_point v.steps (loaded i n l.shown) r.page_points l.page_points;
  rows = climbs_more 23 StandsRow v.before.rows v.seen.rows w.seen.rows v.steps (loaded i n l.shown) r.rows l.rows;
  known = rw (known-snoc v.setup 0 v.steps (loaded i n l.shown))
      (known_here (i == 1) (known_through v.setup 0 v.steps) (l.shown / 2 - base_of v.setup) (length v.seen.history) (length w.seen.history) l.place r.known (begins_length _ _ l.history));
  follows = entries-snoc v.setup w.seen.history 0 v.steps (loaded i n l.shown) (follows_grows v.setup v.seen.history w.seen.history 0 v.steps l.history r.follows)
      (plain (i == 23) _ (when_grows (i == 23) _ _ (λ row k low. row_grows v.seen.history w.seen.history k l.shown l.history (row k (known_low low))) l.row_after))
      (plain (i == 11) _ (when_grows (i == 11) _ _ (λ page k low. page_grows v.setup v.seen.history w.seen.history k l.shown l.history (page k (known_low low))) l.page_after));
}
  where
    known_low : {k : ℕ} → k < known_through v.setup 0 v.steps → k < length v.seen.history
    known_low low = let most = r.known in omega (arith, low, most)

same_parts : (w : SeatView) (c : Setup) (s : _) (ts : List Step) → w.setup ≡ c → w.before ≡ s → w.steps ≡ ts → record w { setup = c; before = s; steps = ts } ≡ w
same_parts w c s ts a b d = λ j. record w { setup = sym a j; before = sym b j; steps = sym d j }

pub ran_first : (v w : SeatView) (i n : ℕ) → AddsLoad true i n v w → IsSoundCall w
ran_first v w i n l = subst IsSoundCall (same_parts w v.setup v.seen (loaded i n l.shown ∷ []) l.setup l.before l.steps) (ran_first_at v.setup v w i n l)

pub ran_more : (v w : SeatView) (i n : ℕ) → AddsLoad false i n v w → IsSoundCall v → IsSoundCall w
ran_more v w i n l r = subst IsSoundCall (same_parts w v.setup v.before (v.steps ++ loaded i n l.shown ∷ []) l.setup l.before l.steps) (ran_more_at v w i n l r)

-- ---- a store

no_load : (b : Bool) (P : Type 0) → When (b && not true) P
no_load true P = tt
no_load false P = tt

known_stays : (b : Bool) (known here most : ℕ) → known ≤ most → next_shown (b && not true) known here ≤ most
known_stays true known here most low = low
known_stays false known here most low = low

no_load_is : (b : Bool) → (b && not true) ≡ true → ⊥
no_load_is true is = cc is
no_load_is false is = cc is

not_moved : (i : ℕ) (Stands : ℕ → ℕ → Type 0) (word n shown last : ℕ) → Moves i Stands (stored word n shown) last last
not_moved i Stands word n shown last = record { load = λ is. absurd (no_load_is (word == i) is); other = λ _. refl }

sound_stored_at : (v : SeatView) (word n shown : ℕ) → IsSoundCall v → IsSoundCall (record v { steps = v.steps ++ stored word n shown ∷ [] })
sound_stored_at v word n shown r = record {
  history = r.history;
  pages = r.pages;
  sound = sound-snoc v.setup v.seen.history no_segment_try v.steps (stored word n shown) r.sound (no_load (word == 1) _);
  steady = steady-snoc no_segment_try v.steps (stored word n shown) r.steady (no_load (word == 1) _);
  page_sound = page_sound-snoc v.setup v.seen.pages no_page_try v.steps (stored word n shown) r.page_sound (no_load (word == 11) _);
  points = climbs_more 1 (ShowsPoint v.setup) v.before.point v.seen.point v.seen.point v.steps (stored word n shown) r.points (not_moved 1 (ShowsPoint v.setup) word n shown v.seen.point);
  page_points = climbs_more 11 (StandsPage v.setup) v.before.page_point v.seen.page_point v.seen.page_point v.steps (stored word n shown) r.page_points (not_moved 11 (StandsPage v.setup) word n shown v.seen.page_point);
  rows = climbs_more 23 StandsRow v.before.rows v.seen.rows v.seen.rows v.steps (stored word n shown) r.rows (not_moved 23 StandsRow word n shown v.seen.rows);
  known = rw (known-snoc v.setup 0 v.steps (stored word n shown)) (known_stays (word == 1) (known_through v.setup 0 v.steps) (shown / 2 - base_of v.setup) (length v.seen.history) r.known);
  follows = entries-snoc v.setup v.seen.history 0 v.steps (stored word n shown) r.follows (no_load (word == 23) _) (no_load (word == 11) _);
}

-- only these parts of a view are spoken of
sound_by : (v w : SeatView) → w.setup ≡ v.setup → w.seen ≡ v.seen → w.before ≡ v.before → w.steps ≡ v.steps → IsSoundCall v → IsSoundCall w
sound_by v w a b d e r = subst IsSoundCall (λ j. record w { setup = sym a j; seen = sym b j; before = sym d j; steps = sym e j })
    (record { history = r.history; pages = r.pages; sound = r.sound; steady = r.steady; page_sound = r.page_sound; points = r.points; page_points = r.page_points; rows = r.rows; known = r.known; follows = r.follows })

pub sound_stored : (v w : SeatView) (word n : ℕ) → AddsStore word n v w → IsSoundCall v → IsSoundCall w
sound_stored v w word n a r =
    sound_by (record v { steps = v.steps ++ stored word n (point_of w.daemon_part.segment) ∷ [] }) w a.setup a.seen a.before a.steps
    (sound_stored_at v word n (point_of w.daemon_part.segment) r)

-- ---- the daemon's point

follows-snoc : (from between to : ℕ) (ts : List Step) (s : Step) → PointsFollow from ts between → When (s.touch.stored || s.touch.word == 1) (s.shown ≡ point_through between s) → to ≡ point_through between s
    → PointsFollow from (ts ++ s ∷ []) to
follows-snoc from between to [] s here one is =
    subst (λ (p : ℕ). When (s.touch.stored || s.touch.word == 1) (s.shown ≡ point_through p s) × (to ≡ point_through p s)) here (one, is)
follows-snoc from between to (t ∷ ts) s follows one is = (follows.0, follows-snoc (point_through from t) between to ts s follows.1 one is)

pub follows_first : (v w : SeatView) (i n : ℕ) → v.is_daemon ≡ true → AddsLoad true i n v w → PointsFollow (point_of v.daemon_part.segment) w.steps (point_of w.daemon_part.segment)
follows_first v w i n daemon l =
    subst (λ (x : List Step × DaemonPart). PointsFollow (point_of v.daemon_part.segment) x.0 (point_of x.1.segment)) (λ j. (sym l.steps j, sym l.daemon_part j))
    (l.own daemon, refl)

pub follows_load : (from : ℕ) (v w : SeatView) (i n : ℕ) → v.is_daemon ≡ true → AddsLoad false i n v w → PointsFollow from v.steps (point_of v.daemon_part.segment) → PointsFollow from w.steps (point_of w.daemon_part.segment)
follows_load from v w i n daemon l follows =
    subst (λ (x : List Step × DaemonPart). PointsFollow from x.0 (point_of x.1.segment)) (λ j. (sym l.steps j, sym l.daemon_part j))
    (follows-snoc from (point_of v.daemon_part.segment) (point_of v.daemon_part.segment) v.steps (loaded i n l.shown) follows (l.own daemon) refl)

pub follows_store : (from : ℕ) (v w : SeatView) (word n : ℕ) → AddsStore word n v w → PointsFollow from v.steps (point_of v.daemon_part.segment) → PointsFollow from w.steps (point_of w.daemon_part.segment)
follows_store from v w word n a follows =
    subst (λ (x : List Step). PointsFollow from x (point_of w.daemon_part.segment)) (sym a.steps)
    (follows-snoc from (point_of v.daemon_part.segment) (point_of w.daemon_part.segment) v.steps (stored word n (point_of w.daemon_part.segment)) follows a.point a.point)
