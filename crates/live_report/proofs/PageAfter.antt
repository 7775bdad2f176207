-- The page that a client read after a record is none before the record's own.
use Rattle.std.proofs.Common.{◌≡◌, ℕ, ◌+◌, ◌-◌, ◌*◌, ◌/◌, ◌<◌, ◌≤◌, false, List, [], ◌∷◌, ◌++◌, refl, sym, ap, ◌∙◌, subst, arith, append_assoc, append-nil, Option, Some}
use Rattle.std.specs.Prelude.{◌==◌, slice_index, All}
use Rattle.std.proofs.lemmas.List.Elements.{All-head, All-tail}
use Rattle.clock_gate.specs.declared.trace.Trace.{Trace}
use Rattle.clock_gate.specs.Acts.{Touch}
use Rattle.seqlock.specs.TriedRun.{FailedTry, Odd, Changed, HasFailed, steps_of, steps_of_all, FindsWords}
use Rattle.vmclock_page.specs.Words.{count_in_word}
use Rattle.vmclock_page.specs.Host.{count_of}
use Rattle.vmclock_page.specs.Counting.{page_number_of}
use Rattle.vmclock_page.specs.PageRead.{page_lock}
use Rattle.segment_layout.specs.declared.publication.Publication.{Publication}
use Rattle.segment_layout.specs.History.{History}
use Rattle.segment_layout.specs.Record.{RecordFields}
use Rattle.segment_views.specs.declared.setup.Setup.{Setup}
use Rattle.segment_views.specs.Views.{Begins, Step, SeatView, HostPart, base_of, no_page_try, page_try_after}
use Rattle.segment_views.specs.Views as views
use Rattle.segment_views.specs.Steps.{loaded}
use Rattle.segment_views.specs.Shown.{touches_of, last_shown, Rises, Climbs, StandsPage, PageSoundFrom, known_after, known_through, FollowsFrom, IsSoundCall, IsPageAfter}
use Rattle.segment_rule.specs.Answered.{HasRead}
use Rattle.segment_rule.proofs.ReadRecord.{rest, follows_rest}
use Rattle.lawful_report.specs.Pages.{marker_of_page}
use Rattle.lawful_report.specs.Course.{Course}
use Rattle.live_report.specs.LiveRun.{setup_of}
use Rattle.live_report.proofs.Started.{FewPages}
use Rattle.live_report.proofs.HostDone.{HostDone}
use Rattle.live_report.proofs.PageTries.{page_found, page_sound_back}
use Rattle.live_report.proofs.PageNumbers.{found_told, number_told}
use Rattle.live_report.proofs.ClientFits.{ClientWithin}

-- ---- what is known through loads of other words

-- none of these steps touches word 1
abbrev Apart : List Touch → Type 0
Apart [] = Unit {0}
Apart (touch ∷ touches) = ((touch.word == 1) ≡ false) × Apart touches

apart_append : (xs ys : List Touch) → Apart xs → Apart ys → Apart (xs ++ ys)
apart_append [] ys xs_are ys_are = ys_are
apart_append (x ∷ xs) ys xs_are ys_are = (xs_are.0, apart_append xs ys xs_are.1 ys_are)

apart_try : (try : FailedTry) → HasFailed page_lock try → Apart (steps_of page_lock try)
apart_try (Odd word) has = (refl, tt)
apart_try (Changed word [] again) has = absurd (let one = has.1 in omega (arith, one))
apart_try (Changed word (m ∷ []) again) has = (refl, (refl, (refl, tt)))
apart_try (Changed word (m ∷ n ∷ words) again) has = absurd (let one = has.1 in omega (arith, one))

apart_all : (failed : List FailedTry) → All (HasFailed page_lock) failed → Apart (steps_of_all page_lock failed)
apart_all [] all = tt
apart_all (try ∷ failed) all = apart_append (steps_of page_lock try) (steps_of_all page_lock failed) (apart_try try (All-head (HasFailed page_lock) try failed all)) (apart_all failed (All-tail (HasFailed page_lock) try failed all))

known_apart : (c : Setup) (known : ℕ) (steps : List Step) → Apart (touches_of steps) → known_through c known steps ≡ known
known_apart c known [] apart = refl
known_apart c known (s ∷ steps) apart =
    let same : known_after c known s ≡ known = rw apart.0 refl in
    ap (λ (n : ℕ). known_through c n steps) same ∙ known_apart c known steps apart.1

known_append : (c : Setup) (known : ℕ) (xs ys : List Step) → known_through c known (xs ++ ys) ≡ known_through c (known_through c known xs) ys
known_append c known [] ys = refl
known_append c known (x ∷ xs) ys = known_append c (known_after c known x) xs ys

-- ---- the page

-- the page of an answer: none before what was seen, none before the record's own, and its marker
pub record PageShown (trace : Trace) (w : SeatView) (marker : Option ℕ) (page own : ℕ) : Type 0 where
  pub low : w.before.page_point ≤ 2 * page + 1
  pub high : 2 * page ≤ w.seen.page_point
  pub not_before : own ≤ page
  pub is : marker_of_page trace page ≡ marker

module _ (trace : Trace) (few : FewPages trace) (host : HostPart) (done : HostDone trace host) (history : History) (course : Course) (w : SeatView) (within : ClientWithin trace host history course w) (sound : IsSoundCall w)
    (generation : ℕ) (rec : RecordFields) (row : ℕ) (later : List Touch) (r : HasRead w generation rec row later) where
  abbrev c : Setup
  c = setup_of trace

  -- the steps up to the load of the clock
  abbrev read_steps : List Step
  read_steps = r.front ++ loaded 1 r.word r.first ∷ (r.between ++ loaded 1 r.word r.last ∷ loaded 23 row row ∷ [])

  steps_are : w.steps ≡ read_steps ++ r.back
  steps_are =
      r.steps
      ∙ ap (λ (l : List Step). r.front ++ loaded 1 r.word r.first ∷ l) (sym (append_assoc r.between (loaded 1 r.word r.last ∷ loaded 23 row row ∷ []) r.back))
      ∙ sym (append_assoc r.front (loaded 1 r.word r.first ∷ (r.between ++ loaded 1 r.word r.last ∷ loaded 23 row row ∷ [])) r.back)

  known_is : known_through c 0 read_steps ≡ r.last / 2 - base_of c
  known_is =
      known_append c 0 r.front (loaded 1 r.word r.first ∷ (r.between ++ loaded 1 r.word r.last ∷ loaded 23 row row ∷ []))
      ∙ known_append c (r.first / 2 - base_of c) r.between (loaded 1 r.word r.last ∷ loaded 23 row row ∷ [])

  pub page_shown : (tries word : ℕ) (words : List ℕ) (own : Publication) (finds : FindsWords page_lock tries later word words) → r.last ≡ r.first → base_of c < r.first / 2 → own ≡ views.entry_at c w.seen.history (r.first / 2)
      → PageShown trace w (Some (slice_index words 0)) (page_number_of (count_of trace.page) (count_in_word word)) (page_number_of (count_of trace.page) own.sequence)
  page_shown tries word words own finds same above own_is =
      let climbs = subst (λ (s : Setup). Climbs 11 (StandsPage s) w.before.page_point w.steps w.seen.page_point) within.setup sound.page_points in
      let rises = rest 11 (StandsPage c) w.before.page_point read_steps r.back (subst (λ (l : List Step). Rises 11 (StandsPage c) w.before.page_point l) steps_are climbs.rises) in
      let back_climbs : Climbs 11 (StandsPage c) rises.to r.back w.seen.page_point =
      record { rises = rises.rises; last = sym rises.last ∙ (ap (last_shown 11 w.before.page_point) (sym steps_are) ∙ climbs.last) } in
      let page_sound = subst (λ (s : Setup). PageSoundFrom s w.seen.pages no_page_try w.steps) within.setup sound.page_sound in
      let back_sound = page_sound_back c w.seen.pages no_page_try read_steps r.back (subst (PageSoundFrom c w.seen.pages no_page_try) steps_are page_sound) in
      let found = page_found c rises.to w.seen.page_point r.back back_climbs w.seen.pages (page_try_after no_page_try read_steps) tries [] later [] word words back_sound few.even (r.later_is ∙ sym (append-nil later)) finds in
      let told = found_told trace few host done w.seen.pages rises.to w.seen.page_point r.back _ _ (slice_index words 0) (count_in_word word) within.pages within.page_point found in
      let follows = subst (λ (s : Setup). FollowsFrom s w.seen.history 0 w.steps) within.setup sound.follows in
      let back_follows = follows_rest c w.seen.history 0 read_steps r.back (subst (FollowsFrom c w.seen.history 0) steps_are follows) in
      let here = follows_rest c w.seen.history (known_through c 0 read_steps) found.before (loaded 11 found.word found.point ∷ (found.between ++ loaded 11 found.word found.point ∷ found.after))
      (subst (FollowsFrom c w.seen.history (known_through c 0 read_steps)) found.is back_follows) in
      let known : known_through c (known_through c 0 read_steps) found.before ≡ r.last / 2 - base_of c =
      known_apart c (known_through c 0 read_steps) found.before (subst Apart (sym found.before_is) (apart_all finds.failed finds.all_failed)) ∙ known_is in
      let after : IsPageAfter c w.seen.history (r.first / 2 - base_of c - 1) found.point = here.1 (r.first / 2 - base_of c - 1) (omega (arith, known, same, above)) in
      let most = within.page_point in
      let high = found.high in
      let number = number_told trace few found.point (count_in_word word) (omega (arith, high, most)) found.sequence_is in
      let page_own : 2 * page_number_of (count_of trace.page) own.sequence ≤ found.point = subst (λ (e : Publication). 2 * page_number_of (count_of trace.page) e.sequence ≤ found.point) (sym own_is) after.1 in
      let front_low = rises.low in
      let low = told.low in
      record { low = omega (arith, front_low, low); high = told.high; not_before = omega (arith, page_own, number); is = told.is }
