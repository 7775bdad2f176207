-- What the tries of a read of the page show, by the loads of a call.
use Rattle.std.proofs.Common.{◌≡◌, ◌≢◌, ℕ, ◌/◌, ◌%◌, ◌^◌, ◌<◌, ◌≤◌, true, false, List, [], ◌∷◌, ◌++◌, length, refl, sym, ap, ◌∙◌, subst, arith, append_assoc, inl, inr, Option, Some, None}
use Rattle.std.specs.Prelude.{◌==◌, ◌⊎◌, slice_index, slice_index_or}
use Rattle.std.proofs.lemmas.Bool.Decides.{nat_tests}
use Rattle.clock_gate.specs.Acts.{Touch}
use Rattle.seqlock.specs.TriedRun.{load, loads_from, whole_try, FailedTry, Odd, Changed, numbers_after, HasFailed, steps_of, steps_of_all, FindsWords, FailsAlways}
use Rattle.vmclock_page.specs.Words.{count_in_word, word_with_count}
use Rattle.vmclock_page.specs.Host.{constants_of, count_of, raised}
use Rattle.vmclock_page.specs.PageRead.{page_lock}
use Rattle.segment_views.specs.declared.setup.Setup.{Setup}
use Rattle.segment_views.specs.Views.{Step, PageTry, page_after_step, page_try_after}
use Rattle.segment_views.specs.Rule.{count_word_at}
use Rattle.segment_views.specs.Steps.{loaded, IsWholePageRead}
use Rattle.segment_views.specs.Shown.{touches_of, Climbs, StandsPage, PageSoundFrom}
use Rattle.segment_rule.proofs.ReadRecord.{head}
use Rattle.live_report.proofs.Loads.{load_at}
use Rattle.live_report.proofs.LastTry.{same_pair, last_try}

constants_small : (p : Option (List ℕ)) → constants_of p < 2 ^ 32
constants_small None = omega arith
constants_small (Some words) = omega arith

-- the count in the word of a point is that of the point
pub count_told : (c : Setup) (point word : ℕ) → word ≡ count_word_at c point → count_in_word word ≡ raised point (count_of c.page)
count_told c point word stands = let small = constants_small c.page in omega (arith, stands, small)

-- ---- all tries failed

-- the last try of the page failed at these points
pub record PageFails (c : Setup) (from to first last : ℕ) : Type 0 where
  pub one : ℕ
  pub two : ℕ
  pub low : from ≤ one
  pub order : one ≤ two
  pub high : two ≤ to
  pub first_is : first ≡ raised one (count_of c.page)
  pub last_is : last ≡ raised two (count_of c.page)
  pub fails : ((first % 2 ≡ 1) × (two ≡ one)) ⊎ ((first % 2 ≡ 0) × (last ≢ first))

module _ (c : Setup) (from to : ℕ) (steps : List Step) (climbs : Climbs 11 (StandsPage c) from steps to) where
  fails_by : (front back : List Touch) (try : FailedTry) (first last : ℕ) → touches_of steps ≡ front ++ (steps_of page_lock try ++ back) → HasFailed page_lock try → numbers_after page_lock.number_in (0, 0) (try ∷ []) ≡ (first, last)
      → PageFails c from to first last
  fails_by front back (Odd word) first last is has numbers =
      let l = load_at 11 (StandsPage c) from to steps front back word refl climbs is in
      let same = same_pair (count_in_word word) (count_in_word word) first last numbers in
      let told = count_told c l.shown word l.stands in
      record {
        one = l.shown;
        two = l.shown;
        low = l.low;
        order = omega arith;
        high = l.high;
        first_is = sym same.0 ∙ told;
        last_is = sym same.1 ∙ told;
        fails = inl (ap (λ (n : ℕ). n % 2) (sym same.0) ∙ has.1, refl);
      }
  fails_by front back (Changed word words again) first last is has numbers =
      let l = load_at 11 (StandsPage c) from to steps front ((loads_from 12 words ++ load 11 again ∷ []) ++ back) word refl climbs is in
      let m = load_at 11 (StandsPage c) l.shown to l.after (loads_from 12 words) back again refl l.climbs (l.back_is ∙ append_assoc (loads_from 12 words) (load 11 again ∷ []) back) in
      let same = same_pair (count_in_word word) (count_in_word again) first last numbers in
      let other : (count_in_word word == count_in_word again) ≡ false = has.2 in
      record {
        one = l.shown;
        two = m.shown;
        low = l.low;
        order = m.low;
        high = m.high;
        first_is = sym same.0 ∙ count_told c l.shown word l.stands;
        last_is = sym same.1 ∙ count_told c m.shown again m.stands;
        fails = inr (ap (λ (n : ℕ). n % 2) (sym same.0) ∙ has.0.even, λ e. (let is_same : (count_in_word word == count_in_word again) ≡ true = (let x : count_in_word word ≡ count_in_word again = same.0 ∙ (sym e ∙ sym same.1) in grind (arith, nat_tests)) in absurd (cc (other, is_same))));
      }

  pub page_fails : (tries : ℕ) (before later after : List Touch) (first last : ℕ) → 0 < tries → touches_of steps ≡ before ++ (later ++ after) → FailsAlways page_lock tries later first last → PageFails c from to first last
  page_fails tries before later after first last some is fails =
      let t = last_try page_lock tries later first last some fails in
      fails_by (before ++ t.front) after t.try first last
      (is
      ∙ ap (λ (l : List Touch). before ++ (l ++ after)) t.made
      ∙ ap (λ (l : List Touch). before ++ l) (append_assoc t.front (steps_of page_lock t.try) after)
      ∙ sym (append_assoc before t.front (steps_of page_lock t.try ++ after)))
      t.has_failed t.numbers

-- ---- one try found the marker

pub page_sound_back : (c : Setup) (pages : List (List ℕ)) (t : PageTry) (xs ys : List Step) → PageSoundFrom c pages t (xs ++ ys) → PageSoundFrom c pages (page_try_after t xs) ys
page_sound_back c pages t [] ys h = h
page_sound_back c pages t (x ∷ xs) ys h = page_sound_back c pages (page_after_step t x) xs ys h.1

no_steps : (steps : List Step) → touches_of steps ≡ [] → steps ≡ []
no_steps [] is = refl
no_steps (s ∷ steps) is = absurd (cc is)

-- the marker of a page that stands there, and the load that told it
pub record PageFound (c : Setup) (pages : List (List ℕ)) (from to : ℕ) (steps : List Step) (front middle : List Touch) (marker sequence : ℕ) : Type 0 where
  pub point : ℕ
  pub even : point % 2 ≡ 0
  pub low : from ≤ point
  pub high : point ≤ to
  pub known : point / 2 < length pages
  pub marker_is : marker ≡ slice_index (slice_index_or pages (point / 2) []) 2
  pub sequence_is : sequence ≡ raised point (count_of c.page)
  pub before : List Step
  pub between : List Step
  pub after : List Step
  pub word : ℕ
  pub is : steps ≡ before ++ loaded 11 word point ∷ (between ++ loaded 11 word point ∷ after)
  pub before_is : touches_of before ≡ front
  pub between_is : touches_of between ≡ middle

module _ (c : Setup) (from to : ℕ) (steps : List Step) (climbs : Climbs 11 (StandsPage c) from steps to) where
  found_by : (pages : List (List ℕ)) (t : PageTry) (front back : List Touch) (word again : ℕ) (words : List ℕ) → PageSoundFrom c pages t steps → count_of c.page % 2 ≡ 0 → count_in_word word % 2 ≡ 0 → (count_in_word word == count_in_word again) ≡ true
      → length words ≡ 1 → touches_of steps ≡ front ++ (load 11 word ∷ (loads_from 12 words ++ load 11 again ∷ back)) → PageFound c pages from to steps front (loads_from 12 words) (slice_index words 0) (count_in_word word)
  found_by pages t front back word again [] sound start even same one is = absurd (omega (arith, one))
  found_by pages t front back word again (m ∷ n ∷ words) sound start even same one is = absurd (omega (arith, one))
  found_by pages t front back word again (m ∷ []) sound start even same one is =
      let l = load_at 11 (StandsPage c) from to steps front (load 12 m ∷ (load 11 again ∷ back)) word refl climbs is in
      let k = load_at 11 (StandsPage c) l.shown to l.after (load 12 m ∷ []) back again refl l.climbs l.back_is in
      let h = head k.before 12 m [] k.front_is in
      let only : k.before ≡ loaded 12 m h.shown ∷ [] = h.is ∙ ap (λ (x : List Step). loaded 12 m h.shown ∷ x) (no_steps h.rest h.touches_are) in
      let told = count_told c l.shown word l.stands in
      let told_again = count_told c k.shown again k.stands in
      let counts : count_in_word again ≡ count_in_word word = grind (arith, nat_tests, same) in
      let words_same : again ≡ word =
      k.stands ∙ (ap (word_with_count (constants_of c.page)) (sym told_again ∙ (counts ∙ told)) ∙ sym l.stands) in
      let whole : steps ≡ l.before ++ loaded 11 word l.shown ∷ (k.before ++ loaded 11 again k.shown ∷ k.after) = l.is ∙ ap (λ (x : List Step). l.before ++ loaded 11 word l.shown ∷ x) k.is in
      let a = page_sound_back c pages t l.before (loaded 11 word l.shown ∷ (k.before ++ loaded 11 again k.shown ∷ k.after)) (subst (PageSoundFrom c pages t) whole sound) in
      let first : PageTry = record { shown = l.shown; word = word; marker = 0; has_marker = false } in
      let b = page_sound_back c pages first k.before (loaded 11 again k.shown ∷ k.after) a.1 in
      let read : IsWholePageRead c pages (record { shown = l.shown; word = word; marker = m; has_marker = true }) again k.shown =
      subst (λ (x : List Step). IsWholePageRead c pages (page_try_after first x) again k.shown) only b.0 in
      let parity : k.shown % 2 ≡ 0 = omega (arith, told_again, counts, even, start) in
      let w = read words_same l.stands refl parity in
      record {
        point = l.shown;
        even = ap (λ (n : ℕ). n % 2) (sym w.0) ∙ parity;
        low = l.low;
        high = l.high;
        known = subst (λ (n : ℕ). n / 2 < length pages) w.0 w.1;
        marker_is = w.2 ∙ ap (λ (n : ℕ). slice_index (slice_index_or pages (n / 2) []) 2) w.0;
        sequence_is = told;
        before = l.before;
        between = k.before;
        after = k.after;
        word = word;
        is = whole ∙ (λ j. l.before ++ loaded 11 word l.shown ∷ (k.before ++ loaded 11 (words_same j) (w.0 j) ∷ k.after));
        before_is = l.front_is;
        between_is = k.front_is;
      }

  pub page_found : (pages : List (List ℕ)) (t : PageTry) (tries : ℕ) (before later after : List Touch) (word : ℕ) (words : List ℕ) → PageSoundFrom c pages t steps → count_of c.page % 2 ≡ 0 → touches_of steps ≡ before ++ (later ++ after)
      → (finds : FindsWords page_lock tries later word words) → PageFound c pages from to steps (before ++ steps_of_all page_lock finds.failed) (loads_from 12 words) (slice_index words 0) (count_in_word word)
  page_found pages t tries before later after word words sound start is finds =
      found_by pages t (before ++ steps_of_all page_lock finds.failed) after word finds.last words sound start finds.calm.even finds.same finds.whole
      (is
      ∙ ap (λ (l : List Touch). before ++ (l ++ after)) finds.made
      ∙ ap (λ (l : List Touch). before ++ l) (append_assoc (steps_of_all page_lock finds.failed) (whole_try page_lock word words finds.last) after)
      ∙ sym (append_assoc before (steps_of_all page_lock finds.failed) (whole_try page_lock word words finds.last ++ after))
      ∙ ap (λ (l : List Touch). (before ++ steps_of_all page_lock finds.failed) ++ load 11 word ∷ l) (append_assoc (loads_from 12 words) (load 11 finds.last ∷ []) after))
