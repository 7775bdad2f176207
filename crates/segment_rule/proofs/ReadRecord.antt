-- A record that a call read: its try among the steps, what its loads showed, and the history's entry at the front.
use Rattle.std.proofs.Common.{◌≡◌, ℕ, zero, suc, ◌+◌, ◌-◌, ◌/◌, ◌%◌, ◌<◌, ◌≤◌, Bool, true, false, List, [], ◌∷◌, ◌++◌, length, take, drop, refl, sym, ap, ◌∙◌, subst, arith, inl, inr, append_assoc}
use Rattle.std.specs.Prelude.{◌==◌, slice_index}
use Rattle.std.proofs.lemmas.Bool.Decides.{nat_tests}
use Rattle.clock_gate.specs.Acts.{Touch}
use Rattle.generation_word.specs.Layout.{period_of}
use Rattle.generation_word.specs.Numbering.{generation_at}
use Rattle.generation_word.specs.Header.{generation_in}
use Rattle.generation_word.proofs.Laws.{generation_at-even}
use Rattle.seqlock.specs.TriedRun.{load, loads_from, steps_of_all, whole_try}
use Rattle.segment_layout.specs.declared.publication.Publication.{Publication}
use Rattle.segment_layout.specs.Image.{IsHeaderFor}
use Rattle.segment_layout.specs.Record.{RecordFields}
use Rattle.segment_layout.specs.Words.{record_words, data_words}
use Rattle.segment_layout.proofs.Back.{fields_of_words-data_words}
use Rattle.segment_run.proofs.SegmentHeader.{header_tells}
use Rattle.shm_reader.specs.SegmentTries.{segment_lock, record_in}
use Rattle.interval_now.specs.CallRun.{ReadsThenClock}
use Rattle.segment_views.specs.declared.setup.Setup.{Setup}
use Rattle.segment_views.specs.Views.{Step, SeatView, SegmentTry, no_segment_try, number_of_point, base_of, entry_at, after_step, segment_try_after}
use Rattle.segment_views.specs.Rule.{AreWordsOf}
use Rattle.segment_views.specs.Steps.{loaded, StandsPoint, ShowsPoint, IsBounded, IsWholeRead}
use Rattle.segment_views.specs.Shown.{touches_of, is_load_of, When, next_shown, last_shown, Rises, SoundFrom, StandsRow, known_after, known_through, IsRowAfter, FollowsFrom, IsSoundCall}
use Rattle.segment_rule.specs.Answered.{HasRead, IsEntry}
use Rattle.segment_rule.proofs.Times.{parts, same_head, sound_back, numbered, with_word}

-- ---- the try among the steps

-- a step that is this load
pub record Head (steps : List Step) (word value : ℕ) (touches : List Touch) : Type 0 where
  pub shown : ℕ
  pub rest : List Step
  pub is : steps ≡ loaded word value shown ∷ rest
  pub touches_are : touches_of rest ≡ touches

pub head : (steps : List Step) (word value : ℕ) (touches : List Touch) → touches_of steps ≡ load word value ∷ touches → Head steps word value touches
head [] word value touches e = absurd (cc e)
head (s ∷ steps) word value touches e =
    let h = same_head s.touch (load word value) (touches_of steps) touches e in
    record { shown = s.shown; rest = steps; is = (λ j. record { touch = h.0 j; shown = s.shown } ∷ steps); touches_are = h.1 }

record Split (steps : List Step) (word last row : ℕ) (words : List ℕ) (later : List Touch) : Type 0 where
  front : List Step
  between : List Step
  back : List Step
  first : ℕ
  second : ℕ
  third : ℕ
  is : steps ≡ front ++ loaded 1 word first ∷ (between ++ loaded 1 last second ∷ loaded 23 row third ∷ back)
  loads : touches_of between ≡ loads_from 2 words
  later_is : touches_of back ≡ later

split : (steps : List Step) (before later : List Touch) (word last row : ℕ) (words : List ℕ) → touches_of steps ≡ before ++ (load 1 word ∷ (loads_from 2 words ++ load 1 last ∷ load 23 row ∷ later)) → Split steps word last row words later
split steps before later word last row words e =
    let p = parts steps before (load 1 word ∷ (loads_from 2 words ++ load 1 last ∷ load 23 row ∷ later)) e in
    let a = head p.back 1 word (loads_from 2 words ++ load 1 last ∷ load 23 row ∷ later) p.back_is in
    let q = parts a.rest (loads_from 2 words) (load 1 last ∷ load 23 row ∷ later) a.touches_are in
    let b = head q.back 1 last (load 23 row ∷ later) q.back_is in
    let c = head b.rest 23 row later b.touches_are in
    record {
      front = p.front;
      between = q.front;
      back = c.rest;
      first = a.shown;
      second = b.shown;
      third = c.shown;
      is = p.whole
          ∙ ap (λ (l : List Step). p.front ++ l) (a.is
          ∙ ap (λ (l : List Step). loaded 1 word a.shown ∷ l) (q.whole
          ∙ ap (λ (l : List Step). q.front ++ l) (b.is ∙ ap (λ (l : List Step). loaded 1 last b.shown ∷ l) c.is)));
      loads = q.front_is;
      later_is = c.touches_are;
    }

-- ---- what rises

module _ (i : ℕ) (Stands : ℕ → ℕ → Type 0) where
  -- the rest of the steps rises from what was shown before it
  pub record Rest (from : ℕ) (steps ys : List Step) : Type 0 where
    pub to : ℕ
    pub low : from ≤ to
    pub rises : Rises i Stands to ys
    pub last : last_shown i from steps ≡ last_shown i to ys

  step_low : (b : Bool) (from shown value : ℕ) → When b (Stands value shown × (from ≤ shown)) → from ≤ next_shown b from shown
  step_low true from shown value h = h.1
  step_low false from shown value h = omega arith

  pub rest : (from : ℕ) (xs ys : List Step) → Rises i Stands from (xs ++ ys) → Rest from (xs ++ ys) ys
  rest from [] ys r = record { to = from; low = omega arith; rises = r; last = refl }
  rest from (s ∷ xs) ys r =
      let low = step_low (is_load_of i s) from s.shown s.touch.value r.0 in
      let more = rest (next_shown (is_load_of i s) from s.shown) xs ys r.1 in
      let next = more.low in
      record { to = more.to; low = omega (arith, low, next); rises = more.rises; last = more.last }

  pub to_last : (from : ℕ) (steps : List Step) → Rises i Stands from steps → from ≤ last_shown i from steps
  to_last from [] r = omega arith
  to_last from (s ∷ steps) r =
      let low = step_low (is_load_of i s) from s.shown s.touch.value r.0 in
      let more = to_last (next_shown (is_load_of i s) from s.shown) steps r.1 in
      omega (arith, low, more)

-- ---- the words

pub try_loads : (k : ℕ) (words : List ℕ) (steps : List Step) (t : SegmentTry) → 2 ≤ k → touches_of steps ≡ loads_from k words → segment_try_after t steps ≡ record t { loads = t.loads ++ numbered k words }
try_loads k [] [] t up e = λ j. record t { loads = sym (append_nil t.loads) j }
  where
    append_nil : (l : List (ℕ × ℕ)) → l ++ [] ≡ l
    append_nil [] = refl
    append_nil (x ∷ l) = ap (λ r. x ∷ r) (append_nil l)
try_loads k [] (s ∷ steps) t up e = absurd (cc e)
try_loads k (w ∷ words) [] t up e = absurd (cc e)
try_loads k (w ∷ words) (s ∷ steps) t up e =
    let h = same_head s.touch (load k w) (touches_of steps) (loads_from (suc k) words) e in
    let next : after_step t s ≡ record t { loads = t.loads ++ (k, w) ∷ [] } = with_word t s k w h.0 (λ one. absurd (omega (arith, one, up))) in
    ap (λ (x : SegmentTry). segment_try_after x steps) next
    ∙ try_loads (suc k) words steps (record t { loads = t.loads ++ (k, w) ∷ [] }) (omega arith) h.1
    ∙ ap (λ (l : List (ℕ × ℕ)). record t { loads = l }) (append_assoc t.loads ((k, w) ∷ []) (numbered (suc k) words))

drop_one : (k : ℕ) (xs : List ℕ) → k < length xs → drop k xs ≡ slice_index xs k ∷ drop (suc k) xs
drop_one k [] low = absurd (omega (arith, low))
drop_one zero (x ∷ xs) low = refl
drop_one (suc k) (x ∷ xs) low = drop_one k xs (omega (arith, low))

-- words that are a record's, from one on
words_are : (rec : RecordFields) (k : ℕ) (words : List ℕ) → 2 ≤ k → k + length words ≤ 10 → AreWordsOf rec (numbered k words) → words ≡ take (length words) (drop k (record_words 0 rec))
words_are rec k [] up fits are = refl
words_are rec k (w ∷ words) up fits are =
    let one : w ≡ slice_index (record_words 0 rec) k = are.0 up (omega (arith, fits)) in
    let more = words_are rec (suc k) words (omega arith) (omega (arith, fits)) are.1 in
    (λ j. one j ∷ more j) ∙ ap (take (suc (length words))) (sym (drop_one k (record_words 0 rec) (omega (arith, fits))))

record_read : (rec : RecordFields) (words : List ℕ) (entry : Publication) → entry.rec ≡ rec → length words ≡ 8 → AreWordsOf entry.rec (numbered 2 words) → IsBounded entry → record_in words ≡ rec
record_read rec words entry same eight are bounds =
    let all = words_are entry.rec 2 words (omega arith) (omega (arith, eight)) are in
    let whole : take (length words) (drop 2 (record_words 0 entry.rec)) ≡ data_words entry.rec = ap (λ (n : ℕ). take n (data_words entry.rec)) eight in
    ap record_in (all ∙ whole) ∙ fields_of_words-data_words 0 0 entry.rec bounds ∙ same

-- ---- the number at the front

-- a word with an even number other than 0 stands for an even point above 0
record StandsEven (c : Setup) (word point : ℕ) : Type 0 where
  even : point % 2 ≡ 0
  above : 0 < point / 2
  header : IsHeaderFor c.layout word (number_of_point c.layout point)

stands_even : (c : Setup) (word point : ℕ) → StandsPoint c word point → (generation_in word == 0) ≡ false → generation_in word % 2 ≡ 0 → StandsEven c word point
stands_even c word point (inl none) some even =
    let zero_word : (generation_in word == 0) ≡ true = ap (λ (w : ℕ). generation_in w == 0) none.0 in absurd (cc (zero_word, some))
stands_even c word point (inr fits) some even =
    let tells : generation_in word ≡ generation_at (period_of c.layout) (point / 2) + point % 2 = header_tells c.layout word (number_of_point c.layout point) fits in
    let two = generation_at-even (period_of c.layout) (point / 2) in
    let at : point % 2 ≡ 0 = omega (arith, tells, two, even) in
    record { even = at; above = above (point / 2) refl tells at; header = fits }
  where
    above : (half : ℕ) → point / 2 ≡ half → generation_in word ≡ generation_at (period_of c.layout) (point / 2) + point % 2 → point % 2 ≡ 0 → 0 < half
    above zero is tells at =
        let none : generation_at (period_of c.layout) (point / 2) ≡ 0 = ap (generation_at (period_of c.layout)) is in
        let number : generation_in word ≡ 0 = omega (arith, tells, none, at) in
        let test : (generation_in word == 0) ≡ true = grind (arith, nat_tests, number) in
        absurd (cc (test, some))
    above (suc half) is tells at = omega arith

-- ---- the entries known at a load of the clock

row_follows : (c : Setup) (history : List Publication) (known : ℕ) (xs : List Step) (row shown : ℕ) (ys : List Step) → FollowsFrom c history known (xs ++ loaded 23 row shown ∷ ys)
    → (k : ℕ) → k < known_through c known xs → IsRowAfter history k shown
row_follows c history known [] row shown ys are = are.0
row_follows c history known (s ∷ xs) row shown ys are = row_follows c history (known_after c known s) xs row shown ys are.2

pub follows_rest : (c : Setup) (history : List Publication) (known : ℕ) (xs ys : List Step) → FollowsFrom c history known (xs ++ ys) → FollowsFrom c history (known_through c known xs) ys
follows_rest c history known [] ys are = are
follows_rest c history known (s ∷ xs) ys are = follows_rest c history (known_after c known s) xs ys are.2

-- ---- all of it

module _ (v : SeatView) (sound : IsSoundCall v) (generation : ℕ) (rec : RecordFields) (row word : ℕ) (words : List ℕ) (later : List Touch) where
  abbrev c : Setup
  c = v.setup

  -- the steps, where both loads of word 1 found the same word
  read_by : (s : Split v.steps word word row words later) → length words ≡ 8 → generation ≡ generation_in word → rec ≡ record_in words → (generation_in word == 0) ≡ false → generation_in word % 2 ≡ 0 → HasRead v generation rec row later
  read_by s eight generation_is rec_is some even =
      let points = subst (λ (l : List Step). Rises 1 (ShowsPoint c) v.before.point l) s.is sound.points.rises in
      let a = rest 1 (ShowsPoint c) v.before.point s.front (loaded 1 word s.first ∷ (s.between ++ loaded 1 word s.second ∷ loaded 23 row s.third ∷ s.back)) points in
      let first = a.rises.0 in
      let b = rest 1 (ShowsPoint c) s.first s.between (loaded 1 word s.second ∷ loaded 23 row s.third ∷ s.back) a.rises.1 in
      let second = b.rises.0 in
      let end = to_last 1 (ShowsPoint c) s.second (loaded 23 row s.third ∷ s.back) b.rises.1 in
      let ends : last_shown 1 s.second (loaded 23 row s.third ∷ s.back) ≡ v.seen.point = sym (a.last ∙ b.last) ∙ (ap (last_shown 1 v.before.point) (sym s.is) ∙ sound.points.last) in
      let rows = subst (λ (l : List Step). Rises 23 StandsRow v.before.rows l) s.is sound.rows.rises in
      let d = rest 23 StandsRow v.before.rows s.front (loaded 1 word s.first ∷ (s.between ++ loaded 1 word s.second ∷ loaded 23 row s.third ∷ s.back)) rows in
      let e = rest 23 StandsRow d.to s.between (loaded 1 word s.second ∷ loaded 23 row s.third ∷ s.back) d.rises.1 in
      let clock = e.rises.1.0 in
      let row_end = to_last 23 StandsRow s.third s.back e.rises.1.1 in
      let row_ends : last_shown 23 s.third s.back ≡ v.seen.rows = sym (d.last ∙ e.last) ∙ (ap (last_shown 23 v.before.rows) (sym s.is) ∙ sound.rows.last) in
      let third : s.third ≡ row = sym clock.0 in
      let front_is : StandsEven c word s.first = stands_even c word s.first first.0.0 some even in
      let low_a = a.low in
      let low_first = first.1 in
      let low_b = b.low in
      let low_second = second.1 in
      let low_d = d.low in
      let low_e = e.low in
      let low_clock = clock.1 in
      record {
        front = s.front;
        between = s.between;
        back = s.back;
        word = word;
        words = words;
        first = s.first;
        last = s.second;
        steps = s.is ∙ ap (λ (n : ℕ). s.front ++ loaded 1 word s.first ∷ (s.between ++ loaded 1 word s.second ∷ loaded 23 row n ∷ s.back)) third;
        loads = s.loads;
        later_is = s.later_is;
        eight = eight;
        generation_is = generation_is;
        even = ap (λ (n : ℕ). n % 2) generation_is ∙ even;
        published = published generation (generation_in word) generation_is some;
        rec_is = rec_is;
        stands = first.0.0;
        rises = (omega (arith, low_a, low_first), omega (arith, low_b, low_second), omega (arith, end, ends));
        row_rises = (omega (arith, low_d, low_e, low_clock, third), omega (arith, row_end, row_ends, third));
        whole = whole s eight rec_is front_is (first.0.1 front_is.even front_is.above) (omega (arith, low_b, low_second)) third;
      }
    where
      published : (generation number : ℕ) → generation ≡ number → (number == 0) ≡ false → 0 < generation
      published zero number is some =
          let zero_is : (number == 0) ≡ true = grind (arith, nat_tests, is) in absurd (cc (zero_is, some))
      published (suc generation) number is some = omega arith

      whole : (s : Split v.steps word word row words later) → length words ≡ 8 → rec ≡ record_in words → StandsEven c word s.first → base_of c < s.first / 2 → s.first ≤ s.second → s.third ≡ row
          → s.second / 2 < s.first / 2 + period_of c.layout → (s.second ≡ s.first) × IsEntry v (s.first / 2) rec row
      whole s eight rec_is front_is above order third near =
          let sounds = subst (SoundFrom c v.seen.history no_segment_try) s.is sound.sound in
          let begun = sound_back c v.seen.history no_segment_try s.front (loaded 1 word s.first ∷ (s.between ++ loaded 1 word s.second ∷ loaded 23 row s.third ∷ s.back)) sounds in
          let t : SegmentTry = record { shown = s.first; header = word; loads = [] } in
          let ended = sound_back c v.seen.history t s.between (loaded 1 word s.second ∷ loaded 23 row s.third ∷ s.back) begun.1 in
          let read : IsWholeRead c v.seen.history (record t { loads = numbered 2 words }) word s.second =
          subst (λ (x : SegmentTry). IsWholeRead c v.seen.history x word s.second) (try_loads 2 words s.between t (omega arith) s.loads) ended.0 in
          let is = read refl front_is.even above front_is.header near in
          let entry : Publication = entry_at c v.seen.history (s.first / 2) in
          let follows = subst (FollowsFrom c v.seen.history 0) s.is sound.follows in
          let f = follows_rest c v.seen.history 0 s.front (loaded 1 word s.first ∷ (s.between ++ loaded 1 word s.second ∷ loaded 23 row s.third ∷ s.back)) follows in
          let g = follows_rest c v.seen.history (s.first / 2 - base_of c) s.between (loaded 1 word s.second ∷ loaded 23 row s.third ∷ s.back) f.2 in
          let after = g.2.0 (s.first / 2 - base_of c - 1) (omega (arith, above, order)) in (
            is.0,
            record {
              after = above;
              known = is.1;
              same = rec_is ∙ record_read entry.rec words entry refl eight is.2 is.3;
              replied = subst (λ (n : ℕ). entry.replied ≤ n) third after.1;
            },
          )

same_word : (first last : ℕ) → (first == last) ≡ true → last ≡ first
same_word first last is = grind (arith, nat_tests, is)

-- the record that a call read before it loaded the clock
pub has_read : (v : SeatView) (tries generation : ℕ) (rec : RecordFields) (row : ℕ) (later : List Touch) → IsSoundCall v → ReadsThenClock tries (touches_of v.steps) generation rec row later → HasRead v generation rec row later
has_read v tries generation rec row later sound reads =
    let r = reads.reads in
    let finds = r.finds in
    let last_is : finds.last ≡ r.first = same_word r.first finds.last finds.same in
    let made : touches_of v.steps ≡ steps_of_all segment_lock finds.failed ++ (load 1 r.first ∷ (loads_from 2 r.words ++ load 1 finds.last ∷ load 23 row ∷ later)) =
    reads.made
    ∙ ap (λ (l : List Touch). l ++ load 23 row ∷ later) finds.made
    ∙ append_assoc (steps_of_all segment_lock finds.failed) (whole_try segment_lock r.first r.words finds.last) (load 23 row ∷ later)
    ∙ ap (λ (l : List Touch). steps_of_all segment_lock finds.failed ++ load 1 r.first ∷ l) (append_assoc (loads_from 2 r.words) (load 1 finds.last ∷ []) (load 23 row ∷ later)) in
    let same : touches_of v.steps ≡ steps_of_all segment_lock finds.failed ++ (load 1 r.first ∷ (loads_from 2 r.words ++ load 1 r.first ∷ load 23 row ∷ later)) =
    made ∙ ap (λ (n : ℕ). steps_of_all segment_lock finds.failed ++ (load 1 r.first ∷ (loads_from 2 r.words ++ load 1 n ∷ load 23 row ∷ later))) last_is in
    read_by v sound generation rec row r.first r.words later (split v.steps (steps_of_all segment_lock finds.failed) later r.first r.first row r.words same)
    finds.whole r.generation_is r.rec_is finds.calm.published finds.calm.even
