-- What the tries of a read of the segment show, by the loads of a call.
use Rattle.std.proofs.Common.{◌≡◌, ◌≢◌, ℕ, zero, suc, ◌+◌, ◌/◌, ◌%◌, ◌<◌, ◌≤◌, true, false, List, [], ◌∷◌, ◌++◌, refl, sym, ap, ◌∙◌, subst, arith, inl, inr}
use Rattle.std.specs.Prelude.{◌==◌, ◌⊎◌}
use Rattle.std.proofs.lemmas.Bool.Decides.{nat_tests}
use Rattle.clock_gate.specs.Acts.{Touch}
use Rattle.generation_word.specs.Layout.{period_of}
use Rattle.generation_word.specs.Numbering.{generation_at}
use Rattle.generation_word.specs.Header.{generation_in}
use Rattle.generation_word.proofs.Laws.{generation_at-even, generation_at_positive, one_position}
use Rattle.seqlock.specs.TriedRun.{load, loads_from, FailedTry, Odd, Changed, numbers_after, HasFailed, steps_of, steps_of_all, FindsNothing, FailsAlways}
use Rattle.shm_reader.specs.SegmentTries.{segment_lock}
use Rattle.segment_run.proofs.SegmentHeader.{header_tells}
use Rattle.segment_views.specs.declared.setup.Setup.{Setup}
use Rattle.segment_views.specs.Views.{Step, SegmentTry, no_segment_try, number_of_point, after_step, segment_try_after}
use Rattle.segment_views.specs.Steps.{loaded, StandsPoint, ShowsPoint, IsSteady}
use Rattle.segment_views.specs.Shown.{touches_of, Climbs, SteadyFrom}
use Rattle.segment_rule.proofs.Times.{numbered}
use Rattle.segment_rule.proofs.ReadRecord.{try_loads}
use Rattle.live_report.proofs.Loads.{load_at}
use Rattle.live_report.proofs.LastTry.{same_pair, last_try}

-- a word of some generation tells the number of its point
pub number_told : (c : Setup) (word point : ℕ) → StandsPoint c word point → (generation_in word == 0) ≡ false → generation_in word ≡ number_of_point c.layout point
number_told c word point (inl none) some =
    let zero_is : (generation_in word == 0) ≡ true = subst (λ (w : ℕ). (generation_in w == 0) ≡ true) (sym none.0) refl in absurd (cc (zero_is, some))
number_told c word point (inr header) some = header_tells c.layout word (number_of_point c.layout point) header

steady_back : (t : SegmentTry) (xs ys : List Step) → SteadyFrom t (xs ++ ys) → SteadyFrom (segment_try_after t xs) ys
steady_back t [] ys h = h
steady_back t (x ∷ xs) ys h = steady_back (after_step t x) xs ys h.1

-- the last try failed by an odd number, at this point
pub record FailsOdd (c : Setup) (from to first last : ℕ) : Type 0 where
  pub point : ℕ
  pub low : from ≤ point
  pub high : point ≤ to
  pub odd : first % 2 ≡ 1
  pub same : last ≡ first
  pub number : number_of_point c.layout point ≡ first

-- or by another word at last, with another number, at these points
pub record FailsChanged (c : Setup) (from to first last : ℕ) : Type 0 where
  pub one : ℕ
  pub two : ℕ
  pub low : from ≤ one
  pub order : one ≤ two
  pub high : two ≤ to
  pub even : first % 2 ≡ 0
  pub published : 0 < first
  pub other : last ≢ first
  pub number_one : number_of_point c.layout one ≡ first
  pub number_two : number_of_point c.layout two ≡ last

positive : (n : ℕ) → (n == 0) ≡ false → 0 < n
positive zero some = absurd (cc some)
positive (suc n) some = omega arith

-- an even number that isn't 0 is that of an even point past the first position
pub even_point : (c : Setup) (p number : ℕ) → number_of_point c.layout p ≡ number → number % 2 ≡ 0 → 0 < number → (p % 2 ≡ 0) × (0 < p / 2)
even_point c p number is even some =
    let g = generation_at-even (period_of c.layout) (p / 2) in
    let rest : p % 2 ≡ 0 = omega (arith, is, even, g) in
    (rest, above (p / 2) refl rest)
  where
    above : (half : ℕ) → p / 2 ≡ half → p % 2 ≡ 0 → 0 < p / 2
    above zero none rest = let at : generation_at (period_of c.layout) (p / 2) ≡ 0 = ap (generation_at (period_of c.layout)) none in absurd (omega (arith, at, is, rest, some))
    above (suc half) more rest = omega (arith, more)

-- two points with one even number, less than a period apart, are one
one_point : (c : Setup) (p q number : ℕ) → number_of_point c.layout p ≡ number → number_of_point c.layout q ≡ number → number % 2 ≡ 0 → 0 < number → p ≤ q → q / 2 < p / 2 + period_of c.layout → q ≡ p
one_point c p q number at_p at_q even some order near =
    let a = even_point c p number at_p even some in
    let b = even_point c q number at_q even some in
    let rest_a = a.0 in
    let rest_b = b.0 in
    let above = a.1 in
    let same : generation_at (period_of c.layout) (p / 2) ≡ generation_at (period_of c.layout) (q / 2) = omega (arith, at_p, at_q, rest_a, rest_b) in
    let one : p / 2 ≡ q / 2 = one_position (period_of c.layout) (p / 2) (q / 2) above (omega (arith, order)) near same in
    omega (arith, one, rest_a, rest_b)

-- the number of a later point
later_told : (c : Setup) (word point : ℕ) → StandsPoint c word point → 0 < point → generation_in word ≡ number_of_point c.layout point
later_told c word point (inl none) some = absurd (let zero_is = none.1 in omega (arith, zero_is, some))
later_told c word point (inr header) some = header_tells c.layout word (number_of_point c.layout point) header

module _ (c : Setup) (from to : ℕ) (steps : List Step) (climbs : Climbs 1 (ShowsPoint c) from steps to) (steady : SteadyFrom no_segment_try steps) (near : to / 2 < from / 2 + period_of c.layout) where
  changed_by : (front : List Touch) (word again : ℕ) (words : List ℕ) → touches_of steps ≡ front ++ (load 1 word ∷ (loads_from 2 words ++ load 1 again ∷ [])) → HasFailed segment_lock (Changed word words again)
      → FailsChanged c from to (generation_in word) (generation_in again)
  changed_by front word again words is has =
      let l = load_at 1 (ShowsPoint c) from to steps front (loads_from 2 words ++ load 1 again ∷ []) word refl climbs is in
      let m = load_at 1 (ShowsPoint c) l.shown to l.after (loads_from 2 words) [] again refl l.climbs l.back_is in
      let some = positive (generation_in word) has.0.published in
      let one : number_of_point c.layout l.shown ≡ generation_in word = sym (number_told c word l.shown l.stands.0 has.0.published) in
      let p = even_point c l.shown (generation_in word) one has.0.even some in
      let above = p.1 in
      let order = m.low in
      let two : number_of_point c.layout m.shown ≡ generation_in again = sym (later_told c again m.shown m.stands.0 (omega (arith, above, order))) in
      let low = l.low in
      let high = m.high in
      record {
        one = l.shown;
        two = m.shown;
        low = l.low;
        order = m.low;
        high = m.high;
        even = has.0.even;
        published = some;
        other = λ e.
            let point : m.shown ≡ l.shown = one_point c l.shown m.shown (generation_in word) one (two ∙ e) has.0.even some order (omega (arith, near, low, high)) in
            let even_two : m.shown % 2 ≡ 0 = ap (λ (n : ℕ). n % 2) point ∙ p.0 in
            let first : SegmentTry = record { shown = l.shown; header = word; loads = [] } in
            let whole : steps ≡ l.before ++ loaded 1 word l.shown ∷ l.after = l.is in
            let a = steady_back no_segment_try l.before (loaded 1 word l.shown ∷ l.after) (subst (SteadyFrom no_segment_try) whole steady) in
            let b = steady_back first m.before (loaded 1 again m.shown ∷ m.after) (subst (SteadyFrom first) m.is a.1) in
            let stays : IsSteady (record first { loads = [] ++ numbered 2 words }) again m.shown =
            subst (λ (t : SegmentTry). IsSteady t again m.shown) (try_loads 2 words m.before first (omega arith) m.front_is) b.0 in
            let same : again ≡ word = stays point even_two (omega (arith, above, order)) in
            let is_same : (word == again) ≡ true = grind (arith, nat_tests, same) in
            absurd (cc (has.2, is_same));
        number_one = one;
        number_two = two;
      }

  odd_by : (front : List Touch) (word : ℕ) → touches_of steps ≡ front ++ (load 1 word ∷ []) → HasFailed segment_lock (Odd word) → FailsOdd c from to (generation_in word) (generation_in word)
  odd_by front word is has =
      let l = load_at 1 (ShowsPoint c) from to steps front [] word refl climbs is in
      record { point = l.shown; low = l.low; high = l.high; odd = has.1; same = refl; number = sym (number_told c word l.shown l.stands.0 has.0) }

  busy_by : (front : List Touch) (try : FailedTry) (first last : ℕ) → touches_of steps ≡ front ++ steps_of segment_lock try → HasFailed segment_lock try → numbers_after segment_lock.number_in (0, 0) (try ∷ []) ≡ (first, last)
      → FailsOdd c from to first last ⊎ FailsChanged c from to first last
  busy_by front (Odd word) first last is has numbers =
      let same = same_pair (generation_in word) (generation_in word) first last numbers in
      inl (subst (λ (p : ℕ × ℕ). FailsOdd c from to p.0 p.1) (λ j. (same.0 j, same.1 j)) (odd_by front word is has))
  busy_by front (Changed word words again) first last is has numbers =
      let same = same_pair (generation_in word) (generation_in again) first last numbers in
      inr (subst (λ (p : ℕ × ℕ). FailsChanged c from to p.0 p.1) (λ j. (same.0 j, same.1 j)) (changed_by front word again words is has))

  -- every try failed
  pub segment_fails : (tries first last : ℕ) → 0 < tries → FailsAlways segment_lock tries (touches_of steps) first last → FailsOdd c from to first last ⊎ FailsChanged c from to first last
  segment_fails tries first last some fails =
      let t = last_try segment_lock tries (touches_of steps) first last some fails in
      busy_by t.front t.try first last t.made t.has_failed t.numbers

  -- nothing was published: the point is that of the beginning
  pub finds_nothing : (tries : ℕ) → FindsNothing segment_lock tries (touches_of steps) → from ≡ 0
  finds_nothing tries finds =
      let l = load_at 1 (ShowsPoint c) from to steps (steps_of_all segment_lock finds.failed) [] finds.first refl climbs finds.made in
      let none : generation_in finds.first ≡ 0 = grind (arith, nat_tests, finds.absent) in
      let low = l.low in
      let at : l.shown ≡ 0 = none_at l.shown l.stands.0 none in
      omega (arith, low, at)
    where
      at_by : (point half : ℕ) → point / 2 ≡ half → number_of_point c.layout point ≡ 0 → point ≡ 0
      at_by point zero none is = let g : generation_at (period_of c.layout) (point / 2) ≡ 0 = ap (generation_at (period_of c.layout)) none in omega (arith, none, is, g)
      at_by point (suc half) more is = absurd (let some = generation_at_positive (period_of c.layout) (point / 2) (omega (arith, more)) in omega (arith, is, some))

      none_at : (point : ℕ) → StandsPoint c finds.first point → generation_in finds.first ≡ 0 → point ≡ 0
      none_at point (inl none) is = none.1
      none_at point (inr header) is = at_by point (point / 2) refl (sym (header_tells c.layout finds.first (number_of_point c.layout point) header) ∙ is)
