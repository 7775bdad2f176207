-- The loads of one word among the steps of a call: what they showed, and in which order.
use Rattle.std.proofs.Common.{◌≡◌, ℕ, ◌≤◌, Bool, true, false, List, ◌∷◌, ◌++◌, refl, sym, ap, ◌∙◌, subst, arith}
use Rattle.std.specs.Prelude.{◌==◌, ◌&&◌, not}
use Rattle.clock_gate.specs.Acts.{Touch}
use Rattle.seqlock.specs.TriedRun.{load}
use Rattle.segment_views.specs.Views.{Step}
use Rattle.segment_views.specs.Steps.{loaded}
use Rattle.segment_views.specs.Shown.{touches_of, When, next_shown, last_shown, Rises, Climbs}
use Rattle.segment_rule.proofs.Times.{parts}
use Rattle.segment_rule.proofs.ReadRecord.{head, rest, to_last}

module _ (i : ℕ) (Stands : ℕ → ℕ → Type 0) where
  -- a load of the word that found this value, between these steps
  pub record LoadAt (from to : ℕ) (steps : List Step) (front back : List Touch) (value : ℕ) : Type 0 where
    pub before : List Step
    pub after : List Step
    pub shown : ℕ
    pub is : steps ≡ before ++ loaded i value shown ∷ after
    pub front_is : touches_of before ≡ front
    pub back_is : touches_of after ≡ back
    pub stands : Stands value shown
    pub low : from ≤ shown
    pub high : shown ≤ to
    pub climbs : Climbs i Stands shown after to

  here_by : (b : Bool) (value shown from : ℕ) (after : List Step) → b ≡ true → When (b && not false) (Stands value shown × (from ≤ shown)) × Rises i Stands (next_shown (b && not false) from shown) after
      → (Stands value shown × (from ≤ shown)) × Rises i Stands shown after
  here_by true value shown from after same rises = rises
  here_by false value shown from after same rises = absurd (cc same)

  shown_here : (b : Bool) (shown from : ℕ) → b ≡ true → next_shown (b && not false) from shown ≡ shown
  shown_here true shown from same = refl
  shown_here false shown from same = absurd (cc same)

  pub load_at : (from to : ℕ) (steps : List Step) (front back : List Touch) (value : ℕ) → (i == i) ≡ true → Climbs i Stands from steps to → touches_of steps ≡ front ++ load i value ∷ back → LoadAt from to steps front back value
  load_at from to steps front back value same climbs is =
      let p = parts steps front (load i value ∷ back) is in
      let h = head p.back i value back p.back_is in
      let whole : steps ≡ p.front ++ loaded i value h.shown ∷ h.rest = p.whole ∙ ap (λ (l : List Step). p.front ++ l) h.is in
      let r = rest i Stands from p.front (loaded i value h.shown ∷ h.rest) (subst (λ (l : List Step). Rises i Stands from l) whole climbs.rises) in
      let at = here_by (i == i) value h.shown r.to h.rest same r.rises in
      let last : last_shown i h.shown h.rest ≡ to =
      ap (λ (n : ℕ). last_shown i n h.rest) (sym (shown_here (i == i) h.shown r.to same)) ∙ (sym r.last ∙ (ap (last_shown i from) (sym whole) ∙ climbs.last)) in
      let low_front = r.low in
      let low = at.0.1 in
      let high = to_last i Stands h.shown h.rest at.1 in
      record {
        before = p.front;
        after = h.rest;
        shown = h.shown;
        is = whole;
        front_is = p.front_is;
        back_is = h.touches_are;
        stands = at.0.0;
        low = omega (arith, low_front, low);
        high = omega (arith, high, last);
        climbs = record { rises = at.1; last = last };
      }
