-- What the last try of a call shows: the entry of the history at the front, where fewer publications than a period lie inside.
use Rattle.std.proofs.Common.{◌≡◌, ◌≢◌, ℕ, suc, ◌≤◌, false, List, [], ◌∷◌, ◌++◌, refl, sym, ap, subst, arith, append_assoc}
use Rattle.std.specs.Prelude.{◌==◌}
use Rattle.std.proofs.lemmas.List.{append-nil}
use Rattle.std.proofs.lemmas.Bool.Decides.{nat_tests}
use Rattle.clock_gate.specs.Acts.{Touch}
use Rattle.seqlock.specs.TriedRun.{load, loads_from}
use Rattle.segment_layout.specs.declared.publication.Publication.{Publication}
use Rattle.segment_views.specs.declared.setup.Setup.{Setup}
use Rattle.segment_views.specs.Views.{Step, SegmentTry, after_step, segment_try_after}
use Rattle.segment_views.specs.Steps.{IsWholeRead}
use Rattle.segment_views.specs.Shown.{touches_of, is_load_of, When, SoundFrom}

-- steps split where their touches do
pub record Parts (steps : List Step) (xs ys : List Touch) : Type 0 where
  pub front : List Step
  pub back : List Step
  pub whole : steps ≡ front ++ back
  pub front_is : touches_of front ≡ xs
  pub back_is : touches_of back ≡ ys

pub same_head : (a b : Touch) (xs ys : List Touch) → a ∷ xs ≡ b ∷ ys → (a ≡ b) × (xs ≡ ys)
same_head a b xs ys e = (cc, cc)

pub parts : (steps : List Step) (xs ys : List Touch) → touches_of steps ≡ xs ++ ys → Parts steps xs ys
parts steps [] ys e = record { front = []; back = steps; whole = refl; front_is = refl; back_is = e }
parts [] (x ∷ xs) ys e = absurd (cc e)
parts (s ∷ steps) (x ∷ xs) ys e =
    let h = same_head s.touch x (touches_of steps) (xs ++ ys) e in
    let p = parts steps xs ys h.1 in
    record { front = s ∷ p.front; back = p.back; whole = ap (λ (l : List Step). s ∷ l) p.whole; front_is = (λ j. h.0 j ∷ p.front_is j); back_is = p.back_is }

pub sound_back : (c : Setup) (history : List Publication) (t : SegmentTry) (xs ys : List Step) → SoundFrom c history t (xs ++ ys) → SoundFrom c history (segment_try_after t xs) ys
sound_back c history t [] ys h = h
sound_back c history t (x ∷ xs) ys h = sound_back c history (after_step t x) xs ys h.1

abbrev pub numbered : ℕ → List ℕ → List (ℕ × ℕ)
numbered k [] = []
numbered k (w ∷ ws) = (k, w) ∷ numbered (suc k) ws

-- the load at the end of a try, after its words
pub record EndsTry (c : Setup) (history : List Publication) (t : SegmentTry) (last : ℕ) : Type 0 where
  pub shown : ℕ
  pub whole : IsWholeRead c history t last shown

pub with_word : (t : SegmentTry) (s : Step) (k w : ℕ) → s.touch ≡ load k w → k ≢ 1 → after_step t s ≡ record t { loads = t.loads ++ (k, w) ∷ [] }
with_word t s k w e ne =
    let test : (k == 1) ≡ false = grind (arith, nat_tests) in
    subst (λ (x : Touch). after_step t (record { touch = x; shown = s.shown }) ≡ record t { loads = t.loads ++ (k, w) ∷ [] }) (sym e) (rw test refl)

try_words : (c : Setup) (history : List Publication) (k : ℕ) (words : List ℕ) (last : ℕ) (rest : List Touch) (t : SegmentTry) (steps : List Step) → 2 ≤ k → touches_of steps ≡ loads_from k words ++ load 1 last ∷ rest → SoundFrom c history t steps
    → EndsTry c history (record t { loads = t.loads ++ numbered k words }) last
try_words c history k [] last rest t [] up e sound = absurd (cc e)
try_words c history k [] last rest t (s ∷ steps) up e sound =
    let h = same_head s.touch (load 1 last) (touches_of steps) rest e in
    record {
      shown = s.shown;
      whole = subst (λ (l : List (ℕ × ℕ)). IsWholeRead c history (record t { loads = l }) last s.shown) (sym (append-nil t.loads))
          (here s.touch s.shown h.0 sound.0);
    }
  where
    here : (touch : Touch) (shown : ℕ) → touch ≡ load 1 last → When (is_load_of 1 (record { touch = touch; shown = shown })) (IsWholeRead c history t touch.value shown) → IsWholeRead c history t last shown
    here touch shown e w = subst (λ (x : Touch). When (is_load_of 1 (record { touch = x; shown = shown })) (IsWholeRead c history t x.value shown)) e w
try_words c history k (w ∷ words) last rest t [] up e sound = absurd (cc e)
try_words c history k (w ∷ words) last rest t (s ∷ steps) up e sound =
    let h = same_head s.touch (load k w) (touches_of steps) (loads_from (suc k) words ++ load 1 last ∷ rest) e in
    let next : after_step t s ≡ record t { loads = t.loads ++ (k, w) ∷ [] } = with_word t s k w h.0 (λ one. absurd (omega (arith, one, up))) in
    let r = try_words c history (suc k) words last rest (record t { loads = t.loads ++ (k, w) ∷ [] }) steps (omega arith) h.1 (subst (λ (x : SegmentTry). SoundFrom c history x steps) next sound.1) in
    record {
      shown = r.shown;
      whole = subst (λ (l : List (ℕ × ℕ)). IsWholeRead c history (record t { loads = l }) last r.shown) (append_assoc t.loads ((k, w) ∷ []) (numbered (suc k) words)) r.whole;
    }

-- a whole try among the steps: from its first load on `IsWholeRead` holds at its last, of all its words
pub record TryShows (c : Setup) (history : List Publication) (first : ℕ) (words : List ℕ) (last : ℕ) : Type 0 where
  pub shown : ℕ
  pub ends : EndsTry c history (record { shown = shown; header = first; loads = numbered 2 words }) last

pub whole_try_shows : (c : Setup) (history : List Publication) (t : SegmentTry) (steps : List Step) (before rest : List Touch) (first last : ℕ) (words : List ℕ)
    → touches_of steps ≡ before ++ (load 1 first ∷ (loads_from 2 words ++ load 1 last ∷ rest)) → SoundFrom c history t steps → TryShows c history first words last
whole_try_shows c history t steps before rest first last words e sound =
    let p = parts steps before (load 1 first ∷ (loads_from 2 words ++ load 1 last ∷ rest)) e in
    begins p.back p.back_is (sound_back c history t p.front p.back (subst (SoundFrom c history t) p.whole sound))
  where
    begins : (back : List Step) → touches_of back ≡ load 1 first ∷ (loads_from 2 words ++ load 1 last ∷ rest) → SoundFrom c history (segment_try_after t (parts steps before (load 1 first ∷ (loads_from 2 words ++ load 1 last ∷ rest)) e).front) back
        → TryShows c history first words last
    begins [] is s = absurd (cc is)
    begins (b ∷ back) is s =
        let h = same_head b.touch (load 1 first) (touches_of back) (loads_from 2 words ++ load 1 last ∷ rest) is in
        record {
          shown = b.shown;
          ends = try_words c history 2 words last rest (record { shown = b.shown; header = first; loads = [] }) back (omega arith) h.1
              (subst (λ (x : Touch). SoundFrom c history (after_step (segment_try_after t (parts steps before (load 1 first ∷ (loads_from 2 words ++ load 1 last ∷ rest)) e).front) (record { touch = x; shown = b.shown })) back) h.0 s.1);
        }
