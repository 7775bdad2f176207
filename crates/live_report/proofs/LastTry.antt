-- The last of tries that all failed.
use Rattle.std.proofs.Common.{◌≡◌, ℕ, ◌<◌, List, [], ◌∷◌, ◌++◌, length, refl, sym, ap, ◌∙◌, subst, arith, append_assoc, append-nil}
use Rattle.std.specs.Prelude.{All}
use Rattle.std.proofs.lemmas.List.Elements.{All-head, All-tail}
use Rattle.clock_gate.specs.Acts.{Touch}
use Rattle.seqlock.specs.Tries.{Seqlock}
use Rattle.seqlock.specs.TriedRun.{FailedTry, Odd, Changed, numbers_after, HasFailed, steps_of, steps_of_all, FailsAlways}

pub same_pair : (a b c d : ℕ) → ◌≡◌ {A = ℕ × ℕ} (a, b) (c, d) → (a ≡ c) × (b ≡ d)
same_pair a b c d e = (ap (λ (p : ℕ × ℕ). p.0) e, ap (λ (p : ℕ × ℕ). p.1) e)

module _ (lock : Seqlock) where
  -- these steps end with a try that failed by these numbers
  pub record LastTry (touches : List Touch) (first last : ℕ) : Type 0 where
    pub front : List Touch
    pub try : FailedTry
    pub made : touches ≡ front ++ steps_of lock try
    pub has_failed : HasFailed lock try
    pub numbers : numbers_after lock.number_in (0, 0) (try ∷ []) ≡ (first, last)

  -- its numbers do not depend on those before
  alone : (numbers : ℕ × ℕ) (try : FailedTry) → numbers_after lock.number_in numbers (try ∷ []) ≡ numbers_after lock.number_in (0, 0) (try ∷ [])
  alone numbers (Odd first) = refl
  alone numbers (Changed first words last) = refl

  one_less : (numbers : ℕ × ℕ) (try : FailedTry) (later : List FailedTry) → (next : ℕ × ℕ) × (numbers_after lock.number_in numbers (try ∷ later) ≡ numbers_after lock.number_in next later)
  one_less numbers (Odd first) later = ((lock.number_in first, lock.number_in first), refl)
  one_less numbers (Changed first words last) later = ((lock.number_in first, lock.number_in last), refl)

  last_of : (failed : List FailedTry) (numbers : ℕ × ℕ) (first last : ℕ) → All (HasFailed lock) failed → 0 < length failed → numbers_after lock.number_in numbers failed ≡ (first, last) → LastTry (steps_of_all lock failed) first last
  last_of [] numbers first last all some is = absurd (omega arith)
  last_of (try ∷ []) numbers first last all some is =
      record { front = []; try = try; made = append-nil (steps_of lock try); has_failed = All-head (HasFailed lock) try [] all; numbers = sym (alone numbers try) ∙ is }
  last_of (try ∷ more ∷ later) numbers first last all some is =
      let next = one_less numbers try (more ∷ later) in
      let t = last_of (more ∷ later) next.0 first last (All-tail (HasFailed lock) try (more ∷ later) all) (omega arith) (sym next.1 ∙ is) in
      record {
        front = steps_of lock try ++ t.front;
        try = t.try;
        made = ap (λ (l : List Touch). steps_of lock try ++ l) t.made ∙ sym (append_assoc (steps_of lock try) t.front (steps_of lock t.try));
        has_failed = t.has_failed;
        numbers = t.numbers;
      }

  pub last_try : (tries : ℕ) (touches : List Touch) (first last : ℕ) → 0 < tries → FailsAlways lock tries touches first last → LastTry touches first last
  last_try tries touches first last some fails =
      let all = fails.all in
      subst (λ (l : List Touch). LastTry l first last) (sym fails.made) (last_of fails.failed (0, 0) first last fails.all_failed (omega (arith, all, some)) fails.numbers)
