-- What holds of each second, or round, holds of them all; and their sums.
use Rattle.std.proofs.Common.{◌≡◌, ◌∙◌, ℕ, zero, suc, ◌+◌, ◌*◌, ◌≤◌, List, [], ◌++◌, length, refl, sym, arith, length-append}
use Rattle.std.specs.Prelude.{All}
use Rattle.std.proofs.lemmas.List.Elements.{All-append, All-nil}
use Rattle.drill_day.specs.Draws.{after_two, rounds, seconds}

pub All-rounds : {X : Type 0} (P : X → Type 0) (given : ℕ → ℕ → List X) (low high : ℕ) → ((k x : ℕ) → low ≤ k → k ≤ high → All P (given k x))
    → (x k left : ℕ) → low ≤ k → k + left ≤ high + 1 → All P (rounds given x k left)
unfolding rounds
All-rounds P given low high each x k zero a b = All-nil P
All-rounds P given low high each x k (suc left) a b =
    All-append P (given k x) (rounds given (after_two x) (k + 1) left) (each k x a (omega arith)) (All-rounds P given low high each (after_two x) (k + 1) left (omega arith) (omega arith))

pub All-seconds : {X : Type 0} (P : X → Type 0) (given : ℕ → List X) → ((k : ℕ) → All P (given k)) → (k left : ℕ) → All P (seconds given k left)
unfolding seconds
All-seconds P given each k zero = All-nil P
All-seconds P given each k (suc left) = All-append P (given k) (seconds given (k + 1) left) (each k) (All-seconds P given each (k + 1) left)

-- the sum over lists that are joined is the sum of their sums
pub record IsSum {X : Type 0} (F : List X → ℕ) : Type 0 where
  pub none : F [] ≡ 0
  pub both : (xs ys : List X) → F (xs ++ ys) ≡ F xs + F ys

pub sum-length : {X : Type 0} → IsSum (λ (xs : List X). length xs)
sum-length = record { none = refl; both = λ xs ys. length-append xs ys }

pub rounds_sum : {X : Type 0} (F : List X → ℕ) (given : ℕ → ℕ → List X) (n : ℕ) → IsSum F → ((k x : ℕ) → F (given k x) ≡ n) → (x k left : ℕ) → F (rounds given x k left) ≡ n * left
unfolding rounds
rounds_sum F given n is each x k zero = let none_yet : 0 ≡ n * 0 = omega arith in is.none ∙ none_yet
rounds_sum F given n is each x k (suc left) =
    let both = is.both (given k x) (rounds given (after_two x) (k + 1) left) in
    let rest = rounds_sum F given n is each (after_two x) (k + 1) left in
    let here = each k x in
    omega (arith, both, rest, here)

pub rounds_sum_most : {X : Type 0} (F : List X → ℕ) (given : ℕ → ℕ → List X) (n : ℕ) → IsSum F → ((k x : ℕ) → F (given k x) ≤ n) → (x k left : ℕ) → F (rounds given x k left) ≤ n * left
unfolding rounds
rounds_sum_most F given n is each x k zero = let none_yet = is.none in omega (arith, none_yet)
rounds_sum_most F given n is each x k (suc left) =
    let both = is.both (given k x) (rounds given (after_two x) (k + 1) left) in
    let rest = rounds_sum_most F given n is each (after_two x) (k + 1) left in
    let here = each k x in
    omega (arith, both, rest, here)

pub seconds_sum : {X : Type 0} (F : List X → ℕ) (given : ℕ → List X) (n : ℕ) → IsSum F → ((k : ℕ) → F (given k) ≡ n) → (k left : ℕ) → F (seconds given k left) ≡ n * left
unfolding seconds
seconds_sum F given n is each k zero = let none_yet : 0 ≡ n * 0 = omega arith in is.none ∙ none_yet
seconds_sum F given n is each k (suc left) =
    let both = is.both (given k) (seconds given (k + 1) left) in
    let rest = seconds_sum F given n is each (k + 1) left in
    let here = each k in
    omega (arith, both, rest, here)

pub seconds_sum_most : {X : Type 0} (F : List X → ℕ) (given : ℕ → List X) (n : ℕ) → IsSum F → ((k : ℕ) → F (given k) ≤ n) → (k left : ℕ) → F (seconds given k left) ≤ n * left
unfolding seconds
seconds_sum_most F given n is each k zero = let none_yet = is.none in omega (arith, none_yet)
seconds_sum_most F given n is each k (suc left) =
    let both = is.both (given k) (seconds given (k + 1) left) in
    let rest = seconds_sum_most F given n is each (k + 1) left in
    let here = each k in
    omega (arith, both, rest, here)

-- two sums are the same where they are in each second
pub same_sums : {X Y : Type 0} (F : List X → ℕ) (G : List Y → ℕ) (given : ℕ → List X) (other : ℕ → List Y) (low : ℕ) → IsSum F → IsSum G
    → ((k : ℕ) → low ≤ k → F (given k) ≡ G (other k)) → (k left : ℕ) → low ≤ k → F (seconds given k left) ≡ G (seconds other k left)
unfolding seconds
same_sums F G given other low f g each k zero a = f.none ∙ sym g.none
same_sums F G given other low f g each k (suc left) a =
    let both = f.both (given k) (seconds given (k + 1) left) in
    let others = g.both (other k) (seconds other (k + 1) left) in
    let rest = same_sums F G given other low f g each (k + 1) left (omega arith) in
    let here = each k a in
    omega (arith, both, others, rest, here)
