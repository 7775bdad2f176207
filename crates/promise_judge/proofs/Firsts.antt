-- The first number that passes a test.
use Rattle.std.proofs.Common.{◌≡◌, ℕ, zero, suc, ◌+◌, ◌-◌, ◌<◌, ◌≤◌, Bool, true, false, nat_lt, cond, Option, Some, None, is_some, refl, sym, ap, ◌∙◌, subst, arith, inl, inr, true≢false}
use Rattle.std.proofs.lemmas.Bool.{cases_Bool, cases_lt}
use Rattle.std.proofs.lemmas.Bool.Decides.{nat_tests}
use Rattle.promise_judge.specs.Firsts.{first_of, first_in, IsFirstIn, FindsFirst}
use Rattle.promise_judge.specs.Searching.{IsNext, if_below}

-- ---- of so many numbers

none_of : (test : ℕ → Bool) (from count : ℕ) → first_of test from count ≡ None → (k : ℕ) → from ≤ k → k < from + count → test k ≡ false
none_of test from zero none k low high = absurd (omega arith)
none_of test from (suc count) none k low high =
    elim (cases_Bool (test from)) [
      | inl here ↦ absurd (true≢false (ap is_some (sym (ap (λ t. cond t (Some from) (first_of test (from + 1) count)) here) ∙ none)))
      | inr fails ↦
          (elim (cases_lt from k) [
            | inl later ↦ none_of test (from + 1) count (sym (ap (λ t. cond t (Some from) (first_of test (from + 1) count)) fails) ∙ none) k (omega arith) (omega arith)
            | inr now ↦ (let same : from ≡ k = omega arith in subst (λ (j : ℕ). test j ≡ false) same fails)
          ])
    ]

all_fail_of : (test : ℕ → Bool) (from count : ℕ) → ((k : ℕ) → from ≤ k → k < from + count → test k ≡ false) → first_of test from count ≡ None
all_fail_of test from zero fail = refl
all_fail_of test from (suc count) fail =
    rw (fail from (omega arith) (omega arith)) (all_fail_of test (from + 1) count (λ k low high. fail k (omega arith) (omega arith)))

one_of : (test : ℕ → Bool) (from count k : ℕ) → from ≤ k → k < from + count → test k ≡ true → is_some (first_of test from count) ≡ true
one_of test from zero k low high passes = absurd (omega arith)
one_of test from (suc count) k low high passes =
    elim (cases_Bool (test from)) [
      | inl here ↦ rw here refl
      | inr fails ↦
          (elim (cases_lt from k) [
            | inl later ↦ rw fails (one_of test (from + 1) count k (omega arith) (omega arith) passes)
            | inr now ↦ (let same : k ≡ from = omega arith in absurd (true≢false (sym passes ∙ (ap test same ∙ fails))))
          ])
    ]

same_of : (s t : ℕ → Bool) (from count : ℕ) → ((k : ℕ) → from ≤ k → k < from + count → s k ≡ t k) → first_of s from count ≡ first_of t from count
same_of s t from zero agree = refl
same_of s t from (suc count) agree =
    rw (agree from (omega arith) (omega arith))
    (ap (λ later. cond (t from) (Some from) later) (same_of s t (from + 1) count (λ k low high. agree k (omega arith) (omega arith))))

-- ---- from a number on, and below another

pub none_in : (test : ℕ → Bool) (low high : ℕ) → first_in test low high ≡ None → (k : ℕ) → low ≤ k → k < high → test k ≡ false
none_in test low high none k from below = none_of test low (high - low) none k from (omega arith)

pub all_fail : (test : ℕ → Bool) (low high : ℕ) → ((k : ℕ) → low ≤ k → k < high → test k ≡ false) → first_in test low high ≡ None
all_fail test low high fail = all_fail_of test low (high - low) (λ k from below. fail k from (omega arith))

pub one_in : (test : ℕ → Bool) (low high k : ℕ) → low ≤ k → k < high → test k ≡ true → is_some (first_in test low high) ≡ true
one_in test low high k from below passes = one_of test low (high - low) k from (omega arith) passes

pub same_in : (s t : ℕ → Bool) (low high : ℕ) → ((k : ℕ) → low ≤ k → k < high → s k ≡ t k) → first_in s low high ≡ first_in t low high
same_in s t low high agree = same_of s t low (high - low) (λ k from below. agree k from (omega arith))

-- one number taken from the front
pub first_step : (test : ℕ → Bool) (low high : ℕ) → low < high → first_in test low high ≡ cond (test low) (Some low) (first_in test (low + 1) high)
first_step test low high lt =
    let one : high - low ≡ suc (high - (low + 1)) = omega arith in rw one refl

pub first_end : (test : ℕ → Bool) (low high : ℕ) → high ≤ low → first_in test low high ≡ None
first_end test low high le = let none : high - low ≡ 0 = omega arith in rw none refl

-- ---- by the next one that passes

next_tail : (test : ℕ → Bool) (limit from next : ℕ) → IsNext test limit from next → from < next → IsNext test limit (from + 1) next
next_tail test limit from next is lt = record {
  low = omega arith;
  high = is.high;
  passes = is.passes;
  fails = λ k low high. is.fails k (omega arith) high;
}

next_here : (test : ℕ → Bool) (limit from next : ℕ) → IsNext test limit from next → test from ≡ true → next ≡ from
next_here test limit from next is here =
    elim (cases_lt from next) [
      | inl lt ↦ absurd (true≢false (sym here ∙ is.fails from (omega arith) lt))
      | inr ge ↦ (let low = is.low in omega arith)
    ]

next_later : (test : ℕ → Bool) (limit from next : ℕ) → IsNext test limit from next → from < limit → test from ≡ false → from < next
next_later test limit from next is lt fails =
    elim (cases_lt from next) [
      | inl later ↦ later
      | inr ge ↦
          (let low = is.low in
          let same : next ≡ from = omega arith in
          absurd (true≢false (sym (is.passes (omega arith)) ∙ subst (λ (k : ℕ). test k ≡ false) (sym same) fails)))
    ]

next_of : (test : ℕ → Bool) (limit from count next : ℕ) → IsNext test limit from next → from + count ≤ limit → first_of test from count ≡ if_below (from + count) next
next_of test limit from zero next is le =
    let low = is.low in
    let past : nat_lt next (from + 0) ≡ false = grind (arith, nat_tests) in
    rw past refl
next_of test limit from (suc count) next is le =
    elim (cases_Bool (test from)) [
      | inl here ↦
          (let found = next_here test limit from next is here in
          let within : nat_lt next (from + suc count) ≡ true = grind (arith, nat_tests) in
          rw (here, within) (ap Some (sym found)))
      | inr fails ↦
          (let later = next_later test limit from next is (omega arith) fails in
          let same : from + 1 + count ≡ from + suc count = omega arith in
          rw fails (next_of test limit (from + 1) count next (next_tail test limit from next is later) (omega arith) ∙ ap (λ high. if_below high next) same))
    ]

-- the first below a number is the next one, where that is below it
pub next_in : (test : ℕ → Bool) (limit low high next : ℕ) → IsNext test limit low next → high ≤ limit → first_in test low high ≡ if_below high next
next_in test limit low high next is le =
    elim (cases_lt high low) [
      | inl before ↦
          (let from = is.low in
          let past : nat_lt next high ≡ false = grind (arith, nat_tests) in
          first_end test low high (omega arith) ∙ sym (rw past refl))
      | inr after ↦
          (let same : low + (high - low) ≡ high = omega arith in
          next_of test limit low (high - low) next is (omega arith) ∙ ap (λ bound. if_below bound next) same)
    ]

pub is_some-if_below : (high n : ℕ) → is_some (if_below high n) ≡ nat_lt n high
is_some-if_below high n = elim (cases_Bool (nat_lt n high)) [ inl t ↦ rw t refl | inr f ↦ rw f refl ]

-- ---- what the search tells

found_here : (test : ℕ → Bool) (low count : ℕ) → test low ≡ true → IsFirstIn test low (low + suc count) (Some low)
found_here test low count here = (omega arith, omega arith, here, λ k from below. absurd (omega arith))

found_later : (test : ℕ → Bool) (low count : ℕ) (o : Option ℕ) → test low ≡ false → IsFirstIn test (low + 1) (low + 1 + count) o → IsFirstIn test low (low + suc count) o
found_later test low count None fails none = λ k from below.
    elim (cases_lt low k) [
      | inl later ↦ none k (omega arith) (omega arith)
      | inr now ↦ (let same : low ≡ k = omega arith in subst (λ (j : ℕ). test j ≡ false) same fails)
    ]
found_later test low count (Some n) fails is =
    let from = is.0 in
    let below = is.1 in (
      omega arith,
      omega arith,
      is.2,
      λ k a b.
          elim (cases_lt low k) [
            | inl later ↦ is.3 k (omega arith) b
            | inr now ↦ (let same : low ≡ k = omega arith in subst (λ (j : ℕ). test j ≡ false) same fails)
          ],
    )

finds_of : (test : ℕ → Bool) (low count : ℕ) → IsFirstIn test low (low + count) (first_of test low count)
finds_of test low zero = λ k from below. absurd (omega arith)
finds_of test low (suc count) =
    elim (cases_Bool (test low)) [
      | inl here ↦ rw here (found_here test low count here)
      | inr fails ↦ rw fails (found_later test low count (first_of test (low + 1) count) fails (finds_of test (low + 1) count))
    ]

pub finds_first : FindsFirst
finds_first test low high =
    elim (cases_lt high low) [
      | inl before ↦ (let none = first_end test low high (omega arith) in rw none (λ k from below. absurd (omega arith)))
      | inr after ↦
          (let whole : low + (high - low) ≡ high = omega arith in
          subst (λ (n : ℕ). IsFirstIn test low n (first_of test low (high - low))) whole (finds_of test low (high - low)))
    ]
