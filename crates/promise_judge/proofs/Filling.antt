-- A table of next numbers, filled from the back.
use Rattle.std.proofs.Common.{◌≡◌, ℕ, ◌+◌, ◌<◌, ◌≤◌, Bool, true, false, cond, List, length, length-set, replicate, slice_index, slice_set, sym, ap, ◌∙◌, subst, arith, inl, inr}
use Rattle.std.proofs.lemmas.Bool.{cases_Bool, cases_eq}
use Rattle.std.proofs.lemmas.List.{get_or-set_same, get_or-set_other, get_or-replicate, length-replicate}
use Rattle.promise_judge.specs.Searching.{IsNext, AreNext}

limit_is_next : (test : ℕ → Bool) (limit : ℕ) → IsNext test limit limit limit
limit_is_next test limit = record { low = omega arith; high = omega arith; passes = λ lt. absurd (omega arith); fails = λ k a b. absurd (omega arith) }

-- a table of limits holds of the limit
pub next_at_limit : (test : ℕ → Bool) (limit : ℕ) (table : List ℕ) → table ≡ replicate (limit + 1) limit → AreNext test limit limit table
next_at_limit test limit table is = rw is (record {
  sized = length-replicate (limit + 1) limit;
  next = λ from low high.
      let at : from ≡ limit = omega arith in
      let read : slice_index (replicate (limit + 1) limit) from ≡ limit = get_or-replicate (limit + 1) from limit 0 (omega arith) in
      subst (λ (n : ℕ). IsNext test limit from n) (sym read) (subst (λ (k : ℕ). IsNext test limit k limit) (sym at) (limit_is_next test limit));
})

-- a table holds of fewer numbers
pub next_from : (test : ℕ → Bool) (n least limit : ℕ) (table : List ℕ) → AreNext test n limit table → n ≤ least → AreNext test least limit table
next_from test n least limit table are le = record { sized = are.sized; next = λ from low high. are.next from (omega arith) high }

next_here : (test : ℕ → Bool) (limit n : ℕ) → n < limit → test n ≡ true → IsNext test limit n n
next_here test limit n lt passes = record { low = omega arith; high = omega arith; passes = λ _. passes; fails = λ k a b. absurd (omega arith) }

next_later : (test : ℕ → Bool) (limit n next : ℕ) → test n ≡ false → IsNext test limit (n + 1) next → IsNext test limit n next
next_later test limit n next fails is =
    let low = is.low in
    record {
      low = omega arith;
      high = is.high;
      passes = is.passes;
      fails = λ k a b.
          elim (cases_eq k n) [
            | inl same ↦ subst (λ (j : ℕ). test j ≡ false) (sym same) fails
            | inr other ↦ is.fails k (omega arith) b
          ];
    }

next_by : (test : ℕ → Bool) (limit n later : ℕ) → n < limit → IsNext test limit (n + 1) later → IsNext test limit n (cond (test n) n later)
next_by test limit n later lt is =
    elim (cases_Bool (test n)) [
      | inl passes ↦ rw passes (next_here test limit n lt passes)
      | inr fails ↦ rw fails (next_later test limit n later fails is)
    ]

-- one number more
pub next_put : (test : ℕ → Bool) (limit n next : ℕ) (passes : Bool) (old new : List ℕ) → n + 1 < length old → AreNext test (n + 1) limit old → passes ≡ test n →
    next ≡ cond passes n (slice_index old (n + 1)) → new ≡ slice_set old n next → AreNext test n limit new
next_put test limit n next passes old new within are is made set =
    let sized = are.sized in
    let value : next ≡ cond (test n) n (slice_index old (n + 1)) = made ∙ ap (λ b. cond b n (slice_index old (n + 1))) is in
    rw set (record {
      sized = length-set old n next ∙ sized;
      next = λ from low high.
          elim (cases_eq from n) [
            | inl same ↦
                (let read : slice_index (slice_set old n next) n ≡ next = get_or-set_same old n next 0 (omega arith) in
                subst (λ (k : ℕ). IsNext test limit k (slice_index (slice_set old n next) k)) (sym same)
                (subst (λ (m : ℕ). IsNext test limit n m) (sym (read ∙ value)) (next_by test limit n (slice_index old (n + 1)) (omega arith) (are.next (n + 1) (omega arith) (omega arith)))))
            | inr other ↦
                (let read : slice_index (slice_set old n next) from ≡ slice_index old from = get_or-set_other old n from next 0 other in
                subst (λ (m : ℕ). IsNext test limit from m) (sym read) (are.next from (omega arith) high))
          ];
    })
