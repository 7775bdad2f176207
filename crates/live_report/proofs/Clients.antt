-- A lawful trace has one client at least and not too many, and each has at most all its calls.
use Rattle.std.proofs.Common.{◌≡◌, ℕ, ◌≤◌, Bool, true, false, cond, List, [], ◌∷◌, length, refl, arith}
use Rattle.std.specs.Prelude.{All, ◌==◌, nat_lt}
use Rattle.std.specs.List.{filter}
use Rattle.std.proofs.lemmas.List.{length-map}
use Rattle.std.proofs.lemmas.Bool.Decides.{nat_tests}
use Rattle.std.proofs.lemmas.List.Elements.{All-head, All-tail}
use Rattle.clock_gate.specs.declared.limits.TheConstants.{MOST_CLIENTS}
use Rattle.clock_gate.specs.declared.trace.CallRow.{CallRow}
use Rattle.clock_gate.specs.declared.trace.Trace.{Trace}
use Rattle.clock_gate.specs.Trace.{IsLawfulTrace, larger, largest_from}
use Rattle.lawful_report.specs.Composed.{tries_of_client}

larger_within : (a b least most : ℕ) → least ≤ a → a ≤ most → b ≤ most → (least ≤ larger a b) × (larger a b ≤ most)
unfolding larger
larger_within a b least most low high other = by (nat_lt a b) refl
  where
    by : (less : Bool) → nat_lt a b ≡ less → (least ≤ cond less b a) × (cond less b a ≤ most)
    by true is = (grind (arith, nat_tests, is), other)
    by false is = (low, high)

largest_within : (least start most : ℕ) (calls : List CallRow) → least ≤ start → start ≤ most → All (λ (row : CallRow). row.client ≤ most) calls → (least ≤ largest_from start calls) × (largest_from start calls ≤ most)
unfolding largest_from
largest_within least start most [] low high few = (low, high)
largest_within least start most (row ∷ rows) low high few =
    let next = larger_within start row.client least most low high (All-head (λ (r : CallRow). r.client ≤ most) row rows few) in
    largest_within least (larger start row.client) most rows next.0 next.1 (All-tail (λ (r : CallRow). r.client ≤ most) row rows few)

-- a trace has one client at least, and not too many
pub clients_within : (trace : Trace) → IsLawfulTrace trace → (1 ≤ trace.clients) × (trace.clients ≤ MOST_CLIENTS)
clients_within trace lawful =
    let within = largest_within 1 1 MOST_CLIENTS trace.calls (omega arith) (omega arith) (λ k d here. (lawful.calls k d here).client.1) in
    let is = lawful.clients in
    (omega (arith, within.0, is), omega (arith, within.1, is))

filter-few : {X : Type 0} (p : X → Bool) (xs : List X) → length (filter p xs) ≤ length xs
filter-few p [] = omega arith
filter-few {X = X} p (x ∷ xs) = by (p x) (filter p xs) (filter-few p xs)
  where
    by : (b : Bool) (ys : List X) → length ys ≤ length xs → length (cond b (x ∷ ys) ys) ≤ length (x ∷ xs)
    by true ys few = omega (arith, few)
    by false ys few = omega (arith, few)

-- a client has at most all calls
pub tries_few : (rows : List CallRow) (client : ℕ) → length (tries_of_client rows client) ≤ length rows
tries_few rows client =
    let same : length (tries_of_client rows client) ≡ length (filter (λ (row : CallRow). row.client == client) rows) = length-map (filter (λ (row : CallRow). row.client == client) rows) (λ (row : CallRow). row.tries) in
    let few = filter-few (λ (row : CallRow). row.client == client) rows in
    omega (arith, same, few)
