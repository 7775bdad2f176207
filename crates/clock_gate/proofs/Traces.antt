-- What follows of a lawful trace.
use Rattle.std.proofs.Common.{◌≡◌, ◌∙◌, ◌≤◌, ℕ, Bool, true, false, cond, List, [], ◌∷◌, length, Option, Some, None, refl, ap, arith}
use Rattle.std.specs.Prelude.{All, filter_map, nat_lt}
use Rattle.std.specs.List.{cons_option}
use Rattle.std.proofs.lemmas.Bool.Decides.{nat_tests}
use Rattle.std.proofs.lemmas.List.Elements.{All-cons, All-nil}
use Rattle.std.proofs.lemmas.List.FromFn.{length-range_with_len}
use Rattle.clock_gate.specs.Trace.{IsLawfulTrace, clock_number, clock_numbers, larger, largest_from}
use Rattle.clock_gate.specs.declared.limits.TheConstants.{MOST_HOST_ROWS}
use Rattle.clock_gate.specs.declared.trace.CallRow.{CallRow}
use Rattle.clock_gate.specs.declared.trace.HostRow.{HostRow}
use Rattle.clock_gate.specs.declared.trace.Trace.{Trace}

filter_map-few : {X Y : Type 0} (h : X → Option Y) (xs : List X) → length (filter_map h xs) ≤ length xs
filter_map-few h [] = omega arith
filter_map-few {Y = Y} h (x ∷ xs) = by (h x) (filter_map h xs) (filter_map-few h xs)
  where
    by : (o : Option Y) (ys : List Y) → length ys ≤ length xs → length (cons_option o ys) ≤ length (x ∷ xs)
    by None ys few = omega (arith, few)
    by (Some y) ys few = omega (arith, few)

numbers_few : (host : List HostRow) → length (clock_numbers host) ≤ length host
unfolding clock_numbers
numbers_few host = filter_map-few clock_number host

-- the clock has no more rows than the host
pub clock_few : (trace : Trace) → IsLawfulTrace trace → length trace.clock ≤ MOST_HOST_ROWS
clock_few trace lawful =
    let numbers : length (clock_numbers trace.host) ≡ length trace.clock = ap (λ (ns : List ℕ). length ns) lawful.host.numbered ∙ length-range_with_len 1 (length trace.clock) in
    let few = numbers_few trace.host in
    let most = lawful.host_few in
    omega (arith, numbers, few, most)

larger-above : (a b : ℕ) → (a ≤ larger a b) × (b ≤ larger a b)
unfolding larger
larger-above a b = by (nat_lt a b) refl
  where
    by : (less : Bool) → nat_lt a b ≡ less → (a ≤ cond less b a) × (b ≤ cond less b a)
    by true is = (grind (arith, nat_tests, is), omega arith)
    by false is = (omega arith, grind (arith, nat_tests, is))

largest_from-least : (least : ℕ) (calls : List CallRow) → least ≤ largest_from least calls
unfolding largest_from
largest_from-least least [] = omega arith
largest_from-least least (row ∷ rest) =
    let here = larger-above least row.client in
    let more = largest_from-least (larger least row.client) rest in
    omega (arith, here.0, more)

largest_from-all : (least : ℕ) (calls : List CallRow) → All (λ (row : CallRow). row.client ≤ largest_from least calls) calls
unfolding largest_from
largest_from-all least [] = All-nil (λ (row : CallRow). row.client ≤ least)
largest_from-all least (row ∷ rest) =
    let here = larger-above least row.client in
    let more = largest_from-least (larger least row.client) rest in
    All-cons (λ (other : CallRow). other.client ≤ largest_from (larger least row.client) rest) row rest (omega (arith, here.1, more)) (largest_from-all (larger least row.client) rest)

-- no call is one of a client above the largest
pub client_most : (trace : Trace) → IsLawfulTrace trace → All (λ (row : CallRow). row.client ≤ trace.clients) trace.calls
client_most trace lawful = rw lawful.clients (largest_from-all 1 trace.calls)
