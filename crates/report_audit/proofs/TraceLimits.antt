-- The limits of a lawful trace that an audit rests on.
use Rattle.std.proofs.Common.{◌≡◌, ℕ, zero, suc, Bool, true, false, ◌+◌, ◌*◌, ◌≤◌, List, [], ◌∷◌, length, get_or, length-append, refl, ap, arith}
use Rattle.std.specs.Prelude.{map, filter, ◌==◌, nat_lt, if◌then◌else◌, All}
use Rattle.std.specs.List.{range_with_len, flat_map}
use Rattle.std.proofs.lemmas.List.Elements.{All-get_or, All-from_get_or, All-head, All-tail}
use Rattle.std.proofs.lemmas.Nat.{mul-le}
use Rattle.clock_gate.proofs.Traces.{clock_few}
use Rattle.clock_gate.specs.ClockRow.{IsClock, KeepsMoments, no_row}
use Rattle.clock_gate.specs.Trace.{IsLawfulTrace, IsClockRow, IsCallRow, larger, largest_from}
use Rattle.clock_gate.specs.declared.trace.CallRow.{CallRow}
use Rattle.clock_gate.specs.declared.trace.HostRow.{HostRow}
use Rattle.clock_gate.specs.declared.trace.HostRow.TheVariants.{Clock, Page, Disrupt}
use Rattle.clock_gate.specs.declared.trace.Trace.{Trace}
use Rattle.lawful_report.specs.Calls.{calls_of, calls_of_client, numbered_from}
use Rattle.lawful_report.specs.Pages.{last_page, row_markers}

weaken : {X : Type 0} (P Q : X → Type 0) (xs : List X) (d : X) → ((x : X) → P x → Q x) → All P xs → All Q xs
weaken P Q xs d imp all = All-from_get_or Q xs d (λ i lt. imp (get_or xs i d) (All-get_or P xs i d lt all))

pub clock_of_trace : (trace : Trace) → IsLawfulTrace trace → IsClock trace.clock
clock_of_trace trace lawful = weaken IsClockRow KeepsMoments trace.clock no_row (λ row is. (is.mono, is.real)) lawful.clock

pub rows_few : (trace : Trace) → IsLawfulTrace trace → length trace.clock ≤ 300000
rows_few trace lawful = clock_few trace lawful

markers_few : (host : List HostRow) → length (row_markers host) ≤ length host
markers_few [] = omega arith
markers_few (Clock number ∷ rows) = omega (arith, markers_few rows)
markers_few (Page words ∷ rows) = omega (arith, markers_few rows)
markers_few (Disrupt ∷ rows) = omega (arith, markers_few rows)

pub pages_few : (trace : Trace) → IsLawfulTrace trace → last_page trace ≤ 300000
pages_few trace lawful = omega (arith, markers_few trace.host, lawful.host_few)

-- ---- the calls

numbered_length : (client number : ℕ) (tries : List ℕ) → length (numbered_from client number tries) ≡ length tries
numbered_length client number [] = refl
numbered_length client number (one ∷ later) = ap suc (numbered_length client (number + 1) later)

taken_few : (row : CallRow) (rest : List CallRow) (takes : Bool) (most : ℕ) → length (map (λ (r : CallRow). r.tries) rest) ≤ most → length (map (λ (r : CallRow). r.tries) (if takes then row ∷ rest else rest)) ≤ suc most
taken_few row rest true most few = omega (arith, few)
taken_few row rest false most few = omega (arith, few)

filtered_few : (p : CallRow → Bool) (rows : List CallRow) → length (map (λ (row : CallRow). row.tries) (filter p rows)) ≤ length rows
filtered_few p [] = omega arith
filtered_few p (row ∷ rows) = taken_few row (filter p rows) (p row) (length rows) (filtered_few p rows)

client_few : (calls : List CallRow) (client : ℕ) → length (calls_of_client calls client) ≤ length calls
client_few calls client =
    omega (arith, numbered_length client 1 (map (λ (row : CallRow). row.tries) (filter (λ (row : CallRow). row.client == client) calls)), filtered_few (λ (row : CallRow). row.client == client) calls)

clients_few : (calls : List CallRow) (from count : ℕ) → length (flat_map (calls_of_client calls) (range_with_len from count)) ≤ count * length calls
clients_few calls from zero = omega arith
clients_few calls from (suc count) =
    let whole = length-append (calls_of_client calls from) (flat_map (calls_of_client calls) (range_with_len (from + 1) count)) in
    let here = client_few calls from in
    let rest = clients_few calls (from + 1) count in
    grind (arith, whole, here, rest)

one_most : (a b most : ℕ) (less : Bool) → a ≤ most → b ≤ most → (if less then b else a) ≤ most
one_most a b most true one two = two
one_most a b most false one two = one

larger_most : (a b most : ℕ) → a ≤ most → b ≤ most → larger a b ≤ most
unfolding larger
larger_most a b most one two = one_most a b most (nat_lt a b) one two

largest_most : (least most : ℕ) (calls : List CallRow) → least ≤ most → All (λ (row : CallRow). row.client ≤ most) calls → largest_from least calls ≤ most
unfolding largest_from
largest_most least most [] le all = le
largest_most least most (row ∷ rest) le all = largest_most (larger least row.client) most rest (larger_most least row.client most le (All-head (λ (r : CallRow). r.client ≤ most) row rest all)) (All-tail (λ (r : CallRow). r.client ≤ most) row rest all)

no_call : CallRow
no_call = record { client = 0; tries = 0 }

pub clients_most : (trace : Trace) → IsLawfulTrace trace → trace.clients ≤ 64
clients_most trace lawful =
    let all : All (λ (row : CallRow). row.client ≤ 64) trace.calls = weaken IsCallRow (λ (row : CallRow). row.client ≤ 64) trace.calls no_call (λ row is. is.client.1) lawful.calls in
    omega (arith, lawful.clients, largest_most 1 64 trace.calls (omega arith) all)

pub calls_few : (trace : Trace) → IsLawfulTrace trace → length (calls_of trace) ≤ 19200000
calls_few trace lawful =
    omega (arith, clients_few trace.calls 1 trace.clients, mul-le trace.clients (length trace.calls) 64 300000 (clients_most trace lawful) lawful.calls_few)
