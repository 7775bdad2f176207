-- The order of a day names each job once.
use Rattle.std.proofs.Common.{◌≡◌, ◌≢◌, ◌∙◌, ℕ, zero, suc, ◌-◌, ◌≤◌, Bool, true, false, cond, List, [], ◌∷◌, ◌++◌, length, refl, sym, arith}
use Rattle.std.specs.Prelude.{◌==◌}
use Rattle.std.proofs.lemmas.Bool.{ne_eqb}
use Rattle.std.proofs.lemmas.Bool.Decides.{nat_tests}
use Rattle.std.proofs.lemmas.List.Sums.{sum_by-append}
use Rattle.clock_gate.specs.Trace.{calls_by, jobs_of, same_party, times}
use Rattle.clock_gate.specs.declared.trace.CallRow.{CallRow}
use Rattle.clock_gate.specs.declared.trace.HostRow.{HostRow}
use Rattle.clock_gate.specs.declared.trace.HostRow.TheVariants.{Clock}
use Rattle.clock_gate.specs.declared.trace.Party.{Party}
use Rattle.clock_gate.specs.declared.trace.Party.TheVariants.{Host, Daemon, Client}
use Rattle.drill_day.specs.Draws.{seconds}
use Rattle.drill_day.specs.Seconds.{calls_in, disruption, host_in, jobs_in, middle_of, poll_in, stop_second}
use Rattle.drill_day.specs.Day.{calls_of, host_of, order_of, polls_of}
use Rattle.drill_day.proofs.Adding.{IsSum, rounds_sum, same_sums, seconds_sum, sum-length}

sum-times : (party : Party) → IsSum (times party)
unfolding times
sum-times party = record { none = refl; both = λ xs ys. sum_by-append (λ (other : Party). cond (same_party party other) 1 0) xs ys }

sum-calls : (client : ℕ) → IsSum (calls_by client)
unfolding calls_by
sum-calls client = record { none = refl; both = λ xs ys. sum_by-append (λ (row : CallRow). cond (row.client == client) 1 0) xs ys }

-- the jobs of a second, by whether it is the middle and whether it is the first
abbrev jobs_by : Bool → Bool → List Party
jobs_by middle first = cond middle (Host ∷ Host ∷ []) [] ++ (cond first [] (Host ∷ []) ++ (Daemon ∷ Client 1 ∷ Client 2 ∷ Client 3 ∷ []))

one_poll : (middle first : Bool) → times Daemon (jobs_by middle first) ≡ 1
unfolding times
one_poll true true = refl
one_poll true false = refl
one_poll false true = refl
one_poll false false = refl

same_calls : (client : ℕ) (middle first : Bool) (k : ℕ) → times (Client client) (jobs_by middle first) ≡ calls_by client (calls_in k)
unfolding times calls_by
same_calls client true true k = grind (arith, nat_tests)
same_calls client true false k = grind (arith, nat_tests)
same_calls client false true k = grind (arith, nat_tests)
same_calls client false false k = grind (arith, nat_tests)

host_jobs : (middle first : Bool) (k : ℕ) → first ≡ false → times Host (jobs_by middle first) ≡ length (cond middle (disruption ++ (Clock k ∷ [])) (Clock k ∷ []))
unfolding times
host_jobs true true k is = cc
host_jobs true false k is = refl
host_jobs false true k is = cc
host_jobs false false k is = refl

later_hosts : (m k left : ℕ) → 2 ≤ k → times Host (seconds (jobs_in m) k left) ≡ length (seconds (host_in m) k left)
later_hosts m k left a =
    same_sums (times Host) (λ (rows : List HostRow). length rows) (jobs_in m) (host_in m) 2 (sum-times Host) sum-length
    (λ n low. host_jobs (n == m) (n == 1) n (ne_eqb n 1 (λ e. omega arith))) k left a

-- the first second, which isn't the middle
first_hosts : (m : ℕ) → 1 ≢ m → (times Host (jobs_in m 1) ≡ 0) × (length (host_in m 1) ≡ 1)
unfolding times
first_hosts m other = rw (ne_eqb 1 m other) (refl, refl)

host_order : (polls : ℕ) → 6 ≤ polls → times Host (order_of polls) ≡ length (host_of polls) - 1
unfolding order_of host_of seconds
host_order zero a = absurd (omega arith)
host_order (suc left) a =
    let m = middle_of (suc left) in
    let first = first_hosts m (λ (e : 1 ≡ m). omega arith) in
    let later = later_hosts m 2 left (omega arith) in
    let jobs = (sum-times Host).both (jobs_in m 1) (seconds (jobs_in m) 2 left) in
    let rows = (sum-length {X = HostRow}).both (host_in m 1) (seconds (host_in m) 2 left) in
    omega (arith, first.0, first.1, later, jobs, rows)

pub order_is : (seed polls : ℕ) → 6 ≤ polls → (party : Party) → times party (order_of polls) ≡ jobs_of (host_of polls) (polls_of seed polls) (calls_of polls) party
unfolding order_of polls_of calls_of
order_is seed polls a Host = host_order polls a
order_is seed polls a Daemon =
    seconds_sum (times Daemon) (jobs_in (middle_of polls)) 1 (sum-times Daemon) (λ k. one_poll (k == middle_of polls) (k == 1)) 1 polls
    ∙ sym (rounds_sum (λ rows. length rows) (poll_in (stop_second polls)) 1 sum-length (λ k x. refl) seed 1 polls)
order_is seed polls a (Client client) =
    same_sums (times (Client client)) (calls_by client) (jobs_in (middle_of polls)) calls_in 1 (sum-times (Client client)) (sum-calls client)
    (λ k low. same_calls client (k == middle_of polls) (k == 1) k) 1 polls (omega arith)
