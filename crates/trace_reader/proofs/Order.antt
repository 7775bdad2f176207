-- The order of jobs, after one line more.
use Rattle.std.proofs.Common.{◌≡◌, ◌∙◌, ◌<◌, ◌+◌, ℕ, true, false, cond, List, [], ◌∷◌, ◌++◌, length, refl, arith}
use Rattle.std.specs.Prelude.{◌==◌}
use Rattle.std.proofs.lemmas.Bool.Decides.{nat_tests}
use Rattle.std.proofs.lemmas.List.{length-append}
use Rattle.std.proofs.lemmas.List.Sums.{sum_by_push}
use Rattle.clock_gate.specs.Trace.{calls_by, jobs_of, same_party, times}
use Rattle.clock_gate.specs.declared.trace.CallRow.{CallRow}
use Rattle.clock_gate.specs.declared.trace.HostRow.{HostRow}
use Rattle.clock_gate.specs.declared.trace.Party.{Party}
use Rattle.clock_gate.specs.declared.trace.Party.TheVariants as parties
use Rattle.clock_gate.specs.declared.trace.PollRow.{PollRow}

-- the order names each job
abbrev pub Names : List HostRow → List PollRow → List CallRow → List Party → Type 0
Names host polls calls order = (party : Party) → times party order ≡ jobs_of host polls calls party

times_more : (party other : Party) (order : List Party) → times party (order ++ other ∷ []) ≡ times party order + cond (same_party party other) 1 0
unfolding times
times_more party other order = sum_by_push (λ (x : Party). cond (same_party party x) 1 0) order other

calls_more : (client : ℕ) (call : CallRow) (calls : List CallRow) → calls_by client (calls ++ call ∷ []) ≡ calls_by client calls + cond (call.client == client) 1 0
unfolding calls_by
calls_more client call calls = sum_by_push (λ (x : CallRow). cond (x.client == client) 1 0) calls call

no_more : (party other : Party) (order : List Party) → same_party party other ≡ false → times party (order ++ other ∷ []) ≡ times party order
no_more party other order apart = let more = times_more party other order in rw (more, apart) (omega arith)

one_more : (party other : Party) (order : List Party) → same_party party other ≡ true → times party (order ++ other ∷ []) ≡ times party order + 1
one_more party other order same = rw (times_more party other order, same) refl

-- a row of the host that isn't the first
pub names_host : (host : List HostRow) (polls : List PollRow) (calls : List CallRow) (order : List Party) (row : HostRow) → 0 < length host
    → Names host polls calls order → Names (host ++ row ∷ []) polls calls (order ++ parties.Host ∷ [])
names_host host polls calls order row some names parties.Host =
    let longer = length-append host (row ∷ []) in
    let was = names parties.Host in
    let more = one_more parties.Host parties.Host order refl in
    omega (arith, some, longer, was, more)
names_host host polls calls order row some names parties.Daemon = no_more parties.Daemon parties.Host order refl ∙ names parties.Daemon
names_host host polls calls order row some names (parties.Client client) = no_more (parties.Client client) parties.Host order refl ∙ names (parties.Client client)

-- the first row
pub names_first : (polls : List PollRow) (calls : List CallRow) (order : List Party) (row : HostRow) → Names [] polls calls order → Names (row ∷ []) polls calls order
names_first polls calls order row names parties.Host = names parties.Host
names_first polls calls order row names parties.Daemon = names parties.Daemon
names_first polls calls order row names (parties.Client client) = names (parties.Client client)

pub names_poll : (host : List HostRow) (polls : List PollRow) (calls : List CallRow) (order : List Party) (row : PollRow)
    → Names host polls calls order → Names host (polls ++ row ∷ []) calls (order ++ parties.Daemon ∷ [])
names_poll host polls calls order row names parties.Host = no_more parties.Host parties.Daemon order refl ∙ names parties.Host
names_poll host polls calls order row names parties.Daemon =
    let longer = length-append polls (row ∷ []) in
    let was = names parties.Daemon in
    let more = one_more parties.Daemon parties.Daemon order refl in
    omega (arith, longer, was, more)
names_poll host polls calls order row names (parties.Client client) = no_more (parties.Client client) parties.Daemon order refl ∙ names (parties.Client client)

pub names_call : (host : List HostRow) (polls : List PollRow) (calls : List CallRow) (order : List Party) (row : CallRow)
    → Names host polls calls order → Names host polls (calls ++ row ∷ []) (order ++ parties.Client row.client ∷ [])
names_call host polls calls order row names parties.Host = no_more parties.Host (parties.Client row.client) order refl ∙ names parties.Host
names_call host polls calls order row names parties.Daemon = no_more parties.Daemon (parties.Client row.client) order refl ∙ names parties.Daemon
names_call host polls calls order row names (parties.Client client) =
    let same : (client == row.client) ≡ (row.client == client) = turned client row.client in
    rw (times_more (parties.Client client) (parties.Client row.client) order, calls_more client row calls, same, names (parties.Client client)) refl
  where
    turned : (a b : ℕ) → (a == b) ≡ (b == a)
    turned a b = grind (arith, nat_tests)
