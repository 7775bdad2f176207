-- Each job of a run is run to its end: no job takes more turns than its party is given for it.
use Rattle.std.proofs.Common.{◌≡◌, ℕ, zero, suc, ◌+◌, ◌-◌, ◌*◌, ◌<◌, ◌≤◌, Bool, true, false, List, length, Option, Some, None, refl, sym, ap, ◌∙◌, subst, inl, inr, arith}
use Rattle.std.specs.Prelude.{◌⊎◌, ◌==◌, ◌||◌, not, nat_le, nat_lt, slice_get, slice_set, if◌then◌else◌}
use Rattle.std.proofs.lemmas.Bool.{cases_eq}
use Rattle.std.proofs.lemmas.Bool.Decides.{nat_tests}
use Rattle.std.proofs.lemmas.Option.{slice_get-get_or}
use Rattle.clock_gate.specs.declared.trace.HostRow.{HostRow}
use Rattle.clock_gate.specs.declared.trace.HostRow.TheVariants.{Clock, Page, Disrupt}
use Rattle.clock_gate.specs.declared.trace.Party.{Party}
use Rattle.clock_gate.specs.declared.trace.Party.TheVariants.{Host, Daemon, Client}
use Rattle.clock_gate.specs.declared.trace.Trace.{Trace}
use Rattle.clock_gate.specs.Trace.{IsLawfulTrace}
use Rattle.abstract_run.specs.declared.limits.TheConstants.{MOST_JOB_STEPS}
use Rattle.abstract_run.specs.Schedule as schedule
use Rattle.abstract_run.specs.HostRun.{HostRun, row_turn}
use Rattle.abstract_run.specs.ClientRun as run_client
use Rattle.abstract_run.specs.ClientRun.{ClientRun}
use Rattle.abstract_run.specs.Run.{Run, turn, tries_for, client_at, client_turn_in, with_client}
use Rattle.abstract_run.specs.RunWhole.{jobs_ended, has_job, calls_ended, has_call, in_hand}
use Rattle.abstract_run.proofs.RunClients.{other_at, same_at}
use Rattle.abstract_run.proofs.EndsClient as clients
use Rattle.abstract_run.proofs.EndsClient.{ClientEnds, call_left, call_few, call_some, client_turns}
use Rattle.abstract_run.proofs.EndsDaemon.{DaemonEnds, work_left, work_some, daemon_turns}

-- ---- the host

pub record HostEnds (host : HostRun) : Type 0 where
  pub begun : 1 ≤ host.done
  pub stores : host.stores ≤ 12

-- one more row has ended, or as many and there are fewer stores left
abbrev HostMoved : (ended left : ℕ) → HostRun → Type 0
HostMoved ended left next = (ended < next.done - 1) ⊎ ((next.done - 1 ≡ ended) × (13 - next.stores < left))

store_moves : (last : Bool) (host : HostRun) → (host.stores == 12) ≡ last → HostEnds host
    → HostEnds (if last then record { done = host.done + 1; stores = 0 } else record host { stores = host.stores + 1 })
    × HostMoved (host.done - 1) (13 - host.stores) (if last then record { done = host.done + 1; stores = 0 } else record host { stores = host.stores + 1 })
store_moves true host is ends = let begun = ends.begun in (record { begun = omega arith; stores = omega arith }, inl (omega (arith, begun)))
store_moves false host is ends =
    let most = ends.stores in
    let low : host.stores < 12 = grind (arith, nat_tests) in
    (record { begun = ends.begun; stores = omega (arith, low) }, inr (refl, omega (arith, low)))

row_moves : (host : HostRun) (row : HostRow) → HostEnds host → HostEnds (row_turn host (Some row)) × HostMoved (host.done - 1) (13 - host.stores) (row_turn host (Some row))
row_moves host (Clock number) ends = let begun = ends.begun in (record { begun = omega arith; stores = ends.stores }, inl (omega (arith, begun)))
row_moves host (Page words) ends = store_moves (host.stores == 12) host refl ends
row_moves host Disrupt ends = let begun = ends.begun in (record { begun = omega arith; stores = ends.stores }, inl (omega (arith, begun)))

past_last : (rows : List HostRow) (done : ℕ) → slice_get rows done ≡ None → nat_lt done (length rows) ≡ true → ⊥
past_last rows done none has =
    let low : done < length rows = grind (arith, nat_tests) in
    absurd (cc (sym none ∙ slice_get-get_or rows done Disrupt low))

host_moves : (rows : List HostRow) (host : HostRun) (row : Option HostRow) → slice_get rows host.done ≡ row → HostEnds host
    → HostEnds (row_turn host row) × (nat_lt host.done (length rows) ≡ true → HostMoved (host.done - 1) (13 - host.stores) (row_turn host row))
host_moves rows host None at ends = (ends, λ has. absurd (past_last rows host.done at has))
host_moves rows host (Some row) at ends = let both = row_moves host row ends in (both.0, λ has. both.1)

-- ---- a run

-- the calls of a client
abbrev pub calls_of : Trace → (client : ℕ) → ℕ
calls_of trace client = length (tries_for trace.calls client)

abbrev pub IsClientEnding : (calls : ℕ) → Option ClientRun → Type 0
IsClientEnding calls None = Unit {0}
IsClientEnding calls (Some client) = ClientEnds calls client

pub record RunEnds (trace : Trace) (run : Run) : Type 0 where
  pub host : HostEnds run.host
  pub daemon : DaemonEnds trace run.daemon
  pub clients : (client : ℕ) → IsClientEnding (calls_of trace client) (client_at run.clients client)

abbrev pub client_left : Option ClientRun → ℕ
client_left None = 0
client_left (Some client) = call_left client.call

-- the turns that a party's job has left at most
abbrev pub turns_left : Trace → Run → Party → ℕ
turns_left trace run Host = 13 - run.host.stores
turns_left trace run Daemon = work_left trace.tries run.daemon.work
turns_left trace run (Client client) = client_left (client_at run.clients client)

-- one more of its jobs has ended, or as many and the job has fewer turns left
abbrev pub HasMoved : Trace → Party → (old next : Run) → Type 0
HasMoved trace who old next = (jobs_ended old who < jobs_ended next who) ⊎ ((jobs_ended next who ≡ jobs_ended old who) × (turns_left trace next who < turns_left trace old who))

-- ---- a turn

moved_by : (before after : Option ClientRun) (old new : ClientRun) → before ≡ Some old → after ≡ Some new → clients.HasMoved (old.begun - in_hand old.call) (call_left old.call) new
    → (calls_ended before < calls_ended after) ⊎ ((calls_ended after ≡ calls_ended before) × (client_left after < client_left before))
moved_by before after old new was is moved = rw (was, is) moved

client_moved : (trace : Trace) (run : Run) (place : ℕ) (old : ClientRun) (next : run_client.ClientTurn) → slice_get run.clients place ≡ Some old
    → clients.HasMoved (old.begun - in_hand old.call) (call_left old.call) next.client → HasMoved trace (Client (suc place)) run (with_client run (suc place) next)
client_moved trace run place old next at moved =
    moved_by (client_at run.clients (suc place)) (client_at (slice_set run.clients (suc place - 1) next.client) (suc place)) old next.client at (same_at run.clients place old next.client at) moved

clients_end : (trace : Trace) (run : Run) (place : ℕ) (old new : ClientRun) → slice_get run.clients place ≡ Some old → ClientEnds (calls_of trace (suc place)) new
    → ((client : ℕ) → IsClientEnding (calls_of trace client) (client_at run.clients client))
    → (client : ℕ) → IsClientEnding (calls_of trace client) (client_at (slice_set run.clients (suc place - 1) new) client)
clients_end trace run place old new at ends all client =
    elim (cases_eq (suc place) client) [
      | inl same ↦
          subst (λ (n : ℕ). IsClientEnding (calls_of trace n) (client_at (slice_set run.clients (suc place - 1) new) n)) same
          (subst (IsClientEnding (calls_of trace (suc place))) (sym (same_at run.clients place old new at)) ends)
      | inr differs ↦ subst (IsClientEnding (calls_of trace client)) (sym (other_at run.clients client place new differs)) (all client)
    ]

-- a turn of a party leaves a run whose jobs end, and brings the party's job on
pub record HasTurned (trace : Trace) (who : Party) (old next : Run) : Type 0 where
  pub ends : RunEnds trace next
  pub moved : has_job trace old who ≡ true → HasMoved trace who old next

client_turned : (trace : Trace) (run : Run) (place : ℕ) (old : Option ClientRun) → slice_get run.clients place ≡ old → RunEnds trace run → HasTurned trace (Client (suc place)) run (client_turn_in trace run (suc place) old)
client_turned trace run place None at ends = record { ends = ends; moved = λ has. absurd (cc (sym (ap has_call at) ∙ has)) }
client_turned trace run place (Some old) at ends =
    let holds : ClientEnds (calls_of trace (suc place)) old = subst (IsClientEnding (calls_of trace (suc place))) at (ends.clients (suc place)) in
    let next = run_client.client_turn trace run.host run.segment old in
    let turned = client_turns trace run.host run.segment (calls_of trace (suc place)) old old.call refl holds in
    record {
      ends = record { host = ends.host; daemon = ends.daemon; clients = clients_end trace run place old next.client at turned.ends ends.clients };
      moved = λ has. client_moved trace run place old next at (turned.moved (sym (ap has_call at) ∙ has));
    }

pub run_turned : (trace : Trace) → IsLawfulTrace trace → (run : Run) (who : Party) → RunEnds trace run → HasTurned trace who run (turn trace run who)
run_turned trace lawful run Host ends =
    let both = host_moves trace.host run.host (slice_get trace.host run.host.done) refl ends.host in
    record { ends = record { host = both.0; daemon = ends.daemon; clients = ends.clients }; moved = both.1 }
run_turned trace lawful run Daemon ends =
    let both = daemon_turns trace run.host run.segment run.daemon run.daemon.work refl ends.daemon lawful.tries.0 in
    record { ends = record { host = ends.host; daemon = both.ends; clients = ends.clients }; moved = both.moved }
run_turned trace lawful run (Client zero) ends = record { ends = ends; moved = λ has. absurd (cc has) }
run_turned trace lawful run (Client (suc place)) ends = client_turned trace run place (slice_get run.clients place) refl ends

-- ---- how many turns a job takes at most

few_by : (calls : ℕ) (client : Option ClientRun) → IsClientEnding calls client → client_left client ≤ MOST_JOB_STEPS
few_by calls None ends = omega arith
few_by calls (Some client) ends = call_few calls client client.call refl ends

pub turns_few : (trace : Trace) → IsLawfulTrace trace → (run : Run) (who : Party) → RunEnds trace run → turns_left trace run who ≤ MOST_JOB_STEPS
turns_few trace lawful run Host ends = omega arith
turns_few trace lawful run Daemon ends = let few = ends.daemon.few in let most = lawful.tries.1 in omega (arith, few, most)
turns_few trace lawful run (Client client) ends = few_by (calls_of trace client) (client_at run.clients client) (ends.clients client)

some_by : (client : Option ClientRun) → has_call client ≡ true → 0 < client_left client
some_by None has = absurd (cc has)
some_by (Some client) has = call_some client.call

turns_some : (trace : Trace) (run : Run) (who : Party) → RunEnds trace run → has_job trace run who ≡ true → 0 < turns_left trace run who
turns_some trace run Host ends has = let most = ends.host.stores in omega (arith, most)
turns_some trace run Daemon ends has = work_some trace.tries run.daemon.life run.daemon.work ends.daemon.work
turns_some trace run (Client client) ends has = some_by (client_at run.clients client) has

-- ---- until a job has ended

or_true : (b : Bool) → (b || true) ≡ true
or_true true = refl
or_true false = refl

-- a test of two that fails fails both
or_false : (b c : Bool) → (b || not c) ≡ false → (b ≡ false) × (c ≡ true)
or_false true c is = absurd (cc is)
or_false false true is = (refl, refl)
or_false false false is = absurd (cc is)

module _ (trace : Trace) (lawful : IsLawfulTrace trace) where
  abbrev pub IsDone : Party → (jobs : ℕ) → Run → Type 0
  IsDone who jobs run = schedule.is_done (turn trace) jobs_ended (has_job trace) who jobs run ≡ true

  abbrev pub until : (most : ℕ) → Party → (jobs : ℕ) → Run → Run
  until most who jobs run = schedule.until_done (turn trace) jobs_ended (has_job trace) most who jobs run

  pub done_by_count : (who : Party) (jobs : ℕ) (run : Run) → jobs ≤ jobs_ended run who → IsDone who jobs run
  done_by_count who jobs run many = let test : nat_le jobs (jobs_ended run who) ≡ true = grind (arith, nat_tests) in rw test refl

  pub done_by_rest : (who : Party) (jobs : ℕ) (run : Run) → has_job trace run who ≡ false → IsDone who jobs run
  done_by_rest who jobs run quiet = rw quiet (or_true (nat_le jobs (jobs_ended run who)))

  pub until_stays : (most : ℕ) (who : Party) (jobs : ℕ) (run : Run) → IsDone who jobs run → until most who jobs run ≡ run
  until_stays zero who jobs run done = refl
  until_stays (suc most) who jobs run done = rw done refl

  -- nothing left to do in no turns
  none_left : (has : Bool) (who : Party) (jobs : ℕ) (run : Run) → has_job trace run who ≡ has → RunEnds trace run → turns_left trace run who ≤ 0 → IsDone who jobs run
  none_left true who jobs run is ends few = let some = turns_some trace run who ends is in absurd (omega (arith, some, few))
  none_left false who jobs run is ends few = done_by_rest who jobs run is

  -- so many turns are enough for the job in hand and so many more
  abbrev pub AreEnough : (most : ℕ) → Type 0
  AreEnough most =
      (more : ℕ) (who : Party) (jobs : ℕ) (run : Run) → RunEnds trace run → jobs ≤ jobs_ended run who + more + 1 → turns_left trace run who + more * MOST_JOB_STEPS ≤ most
      → IsDone who jobs (until most who jobs run)

  -- after a turn that ended a job
  ended_more : (most more : ℕ) (who : Party) (jobs : ℕ) (run next : Run) → AreEnough most → RunEnds trace next → jobs ≤ jobs_ended run who + more + 1 → jobs_ended run who < jobs_ended next who
      → turns_left trace run who + more * MOST_JOB_STEPS ≤ suc most → 0 < turns_left trace run who → IsDone who jobs (until most who jobs next)
  ended_more most zero who jobs run next enough ends few more fits some =
      let done = done_by_count who jobs next (omega (arith, few, more)) in
      subst (IsDone who jobs) (sym (until_stays most who jobs next done)) done
  ended_more most (suc left) who jobs run next enough ends few more fits some =
      let high = turns_few trace lawful next who ends in
      enough left who jobs next ends (omega (arith, few, more)) (omega (arith, high, fits, some))

  goes_on : (most more : ℕ) (who : Party) (jobs : ℕ) (run : Run) → AreEnough most → schedule.is_done (turn trace) jobs_ended (has_job trace) who jobs run ≡ false → RunEnds trace run
      → jobs ≤ jobs_ended run who + more + 1 → turns_left trace run who + more * MOST_JOB_STEPS ≤ suc most → IsDone who jobs (until most who jobs (turn trace run who))
  goes_on most more who jobs run enough open_ ends few fits =
      let has = (or_false (nat_le jobs (jobs_ended run who)) (has_job trace run who) open_).1 in
      let some = turns_some trace run who ends has in
      let turned = run_turned trace lawful run who ends in
      elim (turned.moved has) [
        | inl ended ↦ ended_more most more who jobs run (turn trace run who) enough turned.ends few ended fits some
        | inr both ↦ (let same = both.0 in let fewer = both.1 in enough more who jobs (turn trace run who) turned.ends (omega (arith, few, same)) (omega (arith, fits, fewer)))
      ]

  until_by : (done : Bool) (most more : ℕ) (who : Party) (jobs : ℕ) (run : Run) → AreEnough most → schedule.is_done (turn trace) jobs_ended (has_job trace) who jobs run ≡ done → RunEnds trace run
      → jobs ≤ jobs_ended run who + more + 1 → turns_left trace run who + more * MOST_JOB_STEPS ≤ suc most → IsDone who jobs (if done then run else until most who jobs (turn trace run who))
  until_by true most more who jobs run enough is ends few fits = is
  until_by false most more who jobs run enough is ends few fits = goes_on most more who jobs run enough is ends few fits

  pub until_ends : (most : ℕ) → AreEnough most
  until_ends zero more who jobs run ends few fits = none_left (has_job trace run who) who jobs run refl ends (omega (arith, fits))
  until_ends (suc most) more who jobs run ends few fits =
      until_by (schedule.is_done (turn trace) jobs_ended (has_job trace) who jobs run) most more who jobs run (until_ends most) refl ends few fits
