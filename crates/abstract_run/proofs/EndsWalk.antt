-- After a whole run no party has a job in hand or left.
use Rattle.std.proofs.Common.{◌≡◌, ◌≢◌, ℕ, zero, suc, ◌+◌, ◌-◌, ◌*◌, ◌≤◌, Bool, true, false, List, [], ◌∷◌, ◌++◌, length, Option, Some, None, refl, sym, ap, ◌∙◌, subst, inl, inr, arith, append_assoc, append-nil}
use Rattle.std.specs.Prelude.{◌⊎◌, ◌==◌, ◌||◌, not, nat_le, nat_lt, slice_get, map, filter, All, if◌then◌else◌}
use Rattle.std.specs.List.{range_with_len}
use Rattle.std.proofs.lemmas.Bool.Decides.{nat_tests}
use Rattle.std.proofs.lemmas.List.{length-map}
use Rattle.std.proofs.lemmas.List.Elements.{All-nil, All-cons, All-head, All-tail, All-map, All-filter}
use Rattle.std.proofs.lemmas.List.Sums.{length-filter}
use Rattle.clock_gate.specs.declared.limits.TheConstants.{MOST_TRIES}
use Rattle.clock_gate.specs.declared.trace.CallRow.{CallRow}
use Rattle.clock_gate.specs.declared.trace.Party.{Party}
use Rattle.clock_gate.specs.declared.trace.Party.TheVariants.{Host, Daemon, Client}
use Rattle.clock_gate.specs.declared.trace.Trace.{Trace}
use Rattle.clock_gate.specs.Trace.{IsFrom, IsCallRow, IsLawfulTrace, same_party, times, calls_by, jobs_of}
use Rattle.abstract_run.specs.declared.limits.TheConstants.{MOST_JOB_STEPS}
use Rattle.abstract_run.specs.Schedule as schedule
use Rattle.abstract_run.specs.ClientRun as run_client
use Rattle.abstract_run.specs.ClientRun.{CallRun, ClientRun}
use Rattle.abstract_run.specs.DaemonRun.{DaemonRun}
use Rattle.abstract_run.specs.Run.{Run, turn, turns_by, start, tries_for, client_start, client_at, client_turn_in}
use Rattle.abstract_run.specs.RunWhole.{is_resting, polls_ended, has_poll, in_hand, calls_ended, has_call, jobs_ended, has_job, lines_from, run_of}
use Rattle.abstract_run.specs.RunEnds.{LinesEnd, RunsEnd}
use Rattle.abstract_run.proofs.RunClients.{other_at}
use Rattle.abstract_run.proofs.RunKeeps.{until_keeps, lines_keep}
use Rattle.abstract_run.proofs.Times.{same_itself, itself_counts, times_none, times_push}
use Rattle.abstract_run.proofs.EndsClient.{ClientEnds}
use Rattle.abstract_run.proofs.EndsDaemon.{DaemonEnds}
use Rattle.abstract_run.proofs.EndsRun.{RunEnds, calls_of, IsClientEnding, run_turned, turns_few, IsDone, until, done_by_count, done_by_rest, until_stays, until_ends}

-- ---- what a turn of one party leaves of the others

abbrev IsUntouched : Trace → Party → (old next : Run) → Type 0
IsUntouched trace who old next = (other : Party) → other ≢ who → (jobs_ended next other ≡ jobs_ended old other) × (has_job trace next other ≡ has_job trace old other)

client_untouched : (trace : Trace) (run : Run) (place : ℕ) (old : Option ClientRun) → IsUntouched trace (Client (suc place)) run (client_turn_in trace run (suc place) old)
client_untouched trace run place None other differs = (refl, refl)
client_untouched trace run place (Some old) Host differs = (refl, refl)
client_untouched trace run place (Some old) Daemon differs = (refl, refl)
client_untouched trace run place (Some old) (Client client) differs =
    let at = other_at run.clients client place (run_client.client_turn trace run.host run.segment old).client (λ same. differs (ap Client (sym same))) in
    (ap calls_ended at, ap has_call at)

turn_untouched : (trace : Trace) (run : Run) (who : Party) → IsUntouched trace who run (turn trace run who)
turn_untouched trace run Host Host differs = absurd (differs refl)
turn_untouched trace run Host Daemon differs = (refl, refl)
turn_untouched trace run Host (Client client) differs = (refl, refl)
turn_untouched trace run Daemon Host differs = (refl, refl)
turn_untouched trace run Daemon Daemon differs = absurd (differs refl)
turn_untouched trace run Daemon (Client client) differs = (refl, refl)
turn_untouched trace run (Client zero) other differs = (refl, refl)
turn_untouched trace run (Client (suc place)) other differs = client_untouched trace run place (slice_get run.clients place) other differs

-- ---- the parties of an order

same_is : (party other : Party) → same_party party other ≡ true → party ≡ other
same_is Host Host is = refl
same_is Host Daemon is = absurd (cc is)
same_is Host (Client other) is = absurd (cc is)
same_is Daemon Host is = absurd (cc is)
same_is Daemon Daemon is = refl
same_is Daemon (Client other) is = absurd (cc is)
same_is (Client client) Host is = absurd (cc is)
same_is (Client client) Daemon is = absurd (cc is)
same_is (Client client) (Client other) is = let same : client ≡ other = grind (arith, nat_tests) in ap Client same

other_is : (party other : Party) → same_party party other ≡ false → party ≢ other
other_is party other is same = cc (sym (same_itself other) ∙ subst (λ (p : Party). same_party p other ≡ false) same is)

or_either : (b c : Bool) → (b || not c) ≡ true → (b ≡ true) ⊎ (c ≡ false)
or_either true c is = inl refl
or_either false true is = absurd (cc is)
or_either false false is = inr refl

module _ (trace : Trace) (lawful : IsLawfulTrace trace) where
  one_untouched : (test : Bool) (who : Party) (run one other : Run) → IsUntouched trace who run one → IsUntouched trace who run other → IsUntouched trace who run (if test then one else other)
  one_untouched true who run one other first second = first
  one_untouched false who run one other first second = second

  until_untouched : (most : ℕ) (who : Party) (jobs : ℕ) (run : Run) → IsUntouched trace who run (until trace lawful most who jobs run)
  until_untouched zero who jobs run = λ other differs. (refl, refl)
  until_untouched (suc most) who jobs run =
      one_untouched (schedule.is_done (turn trace) jobs_ended (has_job trace) who jobs run) who run run (until trace lawful most who jobs (turn trace run who)) (λ other differs. (refl, refl))
      (λ other differs. let here = turn_untouched trace run who other differs in let later = until_untouched most who jobs (turn trace run who) other differs in (later.0 ∙ here.0, later.1 ∙ here.1))

  keeps : (run : Run) (who : Party) → RunEnds trace run → RunEnds trace (turn trace run who)
  keeps run who ends = (run_turned trace lawful run who ends).ends

  -- ---- the walk

  -- each job of a party that was walked over has ended, or the party has none left
  abbrev IsWalked : List Party → Run → Type 0
  IsWalked before run = (who : Party) → (times who before ≤ jobs_ended run who) ⊎ (has_job trace run who ≡ false)

  here_done : (before : List Party) (who : Party) (run : Run) → RunEnds trace run → (times who before ≤ jobs_ended run who) ⊎ (has_job trace run who ≡ false)
      → IsDone trace lawful who (times who before + 1) (until trace lawful MOST_JOB_STEPS who (times who before + 1) run)
  here_done before who run ends (inl many) =
      let few = turns_few trace lawful run who ends in
      until_ends trace lawful MOST_JOB_STEPS 0 who (times who before + 1) run ends (omega (arith, many)) (omega (arith, few))
  here_done before who run ends (inr quiet) =
      let done = done_by_rest trace lawful who (times who before + 1) run quiet in
      subst (IsDone trace lawful who (times who before + 1)) (sym (until_stays trace lawful MOST_JOB_STEPS who (times who before + 1) run done)) done

  walked_here : (before : List Party) (who : Party) (next : Run) → IsDone trace lawful who (times who before + 1) next → (times who (before ++ who ∷ []) ≤ jobs_ended next who) ⊎ (has_job trace next who ≡ false)
  walked_here before who next done =
      elim (or_either (nat_le (times who before + 1) (jobs_ended next who)) (has_job trace next who) done) [
        | inl many ↦ (
            let few : times who before + 1 ≤ jobs_ended next who = grind (arith, nat_tests) in
            let push = times_push who who before in
            let itself = itself_counts who in
            inl (omega (arith, few, push, itself)))
        | inr quiet ↦ inr quiet
      ]

  walked_other : (before : List Party) (who other : Party) (run next : Run) → same_party other who ≡ false → IsUntouched trace who run next → (times other before ≤ jobs_ended run other) ⊎ (has_job trace run other ≡ false)
      → (times other (before ++ who ∷ []) ≤ jobs_ended next other) ⊎ (has_job trace next other ≡ false)
  walked_other before who other run next differs untouched (inl many) =
      let push = times_push other who before in
      let none : times other before + (if same_party other who then 1 else 0) ≡ times other before + 0 = rw differs refl in
      let same = (untouched other (other_is other who differs)).0 in
      inl (omega (arith, push, none, same, many))
  walked_other before who other run next differs untouched (inr quiet) = inr ((untouched other (other_is other who differs)).1 ∙ quiet)

  walked_by : (test : Bool) (before : List Party) (who other : Party) (run next : Run) → same_party other who ≡ test → IsUntouched trace who run next → IsDone trace lawful who (times who before + 1) next
      → (times other before ≤ jobs_ended run other) ⊎ (has_job trace run other ≡ false) → (times other (before ++ who ∷ []) ≤ jobs_ended next other) ⊎ (has_job trace next other ≡ false)
  walked_by true before who other run next same untouched done walked =
      subst (λ (p : Party). (times p (before ++ who ∷ []) ≤ jobs_ended next p) ⊎ (has_job trace next p ≡ false)) (sym (same_is other who same)) (walked_here before who next done)
  walked_by false before who other run next differs untouched done walked = walked_other before who other run next differs untouched walked

  walk_ends : (before order : List Party) (run : Run) → RunEnds trace run → IsWalked before run
      → RunEnds trace (schedule.walk (turn trace) jobs_ended (has_job trace) before run order) × IsWalked (before ++ order) (schedule.walk (turn trace) jobs_ended (has_job trace) before run order)
  walk_ends before [] run ends walked = (ends, subst (λ (all : List Party). IsWalked all run) (sym (append-nil before)) walked)
  walk_ends before (who ∷ later) run ends walked =
      let next : Run = until trace lawful MOST_JOB_STEPS who (times who before + 1) run in
      let done = here_done before who run ends (walked who) in
      let after = walk_ends (before ++ who ∷ []) later next (until_keeps trace (RunEnds trace) keeps MOST_JOB_STEPS who (times who before + 1) run ends)
      (λ other. walked_by (same_party other who) before who other run next refl (until_untouched MOST_JOB_STEPS who (times who before + 1) run) done (walked other)) in
      (after.0, subst (λ (all : List Party). IsWalked all (schedule.walk (turn trace) jobs_ended (has_job trace) (before ++ who ∷ []) next later)) (append_assoc before (who ∷ []) later) after.1)

-- ---- where all were walked over

host_ended : (length_of done : ℕ) → 1 ≤ done → length_of - 1 ≤ done - 1 → nat_lt done length_of ≡ false
host_ended length_of done begun all = grind (arith, nat_tests)

daemon_ended : (rest : Bool) (trace : Trace) (daemon : DaemonRun) → is_resting daemon.work ≡ rest → DaemonEnds trace daemon → length trace.polls ≤ polls_ended daemon → has_poll trace.polls daemon ≡ false
daemon_ended true trace daemon is ends all =
    let ended : polls_ended daemon ≡ daemon.polled = rw is refl in
    let many : length trace.polls ≤ daemon.polled = omega (arith, all, ended) in
    let past : nat_lt daemon.polled (length trace.polls) ≡ false = grind (arith, nat_tests) in
    rw is past
daemon_ended false trace daemon is ends all =
    let ended : polls_ended daemon ≡ daemon.polled - 1 = rw is refl in
    let begun = ends.begun is in
    let within = ends.polled in
    absurd (omega (arith, all, ended, begun, within))

none_left : (calls : ℕ) (client : ClientRun) (call : Option CallRun) (left : List ℕ) → client.call ≡ call → client.left ≡ left → ClientEnds calls client → calls ≤ client.begun - in_hand client.call → has_call (Some client) ≡ false
none_left calls client None [] none empty ends all = rw (none, empty) refl
none_left calls client None (tries ∷ left) none some ends all =
    let count = ends.all in
    let long : length client.left ≡ length left + 1 = ap length some ∙ omega arith in
    absurd (omega (arith, all, count, long))
none_left calls client (Some call) left one some ends all =
    let at : ◌≡◌ {A = ℕ} (in_hand client.call) 1 = ap in_hand one in
    let begun = ends.begun in
    let count = ends.all in
    absurd (omega (arith, all, at, begun, count))

client_ended : (calls : ℕ) (client : Option ClientRun) → IsClientEnding calls client → calls ≤ calls_ended client → has_call client ≡ false
client_ended calls None ends all = refl
client_ended calls (Some client) ends all = none_left calls client client.call client.left refl refl ends all

calls_are : (trace : Trace) (client : ℕ) → calls_by client trace.calls ≡ calls_of trace client
unfolding calls_by
calls_are trace client =
    sym (length-filter (λ (row : CallRow). row.client == client) trace.calls)
    ∙ sym (length-map (filter (λ (row : CallRow). row.client == client) trace.calls) (λ (row : CallRow). row.tries))

party_ended : (trace : Trace) (run : Run) (who : Party) → RunEnds trace run → jobs_of trace.host trace.polls trace.calls who ≤ jobs_ended run who → has_job trace run who ≡ false
party_ended trace run Host ends all = host_ended (length trace.host) run.host.done ends.host.begun all
party_ended trace run Daemon ends all = daemon_ended (is_resting run.daemon.work) trace run.daemon refl ends.daemon all
party_ended trace run (Client client) ends all =
    let same = calls_are trace client in
    client_ended (calls_of trace client) (client_at run.clients client) (ends.clients client) (omega (arith, all, same))

-- ---- how a run begins

rows_fit : (calls : List CallRow) → All IsCallRow calls → All (λ (row : CallRow). IsFrom 1 MOST_TRIES row.tries) calls
rows_fit [] all = All-nil (λ (row : CallRow). IsFrom 1 MOST_TRIES row.tries)
rows_fit (row ∷ calls) all =
    All-cons (λ (row : CallRow). IsFrom 1 MOST_TRIES row.tries) row calls (All-head IsCallRow row calls all).tries (rows_fit calls (All-tail IsCallRow row calls all))

tries_fit : (calls : List CallRow) (client : ℕ) → All IsCallRow calls → All (IsFrom 1 MOST_TRIES) (tries_for calls client)
tries_fit calls client all =
    All-map (IsFrom 1 MOST_TRIES) (λ (row : CallRow). row.tries) (filter (λ (row : CallRow). row.client == client) calls)
    (All-filter (λ (row : CallRow). row.client == client) (λ (row : CallRow). IsFrom 1 MOST_TRIES row.tries) calls (rows_fit calls all))

client_begins : (trace : Trace) → IsLawfulTrace trace → (number : ℕ) → ClientEnds (calls_of trace number) (client_start trace.calls number)
client_begins trace lawful number = record { tries = tries_fit trace.calls number lawful.calls; call = tt; begun = omega arith; all = omega arith }

clients_begin : (trace : Trace) → IsLawfulTrace trace → (number clients place : ℕ) → IsClientEnding (calls_of trace (number + place)) (slice_get (map (client_start trace.calls) (range_with_len number clients)) place)
clients_begin trace lawful number zero place = tt
clients_begin trace lawful number (suc clients) zero =
    let same : number ≡ number + 0 = omega arith in
    subst (λ (n : ℕ). ClientEnds (calls_of trace n) (client_start trace.calls number)) same (client_begins trace lawful number)
clients_begin trace lawful number (suc clients) (suc place) =
    let same : number + 1 + place ≡ number + suc place = omega arith in
    subst (λ (n : ℕ). IsClientEnding (calls_of trace n) (slice_get (map (client_start trace.calls) (range_with_len (number + 1) clients)) place)) same (clients_begin trace lawful (number + 1) clients place)

each_begins : (trace : Trace) → IsLawfulTrace trace → (client : ℕ) → IsClientEnding (calls_of trace client) (client_at (start trace).clients client)
each_begins trace lawful zero = tt
each_begins trace lawful (suc place) =
    let same : 1 + place ≡ suc place = omega arith in
    subst (λ (n : ℕ). IsClientEnding (calls_of trace n) (slice_get (start trace).clients place)) same (clients_begin trace lawful 1 trace.clients place)

start_ends : (trace : Trace) → IsLawfulTrace trace → RunEnds trace (start trace)
start_ends trace lawful =
    record {
      host = record { begun = omega arith; stores = omega arith };
      daemon = record { work = tt; few = omega arith; begun = λ e. absurd (cc e); polled = omega arith };
      clients = each_begins trace lawful;
    }

turns_end : (trace : Trace) → IsLawfulTrace trace → (turns : List Party) (run : Run) → RunEnds trace run → RunEnds trace (turns_by trace run turns)
turns_end trace lawful [] run ends = ends
turns_end trace lawful (who ∷ later) run ends = turns_end trace lawful later (turn trace run who) (keeps trace lawful run who ends)

-- ---- the laws

none_asked : (trace : Trace) (lawful : IsLawfulTrace trace) (who : Party) (run : Run) → IsDone trace lawful who (jobs_ended run who + 0) run
none_asked trace lawful who run = done_by_count trace lawful who (jobs_ended run who + 0) run (omega arith)

pub lines_end : LinesEnd
lines_end trace turns who zero lawful =
    let run : Run = turns_by trace (start trace) turns in
    none_asked trace lawful who run
lines_end trace turns who (suc more) lawful =
    let run : Run = turns_by trace (start trace) turns in
    let ends = turns_end trace lawful turns (start trace) (start_ends trace lawful) in
    let few = turns_few trace lawful run who ends in
    until_ends trace lawful (suc more * MOST_JOB_STEPS) more who (jobs_ended run who + suc more) run ends (omega arith) (omega (arith, few))

pub runs_end : RunsEnd
runs_end trace who lawful =
    let begun = start_ends trace lawful in
    let after = lines_keep trace (RunEnds trace) (keeps trace lawful) trace.turns (start trace) begun in
    let none : IsWalked trace lawful [] (lines_from trace (start trace)) = λ other. inl (let empty = times_none other in omega (arith, empty)) in
    let walked = walk_ends trace lawful [] trace.order (lines_from trace (start trace)) after none in
    elim (walked.1 who) [
      | inl many ↦ (let all = lawful.order who in party_ended trace (run_of trace) who walked.0 (omega (arith, many, all)))
      | inr quiet ↦ quiet
    ]
