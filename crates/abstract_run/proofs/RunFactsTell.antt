-- The events of every lawful run that can run tell what is stated of them, their bases too.
use Rattle.std.proofs.Common.{◌≡◌, ℕ, zero, suc, ◌+◌, List, ◌∷◌, ◌++◌, length, Option, Some, None, refl, sym, subst, arith}
use Rattle.std.specs.Prelude.{reverse, slice_get, slice_index}
use Rattle.std.proofs.lemmas.List.{reverse-append}
use Rattle.generation_word.specs.Header.{header_of}
use Rattle.clock_gate.specs.declared.trace.Party.{Party}
use Rattle.clock_gate.specs.declared.trace.Party.TheVariants.{Host, Daemon, Client}
use Rattle.clock_gate.specs.declared.trace.Trace.{Trace}
use Rattle.vmclock_page.specs.Host.{count_of}
use Rattle.segment_layout.specs.declared.start.Start.{Start}
use Rattle.segment_layout.specs.declared.start.Start.TheVariants.{Fresh, Kept, Torn}
use Rattle.segment_layout.specs.Image.{start_of}
use Rattle.segment_run.specs.SegmentRun.{SegmentRun, segment_by}
use Rattle.segment_run.proofs.SegmentStart.{kept_number}
use Rattle.abstract_run.specs.declared.event.Event.{Event}
use Rattle.abstract_run.specs.declared.event.Event.TheVariants as events
use Rattle.abstract_run.specs.Run.{Run, turn, start, with_client, answer_events, client_turn_in}
use Rattle.abstract_run.specs.DaemonRun.{DaemonRun, daemon_turn}
use Rattle.abstract_run.specs.ClientRun as run_client
use Rattle.abstract_run.specs.ClientRun.{Answered, ClientRun, ClientTurn}
use Rattle.abstract_run.specs.RunWhole.{run_of}
use Rattle.abstract_run.specs.RunFacts.{RunsTell}
use Rattle.abstract_run.proofs.RunKeeps.{run_keeps}
use Rattle.abstract_run.proofs.RunFactsHold.{RunHolds, turn_holds, start_holds}
use Rattle.abstract_run.proofs.RunFactsBaseTurn.{Based, based_same, daemon_based}

abbrev RunBased : Trace → Run → Type 0
RunBased trace run = Based trace run.segment run.daemon (reverse run.events)

-- ---- a turn of a client makes no publication

answer_based : (trace : Trace) (segment : SegmentRun) (daemon : DaemonRun) (past : List Event) (client call : ℕ) (answered : Option Answered) → Based trace segment daemon past
    → Based trace segment daemon (reverse (answer_events client call answered) ++ past)
answer_based trace segment daemon past client call None h = h
answer_based trace segment daemon past client call (Some answered) h =
    based_same trace segment daemon past (events.Answered client call answered.answer answered.trail ∷ past) (λ n. refl) h.all h

client_based : (trace : Trace) (run : Run) (client : ℕ) (next : ClientTurn) → RunBased trace run → RunBased trace (with_client run client next)
client_based trace run client next h =
    subst (Based trace run.segment run.daemon) (sym (reverse-append run.events (answer_events client next.client.begun next.answered)))
    (answer_based trace run.segment run.daemon (reverse run.events) client next.client.begun next.answered h)

turn_in_based : (trace : Trace) (run : Run) (client : ℕ) (old : Option ClientRun) → RunBased trace run → RunBased trace (client_turn_in trace run client old)
turn_in_based trace run client None h = h
turn_in_based trace run client (Some old) h = client_based trace run client (run_client.client_turn trace run.host run.segment old) h

-- ---- the whole run

turn_based : (trace : Trace) (run : Run) (who : Party) → RunHolds trace run → RunBased trace run → RunBased trace (turn trace run who)
turn_based trace run Host holds h = h
turn_based trace run Daemon holds h =
    let next = daemon_turn trace run.host run.segment run.daemon in
    subst (Based trace next.segment next.daemon) (sym (reverse-append run.events next.events))
    (daemon_based trace run.host run.segment run.daemon (reverse run.events) h holds.daemon_holds)
turn_based trace run (Client zero) holds h = h
turn_based trace run (Client (suc place)) holds h = turn_in_based trace run (suc place) (slice_get run.clients place) h

image_known : (trace : Trace) (begins : Start) → start_of trace.image ≡ begins
    → length (segment_by trace.layout trace.image (count_of trace.page) begins).history + (segment_by trace.layout trace.image (count_of trace.page) begins).base
    ≡ (segment_by trace.layout trace.image (count_of trace.page) begins).position
image_known trace Fresh is = refl
image_known trace (Torn generation) is = omega arith
image_known trace (Kept generation rec) is =
    let number = kept_number trace.image (header_of (slice_index trace.image 1)).2 generation rec is in
    let even = number.0 in
    let some = number.1 in
    omega (arith, even, some)

start_based : (trace : Trace) → RunBased trace (start trace)
start_based trace =
    record {
      stands = record { known = image_known trace (start_of trace.image) refl; last = λ some. absurd (omega (arith, some)) };
      work = tt;
      all = tt;
    }

abbrev BothHold : Trace → Run → Type 0
BothHold trace run = RunHolds trace run × RunBased trace run

-- what the events of every trace's run tell
pub runs_tell : RunsTell
runs_tell trace can fits =
    let both : BothHold trace (run_of trace) =
    run_keeps trace (BothHold trace) (λ run who h. (turn_holds trace run who h.0, turn_based trace run who h.0 h.1)) (start trace) (start_holds trace can.lawful, start_based trace) in
    (both.0.daemon_holds.tells, both.1.all)
