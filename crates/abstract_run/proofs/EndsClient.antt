-- Each turn of a client with a call in hand or left brings this call nearer to its end.
use Rattle.std.proofs.Common.{◌≡◌, ℕ, ◌+◌, ◌-◌, ◌*◌, ◌<◌, ◌≤◌, true, false, List, [], ◌∷◌, length, Option, Some, None, Result, Ok, Err, refl, sym, ap, ◌∙◌, subst, inl, inr, arith}
use Rattle.std.specs.Prelude.{◌⊎◌, All}
use Rattle.std.proofs.lemmas.List.Elements.{All-head, All-tail}
use Rattle.clock_gate.specs.declared.trace.Trace.{Trace}
use Rattle.clock_gate.specs.Trace.{IsFrom}
use Rattle.clock_gate.specs.declared.limits.TheConstants.{MOST_TRIES}
use Rattle.clock_gate.specs.ClockRow.{row_at}
use Rattle.vmclock_page.specs.Host.{count_of}
use Rattle.segment_run.specs.SegmentRun.{SegmentRun}
use Rattle.interval_now.specs.declared.answers.Interval.{Interval}
use Rattle.interval_now.specs.declared.answers.Causality.{Causality}
use Rattle.interval_now.specs.Interval.{interval_of}
use Rattle.abstract_run.specs.declared.limits.TheConstants.{MOST_JOB_STEPS}
use Rattle.abstract_run.specs.HostRun.{HostRun, clocks_at, page_shown, marker_of, sequence_of}
use Rattle.abstract_run.specs.PageReading.{PageAfter, Looks, Saw, Missed, page_load}
use Rattle.abstract_run.specs.DaemonRun.{marked_by}
use Rattle.abstract_run.specs.PageReading.{is_marker_next}
use Rattle.abstract_run.specs.ClientRun.{SegmentAfter, Reads, IsWhole, Unpublished, AllFailed, segment_load, segment_reading, Clocked, CallStage, Reading, Clocking, Paging, CallAfter, Goes, Answers, CallRun, ClientRun, timed, call_ends, after_segment, clock_by, after_page, call_step, after_step, client_begins, client_turn_by}
use Rattle.abstract_run.specs.RunWhole.{in_hand, has_call}
use Rattle.abstract_run.proofs.EndsPage.{page_left, IsPageNearer, page_nearer, page_some, segment_left, IsSegmentNearer, segment_nearer, segment_some}

-- ---- a call

-- the loads that a call has left at most
abbrev pub stage_left : (tries : ℕ) → CallStage → ℕ
stage_left tries (Reading reading) = segment_left reading + (3 * tries + 1)
stage_left tries (Clocking read) = 3 * tries + 1
stage_left tries (Paging clocked reading mark_at) = page_left reading

-- it goes on with fewer left, or it has answered
abbrev IsCallNearer : (tries before : ℕ) → CallAfter → Type 0
IsCallNearer tries before (Goes stage) = stage_left tries stage < before
IsCallNearer tries before (Answers answered) = Unit {0}

after_segment_nearer : (tries before : ℕ) (after : SegmentAfter) → 0 < before → IsSegmentNearer before after → IsCallNearer tries (before + (3 * tries + 1)) (after_segment tries after)
after_segment_nearer tries before (Reads reading) some nearer = omega (arith, nearer)
after_segment_nearer tries before (IsWhole read) some nearer = omega (arith, some)
after_segment_nearer tries before Unpublished some nearer = tt
after_segment_nearer tries before (AllFailed first last) some nearer = tt

timed_nearer : (tries before : ℕ) (clocked : Clocked) (sequence mark_at : ℕ) (found : Result Interval Causality) → IsCallNearer tries before (timed clocked sequence mark_at found)
timed_nearer tries before clocked sequence mark_at (Ok interval) = tt
timed_nearer tries before clocked sequence mark_at (Err causality) = tt

ends_nearer : (trace : Trace) (tries before : ℕ) (clocked : Clocked) (marker : Option ℕ) (sequence mark_at : ℕ) → IsCallNearer tries before (call_ends trace clocked marker sequence mark_at)
ends_nearer trace tries before clocked marker sequence mark_at =
    timed_nearer tries before clocked sequence mark_at (interval_of clocked.read.rec (row_at trace.clock clocked.row).mono (row_at trace.clock clocked.row).real marker)

clock_nearer : (trace : Trace) (tries : ℕ) (clocked : Clocked) (page : Option (List ℕ)) → 0 < tries → IsCallNearer tries (3 * tries + 1) (clock_by trace tries clocked page)
clock_nearer trace tries clocked None some = ends_nearer trace tries (3 * tries + 1) clocked None 0 clocked.clock_at
clock_nearer trace tries clocked (Some page) some = omega (arith, some)

after_page_nearer : (trace : Trace) (tries before : ℕ) (clocked : Clocked) (mark_at : ℕ) (after : PageAfter) → IsPageNearer before after → IsCallNearer tries before (after_page trace clocked mark_at after)
after_page_nearer trace tries before clocked mark_at (Looks reading) nearer = nearer
after_page_nearer trace tries before clocked mark_at (Saw page) nearer =
    ends_nearer trace tries before clocked (Some (marker_of trace.page trace.host page)) (sequence_of (count_of trace.page) (record { page = page; is_writing = false })) mark_at
after_page_nearer trace tries before clocked mark_at (Missed first last) nearer = tt

step_nearer : (trace : Trace) (host : HostRun) (segment : SegmentRun) (tries : ℕ) (stage : CallStage) → 0 < tries → IsCallNearer tries (stage_left tries stage) (call_step trace host segment tries stage)
step_nearer trace host segment tries (Reading reading) some =
    after_segment_nearer tries (segment_left reading) (segment_load segment reading) (segment_some reading reading.try) (segment_nearer segment reading reading.try)
step_nearer trace host segment tries (Clocking read) some =
    clock_nearer trace tries (record { read = read; row = clocks_at trace.host host.done; clock_at = host.done }) trace.page some
step_nearer trace host segment tries (Paging clocked reading mark_at) some =
    after_page_nearer trace tries (page_left reading) clocked (marked_by (is_marker_next reading.try) host.done mark_at)
    (page_load (count_of trace.page) (page_shown trace.host host) reading) (page_nearer (count_of trace.page) (page_shown trace.host host) reading reading.try)

-- a call in hand has a load left
stage_some : (tries : ℕ) (stage : CallStage) → 0 < stage_left tries stage
stage_some tries (Reading reading) = omega arith
stage_some tries (Clocking read) = omega arith
stage_some tries (Paging clocked reading mark_at) = page_some reading reading.try

-- ---- a client

-- its tries are such as a call may have, and no more loads are left than a job may take turns
pub record CallEnds (call : CallRun) : Type 0 where
  pub tries : IsFrom 1 MOST_TRIES call.tries
  pub few : stage_left call.tries call.stage ≤ MOST_JOB_STEPS

abbrev pub InHandEnds : Option CallRun → Type 0
InHandEnds None = Unit {0}
InHandEnds (Some call) = CallEnds call

-- it has so many calls: those that were begun, and those that are left
pub record ClientEnds (calls : ℕ) (client : ClientRun) : Type 0 where
  pub tries : All (IsFrom 1 MOST_TRIES) client.left
  pub call : InHandEnds client.call
  pub begun : in_hand client.call ≤ client.begun
  pub all : client.begun + length client.left ≡ calls

-- the turns that its job has left at most
abbrev pub call_left : Option CallRun → ℕ
call_left None = MOST_JOB_STEPS
call_left (Some call) = stage_left call.tries call.stage

pub call_few : (calls : ℕ) (client : ClientRun) (call : Option CallRun) → client.call ≡ call → ClientEnds calls client → call_left call ≤ MOST_JOB_STEPS
call_few calls client None same ends = omega arith
call_few calls client (Some call) same ends = let holds : CallEnds call = subst InHandEnds same ends.call in holds.few

pub call_some : (call : Option CallRun) → 0 < call_left call
call_some None = omega arith
call_some (Some call) = stage_some call.tries call.stage

-- one more of its calls has ended, or as many and it has fewer turns left
abbrev pub HasMoved : (ended left : ℕ) → ClientRun → Type 0
HasMoved ended left next = (ended < next.begun - in_hand next.call) ⊎ ((next.begun - in_hand next.call ≡ ended) × (call_left next.call < left))

after_ends : (calls : ℕ) (client : ClientRun) (tries left : ℕ) (after : CallAfter) → IsFrom 1 MOST_TRIES tries → All (IsFrom 1 MOST_TRIES) client.left → 1 ≤ client.begun
    → client.begun + length client.left ≡ calls → left ≤ MOST_JOB_STEPS → IsCallNearer tries left after
    → ClientEnds calls (after_step client tries after).client × HasMoved (client.begun - 1) left (after_step client tries after).client
after_ends calls client tries left (Goes stage) fits all begun count few nearer =
    (record { tries = all; call = record { tries = fits; few = omega (arith, nearer, few) }; begun = begun; all = count }, inr (refl, nearer))
after_ends calls client tries left (Answers answered) fits all begun count few nearer =
    (record { tries = all; call = tt; begun = omega arith; all = count }, inl (omega (arith, begun)))

begins_ends : (trace : Trace) (host : HostRun) (segment : SegmentRun) (calls : ℕ) (client : ClientRun) (tries : ℕ) (left : List ℕ) → client.call ≡ None → client.left ≡ tries ∷ left → ClientEnds calls client
    → ClientEnds calls (client_begins trace host segment client (tries ∷ left)).client
    × HasMoved (client.begun - in_hand client.call) (call_left client.call) (client_begins trace host segment client (tries ∷ left)).client
begins_ends trace host segment calls client tries left none some ends =
    let all : All (IsFrom 1 MOST_TRIES) (tries ∷ left) = subst (All (IsFrom 1 MOST_TRIES)) some ends.tries in
    let fits : IsFrom 1 MOST_TRIES tries = All-head (IsFrom 1 MOST_TRIES) tries left all in
    let later : All (IsFrom 1 MOST_TRIES) left = All-tail (IsFrom 1 MOST_TRIES) tries left all in
    let count : client.begun + length client.left ≡ calls = ends.all in
    let long : length client.left ≡ length left + 1 = ap length some ∙ omega arith in
    let low : 1 ≤ tries = fits.0 in
    let high : tries ≤ MOST_TRIES = fits.1 in
    let at : ◌≡◌ {A = ℕ} (in_hand client.call) 0 = ap in_hand none in
    let whole : call_left client.call ≡ MOST_JOB_STEPS = ap call_left none in
    let moved = after_ends calls (record client { left = left; begun = client.begun + 1 }) tries (stage_left tries (Reading (segment_reading tries)))
    (call_step trace host segment tries (Reading (segment_reading tries))) fits later (omega arith) (omega (arith, count, long)) (omega (arith, low, high))
    (step_nearer trace host segment tries (Reading (segment_reading tries)) low) in (
      moved.0,
      elim moved.1 [
        | inl more ↦ inl (omega (arith, more, at))
        | inr fewer ↦ inr (let same = fewer.0 in omega (arith, same, at), let nearer = fewer.1 in omega (arith, nearer, whole, low, high))
      ],
    )

-- where a client has a job, a turn brings it on
pub record HasTurned (calls : ℕ) (old next : ClientRun) : Type 0 where
  pub ends : ClientEnds calls next
  pub moved : has_call (Some old) ≡ true → HasMoved (old.begun - in_hand old.call) (call_left old.call) next

begins_by : (trace : Trace) (host : HostRun) (segment : SegmentRun) (calls : ℕ) (client : ClientRun) (left : List ℕ) → client.call ≡ None → client.left ≡ left → ClientEnds calls client
    → HasTurned calls client (client_begins trace host segment client left).client
begins_by trace host segment calls client [] none empty ends =
    let quiet : has_call (Some client) ≡ false = rw (none, empty) refl in
    record { ends = ends; moved = λ has. absurd (cc (sym quiet ∙ has)) }
begins_by trace host segment calls client (tries ∷ left) none some ends =
    let both = begins_ends trace host segment calls client tries left none some ends in
    record { ends = both.0; moved = λ has. both.1 }

pub client_turns : (trace : Trace) (host : HostRun) (segment : SegmentRun) (calls : ℕ) (client : ClientRun) (call : Option CallRun) → client.call ≡ call → ClientEnds calls client
    → HasTurned calls client (client_turn_by trace host segment client call).client
client_turns trace host segment calls client None none ends = begins_by trace host segment calls client client.left none refl ends
client_turns trace host segment calls client (Some call) same ends =
    let holds : CallEnds call = subst InHandEnds same ends.call in
    let one : ◌≡◌ {A = ℕ} (in_hand client.call) 1 = ap in_hand same in
    let begun : in_hand client.call ≤ client.begun = ends.begun in
    let both = after_ends calls client call.tries (stage_left call.tries call.stage) (call_step trace host segment call.tries call.stage) holds.tries ends.tries (omega (arith, begun, one)) ends.all holds.few
    (step_nearer trace host segment call.tries call.stage holds.tries.0) in
    record {
      ends = both.0;
      moved = λ has. subst (λ (c : Option CallRun). HasMoved (client.begun - in_hand c) (call_left c) (client_turn_by trace host segment client (Some call)).client) (sym same) both.1;
    }
