-- One load of a call, and one turn of a client: the tries that are not left have failed.
use Rattle.std.proofs.Common.{◌≡◌, ◌≢◌, ℕ, ◌+◌, ◌-◌, ◌≤◌, ◌<◌, Bool, true, false, List, [], ◌∷◌, ◌++◌, length, Option, Some, None, Result, Ok, Err, refl, sym, ◌∙◌, subst, arith, inl, inr}
use Rattle.std.specs.Prelude.{◌⊎◌, not, ◌||◌, ◌==◌, nat_le, nat_lt, if◌then◌else◌}
use Rattle.std.proofs.lemmas.Bool.{cases_eq}
use Rattle.std.proofs.lemmas.Bool.Decides.{nat_tests}
use Rattle.clock_gate.specs.declared.trace.Trace.{Trace}
use Rattle.clock_gate.specs.ClockRow.{row_at}
use Rattle.vmclock_page.specs.Host.{count_of}
use Rattle.segment_layout.specs.History.{last_store}
use Rattle.segment_run.specs.SegmentRun.{SegmentRun, header_shown, number_shown, number_at}
use Rattle.interval_now.specs.declared.answers.Interval.{Interval}
use Rattle.interval_now.specs.declared.answers.Causality.{Causality}
use Rattle.interval_now.specs.declared.answers.Answer.{Answer}
use Rattle.interval_now.specs.declared.answers.Answer.TheVariants as answers
use Rattle.interval_now.specs.Interval.{interval_of}
use Rattle.abstract_run.specs.HostRun.{HostRun, clocks_at, page_shown, marker_of, sequence_of}
use Rattle.abstract_run.specs.PageReading.{PageAfter, Looks, Saw, Missed, page_load, is_marker_next}
use Rattle.abstract_run.specs.DaemonRun.{marked_by}
use Rattle.abstract_run.specs.ClientRun as run_client
use Rattle.abstract_run.specs.ClientRun.{SegmentTry, SegmentReading, Reads, IsWhole, Unpublished, AllFailed, segment_try_fails, segment_last_load, segment_load_by, segment_reading, Clocked, CallStage, Reading, Clocking, Paging, Answered, CallAfter, Goes, Answers, CallRun, ClientRun}
use Rattle.abstract_run.specs.NextLoad.{next_call, begun_read, read_at, next_read, first_number}

-- ---- one load of a call: the tries that are not left have failed

-- the next load fails the try
abbrev pub FailsLoad : SegmentRun → Option SegmentTry → Type 0
FailsLoad segment None = segment.is_writing ≡ true
FailsLoad segment (Some try) = (8 ≤ length try.seen) × ((segment.is_writing ≡ true) ⊎ (header_shown segment ≢ try.header))

-- this holds by some numbers
abbrev pub Once : (Holds : (first last : ℕ) → Type 0) → Type 0
Once Holds = (first : ℕ) × ((last : ℕ) × Holds first last)

-- this holds of each try of so many that is not left
abbrev pub AllBut : (Has : (left first last : ℕ) → Type 0) → (tries left : ℕ) → Type 0
AllBut Has tries left = (one : ℕ) → left < one → one ≤ tries → Once (Has one)

-- the next load may fail the try in hand: then this holds of it, and one was left
abbrev pub Owns : (Has : (left first last : ℕ) → Type 0) → SegmentRun → (left : ℕ) → Option SegmentTry → Type 0
Owns Has segment left try = FailsLoad segment try → (0 < left) × Has left (first_number segment try) (number_shown segment)

abbrev pub AllIn : (Has : (left first last : ℕ) → Type 0) → CallStage → (tries : ℕ) → Type 0
AllIn Has (Reading reading) tries = AllBut Has tries reading.left
AllIn Has (Clocking read) tries = Unit {0}
AllIn Has (Paging clocked reading mark_at) tries = Unit {0}

abbrev pub AllOf : (Has : (left first last : ℕ) → Type 0) → Answer → Type 0
AllOf Has (answers.Busy tries first last) = AllBut Has tries 0 × Has 1 first last
AllOf Has (answers.Time time) = Unit {0}
AllOf Has answers.NotInitialized = Unit {0}
AllOf Has (answers.PageBusy first last) = Unit {0}
AllOf Has (answers.Causality causality) = Unit {0}

abbrev AllAfter : (Has : (left first last : ℕ) → Type 0) → CallAfter → (tries : ℕ) → Type 0
AllAfter Has (Goes stage) tries = AllIn Has stage tries
AllAfter Has (Answers answered) tries = AllOf Has answered.answer

module _ (Has : (left first last : ℕ) → Type 0) (tries : ℕ) where
  -- the try in hand failed too
  one_less : (left less : ℕ) → left ≤ less + 1 → AllBut Has tries left → Once (Has left) → AllBut Has tries less
  one_less left less near all own one more most =
      elim (cases_eq left one) [
        | inl same ↦ subst (λ (n : ℕ). Once (Has n)) same own
        | inr differs ↦ all one (omega (arith, near, more, differs)) most
      ]

  fails_by : (left first last : ℕ) (few : Bool) → nat_le left 1 ≡ few → AllBut Has tries left → (0 < left) × Has left first last
      → AllAfter Has (run_client.after_segment tries (if few then AllFailed first last else Reads (record { left = left - 1; try = None }))) tries
  fails_by left first last true test all own =
      let few : left ≤ 1 = grind (arith, nat_tests) in
      let some = own.0 in
      let one : left ≡ 1 = omega (arith, few, some) in
      (one_less left 0 (omega (arith, few)) all (first, (last, own.1)), subst (λ (n : ℕ). Has n first last) one own.1)
  fails_by left first last false test all own = one_less left (left - 1) (omega arith) all (first, (last, own.1))

  fails_all : (reading : SegmentReading) (first last : ℕ) → AllBut Has tries reading.left → (0 < reading.left) × Has reading.left first last → AllAfter Has (run_client.after_segment tries (segment_try_fails reading first last)) tries
  fails_all reading first last all own = fails_by reading.left first last (nat_le reading.left 1) refl all own

  module _ (segment : SegmentRun) where
    first_by : (reading : SegmentReading) (writes none : Bool) → AllBut Has tries reading.left → (writes ≡ true → (0 < reading.left) × Has reading.left (number_shown segment) (number_shown segment))
        → AllAfter Has (run_client.after_segment tries
        (if writes then segment_try_fails reading (number_shown segment) (number_shown segment) else if none then Unpublished
        else Reads (record reading { try = Some (record { from = segment.position; header = header_shown segment; seen = [] }) }))) tries
    first_by reading true none all own = fails_all reading (number_shown segment) (number_shown segment) all (own refl)
    first_by reading false true all own = tt
    first_by reading false false all own = all

    changed : (writes same : Bool) → (writes || not same) ≡ true → (writes ≡ true) ⊎ (same ≡ false)
    changed true same test = inl refl
    changed false true test = absurd (cc test)
    changed false false test = inr refl

    differs_by : (one other : ℕ) → (one == other) ≡ false → one ≢ other
    differs_by one other test same = (let equal : (one == other) ≡ true = grind (arith, nat_tests, same) in absurd (cc (sym equal ∙ test)))

    changed_is : (try : SegmentTry) → (segment.is_writing || not (header_shown segment == try.header)) ≡ true → (segment.is_writing ≡ true) ⊎ (header_shown segment ≢ try.header)
    changed_is try test =
        elim (changed segment.is_writing (header_shown segment == try.header) test) [
          | inl writes ↦ inl writes
          | inr other ↦ inr (differs_by (header_shown segment) try.header other)
        ]

    last_by : (reading : SegmentReading) (try : SegmentTry) (fails : Bool) → AllBut Has tries reading.left → (fails ≡ true → (0 < reading.left) × Has reading.left (number_at segment try.from) (number_shown segment))
        → AllAfter Has (run_client.after_segment tries
        (if fails then segment_try_fails reading (number_at segment try.from) (number_shown segment)
        else IsWhole (record { generation = number_at segment try.from; rec = run_client.record_read segment try; position = try.from; inside = segment.position - try.from }))) tries
    last_by reading try true all own = fails_all reading (number_at segment try.from) (number_shown segment) all (own refl)
    last_by reading try false all own = tt

    try_by : (reading : SegmentReading) (try : SegmentTry) (below : Bool) → nat_lt (length try.seen) 8 ≡ below → AllBut Has tries reading.left → Owns Has segment reading.left (Some try)
        → AllAfter Has (run_client.after_segment tries
        (if below then Reads (record reading { try = Some (record try { seen = try.seen ++ last_store segment.image segment.begun (2 + length try.seen) ∷ [] }) })
        else segment_last_load segment reading try)) tries
    try_by reading try true test all own = all
    try_by reading try false test all own =
        let full : 8 ≤ length try.seen = grind (arith, nat_tests) in
        last_by reading try (segment.is_writing || not (header_shown segment == try.header)) all (λ fails. own (full, changed_is try fails))

    load_by : (reading : SegmentReading) (try : Option SegmentTry) → AllBut Has tries reading.left → Owns Has segment reading.left try
        → AllAfter Has (run_client.after_segment tries (segment_load_by segment reading try)) tries
    load_by reading None all own = first_by reading segment.is_writing (segment.position == 0) all own
    load_by reading (Some try) all own = try_by reading try (nat_lt (length try.seen) 8) refl all own

  module _ (trace : Trace) (host : HostRun) (segment : SegmentRun) where
    timed_all : (clocked : Clocked) (sequence mark_at : ℕ) (found : Result Interval Causality) → AllAfter Has (run_client.timed clocked sequence mark_at found) tries
    timed_all clocked sequence mark_at (Ok interval) = tt
    timed_all clocked sequence mark_at (Err causality) = tt

    ends_all : (clocked : Clocked) (marker : Option ℕ) (sequence mark_at : ℕ) → AllAfter Has (run_client.call_ends trace clocked marker sequence mark_at) tries
    ends_all clocked marker sequence mark_at =
        timed_all clocked sequence mark_at (interval_of clocked.read.rec (row_at trace.clock clocked.row).mono (row_at trace.clock clocked.row).real marker)

    clock_all : (clocked : Clocked) (page : Option (List ℕ)) → AllAfter Has (run_client.clock_by trace tries clocked page) tries
    clock_all clocked None = ends_all clocked None 0 clocked.clock_at
    clock_all clocked (Some page) = tt

    page_all : (clocked : Clocked) (mark_at : ℕ) (after : PageAfter) → AllAfter Has (run_client.after_page trace clocked mark_at after) tries
    page_all clocked mark_at (Looks reading) = tt
    page_all clocked mark_at (Saw page) =
        ends_all clocked (Some (marker_of trace.page trace.host page)) (sequence_of (count_of trace.page) (record { page = page; is_writing = false })) mark_at
    page_all clocked mark_at (Missed first last) = tt

    -- a step of a call whose failing, where its next load fails a try, is known
    step_all : (stage : CallStage) → AllIn Has stage tries → ((reading : SegmentReading) → read_at stage ≡ Some reading → Owns Has segment reading.left reading.try)
        → AllAfter Has (run_client.call_step trace host segment tries stage) tries
    step_all (Reading reading) all own = load_by segment reading reading.try all (own reading refl)
    step_all (Clocking read) all own = clock_all (record { read = read; row = clocks_at trace.host host.done; clock_at = host.done }) trace.page
    step_all (Paging clocked reading mark_at) all own =
        page_all clocked (marked_by (is_marker_next reading.try) host.done mark_at) (page_load (count_of trace.page) (page_shown trace.host host) reading)

-- ---- a turn of a client

-- the tries of its call in hand that are not left have failed
abbrev pub AllInHand : (Has : (call left first last : ℕ) → Type 0) → (begun : ℕ) → Option CallRun → Type 0
AllInHand Has begun None = Unit {0}
AllInHand Has begun (Some call) = AllIn (Has begun) call.stage call.tries

abbrev pub AllAnswered : (Has : (call left first last : ℕ) → Type 0) → (begun : ℕ) → Option Answered → Type 0
AllAnswered Has begun None = Unit {0}
AllAnswered Has begun (Some answered) = AllOf (Has begun) answered.answer

pub record IsClientAfter (Has : (call left first last : ℕ) → Type 0) (next : run_client.ClientTurn) : Type 0 where
  pub in_hand : AllInHand Has next.client.begun next.client.call
  pub answered : AllAnswered Has next.client.begun next.answered

module _ (Has : (call left first last : ℕ) → Type 0) (trace : Trace) (host : HostRun) (segment : SegmentRun) where
  after_all : (client : ClientRun) (tries : ℕ) (after : CallAfter) → AllAfter (Has client.begun) after tries → IsClientAfter Has (run_client.after_step client tries after)
  after_all client tries (Goes stage) all = record { in_hand = all; answered = tt }
  after_all client tries (Answers answered) all = record { in_hand = tt; answered = all }

  begins_all : (client : ClientRun) (left : List ℕ) → client.call ≡ None
      → ((reading : SegmentReading) → begun_read left ≡ Some reading → Owns (Has (client.begun + 1)) segment reading.left reading.try)
      → IsClientAfter Has (run_client.client_begins trace host segment client left)
  begins_all client [] none own = record { in_hand = subst (AllInHand Has client.begun) (sym none) tt; answered = tt }
  begins_all client (tries ∷ left) none own =
      after_all (record client { left = left; begun = client.begun + 1 }) tries (run_client.call_step trace host segment tries (Reading (segment_reading tries)))
      (step_all (Has (client.begun + 1)) tries trace host segment (Reading (segment_reading tries)) (λ one more most. absurd (omega (arith, more, most))) own)

  pub turn_all : (client : ClientRun) (call : Option CallRun) → client.call ≡ call → AllInHand Has client.begun call
      → ((reading : SegmentReading) → next_read client.left call ≡ Some reading → Owns (Has (next_call client.begun call)) segment reading.left reading.try)
      → IsClientAfter Has (run_client.client_turn_by trace host segment client call)
  turn_all client None same all own = begins_all client client.left same own
  turn_all client (Some call) same all own =
      after_all client call.tries (run_client.call_step trace host segment call.tries call.stage) (step_all (Has client.begun) call.tries trace host segment call.stage all own)
