-- Turns of a client that are made at once, as its call in hand goes on after each of them.
use Rattle.std.specs.Prelude.{◌≡◌, ◌⊎◌, ℕ, zero, suc, ◌+◌, ◌<◌, false, length, List, [], ◌∷◌, replicate, slice_index, Option, Some, None}
use Rattle.clock_gate.specs.declared.act.Act.TheVariants.{Load}
use Rattle.clock_gate.specs.declared.clock_row.ClockRow.{ClockRow}
use Rattle.clock_gate.specs.Acts.{after}
use Rattle.shm_reader.specs.SegmentTries.{AreGoodLoads}
use Rattle.interval_now.specs.Call.{Call, IsStage, act_of, given, end_of, StageFailsOdd}
use Rattle.step_core.specs.declared.marks.Marks.{Marks}
use Rattle.step_core.specs.declared.marks.Place.{Place}
use Rattle.step_core.specs.SharedWords.{value_of}
use Rattle.clock_gate.specs.declared.trace.Party.TheVariants.{Client}
use Rattle.abstract_run.specs.Schedule as schedule
use Rattle.step_core.specs.SharedClient.{ClientState, noted}
use Rattle.step_core.specs.Shared.{Shared, shared_turn, jobs_ended, has_job}

-- words 2 to 9
abbrev pub data_words : List ℕ → List ℕ
data_words words = slice_index words 2 ∷ slice_index words 3 ∷ slice_index words 4 ∷ slice_index words 5 ∷ slice_index words 6 ∷ slice_index words 7 ∷ slice_index words 8 ∷ slice_index words 9 ∷ []

-- so many loads of these words, one after another, after each of which the call goes on: the call and the marks that they lead to
abbrev pub GoesOn : List ClockRow → List ℕ → Place → (turns : ℕ) → Call → Marks → Call → Marks → Type 0
GoesOn clock words place zero call marks later noted_last = (call ≡ later) × (marks ≡ noted_last)
GoesOn clock words place (suc more) call marks later noted_last =
    (end_of (given clock call (value_of words (act_of call))) ≡ None)
    × GoesOn clock words place more (given clock call (value_of words (act_of call))) (noted place (act_of call) marks) later noted_last

abbrev pub LeapsBy : List ClockRow → List ℕ → Place → (turns : ℕ) → ClientState → ClientState → Option Call → Type 0
LeapsBy clock words place turns client new None = (turns ≡ 0) × (new ≡ client)
LeapsBy clock words place turns client new (Some call) =
    (later : Call) × (marks : Marks) × (new ≡ record client { call = Some later; marks = marks }) × GoesOn clock words place turns call client.marks later marks

-- a client after so many turns in which its call goes on
abbrev pub Leaps : List ClockRow → List ℕ → Place → (turns : ℕ) → ClientState → ClientState → Type 0
Leaps clock words place turns client new = LeapsBy clock words place turns client new client.call

-- the marks after so many loads of word 1
abbrev pub headed : Place → ℕ → Marks → Marks
headed place zero marks = marks
headed place (suc zero) marks = record marks { from = marks.to; to = place.position }
headed place (suc (suc more)) marks = record marks { from = place.position; to = place.position }

-- a call takes words 2 to 9, or a word 1 that fails so many tries
abbrev pub CallLeaps : List ClockRow → List ℕ → Call → (turns heads : ℕ) → Call → Type 0
CallLeaps clock words call turns heads later =
    ((turns ≡ 8) × (heads ≡ 0) × (act_of call ≡ Load 2) × (later ≡ after act_of (given clock) call (data_words words)))
    ⊎ ((turns ≡ heads) × (0 < turns → StageFailsOdd call.stage (slice_index words 1) turns) × (later ≡ after act_of (given clock) call (replicate turns (slice_index words 1))))

-- a call can take these words
pub record TakesWords (words : List ℕ) (call : Call) : Type 0 where
  pub some : 0 < call.tries
  pub stage : IsStage call.stage
  pub good : AreGoodLoads (data_words words)

-- where a call in hand wants the data words it can take them
abbrev pub IsGoodLeap : List ℕ → Option Call → Type 0
IsGoodLeap words None = Unit {0}
IsGoodLeap words (Some call) = act_of call ≡ Load 2 → TakesWords words call

-- so many turns of the client at a place, made at once: those that follow go on from there, and its jobs are as far as before
pub record WorldLeaps (place turns : ℕ) (w new : Shared) : Type 0 where
  pub clients : length new.clients ≡ length w.clients
  pub turned : (more : ℕ) → schedule.turns_of shared_turn jobs_ended has_job (turns + more) (Client (place + 1)) w ≡ schedule.turns_of shared_turn jobs_ended has_job more (Client (place + 1)) new
  pub done : (jobs : ℕ) → schedule.is_done shared_turn jobs_ended has_job (Client (place + 1)) jobs new ≡ schedule.is_done shared_turn jobs_ended has_job (Client (place + 1)) jobs w
  pub until : (more jobs : ℕ) → schedule.is_done shared_turn jobs_ended has_job (Client (place + 1)) jobs w ≡ false
      → schedule.until_done shared_turn jobs_ended has_job (turns + more) (Client (place + 1)) jobs w ≡ schedule.until_done shared_turn jobs_ended has_job more (Client (place + 1)) jobs new
