-- Turns of the daemon that are made at once, as its poll in hand goes on after each of them.
use Rattle.std.specs.Prelude.{◌≡◌, ◌⊎◌, ℕ, suc, ◌+◌, false, length, List, [], ◌∷◌, slice_set}
use Rattle.clock_gate.specs.declared.clock_row.ClockRow.{ClockRow}
use Rattle.clock_gate.specs.declared.trace.Party.{Party}
use Rattle.shm_writer.specs.Leaps.{MakesStores}
use Rattle.writer_reopen.specs.PollMachine.{Polling, polling_act, polling_given}
use Rattle.abstract_run.specs.Schedule as schedule
use Rattle.step_core.specs.declared.hand.Hand.{Hand}
use Rattle.step_core.specs.declared.hand.Hand.TheVariants as hands
use Rattle.step_core.specs.SharedDaemon.{DaemonState}
use Rattle.step_core.specs.Shared.{Shared, shared_turn, jobs_ended, has_job}

-- the words after stores of these values in the words from a number on
abbrev pub stored : List ℕ → (word : ℕ) → (values : List ℕ) → List ℕ
stored words word [] = words
stored words word (value ∷ values) = stored (slice_set words word value) (suc word) values

-- a poll makes so many stores from word 1 on, and goes on; or it makes none
abbrev pub PollLeaps : (turns : ℕ) → Polling → List ℕ → Polling → List ℕ → Type 0
PollLeaps turns poll words new after =
    ((turns ≡ 0) × (new ≡ poll) × (after ≡ words))
    ⊎ ((values : List ℕ) × (turns ≡ length values) × (after ≡ stored words 1 values) × ((clock : List ClockRow) → MakesStores polling_act (polling_given clock) 1 values poll new))

abbrev pub HandLeaps : (turns : ℕ) → Hand → List ℕ → Hand → List ℕ → Type 0
HandLeaps turns (hands.Polling polling) words new after =
    (machine : Polling) × (new ≡ hands.Polling (record polling { machine = machine })) × PollLeaps turns polling.machine words machine after
HandLeaps turns other words new after = (turns ≡ 0) × (new ≡ other) × (after ≡ words)

-- a daemon after so many turns in which its poll goes on, and the words after them
abbrev pub DaemonLeaps : (turns : ℕ) → DaemonState → List ℕ → DaemonState → List ℕ → Type 0
DaemonLeaps turns daemon words new after = (new ≡ record daemon { hand = new.hand }) × HandLeaps turns daemon.hand words new.hand after

-- so many turns of a party, made at once: those that follow go on from there, and its jobs are as far as before
pub record PartyLeaps (who : Party) (turns : ℕ) (w new : Shared) : Type 0 where
  pub turned : (more : ℕ) → schedule.turns_of shared_turn jobs_ended has_job (turns + more) who w ≡ schedule.turns_of shared_turn jobs_ended has_job more who new
  pub done : (jobs : ℕ) → schedule.is_done shared_turn jobs_ended has_job who jobs new ≡ schedule.is_done shared_turn jobs_ended has_job who jobs w
  pub until : (more jobs : ℕ) → schedule.is_done shared_turn jobs_ended has_job who jobs w ≡ false
      → schedule.until_done shared_turn jobs_ended has_job (turns + more) who jobs w ≡ schedule.until_done shared_turn jobs_ended has_job more who jobs new
