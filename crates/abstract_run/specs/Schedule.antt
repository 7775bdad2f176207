-- A schedule over any run, by what one turn of a party makes of it, how many of its jobs have ended, and whether it has one in
-- hand or left.
use Rattle.std.specs.Prelude.{ℕ, zero, suc, ◌+◌, ◌*◌, Bool, ◌||◌, not, nat_le, if◌then◌else◌, List, [], ◌∷◌, ◌++◌}
use Rattle.clock_gate.specs.declared.trace.Party.{Party}
use Rattle.clock_gate.specs.declared.trace.Turn.{Turn}
use Rattle.clock_gate.specs.declared.trace.Turn.TheVariants.{Run, Jobs}
use Rattle.clock_gate.specs.Trace.{times}
use Rattle.abstract_run.specs.declared.limits.TheConstants.{MOST_JOB_STEPS}

module _ {State : Type 0} (turn : State → Party → State) (ended : State → Party → ℕ) (has_job : State → Party → Bool) where
  -- so many turns of a party
  abbrev pub turns_of : ℕ → Party → State → State
  turns_of zero who state = state
  turns_of (suc more) who state = turns_of more who (turn state who)

  -- so many jobs of a party have ended, or it has none left
  abbrev pub is_done : Party → (jobs : ℕ) → State → Bool
  is_done who jobs state = nat_le jobs (ended state who) || not (has_job state who)

  -- turns of a party until so many of its jobs have ended or it has none left, and at most so many turns
  abbrev pub until_done : (most : ℕ) → Party → (jobs : ℕ) → State → State
  until_done zero who jobs state = state
  until_done (suc most) who jobs state = if is_done who jobs state then state else until_done most who jobs (turn state who)

  -- one line: a job takes at most so many turns, which is enough for each (`RunEnds`)
  abbrev pub line : State → Turn → State
  line state (Run who count) = turns_of count who state
  line state (Jobs who count) = until_done (count * MOST_JOB_STEPS) who (ended state who + count) state

  -- these lines, in order
  abbrev pub lines : State → List Turn → State
  lines state [] = state
  lines state (first ∷ later) = lines (line state first) later

  -- the jobs of an order: the one that a party stands for, where it stands for the n-th time, is its n-th job. Each is run to its
  -- end where it has not ended; those before it have
  abbrev pub walk : (before : List Party) → State → List Party → State
  walk before state [] = state
  walk before state (who ∷ later) = walk (before ++ who ∷ []) (until_done MOST_JOB_STEPS who (times who before + 1) state) later
