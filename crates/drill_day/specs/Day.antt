-- The trace of a generated day, by its seed and its number of polls. This project's own.
use Rattle.std.specs.Prelude.{ℕ, ◌*◌, ◌==◌, List, [], ◌∷◌, Some, if◌then◌else◌}
use Rattle.clock_gate.specs.declared.clock_row.ClockRow.{ClockRow}
use Rattle.clock_gate.specs.declared.limits.TheConstants.{USUAL_DRIFT, USUAL_TRIES}
use Rattle.clock_gate.specs.declared.trace.CallRow.{CallRow}
use Rattle.clock_gate.specs.declared.trace.HostRow.{HostRow}
use Rattle.clock_gate.specs.declared.trace.Party.{Party}
use Rattle.clock_gate.specs.declared.trace.PollRow.{PollRow}
use Rattle.clock_gate.specs.declared.trace.Trace.{Trace}
use Rattle.clock_gate.specs.declared.trace.Turn.{Turn}
use Rattle.generation_word.specs.declared.layout.Layout.TheVariants.{Two}
use Rattle.drill_day.specs.Draws.{after_rounds, rounds, seconds}
use Rattle.drill_day.specs.Seconds.{calls_in, clock_in, host_in, jobs_in, middle_of, poll_in, start_words, stop_second, turns_in}

-- seconds 1 to `polls`, each with two draws, from the seed on
unfoldable pub clock_of : ℕ → ℕ → List ClockRow
clock_of seed polls = rounds clock_in seed 1 polls

unfoldable pub host_of : ℕ → List HostRow
host_of polls = seconds (host_in (middle_of polls)) 1 polls

unfoldable pub polls_of : ℕ → ℕ → List PollRow
polls_of seed polls = rounds (poll_in (stop_second polls)) seed 1 polls

unfoldable pub calls_of : ℕ → List CallRow
calls_of polls = seconds calls_in 1 polls

unfoldable pub order_of : ℕ → List Party
order_of polls = seconds (jobs_in (middle_of polls)) 1 polls

-- 40 lines for each second; seed 0 has no schedule
abbrev pub lines_of : ℕ → ℕ → ℕ
lines_of seed polls = if seed == 0 then 0 else 40 * polls

-- each line of the schedule has two draws, after those of the seconds
unfoldable pub schedule_of : ℕ → ℕ → List Turn
schedule_of seed polls = rounds turns_in (after_rounds seed polls) 1 (lines_of seed polls)

-- a segment that was never written
abbrev pub no_image : List ℕ
no_image = 0 ∷ 0 ∷ 0 ∷ 0 ∷ 0 ∷ 0 ∷ 0 ∷ 0 ∷ 0 ∷ 0 ∷ []

abbrev pub day_of : ℕ → ℕ → Trace
day_of seed polls = record {
  drift = USUAL_DRIFT;
  tries = USUAL_TRIES;
  clients = 3;
  layout = Two;
  image = no_image;
  page = Some start_words;
  clock = clock_of seed polls;
  host = host_of polls;
  polls = polls_of seed polls;
  calls = calls_of polls;
  turns = schedule_of seed polls;
  order = order_of polls;
}
