-- What is kept of a list beside it, after one item more.
use Rattle.std.proofs.Common.{◌≡◌, ℕ, ◌+◌, List, [], ◌∷◌, ◌++◌, refl}
use Rattle.std.proofs.lemmas.List.Sums.{sum_by_push}
use Rattle.clock_gate.specs.Trace.{larger, largest_from, turns_in, turns_of}
use Rattle.clock_gate.specs.declared.clock_row.ClockRow.{ClockRow}
use Rattle.clock_gate.specs.declared.trace.CallRow.{CallRow}
use Rattle.clock_gate.specs.declared.trace.Turn.{Turn}
use Rattle.trace_reader.specs.Checks.{last_mono}

-- the last monotonic time
pub last_more : (rows : List ClockRow) (row : ClockRow) (n : ℕ) → row.mono ≡ last_mono (rows ++ row ∷ []) n
unfolding last_mono
last_more [] row n = refl
last_more (first ∷ rest) row n = last_more rest row first.mono

-- the largest client
pub largest_more : (least : ℕ) (calls : List CallRow) (call : CallRow) → largest_from least (calls ++ call ∷ []) ≡ larger (largest_from least calls) call.client
unfolding largest_from
largest_more least [] call = refl
largest_more least (first ∷ rest) call = largest_more (larger least first.client) rest call

-- the turns of a schedule
pub turns_more : (schedule : List Turn) (turn : Turn) → turns_of (schedule ++ turn ∷ []) ≡ turns_of schedule + turns_in turn
unfolding turns_of
turns_more schedule turn = sum_by_push turns_in schedule turn
