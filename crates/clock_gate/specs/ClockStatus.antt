-- The codes of the clock statuses (ClockBound's PROTOCOL), and their names in reports (this project's).
use Rattle.std.specs.Prelude.{ℕ, ℤ, pos, negsuc, zero, suc, List, codes, Option, Some, None}
use Rattle.clock_gate.specs.declared.clock_status.ClockStatus.{ClockStatus}
use Rattle.clock_gate.specs.declared.clock_status.ClockStatus.TheVariants.{Unknown, Synchronized, FreeRunning, Disrupted}

-- the code of a status
abbrev pub code_of : ClockStatus → ℤ
code_of Unknown = pos 0
code_of Synchronized = pos 1
code_of FreeRunning = pos 2
code_of Disrupted = pos 3

-- the status with a code, from 0 to 3
abbrev pub status_of_code : ℤ → Option ClockStatus
status_of_code (pos zero) = Some Unknown
status_of_code (pos (suc zero)) = Some Synchronized
status_of_code (pos (suc (suc zero))) = Some FreeRunning
status_of_code (pos (suc (suc (suc zero)))) = Some Disrupted
status_of_code (pos (suc (suc (suc (suc n))))) = None
status_of_code (negsuc n) = None

-- the name of a status
unfoldable pub name_of : ClockStatus → List ℕ
name_of Unknown = codes "unknown"
name_of Synchronized = codes "synchronized"
name_of FreeRunning = codes "freerunning"
name_of Disrupted = codes "disrupted"
