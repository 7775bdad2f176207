-- What a daemon holds fits a record: at its start, and after each poll.
use Rattle.std.proofs.Common.{◌≡◌, ℕ, ◌-◌, ◌≤◌, List, arith, inl, inr}
use Rattle.std.specs.Prelude.{length, All}
use Rattle.std.proofs.lemmas.Bool.{cases_lt}
use Rattle.std.proofs.lemmas.List.{get_or_past}
use Rattle.std.proofs.lemmas.List.Elements.{All-get_or}
use Rattle.clock_gate.specs.declared.clock_row.ClockRow.{ClockRow}
use Rattle.clock_gate.specs.declared.limits.TheConstants.{LAST_MOMENT, MOST_DRIFT}
use Rattle.clock_gate.specs.Trace.{IsClockRow}
use Rattle.clock_gate.specs.ClockRow.{no_row, row_at}
use Rattle.status_machine.specs.declared.daemon.Daemon.{Daemon}
use Rattle.status_machine.specs.declared.poll.Poll.{Poll}
use Rattle.status_machine.specs.Incarnation.{Incarnation}
use Rattle.status_machine.specs.Step.{daemon_step, record_of, daemon_begun}
use Rattle.status_machine.proofs.Fits.{StartFits, daemon_step-fits, record_of-fits, begun-fits}
use Rattle.segment_run.proofs.SegmentEnded.{KeepsBoundsOf}
use Rattle.writer_reopen.specs.PollMachine.{DaemonFits}

-- the monotonic time of any row lies before the last moment
pub moment_most : (clock : List ClockRow) (row : ℕ) → All IsClockRow clock → (row_at clock row).mono ≤ LAST_MOMENT
moment_most clock row rows =
    elim (cases_lt (row - 1) (length clock)) [
      | inl within ↦ (All-get_or IsClockRow clock (row - 1) no_row within rows).mono
      | inr past ↦ (let none : row_at clock row ≡ no_row = get_or_past clock (row - 1) no_row past in rw none (omega arith))
    ]

pub step_fits : (daemon : Daemon) (poll : Poll) → DaemonFits daemon → poll.reading.mono ≤ LAST_MOMENT → DaemonFits (daemon_step daemon poll)
step_fits daemon poll fits most = record { drift = fits.drift; base = daemon_step-fits daemon poll fits.base most }

-- the record that a daemon gives keeps its bounds
pub record_bounds : (daemon : Daemon) (poll : Poll) → DaemonFits daemon → poll.reading.mono ≤ LAST_MOMENT → KeepsBoundsOf (record_of daemon poll)
record_bounds daemon poll fits most = record_of-fits daemon poll fits.base most fits.drift

pub begun_fits : (from : Incarnation) → from.drift ≤ MOST_DRIFT → StartFits from.start → DaemonFits (daemon_begun from)
begun_fits from slow fits = record { drift = slow; base = begun-fits from fits }
