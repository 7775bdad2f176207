-- Room for a run.
use Rattle.std.specs.Prelude.{◌≡◌, ◌*◌, ◌<◌, ◌≤◌, List, [], All, length, vec_len, vec_capacity}
use Rattle.clock_gate.specs.declared.clock_row.ClockRow.{ClockRow}
use Rattle.clock_gate.specs.declared.trace.Trace.{Trace}
use Rattle.segment_rule.specs.Ruled.{TableView}
use Rattle.live_run.specs.declared.room.Room.{Room}
use Rattle.live_run.specs.Dealt.{ArePlans, HasPlaces}
use Rattle.live_run.specs.Publishing.{IsFed}
use Rattle.live_run.specs.Work.{IsWorker}

-- it has a plan for each client of the trace, idle workers with places for all of them, none of the daemon's lines, of the clients' answers
-- and of the seats yet but room for all, and a queue for the trace's polls
pub record IsRoomFor (trace : Trace) (room : Room) : Type 0 where
  pub plans : ArePlans trace.calls 1 room.plans.items
  pub all_plans : vec_len room.plans ≡ trace.clients
  pub some_workers : 0 < vec_len room.workers
  pub places : All (HasPlaces trace.clients) room.workers.items
  pub idle : (table : TableView) (clock : List ClockRow) → All (IsWorker table clock) room.workers.items
  pub no_lines : room.lines.items ≡ []
  pub lines : 2 * length trace.polls ≤ vec_capacity room.lines
  pub no_answers : room.answers.items ≡ []
  pub answers : trace.clients ≤ vec_capacity room.answers
  pub no_seats : room.seats.items ≡ []
  pub seats : trace.clients ≤ vec_capacity room.seats
  pub fed : IsFed trace room.queue room.input room.output
