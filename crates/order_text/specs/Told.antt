-- The answers of a run, as they are ordered: each with its interval, where it has one, and the true time of the clock row that it read.
use Rattle.std.specs.Prelude.{ℕ, List, filter_map, Option, Some, None}
use Rattle.clock_gate.specs.declared.clock_row.ClockRow.{ClockRow}
use Rattle.clock_gate.specs.ClockRow.{row_at}
use Rattle.interval_now.specs.declared.answers.Answer.{Answer}
use Rattle.interval_now.specs.declared.answers.Answer.TheVariants as answers
use Rattle.abstract_run.specs.declared.event.Event.{Event}
use Rattle.abstract_run.specs.declared.event.Event.TheVariants as events
use Rattle.bound_order.specs.declared.told.Told.{Told}

-- an answer without an interval
abbrev pub untimed : (client call : ℕ) → Told
untimed client call = record { client = client; call = call; interval = None; truth = None }

abbrev pub answer_told : List ClockRow → (client call : ℕ) → Answer → Told
answer_told clock client call (answers.Time time) =
    record { client = client; call = call; interval = Some time.interval; truth = (row_at clock time.row).truth }
answer_told clock client call (answers.Busy tries first last) = untimed client call
answer_told clock client call answers.NotInitialized = untimed client call
answer_told clock client call (answers.PageBusy first last) = untimed client call
answer_told clock client call (answers.Causality causality) = untimed client call

-- the answer that an event tells
abbrev pub event_told : List ClockRow → Event → Option Told
event_told clock (events.Opened poll found) = None
event_told clock (events.Moved poll position generation) = None
event_told clock (events.Published position publication marked_at replied_at) = None
event_told clock (events.Skipped poll first last) = None
event_told clock (events.Stopped poll stores) = None
event_told clock (events.Answered client call answer trail) = Some (answer_told clock client call answer)

-- those of these events, in the order in which they ended
unfoldable pub answers_told : List ClockRow → List Event → List Told
answers_told clock events = filter_map (event_told clock) events
