-- What the workers of the clients begin with and what they leave.
use Rattle.std.specs.Prelude.{◌≡◌, ℕ, ◌<◌, ◌≤◌, List, true, false, All, length, take, vec_len, vec_capacity, slice_index_or}
use Rattle.clock_gate.specs.declared.limits.TheConstants.{MOST_CALLS, MOST_CLIENTS, MOST_TRIES}
use Rattle.clock_gate.specs.declared.clock_row.ClockRow.{ClockRow}
use Rattle.clock_gate.specs.ClockRow.{IsClock}
use Rattle.clock_gate.specs.Trace.{IsFrom}
use Rattle.interval_now.specs.declared.answers.Answer.{Answer}
use Rattle.interval_now.specs.Call.{Agrees}
use Rattle.segment_views.specs.Views.{SeatView}
use Rattle.segment_views.specs.Steps.{calls_of}
use Rattle.segment_rule.specs.Ruled.{TableView}
use Rattle.segment_rule.specs.Calls.{ClientState}
use Rattle.live_report.specs.ClientCalls.{ClientCalls}
use Rattle.live_run.specs.declared.clients.Client.{Client}
use Rattle.live_run.specs.declared.clients.ClientWorker.{ClientWorker}

-- a seat after calls with these tries and answers from a first view: the view at the end of the last of them; where a call is in hand
-- that has made a step, it began with that one
pub record Stands (clock : List ClockRow) (tries : List ℕ) (answers : List Answer) (first : SeatView) (seat : ClientState) : Type 0 where
  pub last : SeatView
  pub calls : ClientCalls clock tries first answers last
  pub rests : seat.in_hand ≡ false → seat.view ≡ last
  pub fresh : seat.in_hand ≡ true → seat.begun ≡ false → seat.view ≡ last
  pub begun : seat.in_hand ≡ true → seat.begun ≡ true → (seat.view.setup ≡ last.setup) × (seat.view.calls ≡ calls_of last) × (seat.view.before ≡ last.seen)

-- a client of this table that may be given a turn
pub record CanTurn (table : TableView) (clock : List ClockRow) (c : Client) : Type 0 where
  pub of_table : c.seat.table ≡ table.id
  pub of_setup : c.seat.view.setup ≡ table.setup
  pub rows : length clock ≡ table.setup.rows
  pub moments : IsClock clock
  pub number_few : c.number ≤ MOST_CLIENTS
  pub few : vec_len c.calls ≤ MOST_CALLS
  pub room : vec_len c.calls ≤ vec_capacity c.answers
  pub done : vec_len c.answers ≤ vec_len c.calls
  pub tries : All (IsFrom 1 MOST_TRIES) c.calls.items
  pub hand : c.seat.in_hand ≡ true → vec_len c.answers < vec_len c.calls
  pub same_tries : c.seat.in_hand ≡ true → c.seat.tries ≡ slice_index_or c.calls.items (vec_len c.answers) 0
  pub reading : c.seat.in_hand ≡ true → Agrees clock c.seat.reading

-- a client after some of its turns
pub record TurnedFrom (clock : List ClockRow) (c d : Client) : Type 0 where
  pub number : d.number ≡ c.number
  pub table : d.seat.table ≡ c.seat.table
  pub calls : d.calls ≡ c.calls
  pub stands : (first : SeatView) → Stands clock (take (vec_len c.answers) c.calls.items) c.answers.items first c.seat
      → Stands clock (take (vec_len d.answers) d.calls.items) d.answers.items first d.seat

-- after all of them
pub record Worked (clock : List ClockRow) (c d : Client) : Type 0 where
  pub turned : TurnedFrom clock c d
  pub done : vec_len d.answers ≡ vec_len d.calls
  pub hand : d.seat.in_hand ≡ false

-- a worker whose clients are of this table
abbrev pub IsWorker : TableView → List ClockRow → ClientWorker → Type 0
IsWorker table clock w = All (CanTurn table clock) w.clients.items

-- a worker after its work
pub record WorkerDone (clock : List ClockRow) (v w : ClientWorker) : Type 0 where
  pub len : vec_len w.clients ≡ vec_len v.clients
  pub each : (k : ℕ) (d : Client) → k < vec_len v.clients → Worked clock (slice_index_or v.clients.items k d) (slice_index_or w.clients.items k d)

-- so it is with each worker
pub record WorkersDone (clock : List ClockRow) (old now : List ClientWorker) : Type 0 where
  pub len : length now ≡ length old
  pub each : (k : ℕ) (d : ClientWorker) → k < length old → WorkerDone clock (slice_index_or old k d) (slice_index_or now k d)
