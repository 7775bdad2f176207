-- A client's call, in hand and at its end.
use Rattle.std.specs.Prelude.{◌≡◌, ◌≢◌, ℕ, ◌<◌, ◌≤◌, Bool, true, false, List, [], length, Option, None, Some, is_some}
use Rattle.clock_gate.specs.declared.act.Act.TheVariants.{End}
use Rattle.clock_gate.specs.declared.clock_row.ClockRow.{ClockRow}
use Rattle.clock_gate.specs.declared.clock_row.Reading.{Reading}
use Rattle.clock_gate.specs.declared.limits.TheConstants.{MOST_HOST_ROWS}
use Rattle.clock_gate.specs.Acts.{Wanted, replayed}
use Rattle.interval_now.specs.declared.answers.Answer.{Answer}
use Rattle.interval_now.specs.declared.stage.Stage.{Stage}
use Rattle.interval_now.specs.declared.stage.Stage.TheVariants.{Segment, Clock, Page, Done}
use Rattle.interval_now.specs.Call.{Call, IsCall, Agrees, reading_taken, started_call, act_of, given, steps_left}
use Rattle.interval_now.specs.CallRun.{CallCameTo}
use Rattle.atomic_table.specs.Seated.{TableId}
use Rattle.segment_views.specs.Views.{SeatView}
use Rattle.segment_views.specs.Steps.{calls_of}
use Rattle.segment_views.specs.Shown.{touches_of, IsSoundCall}

-- what a stage knows of the view: a segment try in hand began with a record that is known, and a page try is of a page
abbrev pub Tied : Stage → SeatView → Type 0
Tied (Segment read) v = read.values ≢ [] → 0 < length v.seen.history
Tied (Clock generation rec) v = Unit {0}
Tied (Page generation rec reading read) v = is_some v.setup.page ≡ true
Tied (Done answer) v = Unit {0}

-- the steps of the view are those of the call, by this clock
abbrev pub Replays : List ClockRow → ℕ → Call → SeatView → Type 0
Replays clock tries call v =
    Wanted act_of (given clock) (started_call tries (is_some v.setup.page)) (touches_of v.steps)
    × (replayed act_of (given clock) (started_call tries (is_some v.setup.page)) (touches_of v.steps) ≡ call)

-- a call that is under way, from its first step on
pub record Going (tries : ℕ) (call : Call) (v : SeatView) : Type 0 where
  pub is : IsCall call
  pub asks : act_of call ≢ End
  pub same_tries : call.tries ≡ tries
  pub support : call.support ≡ is_some v.setup.page
  pub tied : Tied call.stage v
  pub ran : IsSoundCall v
  pub replays : (clock : List ClockRow) → Agrees clock (reading_taken call.stage) → Replays clock tries call v

-- the machine of the call in hand
pub record Holds (in_hand begun : Bool) (tries : ℕ) (call : Call) (v : SeatView) : Type 0 where
  pub rows : v.setup.rows ≤ MOST_HOST_ROWS
  pub fresh : in_hand ≡ true → begun ≡ false → (call ≡ started_call tries (is_some v.setup.page)) × IsCall call
  pub going : in_hand ≡ true → begun ≡ true → Going tries call v

-- a call of so many tries came to this answer: it is that of the call's own steps, and what they show
pub record Nows (clock : List ClockRow) (tries : ℕ) (answer : Answer) (v : SeatView) : Type 0 where
  pub came : CallCameTo clock tries (is_some v.setup.page) (touches_of v.steps) answer
  pub ran : IsSoundCall v

-- what a call of so many tries has come to: an answer, or it is under way and this goes on with it
abbrev pub ComesTo : List ClockRow → ℕ → Option Answer → Call → SeatView → Type 0
ComesTo clock tries None call v = Going tries call v × Agrees clock (reading_taken call.stage)
ComesTo clock tries (Some answer) call v = Nows clock tries answer v

-- what the later loads of a call leave as it is
pub record Stays (v w : SeatView) : Type 0 where
  pub seated : w.seated ≡ v.seated
  pub setup : w.setup ≡ v.setup
  pub calls : w.calls ≡ v.calls
  pub before : w.before ≡ v.before

-- the view of a seat after the loads of a new call: it is one call more, which began with what had been seen
pub record Called (v w : SeatView) : Type 0 where
  pub seated : w.seated ≡ v.seated
  pub setup : w.setup ≡ v.setup
  pub calls : w.calls ≡ calls_of v
  pub before : w.before ≡ v.seen

-- a client's seat: its table, and what it has seen; whether it is the first one, and how often it was split; and of the call in hand, where
-- there is one, whether it has made a step, its tries, the reading that it has taken, and the most steps that it still takes
pub record ClientState : Type 0 where
  pub table : TableId
  pub view : SeatView
  pub is_first : Bool
  pub splits : ℕ
  pub in_hand : Bool
  pub begun : Bool
  pub tries : ℕ
  pub reading : Option Reading
  pub left : ℕ

abbrev pub client_state : TableId → SeatView → (is_first : Bool) → (splits : ℕ) → (in_hand begun : Bool) → (tries : ℕ) → Call → ClientState
client_state t v f k h b n call =
    record { table = t; view = v; is_first = f; splits = k; in_hand = h; begun = b; tries = n; reading = reading_taken call.stage; left = steps_left call }

-- it stays the same seat
pub record IsSameSeat (old new : ClientState) : Type 0 where
  pub table : new.table ≡ old.table
  pub is_first : new.is_first ≡ old.is_first
  pub splits : new.splits ≡ old.splits
  pub setup : new.view.setup ≡ old.view.setup
