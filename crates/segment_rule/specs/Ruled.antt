-- The rule as the table has it, and what a step tells.
use Rattle.std.specs.Prelude.{◌≡◌, ℕ, ◌+◌, ◌==◌, nat_lt, List, [], ◌∷◌, Bool, true, false, is_some}
use Rattle.atomic_table.specs.Table.{State, Me, Step}
use Rattle.atomic_table.specs.Seated.{TableId}
use Rattle.segment_views.specs.declared.setup.Setup.{Setup}
use Rattle.segment_views.specs.Views.{SeatView}
use Rattle.segment_views.specs.Rule.{SharedState, MeetsRule}
use Rattle.segment_views.specs.Steps.{Tells, TellsFront, TellsData, TellsZero, TellsPage, TellsPlain, TellsClock}

abbrev pub Ruled : {S : Type 0} → Setup → State S SeatView → Type 0
Ruled c s = (state : SharedState) × MeetsRule c state s.words s.views

abbrev pub told_by : {S : Type 0} → (ℕ → Tells) → Step S → Me S SeatView → ℕ → Me S SeatView → Type 0
told_by tells s v n w = (w.1 ≡ v.1) × tells s.word v.0 n n w.0

abbrev pub Either : Bool → Type 0 → Type 0 → Type 0
Either true P Q = P
Either false P Q = Q

-- a load by a client or the daemon
abbrev pub TellsLoad : Bool → ℕ → Tells
TellsLoad first i v found left w =
    Either (i == 1) (TellsFront first v found left w)
    (Either (i == 11) (TellsPage first v found left w)
    (Either (i == 23) (TellsClock first v found left w)
    (Either (i == 0) (TellsZero first v found left w)
    (Either (nat_lt i 10) (TellsData first i v found left w) (TellsPlain first i v found left w)))))

-- later loads one after another, from this word on, that found these values
abbrev pub TellsLoads : ℕ → List ℕ → SeatView → SeatView → Type 0
TellsLoads word [] v w = v ≡ w
TellsLoads word (found ∷ values) v w = (next : SeatView) × TellsLoad false word v found found next × TellsLoads (word + 1) values next w

-- word 11 is loaded only where there is a page
abbrev pub MayLoadWord : ℕ → SeatView → Type 0
MayLoadWord i v = i ≡ 11 → is_some v.setup.page ≡ true

-- a table: which it is, and what it was told
pub record TableView : Type 0 where
  pub id : TableId
  pub setup : Setup

abbrev pub table_view : TableId → Setup → TableView
table_view t c = record { id = t; setup = c }

pub record SeatState : Type 0 where
  pub table : TableId
  pub view : SeatView

abbrev pub seat_state : TableId → SeatView → SeatState
seat_state t v = record { table = t; view = v }
