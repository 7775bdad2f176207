-- Clients that are dealt out to workers.
use Rattle.std.specs.Prelude.{◌≡◌, ℕ, ◌+◌, ◌%◌, ◌<◌, ◌≤◌, List, [], ◌∷◌, ◌++◌, map, length, slice_index_or, slice_set, vec_len, vec_capacity, false}
use Rattle.clock_gate.specs.declared.trace.CallRow.{CallRow}
use Rattle.clock_gate.specs.declared.trace.Trace.{Trace}
use Rattle.clock_gate.specs.Trace.{IsFrom, IsLawfulTrace}
use Rattle.segment_rule.specs.Ruled.{TableView}
use Rattle.segment_rule.specs.Calls.{ClientState}
use Rattle.lawful_report.specs.Composed.{tries_of_client}
use Rattle.live_report.specs.ClientCalls.{client_start, ClientCalls}
use Rattle.live_report.specs.LiveRun.{setup_of}
use Rattle.live_run.specs.declared.clients.Client.{Client}
use Rattle.live_run.specs.declared.clients.ClientWorker.{ClientWorker}
use Rattle.live_run.specs.declared.workers.Plan.{Plan}
use Rattle.live_run.specs.Work.{CanTurn}

-- ---- plans

-- a call of one of so many clients
abbrev pub IsOfClients : ℕ → CallRow → Type 0
IsOfClients clients row = IsFrom 1 clients row.client

-- a client's plan where these of all calls are still to come
pub record IsPlanned (rows left : List CallRow) (client : ℕ) (p : Plan) : Type 0 where
  pub calls : p.calls.items ++ tries_of_client left client ≡ tries_of_client rows client
  pub none : p.answers.items ≡ []

-- the plans of all clients then
abbrev pub ArePlanned : (rows left : List CallRow) → List Plan → Type 0
ArePlanned rows left plans = (k : ℕ) (d : Plan) → k < length plans → IsPlanned rows left (k + 1) (slice_index_or plans k d)

pub record IsPlan (rows : List CallRow) (client : ℕ) (p : Plan) : Type 0 where
  pub calls : p.calls.items ≡ tries_of_client rows client
  pub none : p.answers.items ≡ []
  pub room : vec_len p.calls ≤ vec_capacity p.answers

-- the plans of clients of which the first has this number
abbrev pub ArePlans : List CallRow → (number : ℕ) → List Plan → Type 0
ArePlans rows number [] = Unit {0}
ArePlans rows number (plan ∷ plans) = IsPlan rows number plan × ArePlans rows (number + 1) plans

-- ---- the clients of all workers

-- a worker has room for so many clients more
abbrev pub HasPlaces : ℕ → ClientWorker → Type 0
HasPlaces clients w = vec_len w.clients + clients ≤ vec_capacity w.clients

abbrev pub stacks_of : List ClientWorker → List (List Client)
stacks_of workers = map (λ (w : ClientWorker). w.clients.items) workers

-- these are the clients of the stacks from a place on, where each stands on the stack whose turn it is
abbrev pub Stacked : (place : ℕ) → List (List Client) → List Client → Type 0
Stacked place stacks [] = Unit {0}
Stacked place stacks (client ∷ clients) =
    (rest : List Client) × (place % length stacks < length stacks) × (slice_index_or stacks (place % length stacks) [] ≡ rest ++ client ∷ [])
    × Stacked (place + 1) (slice_set stacks (place % length stacks) rest) clients

-- ---- before the work

-- the seat of the client of this number before its first call
pub record CanSit (table : TableView) (trace : Trace) (number : ℕ) (seat : ClientState) : Type 0 where
  pub lawful : IsLawfulTrace trace
  pub setup : table.setup ≡ setup_of trace
  pub of_table : seat.table ≡ table.id
  pub view : seat.view ≡ client_start (setup_of trace) number
  pub hand : seat.in_hand ≡ false

-- and the client
pub record IsReady (table : TableView) (trace : Trace) (number : ℕ) (c : Client) : Type 0 where
  pub number_is : c.number ≡ number
  pub can : CanTurn table trace.clock c
  pub calls : c.calls.items ≡ tries_of_client trace.calls number
  pub none : c.answers.items ≡ []
  pub view : c.seat.view ≡ client_start (setup_of trace) number
  pub hand : c.seat.in_hand ≡ false

abbrev pub AreReady : TableView → Trace → (number : ℕ) → List Client → Type 0
AreReady table trace number [] = Unit {0}
AreReady table trace number (client ∷ clients) = IsReady table trace number client × AreReady table trace (number + 1) clients

-- the workers have all clients of the trace, each before its first call
pub record IsDealt (table : TableView) (trace : Trace) (workers : List ClientWorker) : Type 0 where
  pub clients : List Client
  pub all : length clients ≡ trace.clients
  pub stacked : Stacked 0 (stacks_of workers) clients
  pub ready : AreReady table trace 1 clients

-- ---- after it

-- a client of this number after its last call
pub record IsDone (table : TableView) (trace : Trace) (number : ℕ) (c : Client) : Type 0 where
  pub number_is : c.number ≡ number
  pub of_table : c.seat.table ≡ table.id
  pub calls : ClientCalls trace.clock (tries_of_client trace.calls number) (client_start (setup_of trace) number) c.answers.items c.seat.view
  pub few : vec_len c.answers ≡ length (tries_of_client trace.calls number)
  pub hand : c.seat.in_hand ≡ false

abbrev pub AreDone : TableView → Trace → (number : ℕ) → List Client → Type 0
AreDone table trace number [] = Unit {0}
AreDone table trace number (client ∷ clients) = IsDone table trace number client × AreDone table trace (number + 1) clients

-- the workers have all clients of the trace, each after its last call
pub record IsWorkedOff (table : TableView) (trace : Trace) (workers : List ClientWorker) : Type 0 where
  pub clients : List Client
  pub all : length clients ≡ trace.clients
  pub stacked : Stacked 0 (stacks_of workers) clients
  pub done : AreDone table trace 1 clients
