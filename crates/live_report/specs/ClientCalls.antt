-- A client's calls on its seat, one after another, each with its answer.
use Rattle.std.specs.Prelude.{◌≡◌, ℕ, ◌+◌, ◌==◌, if◌then◌else◌, List, [], ◌∷◌, ◌++◌}
use Rattle.clock_gate.specs.declared.clock_row.ClockRow.{ClockRow}
use Rattle.clock_gate.specs.declared.trace.Trace.{Trace}
use Rattle.interval_now.specs.declared.answers.Answer.{Answer}
use Rattle.segment_views.specs.declared.setup.Setup.{Setup}
use Rattle.segment_views.specs.Views.{SeatView}
use Rattle.segment_views.specs.Seats.{opener, without_host, without_daemon, part_of}
use Rattle.segment_views.specs.Steps.{calls_of}
use Rattle.segment_rule.specs.Calls.{Nows}
use Rattle.lawful_report.specs.Composed.{tries_of_client}
use Rattle.live_report.specs.declared.line.Line.{Line}
use Rattle.live_report.specs.declared.line.Line.TheVariants as lines

-- the first client's seat as the table gave it; that of each further client is split off it before its first call
abbrev pub client_first : Setup → SeatView
client_first setup = without_daemon (without_host (opener setup))

abbrev pub client_start : Setup → (client : ℕ) → SeatView
client_start setup client = if client == 1 then client_first setup else part_of (client_first setup)

-- a call of so many tries: it adds itself to the calls of the view, begins with what the seat had seen, and came to this answer
pub record AsksNext (clock : List ClockRow) (tries : ℕ) (v : SeatView) (answer : Answer) (w : SeatView) : Type 0 where
  pub setup : w.setup ≡ v.setup
  pub calls : w.calls ≡ calls_of v
  pub before : w.before ≡ v.seen
  pub nows : Nows clock tries answer w

-- calls with these tries lead from one view of the seat to another, and these are their answers, in their order
abbrev pub ClientCalls : List ClockRow → (tries : List ℕ) → SeatView → List Answer → SeatView → Type 0
ClientCalls clock [] v [] w = v ≡ w
ClientCalls clock [] v (answer ∷ answers) w = ⊥
ClientCalls clock (tries ∷ left) v [] w = ⊥
ClientCalls clock (tries ∷ left) v (answer ∷ answers) w = (next : SeatView) × AsksNext clock tries v answer next × ClientCalls clock left next answers w

-- the calls of the trace of these clients, each client's by itself
abbrev pub AllClientCalls : Trace → Setup → List ℕ → List (List Answer) → List SeatView → Type 0
AllClientCalls trace setup [] [] [] = Unit {0}
AllClientCalls trace setup (client ∷ clients) (answers ∷ later) (view ∷ views) =
    ClientCalls trace.clock (tries_of_client trace.calls client) (client_start setup client) answers view × AllClientCalls trace setup clients later views
AllClientCalls trace setup clients answers views = ⊥

-- ---- their lines

-- of one client, from the call with this number on
abbrev pub answer_lines : (client number : ℕ) → List Answer → List Line
answer_lines client number [] = []
answer_lines client number (answer ∷ later) = lines.Answered client number answer ∷ answer_lines client (number + 1) later

-- of these clients, one client after another
abbrev pub client_lines : List ℕ → List (List Answer) → List Line
client_lines [] answers = []
client_lines (client ∷ clients) [] = []
client_lines (client ∷ clients) (answers ∷ later) = answer_lines client 1 answers ++ client_lines clients later
