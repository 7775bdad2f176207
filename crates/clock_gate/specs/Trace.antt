-- A lawful trace: what a run may be given. The format and its limits are this project's own.
use Rattle.std.specs.Prelude.{◌≡◌, ◌≤◌, ⊤, ℕ, ◌-◌, ◌==◌, Bool, true, false, nat_lt, if◌then◌else◌, List, [], ◌∷◌, length, take, filter_map, Option, Some, None, IfSome, All, sum_by, count_by}
use Rattle.std.specs.List.{range_with_len}
use Rattle.clock_gate.specs.declared.clock_row.ClockRow.{ClockRow}
use Rattle.clock_gate.specs.declared.limits.TheConstants.{LAST_MOMENT, MOST_CALLS, MOST_CLIENTS, MOST_DRIFT, MOST_HOST_ROWS, MOST_OF_A_LINE, MOST_POLLS, MOST_REPLY_BYTES, MOST_SCHEDULE_LINES, MOST_STORES, MOST_TRIES, MOST_TURNS}
use Rattle.clock_gate.specs.declared.trace.CallRow.{CallRow}
use Rattle.clock_gate.specs.declared.trace.HostRow.{HostRow}
use Rattle.clock_gate.specs.declared.trace.HostRow.TheVariants as hosts
use Rattle.clock_gate.specs.declared.trace.Party.{Party}
use Rattle.clock_gate.specs.declared.trace.Party.TheVariants as parties
use Rattle.clock_gate.specs.declared.trace.PollRow.{PollRow}
use Rattle.clock_gate.specs.declared.trace.Trace.{Trace}
use Rattle.clock_gate.specs.declared.trace.Turn.{Turn}
use Rattle.clock_gate.specs.declared.trace.Turn.TheVariants as turns

-- a number from one to another
abbrev pub IsFrom : ℕ → ℕ → ℕ → Type 0
IsFrom low high n = (low ≤ n) × (n ≤ high)

-- the number of a client
abbrev pub IsClient : ℕ → Type 0
IsClient client = IsFrom 1 MOST_CLIENTS client

-- the times of a row of the clock
pub record IsClockRow (row : ClockRow) : Type 0 where
  pub mono : row.mono ≤ LAST_MOMENT
  pub real : row.real ≤ LAST_MOMENT
  pub truth : IfSome row.truth (λ moment. moment ≤ LAST_MOMENT)

-- the monotonic clock falls at none of these rows: no later row is below an earlier one
unfoldable pub NeverFalls : List ClockRow → Type 0
NeverFalls [] = ⊤
NeverFalls (row ∷ rest) = All (λ later. row.mono ≤ later.mono) rest × NeverFalls rest

-- the number that a row of the host gives a row of the clock
abbrev pub clock_number : HostRow → Option ℕ
clock_number (hosts.Clock number) = Some number
clock_number (hosts.Page words) = None
clock_number hosts.Disrupt = None

-- the numbers of the clock's rows, in the order in which the host comes to them
unfoldable pub clock_numbers : List HostRow → List ℕ
clock_numbers host = filter_map clock_number host

-- the host begins with the first row of the clock and comes to each of so many rows once, in their order
pub record IsHostOf (clock_rows : ℕ) (host : List HostRow) : Type 0 where
  pub begins : take 1 host ≡ hosts.Clock 1 ∷ []
  pub numbered : clock_numbers host ≡ range_with_len 1 clock_rows

-- one poll: its reply is short, and its stop is after some of the stores of a publication
pub record IsPollRow (row : PollRow) : Type 0 where
  pub reply : length row.reply ≤ MOST_REPLY_BYTES
  pub stop : IfSome row.stop (λ stores. stores ≤ MOST_STORES)

-- one call
pub record IsCallRow (row : CallRow) : Type 0 where
  pub client : IsClient row.client
  pub tries : IsFrom 1 MOST_TRIES row.tries

-- the host, the daemon, or a client by its number
abbrev pub IsParty : Party → Type 0
IsParty parties.Host = ⊤
IsParty parties.Daemon = ⊤
IsParty (parties.Client client) = IsClient client

-- one line of a schedule
abbrev pub IsTurn : Turn → Type 0
IsTurn (turns.Run party count) = IsParty party × IsFrom 1 MOST_OF_A_LINE count
IsTurn (turns.Jobs party count) = IsParty party × IsFrom 1 MOST_OF_A_LINE count

-- the turns that one line of a schedule gives by their number
abbrev pub turns_in : Turn → ℕ
turns_in (turns.Run party count) = count
turns_in (turns.Jobs party count) = 0

-- and all lines of a schedule
unfoldable pub turns_of : List Turn → ℕ
turns_of schedule = sum_by turns_in schedule

unfoldable pub larger : ℕ → ℕ → ℕ
larger a b = if nat_lt a b then b else a

-- the largest of a number and of the clients of these calls
unfoldable pub largest_from : ℕ → List CallRow → ℕ
largest_from least [] = least
largest_from least (row ∷ rest) = largest_from (larger least row.client) rest

-- the largest client of these calls, 1 without calls
abbrev pub largest_client : List CallRow → ℕ
largest_client calls = largest_from 1 calls

abbrev pub same_party : Party → Party → Bool
same_party parties.Host parties.Host = true
same_party parties.Daemon parties.Daemon = true
same_party (parties.Client client) (parties.Client other) = client == other
same_party party other = false

-- how often a party stands in an order of jobs
unfoldable pub times : Party → List Party → ℕ
times party order = count_by (same_party party) order

-- how many calls are those of a client
unfoldable pub calls_by : ℕ → List CallRow → ℕ
calls_by client calls = count_by (λ row. row.client == client) calls

-- how many jobs a party has: the host a job for each of its rows but the first, the daemon one for each poll, a client
-- one for each of its calls
abbrev pub jobs_of : List HostRow → List PollRow → List CallRow → Party → ℕ
jobs_of host polls calls parties.Host = length host - 1
jobs_of host polls calls parties.Daemon = length polls
jobs_of host polls calls (parties.Client client) = calls_by client calls

-- what a run may be given, as far as it can be told without the layouts of a segment and of a page
pub record IsLawfulTrace (trace : Trace) : Type 0 where
  -- the numbers
  pub drift : trace.drift ≤ MOST_DRIFT
  pub tries : IsFrom 1 MOST_TRIES trace.tries
  pub clients : trace.clients ≡ largest_client trace.calls
  -- the clock and the host
  pub clock : All IsClockRow trace.clock
  pub rises : NeverFalls trace.clock
  pub host : IsHostOf (length trace.clock) trace.host
  pub host_few : length trace.host ≤ MOST_HOST_ROWS
  -- polls and calls
  pub polls : All IsPollRow trace.polls
  pub polls_few : length trace.polls ≤ MOST_POLLS
  pub calls : All IsCallRow trace.calls
  pub calls_few : length trace.calls ≤ MOST_CALLS
  -- the schedule
  pub turns : All IsTurn trace.turns
  pub turns_few : length trace.turns ≤ MOST_SCHEDULE_LINES
  pub turns_most : turns_of trace.turns ≤ MOST_TURNS
  -- the order names each job of each party once, and nothing else
  pub order : (party : Party) → times party trace.order ≡ jobs_of trace.host trace.polls trace.calls party
