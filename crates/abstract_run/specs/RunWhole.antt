-- The abstract run of a whole trace: the lines of its schedule, and then what they leave of the order's jobs.
use Rattle.std.specs.Prelude.{ℕ, ◌-◌, Bool, true, false, nat_lt, if◌then◌else◌, List, [], ◌∷◌, length, Option, Some, None, is_some}
use Rattle.clock_gate.specs.declared.trace.Party.{Party}
use Rattle.clock_gate.specs.declared.trace.Party.TheVariants.{Host, Daemon, Client}
use Rattle.clock_gate.specs.declared.trace.PollRow.{PollRow}
use Rattle.clock_gate.specs.declared.trace.Trace.{Trace}
use Rattle.abstract_run.specs.Schedule as schedule
use Rattle.abstract_run.specs.Run.{Run, start, turn, client_at}
use Rattle.abstract_run.specs.DaemonRun.{Work, Resting, DaemonRun}
use Rattle.abstract_run.specs.ClientRun.{ClientRun}

-- ---- the jobs of the daemon: its polls

abbrev pub is_resting : Work → Bool
is_resting Resting = true
is_resting other = false

-- all that were begun, but for the one in hand
abbrev pub polls_ended : DaemonRun → ℕ
polls_ended daemon = if is_resting daemon.work then daemon.polled else daemon.polled - 1

abbrev pub has_poll : List PollRow → DaemonRun → Bool
has_poll polls daemon = if is_resting daemon.work then nat_lt daemon.polled (length polls) else true

-- ---- the jobs of a client: its calls

-- a job in hand counts one
abbrev pub in_hand : {Job : Type 0} → Option Job → ℕ
in_hand None = 0
in_hand (Some call) = 1

abbrev pub calls_ended : Option ClientRun → ℕ
calls_ended None = 0
calls_ended (Some client) = client.begun - in_hand client.call

abbrev pub is_left : List ℕ → Bool
is_left [] = false
is_left (tries ∷ left) = true

abbrev pub has_call : Option ClientRun → Bool
has_call None = false
has_call (Some client) = if is_some client.call then true else is_left client.left

-- ---- the jobs of a party

-- how many have ended; those of the host are its rows after the first
abbrev pub jobs_ended : Run → Party → ℕ
jobs_ended run Host = run.host.done - 1
jobs_ended run Daemon = polls_ended run.daemon
jobs_ended run (Client client) = calls_ended (client_at run.clients client)

-- whether one is in hand or left
abbrev pub has_job : Trace → Run → Party → Bool
has_job trace run Host = nat_lt run.host.done (length trace.host)
has_job trace run Daemon = has_poll trace.polls run.daemon
has_job trace run (Client client) = has_call (client_at run.clients client)

-- ---- the whole run

-- the schedule's lines
abbrev pub lines_from : Trace → Run → Run
lines_from trace run = schedule.lines (turn trace) jobs_ended (has_job trace) run trace.turns

-- what the schedule leaves of the order's jobs
abbrev pub finish : Trace → Run → Run
finish trace run = schedule.walk (turn trace) jobs_ended (has_job trace) [] run trace.order

-- from a run on: the schedule's lines, and then the rest of the order
abbrev pub run_from : Trace → Run → Run
run_from trace run = finish trace (lines_from trace run)

abbrev pub run_of : Trace → Run
run_of trace = run_from trace (start trace)
