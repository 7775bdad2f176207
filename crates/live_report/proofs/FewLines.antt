-- A run has few lines: each of the daemon's is a step of its polls, and each of a client's is the answer of one of its calls.
use Rattle.std.proofs.Common.{◌≡◌, ℕ, suc, ◌+◌, ◌*◌, ◌≤◌, List, [], ◌∷◌, ◌++◌, length, length-append, refl, ap, subst, arith, Option, Some, None}
use Rattle.std.specs.List.{range_with_len}
use Rattle.std.proofs.lemmas.List.FromFn.{length-range_with_len}
use Rattle.clock_gate.specs.declared.clock_row.ClockRow.{ClockRow}
use Rattle.clock_gate.specs.declared.trace.Trace.{Trace}
use Rattle.status_machine.specs.declared.daemon.Daemon.{Daemon}
use Rattle.interval_now.specs.declared.answers.Answer.{Answer}
use Rattle.segment_views.specs.declared.setup.Setup.{Setup}
use Rattle.segment_views.specs.Views.{SeatView}
use Rattle.lawful_report.specs.Composed.{tries_of_client}
use Rattle.live_report.specs.declared.line.Line.{Line}
use Rattle.live_report.specs.declared.line.Line.TheVariants as lines
use Rattle.live_report.specs.DaemonCalls.{DaemonPlace, CallsNext, DaemonCalls, place_first}
use Rattle.live_report.specs.ClientCalls.{ClientCalls, AllClientCalls, client_start, answer_lines, client_lines}
use Rattle.live_report.specs.LiveRun.{setup_of}
use Rattle.live_report.specs.LiveLaws.{RunsHaveFewLines}
use Rattle.live_report.proofs.Clients.{clients_within, tries_few}

-- ---- the daemon

-- one where the daemon runs
abbrev running : Option Daemon → ℕ
running None = 0
running (Some daemon) = 1

running_most : (daemon : Option Daemon) → running daemon ≤ 1
running_most None = omega arith
running_most (Some daemon) = omega arith

-- each call is a step: an opening makes the daemon run, and a poll is done
one_step : (trace : Trace) (p : DaemonPlace) (line : Line) (q : DaemonPlace) → CallsNext trace p line q → 2 * p.polled + running p.daemon + 1 ≤ 2 * q.polled + running q.daemon
one_step trace p (lines.Opened poll start moved) q x =
    let stopped : running p.daemon ≡ 0 = ap running x.stopped in
    let runs : running q.daemon ≡ 1 = ap running x.daemon_after in
    let same = x.polled_after in
    omega (arith, stopped, runs, same)
one_step trace p (lines.Polled poll polled) q x =
    let most = running_most p.daemon in
    let next = x.polled_after in
    omega (arith, most, next)
one_step trace p (lines.Answered client call answer) q x = absurd x

daemon_steps : (trace : Trace) (p : DaemonPlace) (said : List Line) (q : DaemonPlace) → DaemonCalls trace p said q → 2 * p.polled + running p.daemon + length said ≤ 2 * q.polled + running q.daemon
daemon_steps trace p [] q calls = subst (λ (x : DaemonPlace). 2 * p.polled + running p.daemon + 0 ≤ 2 * x.polled + running x.daemon) calls (omega arith)
daemon_steps trace p (line ∷ later) q calls =
    let here = one_step trace p line calls.0 calls.1 in
    let rest = daemon_steps trace calls.0 later q calls.2 in
    omega (arith, here, rest)

-- ---- the clients

answers_as_tries : (clock : List ClockRow) (tries : List ℕ) (v : SeatView) (answers : List Answer) (w : SeatView) → ClientCalls clock tries v answers w → length answers ≡ length tries
answers_as_tries clock [] v [] w calls = refl
answers_as_tries clock [] v (answer ∷ answers) w calls = absurd calls
answers_as_tries clock (t ∷ tries) v [] w calls = absurd calls
answers_as_tries clock (t ∷ tries) v (answer ∷ answers) w calls = ap suc (answers_as_tries clock tries calls.0 answers w calls.2)

as_many : (client number : ℕ) (answers : List Answer) → length (answer_lines client number answers) ≡ length answers
as_many client number [] = refl
as_many client number (answer ∷ answers) = ap suc (as_many client (number + 1) answers)

clients_most : (trace : Trace) (setup : Setup) (clients : List ℕ) (answers : List (List Answer)) (views : List SeatView) → length trace.calls ≤ 300000
    → AllClientCalls trace setup clients answers views → length (client_lines clients answers) ≤ 300000 * length clients
clients_most trace setup [] [] [] few calls = omega arith
clients_most trace setup [] [] (view ∷ views) few calls = absurd calls
clients_most trace setup [] (said ∷ answers) views few calls = absurd calls
clients_most trace setup (client ∷ clients) [] views few calls = absurd calls
clients_most trace setup (client ∷ clients) (said ∷ answers) [] few calls = absurd calls
clients_most trace setup (client ∷ clients) (said ∷ answers) (view ∷ views) few calls =
    let same = answers_as_tries trace.clock (tries_of_client trace.calls client) (client_start setup client) said view calls.0 in
    let most = tries_few trace.calls client in
    let many = as_many client 1 said in
    let both = length-append (answer_lines client 1 said) (client_lines clients answers) in
    let rest = clients_most trace setup clients answers views few calls.1 in
    omega (arith, same, most, many, both, rest, few)

-- ---- the run

pub few_lines : RunsHaveFewLines
few_lines trace said host daemon clients given run =
    let lawful = given.can.lawful in
    let within = (clients_within trace lawful).1 in
    let polls = lawful.polls_few in
    let steps = daemon_steps trace (place_first (setup_of trace)) run.daemon_lines run.daemon_last run.daemon_calls in
    let runs = running_most run.daemon_last.daemon in
    let done = run.all_polls in
    let numbers = length-range_with_len 1 trace.clients in
    let theirs = clients_most trace (setup_of trace) (range_with_len 1 trace.clients) run.answers clients lawful.calls_few run.client_calls in
    let both = length-append run.daemon_lines (client_lines (range_with_len 1 trace.clients) run.answers) in
    let all : length said ≡ length (run.daemon_lines ++ client_lines (range_with_len 1 trace.clients) run.answers) = ap length run.lines_are in
    omega (arith, within, polls, steps, runs, done, numbers, theirs, both, all)
