-- A schedule over the run over words, and over the abstract run: the first shows the second to the end.
use Rattle.std.proofs.Common.{◌≡◌, ℕ, zero, suc, ◌+◌, ◌-◌, ◌*◌, Bool, true, false, List, [], ◌∷◌, ◌++◌, length, Option, Some, None, is_some, refl, ap, sym, ◌∙◌, subst}
use Rattle.std.specs.Prelude.{◌||◌, not, nat_le, nat_lt, slice_get, if◌then◌else◌}
use Rattle.clock_gate.specs.declared.trace.Party.{Party}
use Rattle.clock_gate.specs.declared.trace.Party.TheVariants.{Host, Daemon, Client}
use Rattle.clock_gate.specs.declared.trace.Trace.{Trace}
use Rattle.clock_gate.specs.declared.trace.Turn.{Turn}
use Rattle.clock_gate.specs.declared.trace.Turn.TheVariants as turns
use Rattle.clock_gate.specs.Trace.{IsLawfulTrace, times}
use Rattle.segment_run.specs.SegmentRun.{SegmentRun}
use Rattle.interval_now.specs.Call.{Call}
use Rattle.abstract_run.specs.declared.limits.TheConstants.{MOST_JOB_STEPS}
use Rattle.abstract_run.specs.Schedule as schedule
use Rattle.abstract_run.specs.Run.{Run, turn, start}
use Rattle.abstract_run.specs.HostRun.{HostRun}
use Rattle.abstract_run.specs.DaemonRun.{Work, Resting, Opening, Asking, Looking, Taking, Writing, DaemonRun}
use Rattle.abstract_run.specs.ClientRun.{CallRun, ClientRun}
use Rattle.abstract_run.specs.RunWhole as whole
use Rattle.abstract_run.specs.RunWhole.{run_of, run_from, lines_from, finish}
use Rattle.abstract_run.specs.Given.{IsGiven}
use Rattle.step_core.specs.declared.hand.Hand.{Hand}
use Rattle.step_core.specs.declared.hand.Hand.TheVariants as hands
use Rattle.step_core.specs.declared.marks.Marks.{Marks}
use Rattle.step_core.specs.Shared as shareds
use Rattle.step_core.specs.Shared.{Shared, shared_turn, shared_start, shared_run, shared_lines, shared_finish}
use Rattle.step_core.specs.SharedDaemon as shared_daemon
use Rattle.step_core.specs.SharedClient as shared_client
use Rattle.step_core.specs.SharedClient.{ClientState}
use Rattle.step_core.specs.ShowsDaemon.{ShowsWork}
use Rattle.step_core.specs.ShowsClient.{ShowsCallOf}
use Rattle.step_core.specs.Shows.{Shows}
use Rattle.step_core.proofs.ClientLater.{ShowsClientOf}
use Rattle.step_core.proofs.Turn.{client_of, turn_shows, start_shows}

-- ---- jobs

work_rests : (trace : Trace) (host : HostRun) (segment : SegmentRun) (run : DaemonRun) (work : Work) (hand : Hand) → ShowsWork trace host segment run work hand → shared_daemon.is_resting hand ≡ whole.is_resting work
work_rests trace host segment run Resting hands.Resting shows = refl
work_rests trace host segment run Resting (hands.Opening reopening) shows = absurd shows
work_rests trace host segment run Resting (hands.Polling polling) shows = absurd shows.1
work_rests trace host segment run (Opening begins old steps) hands.Resting shows = absurd shows
work_rests trace host segment run (Opening begins old steps) (hands.Opening reopening) shows = refl
work_rests trace host segment run (Opening begins old steps) (hands.Polling polling) shows = refl
work_rests trace host segment run Asking hands.Resting shows = absurd shows
work_rests trace host segment run Asking (hands.Opening reopening) shows = absurd shows
work_rests trace host segment run Asking (hands.Polling polling) shows = refl
work_rests trace host segment run (Looking row reading marked_at) hands.Resting shows = absurd shows
work_rests trace host segment run (Looking row reading marked_at) (hands.Opening reopening) shows = absurd shows
work_rests trace host segment run (Looking row reading marked_at) (hands.Polling polling) shows = refl
work_rests trace host segment run (Taking asked) hands.Resting shows = absurd shows
work_rests trace host segment run (Taking asked) (hands.Opening reopening) shows = absurd shows
work_rests trace host segment run (Taking asked) (hands.Polling polling) shows = refl
work_rests trace host segment run (Writing storing) hands.Resting shows = absurd shows
work_rests trace host segment run (Writing storing) (hands.Opening reopening) shows = absurd shows
work_rests trace host segment run (Writing storing) (hands.Polling polling) shows = refl

call_in_hand : (trace : Trace) (host : HostRun) (segment : SegmentRun) (run : Option CallRun) (call : Option Call) (marks : Marks) → ShowsCallOf trace host segment run call marks
    → (whole.in_hand call ≡ whole.in_hand run) × (is_some call ≡ is_some run)
call_in_hand trace host segment None None marks shows = (refl, refl)
call_in_hand trace host segment None (Some call) marks shows = absurd shows
call_in_hand trace host segment (Some run) None marks shows = absurd shows
call_in_hand trace host segment (Some run) (Some call) marks shows = (refl, refl)

client_ended : (trace : Trace) (host : HostRun) (segment : SegmentRun) (number : ℕ) (run : Option ClientRun) (client : Option ClientState) → ShowsClientOf trace host segment number run client
    → shareds.ended_of client ≡ whole.calls_ended run
unfolding shared_client.client_ended
client_ended trace host segment number None None shows = refl
client_ended trace host segment number None (Some client) shows = absurd shows
client_ended trace host segment number (Some run) None shows = absurd shows
client_ended trace host segment number (Some run) (Some client) shows =
    let hand = (call_in_hand trace host segment run.call client.call client.marks shows.call).0 in
    ap (λ (n : ℕ). n - whole.in_hand client.call) shows.begun ∙ ap (λ (n : ℕ). run.begun - n) hand

client_has : (trace : Trace) (host : HostRun) (segment : SegmentRun) (number : ℕ) (run : Option ClientRun) (client : Option ClientState) → ShowsClientOf trace host segment number run client
    → shareds.has_job_of client ≡ whole.has_call run
client_has trace host segment number None None shows = refl
client_has trace host segment number None (Some client) shows = absurd shows
client_has trace host segment number (Some run) None shows = absurd shows
client_has trace host segment number (Some run) (Some client) shows =
    let hand = (call_in_hand trace host segment run.call client.call client.marks shows.call).1 in
    ap (λ (some : Bool). if some then true else whole.is_left client.left) hand
    ∙ ap (λ (left : List ℕ). if is_some run.call then true else whole.is_left left) shows.left

-- as many jobs of a party have ended
pub ended_shows : (trace : Trace) (run : Run) (w : Shared) (who : Party) → Shows trace run w → shareds.jobs_ended w who ≡ whole.jobs_ended run who
ended_shows trace run w Host shows = ap (λ (n : ℕ). n - 1) shows.same_host
ended_shows trace run w Daemon shows =
    ap (λ (rests : Bool). if rests then w.daemon.polled else w.daemon.polled - 1) (work_rests trace run.host run.segment run.daemon run.daemon.work w.daemon.hand shows.daemon.work)
    ∙ ap (λ (n : ℕ). if whole.is_resting run.daemon.work then n else n - 1) shows.daemon.same_polled
ended_shows trace run w (Client zero) shows = refl
ended_shows trace run w (Client (suc place)) shows =
    client_ended trace run.host run.segment (suc place) (slice_get run.clients place) (slice_get w.clients place) (client_of trace run w place shows)

-- and a party has a job in hand or left, or neither has
pub has_job_shows : (trace : Trace) (run : Run) (w : Shared) (who : Party) → Shows trace run w → shareds.has_job w who ≡ whole.has_job trace run who
has_job_shows trace run w Host shows =
    ap (λ (given : Trace). nat_lt w.host.done (length given.host)) shows.same_trace ∙ ap (λ (n : ℕ). nat_lt n (length trace.host)) shows.same_host
has_job_shows trace run w Daemon shows =
    ap (λ (given : Trace). shared_daemon.daemon_has_job given.polls w.daemon) shows.same_trace
    ∙ ap (λ (rests : Bool). if rests then nat_lt w.daemon.polled (length trace.polls) else true) (work_rests trace run.host run.segment run.daemon run.daemon.work w.daemon.hand shows.daemon.work)
    ∙ ap (λ (n : ℕ). if whole.is_resting run.daemon.work then nat_lt n (length trace.polls) else true) shows.daemon.same_polled
has_job_shows trace run w (Client zero) shows = refl
has_job_shows trace run w (Client (suc place)) shows =
    client_has trace run.host run.segment (suc place) (slice_get run.clients place) (slice_get w.clients place) (client_of trace run w place shows)

-- ---- a schedule

module _ (trace : Trace) (lawful : IsLawfulTrace trace) where
  turns_shows : (count : ℕ) (who : Party) (run : Run) (w : Shared) → Shows trace run w
      → Shows trace (schedule.turns_of (turn trace) whole.jobs_ended (whole.has_job trace) count who run) (schedule.turns_of shared_turn shareds.jobs_ended shareds.has_job count who w)
  turns_shows zero who run w shows = shows
  turns_shows (suc more) who run w shows = turns_shows more who (turn trace run who) (shared_turn w who) (turn_shows trace lawful run w who shows)

  done_shows : (who : Party) (jobs : ℕ) (run : Run) (w : Shared) → Shows trace run w
      → schedule.is_done shared_turn shareds.jobs_ended shareds.has_job who jobs w ≡ schedule.is_done (turn trace) whole.jobs_ended (whole.has_job trace) who jobs run
  done_shows who jobs run w shows =
      ap (λ (n : ℕ). nat_le jobs n || not (shareds.has_job w who)) (ended_shows trace run w who shows)
      ∙ ap (λ (has : Bool). nat_le jobs (whole.jobs_ended run who) || not has) (has_job_shows trace run w who shows)

  one_of : (done : Bool) (run run_on : Run) (w w_on : Shared) → Shows trace run w → Shows trace run_on w_on → Shows trace (if done then run else run_on) (if done then w else w_on)
  one_of true run run_on w w_on shows shows_on = shows
  one_of false run run_on w w_on shows shows_on = shows_on

  until_shows : (most : ℕ) (who : Party) (jobs : ℕ) (run : Run) (w : Shared) → Shows trace run w
      → Shows trace (schedule.until_done (turn trace) whole.jobs_ended (whole.has_job trace) most who jobs run) (schedule.until_done shared_turn shareds.jobs_ended shareds.has_job most who jobs w)
  until_shows zero who jobs run w shows = shows
  until_shows (suc most) who jobs run w shows =
      let run_on = schedule.until_done (turn trace) whole.jobs_ended (whole.has_job trace) most who jobs (turn trace run who) in
      let w_on = schedule.until_done shared_turn shareds.jobs_ended shareds.has_job most who jobs (shared_turn w who) in
      let done = schedule.is_done (turn trace) whole.jobs_ended (whole.has_job trace) who jobs run in
      subst (λ (test : Bool). Shows trace (if done then run else run_on) (if test then w else w_on)) (sym (done_shows who jobs run w shows))
      (one_of done run run_on w w_on shows (until_shows most who jobs (turn trace run who) (shared_turn w who) (turn_shows trace lawful run w who shows)))

  line_shows : (line : Turn) (run : Run) (w : Shared) → Shows trace run w
      → Shows trace (schedule.line (turn trace) whole.jobs_ended (whole.has_job trace) run line) (schedule.line shared_turn shareds.jobs_ended shareds.has_job w line)
  line_shows (turns.Run who count) run w shows = turns_shows count who run w shows
  line_shows (turns.Jobs who count) run w shows =
      subst (λ (n : ℕ). Shows trace (schedule.until_done (turn trace) whole.jobs_ended (whole.has_job trace) (count * MOST_JOB_STEPS) who (whole.jobs_ended run who + count) run)
      (schedule.until_done shared_turn shareds.jobs_ended shareds.has_job (count * MOST_JOB_STEPS) who (n + count) w)) (sym (ended_shows trace run w who shows))
      (until_shows (count * MOST_JOB_STEPS) who (whole.jobs_ended run who + count) run w shows)

  lines_shows : (lines : List Turn) (run : Run) (w : Shared) → Shows trace run w
      → Shows trace (schedule.lines (turn trace) whole.jobs_ended (whole.has_job trace) run lines) (schedule.lines shared_turn shareds.jobs_ended shareds.has_job w lines)
  lines_shows [] run w shows = shows
  lines_shows (first ∷ later) run w shows =
      lines_shows later (schedule.line (turn trace) whole.jobs_ended (whole.has_job trace) run first) (schedule.line shared_turn shareds.jobs_ended shareds.has_job w first) (line_shows first run w shows)

  -- what the schedule leaves of the order
  pub walk_shows : (before order : List Party) (run : Run) (w : Shared) → Shows trace run w
      → Shows trace (schedule.walk (turn trace) whole.jobs_ended (whole.has_job trace) before run order) (schedule.walk shared_turn shareds.jobs_ended shareds.has_job before w order)
  walk_shows before [] run w shows = shows
  walk_shows before (who ∷ later) run w shows =
      walk_shows (before ++ who ∷ []) later (schedule.until_done (turn trace) whole.jobs_ended (whole.has_job trace) MOST_JOB_STEPS who (times who before + 1) run)
      (schedule.until_done shared_turn shareds.jobs_ended shareds.has_job MOST_JOB_STEPS who (times who before + 1) w) (until_shows MOST_JOB_STEPS who (times who before + 1) run w shows)

  pub finish_shows : (run : Run) (w : Shared) → Shows trace run w → Shows trace (finish trace run) (shared_finish w)
  finish_shows run w shows =
      subst (λ (given : Trace). Shows trace (finish trace run) (schedule.walk shared_turn shareds.jobs_ended shareds.has_job [] w given.order)) (sym shows.same_trace)
      (walk_shows [] trace.order run w shows)

  pub lines_from_shows : (run : Run) (w : Shared) → Shows trace run w → Shows trace (lines_from trace run) (shared_lines w)
  lines_from_shows run w shows =
      subst (λ (given : Trace). Shows trace (lines_from trace run) (schedule.lines shared_turn shareds.jobs_ended shareds.has_job w given.turns)) (sym shows.same_trace)
      (lines_shows trace.turns run w shows)

  -- a run from here to its end
  pub run_shows : (run : Run) (w : Shared) → Shows trace run w → Shows trace (run_from trace run) (shared_run w)
  run_shows run w shows = finish_shows (lines_from trace run) (shared_lines w) (lines_from_shows run w shows)

-- the whole run of a trace
pub whole_shows : (trace : Trace) → IsGiven trace → Shows trace (run_of trace) (shared_run (shared_start trace))
whole_shows trace given = run_shows trace given.can.lawful (start trace) (shared_start trace) (start_shows trace given)

-- so its events are those of the abstract run
pub whole_events : (trace : Trace) → IsGiven trace → (shared_run (shared_start trace)).events ≡ (run_of trace).events
whole_events trace given = (whole_shows trace given).same_events
