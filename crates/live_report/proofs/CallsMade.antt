-- The calls in the views are those of the lines.
use Rattle.std.proofs.Common.{◌≡◌, ◌≢◌, ℕ, List, [], ◌∷◌, ◌++◌, refl, sym, ap, ◌∙◌, append_assoc, append-nil, Bool, true, false}
use Rattle.std.specs.Prelude.{◌==◌, if◌then◌else◌, is_some}
use Rattle.clock_gate.specs.declared.clock_row.ClockRow.{ClockRow}
use Rattle.clock_gate.specs.declared.trace.Trace.{Trace}
use Rattle.interval_now.specs.declared.answers.Answer.{Answer}
use Rattle.interval_now.specs.Call as call
use Rattle.writer_reopen.specs.declared.opening.Opening.{Opening}
use Rattle.writer_reopen.specs.declared.order.Order.{Order}
use Rattle.writer_reopen.specs.declared.polled.Polled.{Polled}
use Rattle.writer_reopen.specs.Opening.{new_opener, opening_end, opening_act, opening_given}
use Rattle.writer_reopen.specs.PollMachine.{new_polling, polling_end, polling_act, polling_given}
use Rattle.clock_gate.specs.Acts.{replayed}
use Rattle.segment_views.specs.declared.setup.Setup.{Setup}
use Rattle.segment_views.specs.Views.{Step, SeatView}
use Rattle.segment_views.specs.Seats.{part_of}
use Rattle.segment_views.specs.Steps.{Calls, calls_with, calls_of}
use Rattle.segment_views.specs.Shown.{touches_of}
use Rattle.segment_rule.specs.Calls.{Nows}
use Rattle.segment_rule.specs.Opens.{Reopens}
use Rattle.segment_rule.specs.Polls.{Polls}
use Rattle.lawful_report.specs.Composed.{tries_of_client}
use Rattle.live_report.specs.declared.line.Line.{Line}
use Rattle.live_report.specs.declared.line.Line.TheVariants as lines
use Rattle.live_report.specs.DaemonCalls.{DaemonPlace, CallsNext, DaemonCalls}
use Rattle.live_report.specs.ClientCalls.{client_first, client_start, ClientCalls, AllClientCalls}
use Rattle.live_report.specs.LiveLaws.{daemon_made, client_made, HoldTheirCalls}

-- one call more
one_more : (calls : Calls) (steps : List Step) → steps ≢ [] → calls_with calls steps ≡ calls ++ steps ∷ []
one_more calls [] some = absurd (some refl)
one_more calls (s ∷ steps) some = refl

-- a call that came to an answer has made a step
opening_made : (v w : SeatView) (opening : Opening) → Reopens v opening w → w.steps ≢ []
opening_made v w opening r none =
    let nothing : opening_end (replayed opening_act opening_given (new_opener v.setup.layout) (touches_of w.steps)) ≡ opening_end (new_opener v.setup.layout) = ap (λ (l : List Step). opening_end (replayed opening_act opening_given (new_opener v.setup.layout) (touches_of l))) none in
    cc (sym nothing ∙ r.answer)

poll_made : (clock : List ClockRow) (order : Order) (v w : SeatView) (polled : Polled) → Polls clock order v polled w → w.steps ≢ []
poll_made clock order v w polled r none =
    let nothing : polling_end (replayed polling_act (polling_given clock) (new_polling order) (touches_of w.steps)) ≡ polling_end (new_polling order) = ap (λ (l : List Step). polling_end (replayed polling_act (polling_given clock) (new_polling order) (touches_of l))) none in
    cc (sym nothing ∙ r.answer)

call_made : (clock : List ClockRow) (tries : ℕ) (answer : Answer) (w : SeatView) → Nows clock tries answer w → w.steps ≢ []
call_made clock tries answer w nows none =
    let nothing : call.end_of (replayed call.act_of (call.given clock) (call.started_call tries (is_some w.setup.page)) (touches_of w.steps)) ≡ call.end_of (call.started_call tries (is_some w.setup.page)) =
    ap (λ (l : List Step). call.end_of (replayed call.act_of (call.given clock) (call.started_call tries (is_some w.setup.page)) (touches_of l))) none in
    cc (sym nothing ∙ nows.came.1)

-- the calls after a call of the daemon
daemon_adds : (trace : Trace) (p : DaemonPlace) (line : Line) (q : DaemonPlace) → CallsNext trace p line q → calls_of q.view ≡ calls_of p.view ++ q.view.steps ∷ []
daemon_adds trace p (lines.Opened poll start moved) q x =
    ap (λ (c : Calls). calls_with c q.view.steps) x.reopens.calls ∙ one_more (calls_of p.view) q.view.steps (opening_made p.view q.view (record { start = start; moved = moved }) x.reopens)
daemon_adds trace p (lines.Polled poll polled) q x =
    ap (λ (c : Calls). calls_with c q.view.steps) x.polls.calls ∙ one_more (calls_of p.view) q.view.steps (poll_made trace.clock _ p.view q.view polled x.polls)
daemon_adds trace p (lines.Answered client number answer) q x = absurd x

pub daemon_calls : (trace : Trace) (p : DaemonPlace) (later : List Line) (q : DaemonPlace) (calls : DaemonCalls trace p later q) → calls_of q.view ≡ calls_of p.view ++ daemon_made trace p later q calls
daemon_calls trace p [] q calls = ap (λ (x : DaemonPlace). calls_of x.view) (sym calls) ∙ sym (append-nil (calls_of p.view))
daemon_calls trace p (line ∷ later) q calls =
    daemon_calls trace calls.0 later q calls.2
    ∙ (ap (λ (c : Calls). c ++ daemon_made trace calls.0 later q calls.2) (daemon_adds trace p line calls.0 calls.1)
    ∙ append_assoc (calls_of p.view) (calls.0.view.steps ∷ []) (daemon_made trace calls.0 later q calls.2))

client_calls : (clock : List ClockRow) (tries : List ℕ) (v : SeatView) (answers : List Answer) (w : SeatView) (calls : ClientCalls clock tries v answers w) → calls_of w ≡ calls_of v ++ client_made clock tries v answers w calls
client_calls clock [] v [] w calls = ap calls_of (sym calls) ∙ sym (append-nil (calls_of v))
client_calls clock [] v (answer ∷ answers) w calls = absurd calls
client_calls clock (t ∷ tries) v [] w calls = absurd calls
client_calls clock (t ∷ tries) v (answer ∷ answers) w calls =
    let x = calls.1 in
    client_calls clock tries calls.0 answers w calls.2
    ∙ (ap (λ (c : Calls). c ++ client_made clock tries calls.0 answers w calls.2) (ap (λ (c : Calls). calls_with c calls.0.steps) x.calls ∙ one_more (calls_of v) calls.0.steps (call_made clock t answer calls.0 x.nows))
    ∙ append_assoc (calls_of v) (calls.0.steps ∷ []) (client_made clock tries calls.0 answers w calls.2))

-- a seat that was not used has no calls
no_calls : (setup : Setup) (b : Bool) → calls_of (if b then client_first setup else part_of (client_first setup)) ≡ []
no_calls setup true = refl
no_calls setup false = refl

pub clients_hold : (trace : Trace) (setup : Setup) (clients : List ℕ) (answers : List (List Answer)) (views : List SeatView) (calls : AllClientCalls trace setup clients answers views) → HoldTheirCalls trace setup clients answers views calls
clients_hold trace setup [] [] [] calls = tt
clients_hold trace setup [] [] (view ∷ views) calls = tt
clients_hold trace setup [] (said ∷ answers) views calls = tt
clients_hold trace setup (client ∷ clients) [] views calls = tt
clients_hold trace setup (client ∷ clients) (said ∷ answers) [] calls = tt
clients_hold trace setup (client ∷ clients) (said ∷ answers) (view ∷ views) calls = (
  client_calls trace.clock (tries_of_client trace.calls client) (client_start setup client) said view calls.0
      ∙ ap (λ (c : Calls). c ++ client_made trace.clock (tries_of_client trace.calls client) (client_start setup client) said view calls.0) (no_calls setup (client == 1)),
  clients_hold trace setup clients answers views calls.1,
)
