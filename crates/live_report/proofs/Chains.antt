-- One call more at the end of a chain, and what further settling leaves.
use Rattle.std.proofs.Common.{ℕ, List, [], ◌∷◌, ◌++◌, refl, sym, ap, ◌∙◌, subst}
use Rattle.clock_gate.specs.declared.clock_row.ClockRow.{ClockRow}
use Rattle.clock_gate.specs.declared.trace.Trace.{Trace}
use Rattle.interval_now.specs.declared.answers.Answer.{Answer}
use Rattle.segment_views.specs.Views.{SeatView}
use Rattle.segment_rule.specs.Settled.{IsSameBut, AreSettled}
use Rattle.live_report.specs.declared.line.Line.{Line}
use Rattle.live_report.specs.DaemonCalls.{DaemonPlace, CallsNext, DaemonCalls}
use Rattle.live_report.specs.ClientCalls.{AsksNext, ClientCalls}

-- one call of the daemon more
pub daemon_more : (trace : Trace) (p : DaemonPlace) (lines : List Line) (m : DaemonPlace) (line : Line) (q : DaemonPlace) → DaemonCalls trace p lines m → CallsNext trace m line q → DaemonCalls trace p (lines ++ line ∷ []) q
daemon_more trace p [] m line q are next = (q, subst (λ (x : DaemonPlace). CallsNext trace x line q) (sym are) next, refl)
daemon_more trace p (first ∷ lines) m line q are next = (are.0, are.1, daemon_more trace are.0 lines m line q are.2 next)

-- one call of a client more
pub client_more : (clock : List ClockRow) (tries : List ℕ) (v : SeatView) (answers : List Answer) (m : SeatView) (more : ℕ) (answer : Answer) (w : SeatView) → ClientCalls clock tries v answers m → AsksNext clock more m answer w
    → ClientCalls clock (tries ++ more ∷ []) v (answers ++ answer ∷ []) w
client_more clock [] v [] m more answer w are next = (w, subst (λ (x : SeatView). AsksNext clock more x answer w) (sym are) next, refl)
client_more clock [] v (said ∷ answers) m more answer w are next = absurd are
client_more clock (first ∷ tries) v [] m more answer w are next = absurd are
client_more clock (first ∷ tries) v (said ∷ answers) m more answer w are next = (are.0, are.1, client_more clock tries are.0 answers m more answer w are.2 next)

-- what is learned twice
pub same_but_on : (v w x : SeatView) → IsSameBut v w → IsSameBut w x → IsSameBut v x
same_but_on v w x one two = two ∙ ap (λ (y : SeatView). record y { taught = x.taught }) one

-- what was settled stays so
pub settled_on : (host daemon client host_later daemon_later : SeatView) → AreSettled host daemon client → IsSameBut host host_later → IsSameBut daemon daemon_later → AreSettled host_later daemon_later client
settled_on host daemon client host_later daemon_later are one two =
    subst (λ (x : SeatView). AreSettled x daemon_later client) (sym one)
    (subst (λ (x : SeatView). AreSettled (record host { taught = host_later.taught }) x client) (sym two)
    (record {
      history = are.history;
      point = are.point;
      pages = are.pages;
      rows = are.rows;
      daemon_pages = are.daemon_pages;
      daemon_rows = are.daemon_rows;
      begun = are.begun;
      daemon_begun = are.daemon_begun;
    }))
