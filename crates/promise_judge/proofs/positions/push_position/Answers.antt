use Rattle.std.proofs.Common.{◌+◌, ◌++◌, ◌∷◌, [], List, ℕ, sym, ap, ◌∙◌, subst}
use Rattle.clock_gate.specs.declared.trace.HostRow.{HostRow}
use Rattle.promise_judge.specs.Shown.{ArePositions}
use Rattle.promise_judge.specs.Telling.{clock_at}
use Rattle.promise_judge.proofs.Places.{clocks}
use Rattle.promise_judge.proofs.Placing.{positions_clock, positions_other}
use Rattle.promise_judge.proofs.positions.push_position.Goals as goal

pub returns-in_ok-push-in-Clock : goal.returns-in_ok-push-in-Clock
returns-in_ok-push-in-Clock c = λ host count done lawful lt is at are.
    subst (λ (l : List ℕ). ArePositions host (clock_at host (done + 1)) l) (sym (c.in_ok-push-in-Clock.ensures.items ∙ ap (λ n. c.args.positions.now.items ++ n ∷ []) at))
    (positions_clock host count done c.in-Clock.field-0 c.args.positions.now.items lawful lt (sym is ∙ c.in-Clock.is) are)

pub returns-in-Page : goal.returns-in-Page
returns-in-Page c = λ host count done lawful lt is at are. positions_other host done c.args.positions.now.items lt (ap (λ (r : HostRow). clocks (r ∷ [])) (sym is ∙ c.in-Page.is)) are

pub returns-in-Disrupt : goal.returns-in-Disrupt
returns-in-Disrupt c = λ host count done lawful lt is at are. positions_other host done c.args.positions.now.items lt (ap (λ (r : HostRow). clocks (r ∷ [])) (sym is ∙ c.in-Disrupt.is)) are
