use Rattle.std.proofs.Common.{◌≡◌, ◌++◌, ◌+◌, [], ℕ, List, drop, arith, ap, sym, ◌∙◌, append_assoc}
use Rattle.std.specs.Prelude.{vec_items}
use Rattle.std.proofs.lemmas.List.{drop_all, append-nil}
use Rattle.abstract_run.specs.declared.event.Event.{Event}
use Rattle.bound_cli.specs.Civil.{line_with}
use Rattle.bound_cli.specs.Replay.{printed_of, lines_of}
use Rattle.bound_cli.proofs.ReportLines.{lines_of-more, lines_of-none}
use Rattle.bound_cli.proofs.report.put_events.Goals as goal

pub events-preserved : goal.events-preserved
events-preserved c =
    let times = c.args.times in
    let start = c.args.start in
    let events = c.args.events.now in
    let i = c.events.event-index in
    let event = c.event-item.result in
    let more = lines_of-more times start events i event (omega (arith, c.events-test.true)) in
    let at : lines_of times start (drop i events) ≡ line_with times (printed_of start event) ++ lines_of times start (drop (i + 1) events) =
    more ∙ ap (λ (e : Event). line_with times (printed_of start e) ++ lines_of times start (drop (i + 1) events)) (sym c.event-item.is) in
    rw (c.in_ok-put_line_with.ensures, c.printed.ensures)
    (append_assoc (vec_items c.events.text) (line_with times (printed_of start event)) (lines_of times start (drop (i + 1) events))
    ∙ ap (λ (lines : List ℕ). vec_items c.events.text ++ lines) (sym at) ∙ c.events.invariant)

pub returns : goal.returns
returns c =
    let over : drop c.events.event-index c.args.events.now ≡ [] = drop_all c.events.event-index c.args.events.now (omega (arith, c.events-test.false)) in
    sym (append-nil (vec_items c.events.text)) ∙ rw (over, lines_of-none) at c.events.invariant
