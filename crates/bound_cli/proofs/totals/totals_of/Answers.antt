use Rattle.std.proofs.Common.{◌≡◌, ◌+◌, [], drop, arith, ap, sym, ◌∙◌}
use Rattle.std.proofs.lemmas.List.{drop_all}
use Rattle.abstract_run.specs.declared.event.Event.{Event}
use Rattle.bound_cli.specs.declared.totals.Totals.{Totals}
use Rattle.bound_cli.specs.Replay.{counted, counted_all}
use Rattle.bound_cli.proofs.ReportLines.{counted_all-more, counted_all-none}
use Rattle.bound_cli.proofs.totals.totals_of.Goals as goal

pub counting-preserved : goal.counting-preserved
counting-preserved c =
    let events = c.args.events.now in
    let i = c.counting.event-index in
    let event = c.event-item.result in
    let more = counted_all-more c.counting.totals events i event (omega (arith, c.counting-test.true)) in
    let at : counted_all c.counting.totals (drop i events) ≡ counted_all (counted c.counting.totals event) (drop (i + 1) events) =
    more ∙ ap (λ (e : Event). counted_all (counted c.counting.totals e) (drop (i + 1) events)) (sym c.event-item.is) in (
      ap (λ (t : Totals). counted_all t (drop (i + 1) events)) c.counted-totals.ensures.value ∙ sym at ∙ c.counting.invariant.0,
      c.counted-totals.ensures.next i c.counting.invariant.1,
    )

pub returns : goal.returns
returns c =
    let over : drop c.counting.event-index c.args.events.now ≡ [] = drop_all c.counting.event-index c.args.events.now (omega (arith, c.counting-test.false)) in
    sym (counted_all-none c.counting.totals) ∙ rw over at c.counting.invariant.0
