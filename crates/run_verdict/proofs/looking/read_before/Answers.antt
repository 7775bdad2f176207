use Rattle.std.proofs.Common.{◌≡◌, ◌-◌, slice_index_or, Some, None, sym, ◌∙◌, ap, arith}
use Rattle.std.proofs.lemmas.List.{get_or_default}
use Rattle.abstract_run.specs.RunFacts.{PublishedEvent}
use Rattle.run_verdict.specs.Past.{no_event, ended_in}
use Rattle.run_verdict.proofs.Backwards.{read_here, read_elsewhere, read_none}
use Rattle.run_verdict.proofs.looking.read_before.Goals as goal

pub returns-then-ended-position : goal.returns-then-ended-position
returns-then-ended-position c =
    let is : ended_in (slice_index_or c.args.events.now (c.back.left - 1) no_event) ≡ Some c.in-Some.ended = ap ended_in (get_or_default c.args.events.now (c.back.left - 1) no_event c.index-events-left.result (omega (arith, c.back-test.true, c.back.invariant.0, c.requires)) ∙ sym c.index-events-left.is) ∙ sym c.ended_in.ensures ∙ c.in-Some.is in
    sym (read_here c.args.position c.args.events.now c.back.left c.in-Some.ended c.back-test.true is (sym (ap (λ (e : PublishedEvent). e.position) c.ended.view_is) ∙ c.if-ended-position.true)) ∙ c.back.invariant.1

pub back-preserved-else-ended-position : goal.back-preserved-else-ended-position
back-preserved-else-ended-position c =
    let is : ended_in (slice_index_or c.args.events.now (c.back.left - 1) no_event) ≡ Some c.in-Some.ended = ap ended_in (get_or_default c.args.events.now (c.back.left - 1) no_event c.index-events-left.result (omega (arith, c.back-test.true, c.back.invariant.0, c.requires)) ∙ sym c.index-events-left.is) ∙ sym c.ended_in.ensures ∙ c.in-Some.is in (
      omega (arith, c.back.invariant.0),
      sym (read_elsewhere c.args.position c.args.events.now c.back.left c.in-Some.ended c.back-test.true is (λ same. c.if-ended-position.false (ap (λ (e : PublishedEvent). e.position) c.ended.view_is ∙ same))) ∙ c.back.invariant.1,
    )

pub back-preserved : goal.back-preserved
back-preserved c =
    let is : ended_in (slice_index_or c.args.events.now (c.back.left - 1) no_event) ≡ None = ap ended_in (get_or_default c.args.events.now (c.back.left - 1) no_event c.index-events-left.result (omega (arith, c.back-test.true, c.back.invariant.0, c.requires)) ∙ sym c.index-events-left.is) ∙ sym c.ended_in.ensures ∙ search in (
      omega (arith, c.back.invariant.0),
      sym (read_none c.args.position c.args.events.now c.back.left c.back-test.true is) ∙ c.back.invariant.1,
    )
