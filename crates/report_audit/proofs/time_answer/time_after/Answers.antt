use Rattle.std.proofs.Common.{◌≡◌, ap, ◌∙◌}
use Rattle.std.proofs.lemmas.Result.{IfOk-weaker}
use Rattle.clock_gate.specs.declared.clock_row.Reading.{Reading}
use Rattle.report_audit.specs.FoundLines.{KnowsRun}
use Rattle.report_audit.proofs.TimeReads.{known_run}
use Rattle.report_audit.proofs.time_answer.time_after.Goals as goal

pub returns : goal.returns
returns c =
    let row_is : c.reading.result.row ≡ c.args.row = ap (λ (r : Reading). r.row) c.reading.ensures.exact ∙ c.from.ensures in
    IfOk-weaker c.time_point.result _ _ (λ found told course shows.
    let knows : KnowsRun c.args.trace.now course c.as_slice.result.now c.args.progress.now.before c.reading.result.row c.args.place.page c.reading.result.mono c.reading.result.real c.copied.result c.period.result =
    known_run c.args.trace.now course c.args.known.now c.args.progress.now c.as_slice.result.now c.as_slice-clock.result.now c.from.result c.args.place.page c.period.result c.reading.result c.copied.result shows c.requires.knows c.as_slice.ensures.value c.as_slice-clock.ensures c.reading.ensures.exact (c.copied.ensures ∙ c.get.ensures) c.period.ensures.value in
    rw row_is at (told c.args.trace.now course knows)) c.time_point.ensures
