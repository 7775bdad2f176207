use Rattle.std.proofs.Common.{◌≡◌, false, sym, ◌∙◌}
use Rattle.std.specs.Prelude.{vec_items}
use Rattle.lawful_report.specs.Lawful.{has_stop}
use Rattle.live_report.specs.LiveReport.{stop_of}
use Rattle.live_report.proofs.ReportLines.{text_kept}
use Rattle.live_report.proofs.printing.put_stop.Goals as goal

pub returns : goal.returns
returns c =
    let goes_on : has_stop (stop_of c.args.trace.now c.args.poll) 10 ≡ false = sym c.stops_after_all.ensures ∙ c.if-stops_after_all.false in
    rw goes_on (text_kept (vec_items c.args.text.now))
