use Rattle.std.specs.Prelude.{vec_items}
use Rattle.live_report.proofs.ReportLines.{text_kept}
use Rattle.live_report.proofs.printing.put_move.Goals as goal

pub returns-in-None : goal.returns-in-None
returns-in-None c = rw c.in-None.is (text_kept (vec_items c.args.text.now))
