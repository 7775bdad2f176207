use Rattle.live_report.proofs.ReportLines.{text_then}
use Rattle.live_report.proofs.printing.put_opened.Goals as goal

pub returns : goal.returns
returns c = text_then c.put_move.result _ _ _ _ _ c.in_ok-put_line.ensures c.put_move.ensures
