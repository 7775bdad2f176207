use Rattle.std.proofs.Common.{◌≡◌, ◌≤◌, ◌+◌, ◌++◌, drop}
use Rattle.std.specs.Prelude.{vec_items}
use Rattle.lawful_report.specs.Lawful.{text_of_lines}
use Rattle.live_report.specs.LiveReport.{lines_printed}
use Rattle.live_report.proofs.printing.put_lines.Given as goal

abbrev pub invariant-lines : goal.invariant-lines
invariant-lines l =
    (vec_items l.text ++ text_of_lines (lines_printed l.fn.trace l.at (drop l.line-index l.lines)) ≡ vec_items l.fn.text ++ text_of_lines (lines_printed l.fn.trace l.fn.position l.fn.lines))
    × (l.at ≤ l.fn.position + l.line-index)
