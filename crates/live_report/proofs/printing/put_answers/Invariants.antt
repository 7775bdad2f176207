use Rattle.std.proofs.Common.{◌≡◌, ◌+◌, ◌++◌, ℕ, drop}
use Rattle.std.specs.Prelude.{vec_items}
use Rattle.lawful_report.specs.Lawful.{text_of_lines}
use Rattle.live_report.specs.ClientCalls.{answer_lines}
use Rattle.live_report.specs.LiveReport.{lines_printed}
use Rattle.live_report.proofs.printing.put_answers.Given as goal

abbrev pub invariant-answers : goal.invariant-answers
invariant-answers l =
    (l.call ≡ l.answer-index + 1)
    × ((position : ℕ) → vec_items l.text ++ text_of_lines (lines_printed l.fn.trace position (answer_lines l.client l.call (drop l.answer-index l.answers)))
    ≡ vec_items l.fn.text ++ text_of_lines (lines_printed l.fn.trace position (answer_lines l.client 1 l.answers)))
