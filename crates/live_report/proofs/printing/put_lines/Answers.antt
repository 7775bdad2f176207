use Rattle.std.proofs.Common.{◌≡◌, ◌++◌, ◌+◌, [], ℕ, List, drop, arith, ap, sym, ◌∙◌, append_assoc, append-nil}
use Rattle.std.specs.Prelude.{vec_items}
use Rattle.std.proofs.lemmas.List.{drop_all}
use Rattle.lawful_report.specs.Lawful.{text_of_lines}
use Rattle.live_report.specs.declared.line.Line.{Line}
use Rattle.live_report.specs.LiveReport.{line_printed, lines_printed, position_after_line}
use Rattle.live_report.proofs.ReportLines.{printed_more, text_none}
use Rattle.live_report.proofs.printing.put_lines.Goals as goal

pub lines-preserved : goal.lines-preserved
lines-preserved c =
    let trace = c.args.trace.now in
    let lines = c.args.lines.now in
    let i = c.lines.line-index in
    let at = c.lines.at in
    let line = c.line-item.result in
    let rest = λ (p : ℕ). text_of_lines (lines_printed trace p (drop (i + 1) lines)) in
    let more = printed_more trace at lines i line (omega (arith, c.lines-test.true)) in
    let here : text_of_lines (lines_printed trace at (drop i lines)) ≡ text_of_lines (line_printed trace at line) ++ rest (position_after_line at line) =
    more ∙ ap (λ (l : Line). text_of_lines (line_printed trace at l) ++ rest (position_after_line at l)) (sym c.line-item.is) in
    let next = c.position_after-at.ensures.next in
    let low = c.lines.invariant.1 in (
      rw (c.in_ok-put_printed.ensures, c.position_after-at.ensures.value)
          (append_assoc (vec_items c.lines.text) (text_of_lines (line_printed trace at line)) (rest (position_after_line at line))
          ∙ ap (λ (l : List ℕ). vec_items c.lines.text ++ l) (sym here) ∙ c.lines.invariant.0),
      omega (arith, next, low),
    )

pub returns : goal.returns
returns c =
    let over : drop c.lines.line-index c.args.lines.now ≡ [] = drop_all c.lines.line-index c.args.lines.now (omega (arith, c.lines-test.false)) in
    sym (append-nil (vec_items c.lines.text)) ∙ rw (over, text_none) at c.lines.invariant.0
