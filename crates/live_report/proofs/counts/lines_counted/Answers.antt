use Rattle.std.proofs.Common.{rules, ◌≤◌, length, ◌≡◌, ◌+◌, [], drop, arith, ap, sym, ◌∙◌}
use Rattle.std.proofs.lemmas.List.{drop_all}
use Rattle.lawful_report.specs.declared.counts.Counts.{Counts}
use Rattle.live_report.specs.declared.line.Line.{Line}
use Rattle.live_report.specs.LiveReport.{line_counted, lines_counted}
use Rattle.live_report.proofs.Parts.{up_to_more}
use Rattle.live_report.proofs.ReportLines.{counted_more}
use Rattle.live_report.proofs.counts.lines_counted.Goals as goal

pub counting-preserved : goal.counting-preserved
counting-preserved c =
    let lines = c.args.lines.now in
    let i = c.counting.line-index in
    let line = c.line-item.result in
    let more = counted_more c.counting.counts lines i line (omega (arith, c.counting-test.true)) in
    let at : lines_counted c.counting.counts (drop i lines) ≡ lines_counted (line_counted c.counting.counts line) (drop (i + 1) lines) =
    more ∙ ap (λ (l : Line). lines_counted (line_counted c.counting.counts l) (drop (i + 1) lines)) (sym c.line-item.is) in (
      ap (λ (t : Counts). lines_counted t (drop (i + 1) lines)) c.line_counted-counts.ensures.value ∙ sym at ∙ c.counting.invariant.0,
      c.line_counted-counts.ensures.next i c.counting.invariant.1,
    )

pub returns-clause-value : goal.returns-clause-value
returns-clause-value c =
    let over : drop c.counting.line-index c.args.lines.now ≡ [] = drop_all c.counting.line-index c.args.lines.now (omega (arith, c.counting-test.false)) in
    rw over at c.counting.invariant.0

pub returns-clause-most : goal.returns-clause-most
returns-clause-most c =
    let i = c.counting.line-index in
    let within : i ≤ length c.args.lines.now = search rules in
    up_to_more i (length c.args.lines.now) c.counting.counts within c.counting.invariant.1
