use Rattle.std.proofs.Common.{ℕ, length, ◌++◌, ap, sym, ◌∙◌}
use Rattle.std.specs.Prelude.{vec_items}
use Rattle.std.specs.List.{range_with_len}
use Rattle.lawful_report.specs.declared.counts.Counts.{Counts}
use Rattle.lawful_report.specs.declared.printed.Printed.{Printed}
use Rattle.lawful_report.specs.declared.printed.Printed.TheVariants as printed
use Rattle.lawful_report.specs.Lines.{line_text}
use Rattle.lawful_report.specs.Lawful.{no_counts, counts_list, text_of_lines}
use Rattle.live_report.specs.ClientCalls.{client_lines}
use Rattle.live_report.specs.LiveReport.{lines_printed, lines_counted, position_first}
use Rattle.live_report.proofs.ReportLines.{text_whole}
use Rattle.live_report.proofs.Parts.{counted_parts, text_parts}
use Rattle.live_report.proofs.printing.text_of.Goals as goal

pub returns : goal.returns
returns c =
    let trace = c.args.trace.now in
    let daemon = c.args.daemon.now in
    let answers = c.args.answers.now in
    let lines = daemon ++ client_lines (range_with_len 1 (length answers)) answers in
    let first = position_first trace in
    let told = c.in_ok-put_lines.ensures ∙ ap (λ (p : ℕ). vec_items c.put_line.new.text ++ text_of_lines (lines_printed trace p daemon)) c.position_first.ensures.value in
    record {
      report = text_whole _ (vec_items c.put_line.new.text) (vec_items c.put_clients.new.text) _ printed.Header (printed.Total (counts_list (lines_counted no_counts lines))) (lines_printed trace first lines)
          c.in_ok-text.ensures.items
          c.in_ok-put_line.ensures
          (text_parts trace first daemon answers (vec_items c.put_line.new.text) (vec_items c.put_lines.new.text) (vec_items c.put_clients.new.text) told (λ position. c.in_ok-put_clients.ensures position))
          (c.in_ok-put_line-2.ensures ∙ ap (λ (l : Printed). vec_items c.put_clients.new.text ++ line_text l) (c.total.ensures ∙ ap (λ (t : Counts). printed.Total (counts_list t)) (c.counts_of-counts.ensures.value ∙ sym (counted_parts daemon answers))));
    }
