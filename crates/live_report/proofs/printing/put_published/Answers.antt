use Rattle.std.proofs.Common.{◌≡◌, ℕ, ◌+◌, ◌++◌, ap, ◌∙◌}
use Rattle.std.specs.Prelude.{vec_items}
use Rattle.vmclock_page.specs.Counting.{page_number_of}
use Rattle.vmclock_page.specs.Host.{count_of}
use Rattle.lawful_report.specs.declared.printed.Printed.TheVariants as printed
use Rattle.lawful_report.specs.Lines.{line_text}
use Rattle.live_report.specs.LiveReport.{stop_of, stop_printed}
use Rattle.live_report.proofs.ReportLines.{text_then}
use Rattle.live_report.proofs.printing.put_published.Goals as goal

pub returns : goal.returns
returns c =
    let trace = c.args.trace.now in
    let publication = c.args.publication.now in
    let page : c.page_number-page.result ≡ page_number_of (count_of trace.page) publication.sequence =
    c.page_number-page.ensures.exact ∙ ap (λ (start : ℕ). page_number_of start publication.sequence) c.start_count.ensures in
    text_then c.put_stop.result (vec_items c.args.text.now) (vec_items c.put_line.new.text) (vec_items c.put_stop.new.text)
    (printed.Published (c.args.position + 1) (page_number_of (count_of trace.page) publication.sequence) publication) (stop_printed c.args.poll (stop_of trace c.args.poll))
    (c.in_ok-put_line.ensures ∙ ap (λ (n : ℕ). vec_items c.args.text.now ++ line_text (printed.Published (c.args.position + 1) n publication)) page)
    c.put_stop.ensures
