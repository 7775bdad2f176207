use Rattle.std.proofs.Common.{◌≡◌, ◌++◌, List, length, sym, subst, ◌∙◌}
use Rattle.std.specs.List.{range_with_len}
use Rattle.lawful_report.specs.Lawful.{IsLawfulReport}
use Rattle.live_report.specs.declared.line.Line.{Line}
use Rattle.live_report.specs.ClientCalls.{client_lines}
use Rattle.live_report.specs.LiveReport.{report_of}
use Rattle.live_run.proofs.run.run_workers.Goals as goal

pub returns-clause-lawful : goal.returns-clause-lawful
returns-clause-lawful g c = λ few.
    let gathered = c.run_in-host.result in
    let lines : c.new.result ≡ gathered.lines.items ++ client_lines (range_with_len 1 (length gathered.answers.items)) gathered.answers.items =
    c.new.ensures ∙ (λ i. c.from_vec.ensures i ++ client_lines (range_with_len 1 (length (c.from_vec-2.ensures i))) (c.from_vec-2.ensures i)) in
    subst (λ (l : List Line). IsLawfulReport c.args.trace.now (report_of c.args.trace.now l)) (sym lines)
    (c.live_laws.ensures.lawful c.args.trace.now _ _ _ _ c.requires.trace c.run_in-host.ensures.run few)
