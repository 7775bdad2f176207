use Rattle.std.proofs.Common.{length, length-append, ap, arith}
use Rattle.std.specs.List.{range_with_len}
use Rattle.live_report.specs.ClientCalls.{client_lines}
use Rattle.live_report.proofs.Parts.{as_many_lines}
use Rattle.live_report.proofs.printing.report.Goals as goal

pub text_of-requires-clause-few : goal.text_of-requires-clause-few
text_of-requires-clause-few c =
    let daemon = c.parts.result.0.now in
    let answers = c.parts.result.1.now in
    let few = c.requires.few in
    let all = ap length c.parts.ensures.lines in
    let both = length-append daemon (client_lines (range_with_len 1 (length answers)) answers) in
    let many = as_many_lines 1 answers in
    omega (arith, few, all, both, many)
