use Rattle.std.proofs.Common.{◌≡◌, Ok, refl}
use Rattle.trace_reader.specs.Grammar.{trace_in}
use Rattle.audit_text.specs.Audited.{Reported, reported_after}
use Rattle.audit_text.proofs.judging.judged.Goals as goal

pub returns-in-Ok-verdict_line : goal.returns-in-Ok-verdict_line
returns-in-Ok-verdict_line c =
    let reported : Reported = record { trace = c.in-Ok.trace; report = c.args.report.now } in
    let read : trace_in c.args.text.now ≡ Ok c.in-Ok.trace = c.in-Ok.ensures.answer in
    let said : reported_after c.args.text.now c.args.report.now ≡ Ok reported = rw read refl in (
      reported,
      said,
      record {
        verdict = c.in-Ok-audit.verdict;
        is = record { lawful = c.in-Ok-audit.ensures.lawful; unlawful = c.in-Ok-audit.ensures.unlawful };
        told = c.in-Ok-verdict_line.ensures;
      },
    )
