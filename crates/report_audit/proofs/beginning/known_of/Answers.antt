use Rattle.std.proofs.Common.{◌≡◌, ℕ, List, Result, length, rules, sym, ap, ◌∙◌, arith}
use Rattle.clock_gate.specs.declared.trace.HostRow.{HostRow}
use Rattle.segment_layout.specs.declared.image_fault.ImageFault.{ImageFault}
use Rattle.segment_layout.specs.declared.start.Start.{Start}
use Rattle.lawful_report.specs.Calls.{seen_first}
use Rattle.lawful_report.specs.Course.{course_by}
use Rattle.lawful_report.specs.Pages.{row_markers, last_page}
use Rattle.report_audit.proofs.TraceLimits.{pages_few}
use Rattle.report_audit.proofs.beginning.known_of.Goals as goal

pub returns : goal.returns
returns c =
    let most : last_page c.args.trace.now ≡ c.page_rows.result = ap (λ (host : List HostRow). length (row_markers host)) (sym c.as_slice.ensures) ∙ sym c.page_rows.ensures in
    let first : seen_first c.args.trace.now ≡ record { point = c.point_of.result; row = 1; page = 0 } = ap (λ (found : Result Start ImageFault). record { point = (course_by found).point; row = 1; page = 0 }) (sym c.admit.ensures.exact) ∙ ap (λ (n : ℕ). record { point = n; row = 1; page = 0 }) (sym c.point_of.ensures.value) in
    record {
      pages = record { has = search rules; start_is = search rules; most_is = most };
      most = omega (arith, most, pages_few c.args.trace.now c.requires.lawful);
      markers = search rules;
      calls = search rules;
      first = first;
      first_fits = record { point_small = omega (arith, c.point_of.ensures.small); row_some = omega arith; page_small = omega arith };
    }
