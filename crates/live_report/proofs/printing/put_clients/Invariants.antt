use Rattle.std.proofs.Common.{◌≡◌, ◌+◌, ◌≤◌, ◌++◌, ℕ, drop, length}
use Rattle.std.specs.Prelude.{vec_items}
use Rattle.std.specs.List.{range_with_len}
use Rattle.lawful_report.specs.Lawful.{text_of_lines}
use Rattle.live_report.specs.declared.limits.TheConstants.{MOST_LINES}
use Rattle.live_report.specs.ClientCalls.{client_lines}
use Rattle.live_report.specs.Counted.{answers_in}
use Rattle.live_report.specs.LiveReport.{lines_printed}
use Rattle.live_report.proofs.printing.put_clients.Given as goal

abbrev pub invariant-clients : goal.invariant-clients
invariant-clients l = record {
  client : l.client ≡ l.mine-index + 1;
  few : answers_in (drop l.mine-index l.answers) ≤ MOST_LINES;
  told : (position : ℕ) → vec_items l.text ++ text_of_lines (lines_printed l.fn.trace position (client_lines (range_with_len l.client (length (drop l.mine-index l.answers))) (drop l.mine-index l.answers)))
      ≡ vec_items l.fn.text ++ text_of_lines (lines_printed l.fn.trace position (client_lines (range_with_len 1 (length l.answers)) l.answers));
}
