use Rattle.std.proofs.Common.{slice_index_or, ◌≡◌, ◌+◌, ◌++◌, [], ◌∷◌, ℕ, List, drop, length, arith, ap, sym, ◌∙◌, append_assoc, append-nil}
use Rattle.std.specs.Prelude.{vec_items}
use Rattle.std.specs.List.{range_with_len}
use Rattle.std.proofs.lemmas.List.{drop_all, drop_more}
use Rattle.interval_now.specs.declared.answers.Answer.{Answer}
use Rattle.lawful_report.specs.Lawful.{text_of_lines}
use Rattle.live_report.specs.ClientCalls.{answer_lines, client_lines}
use Rattle.live_report.specs.Counted.{answers_in}
use Rattle.live_report.specs.LiveReport.{lines_printed}
use Rattle.live_report.proofs.ReportLines.{text_none}
use Rattle.live_report.proofs.Parts.{answers_in_more, text_of_clients}
use Rattle.live_report.proofs.printing.put_clients.Goals as goal

pub put_answers-requires : goal.put_answers-requires
put_answers-requires c =
    let answers = c.args.answers.now in
    let i = c.clients.mine-index in
    let sums = answers_in_more answers i c.mine-item.result (omega (arith, c.clients-test.true)) in
    let long : length c.as_slice.result.now ≡ length (slice_index_or answers i c.mine-item.result) = ap (λ (l : List Answer). length l) (c.as_slice.ensures ∙ c.mine-item.is) in
    let few = c.clients.invariant.few in
    omega (arith, few, sums, long)

pub clients-preserved : goal.clients-preserved
clients-preserved c =
    let trace = c.args.trace.now in
    let answers = c.args.answers.now in
    let i = c.clients.mine-index in
    let client = c.clients.client in
    let mine = c.mine-item.result in
    let rest = drop (i + 1) answers in
    let here : drop i answers ≡ mine ∷ rest = drop_more answers i mine (omega (arith, c.clients-test.true)) ∙ ap (λ (a : List Answer). a ∷ rest) (sym c.mine-item.is) in
    let sums : answers_in (drop i answers) ≡ length mine + answers_in rest = ap answers_in here in
    let few = c.clients.invariant.few in
    let at = c.clients.invariant.client in
    let numbers = range_with_len (client + 1) (length rest) in
    record {
      client = omega (arith, at);
      few = omega (arith, few, sums);
      told = λ position.
          let later = text_of_lines (lines_printed trace position (client_lines numbers rest)) in
          ap (λ (l : List ℕ). l ++ later) (c.in_ok-put_answers.ensures position ∙ ap (λ (l : List Answer). vec_items c.clients.text ++ text_of_lines (lines_printed trace position (answer_lines client 1 l))) c.as_slice.ensures)
          ∙ append_assoc (vec_items c.clients.text) (text_of_lines (lines_printed trace position (answer_lines client 1 mine))) later
          ∙ ap (λ (l : List ℕ). vec_items c.clients.text ++ l) (sym (text_of_clients trace position client mine numbers rest))
          ∙ ap (λ (l : List (List Answer)). vec_items c.clients.text ++ text_of_lines (lines_printed trace position (client_lines (range_with_len client (length l)) l))) (sym here)
          ∙ c.clients.invariant.told position;
    }

pub returns : goal.returns
returns c =
    let over : drop c.clients.mine-index c.args.answers.now ≡ [] = drop_all c.clients.mine-index c.args.answers.now (omega (arith, c.clients-test.false)) in
    λ position. sym (append-nil (vec_items c.clients.text)) ∙ rw (over, text_none) at c.clients.invariant.told position
