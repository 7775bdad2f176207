use Rattle.std.proofs.Common.{◌≡◌, ◌+◌, ◌++◌, [], ◌∷◌, ℕ, List, drop, arith, ap, sym, ◌∙◌, append_assoc, append-nil}
use Rattle.std.specs.Prelude.{vec_items}
use Rattle.std.proofs.lemmas.List.{drop_all, drop_more}
use Rattle.interval_now.specs.declared.answers.Answer.{Answer}
use Rattle.lawful_report.specs.declared.printed.Printed.TheVariants as printed
use Rattle.lawful_report.specs.Lawful.{text_of_lines}
use Rattle.live_report.specs.ClientCalls.{answer_lines}
use Rattle.live_report.specs.LiveReport.{lines_printed, page_told}
use Rattle.live_report.proofs.ReportLines.{text_append, text_none}
use Rattle.live_report.proofs.printing.put_answers.Goals as goal

pub answers-preserved : goal.answers-preserved
answers-preserved c =
    let trace = c.args.trace.now in
    let answers = c.args.answers.now in
    let i = c.answers.answer-index in
    let call = c.answers.call in
    let client = c.args.client in
    let answer = c.answer-item.result in
    let rest = drop (i + 1) answers in
    let here : drop i answers ≡ answer ∷ rest = drop_more answers i answer (omega (arith, c.answers-test.true)) ∙ ap (λ (a : Answer). a ∷ rest) (sym c.answer-item.is) in
    let line = printed.Answered client call (page_told trace answer) answer in
    let at = c.answers.invariant.0 in (
      omega (arith, at),
      λ position.
          let later = lines_printed trace position (answer_lines client (call + 1) rest) in
          ap (λ (l : List ℕ). l ++ text_of_lines later) c.in_ok-put_answered.ensures
          ∙ append_assoc (vec_items c.answers.text) (text_of_lines (line ∷ [])) (text_of_lines later)
          ∙ ap (λ (l : List ℕ). vec_items c.answers.text ++ l) (sym (text_append (line ∷ []) later))
          ∙ ap (λ (l : List Answer). vec_items c.answers.text ++ text_of_lines (lines_printed trace position (answer_lines client call l))) (sym here)
          ∙ c.answers.invariant.1 position,
    )

pub returns : goal.returns
returns c =
    let over : drop c.answers.answer-index c.args.answers.now ≡ [] = drop_all c.answers.answer-index c.args.answers.now (omega (arith, c.answers-test.false)) in
    λ position. sym (append-nil (vec_items c.answers.text)) ∙ rw (over, text_none) at c.answers.invariant.1 position
