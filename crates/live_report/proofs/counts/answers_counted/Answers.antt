use Rattle.std.proofs.Common.{rules, ◌≤◌, ◌≡◌, ◌+◌, List, [], ◌∷◌, drop, length, arith, ap, sym, ◌∙◌}
use Rattle.std.proofs.lemmas.List.{drop_all, drop_more}
use Rattle.interval_now.specs.declared.answers.Answer.{Answer}
use Rattle.lawful_report.specs.declared.counts.Counts.{Counts}
use Rattle.live_report.specs.declared.limits.TheConstants.{MOST_LINES}
use Rattle.live_report.specs.Counted.{answers_counted}
use Rattle.live_report.proofs.Parts.{up_to_more}
use Rattle.live_report.proofs.counts.answers_counted.Goals as goal

pub one_answer-counts-requires : goal.one_answer-counts-requires
one_answer-counts-requires c =
    let few = c.requires.few in
    let here = c.answers-test.true in
    up_to_more _ MOST_LINES c.answers.counts (omega (arith, few, here)) (c.answers.invariant.1 _ c.requires.room)

pub answers-preserved : goal.answers-preserved
answers-preserved c =
    let answers = c.args.answers.now in
    let i = c.answers.answer-index in
    let answer = c.answer-item.result in
    let here : drop i answers ≡ answer ∷ drop (i + 1) answers =
    drop_more answers i answer (omega (arith, c.answers-test.true)) ∙ ap (λ (a : Answer). a ∷ drop (i + 1) answers) (sym c.answer-item.is) in (
      ap (λ (t : Counts). answers_counted t (drop (i + 1) answers)) c.one_answer-counts.ensures.value ∙ ap (λ (l : List Answer). answers_counted c.answers.counts l) (sym here) ∙ c.answers.invariant.0,
      λ most are. up_to_more (most + i + 1) (most + (i + 1)) c.one_answer-counts.result (omega arith) (c.one_answer-counts.ensures.next (most + i) (c.answers.invariant.1 most are)),
    )

pub returns-clause-value : goal.returns-clause-value
returns-clause-value c =
    let over : drop c.answers.answer-index c.args.answers.now ≡ [] = drop_all c.answers.answer-index c.args.answers.now (omega (arith, c.answers-test.false)) in
    rw over at c.answers.invariant.0

pub returns-clause-next : goal.returns-clause-next
returns-clause-next c = λ most are.
    let i = c.answers.answer-index in
    let within : i ≤ length c.args.answers.now = search rules in
    up_to_more (most + i) (most + length c.args.answers.now) c.answers.counts (omega (arith, within)) (c.answers.invariant.1 most are)
