use Rattle.std.proofs.Common.{sym, ◌∙◌, inl, inr}
use Rattle.interval_now.proofs.GivenWords.{in_segment}
use Rattle.interval_now.proofs.now.give_segment.Goals as goal

pub unreachable-requires : goal.unreachable-requires
unreachable-requires c =
    let s = in_segment c.args.stage.now c.requires.stage c.requires.wanted in
    elim c.in-Clock.is [
      | inl clock ↦ cc (sym s.1 ∙ clock.2)
      | inr other ↦ elim other [
        | inl page ↦ cc (sym s.1 ∙ page.4)
        | inr answer ↦ cc (sym s.1 ∙ answer.1)
      ]
    ]
