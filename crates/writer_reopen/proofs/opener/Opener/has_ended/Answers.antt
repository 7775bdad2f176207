use Rattle.std.proofs.Common.{ℕ, ◌≤◌, length, sym, ap, subst, ◌∙◌, arith}
use Rattle.std.proofs.lemmas.Bool.Decides.{nat_tests}
use Rattle.writer_reopen.specs.Opening.{opening_act}
use Rattle.writer_reopen.proofs.Openings.{ended_when_past, past_when_ended}
use Rattle.writer_reopen.proofs.opener.Opener.has_ended.Goals as goal

fits : (c : goal.After-steps_in) → c.self.inside.given ≤ length c.self.inside.values
fits c = let told = c.self.told in let most = c.self.invariant.0 in omega arith

pub returns : goal.returns
returns c =
    let steps = c.steps_in.ensures in (
      λ test.
          let past : c.steps_in.result ≤ c.self.inside.given = grind (arith, nat_tests) in
          ap opening_act (sym c.self.view_is)
          ∙ ended_when_past c.self.inside.layout c.self.inside.values c.self.inside.given (fits c) (subst (λ (n : ℕ). n ≤ c.self.inside.given) steps past),
      λ ended.
          let past = past_when_ended c.self.inside.layout c.self.inside.values c.self.inside.given (fits c) (ap opening_act c.self.view_is ∙ ended) in
          let few : c.steps_in.result ≤ c.self.inside.given = subst (λ (n : ℕ). n ≤ c.self.inside.given) (sym steps) past in
          grind (arith, nat_tests),
    )
