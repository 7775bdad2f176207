use Rattle.std.proofs.Common.{◌≡◌, ◌≢◌, ℕ, List, ◌++◌, Option, Some, None, Bor, ◌∙◌}
use Rattle.std.specs.Prelude.{IfSome, IfNone}
use Rattle.std.specs.Option.{MatchOption}
use Rattle.std.proofs.lemmas.Slice.Eq.{strip_prefix_is}
use Rattle.std.proofs.lemmas.Bool.Decides.{Decides-eqb}
use Rattle.lawful_report.specs.Lines.{line_text}
use Rattle.lawful_report.proofs.line.after_line.Goals as goal

found : (s p : List ℕ) (r : Option (Bor (List ℕ))) → MatchOption r ((rest : List ℕ) → s ≢ p ++ rest) (λ x. s ≡ p ++ x.now) → IfSome r (λ x. s ≡ p ++ x.now)
found s p None m = tt
found s p (Some x) m = m

other : (s p : List ℕ) (r : Option (Bor (List ℕ))) → MatchOption r ((rest : List ℕ) → s ≢ p ++ rest) (λ x. s ≡ p ++ x.now) → IfNone r ((rest : List ℕ) → s ≢ p ++ rest)
other s p None m = m
other s p (Some x) m = tt

pub returns-clause-found : goal.returns-clause-found
returns-clause-found c =
    let is : c.as_slice.result.now ≡ line_text c.args.line.now = c.as_slice.ensures ∙ c.made-made.ensures in
    found c.args.text.now (line_text c.args.line.now) c.strip_prefix.result (rw is at (strip_prefix_is Decides-eqb c.args.text.now c.as_slice.result.now c.strip_prefix.result c.strip_prefix.ensures.cases))

pub returns-clause-other : goal.returns-clause-other
returns-clause-other c =
    let is : c.as_slice.result.now ≡ line_text c.args.line.now = c.as_slice.ensures ∙ c.made-made.ensures in
    other c.args.text.now (line_text c.args.line.now) c.strip_prefix.result (rw is at (strip_prefix_is Decides-eqb c.args.text.now c.as_slice.result.now c.strip_prefix.result c.strip_prefix.ensures.cases))
