-- The steps after one answer more.
use Rattle.std.proofs.Common.{◌≡◌, ℕ, List, [], ◌∷◌, ◌++◌, append_assoc, sym, ap, ◌∙◌}
use Rattle.bound_order.specs.declared.told.Told.{Told}
use Rattle.bound_order.specs.declared.step.Step.{Step}
use Rattle.bound_order.specs.Ordering.{step_of, steps_after}

pub steps_more : (n : ℕ) (past told later : List Told) (t : Told) (steps : List Step) (next : Step) (all : List Step) → told ≡ t ∷ later → next ≡ step_of n past t
    → steps ++ steps_after n past told ≡ all → (steps ++ next ∷ []) ++ steps_after n (t ∷ past) later ≡ all
steps_more n past told later t steps next all front is was =
    append_assoc steps (next ∷ []) (steps_after n (t ∷ past) later)
    ∙ (ap (λ (s : Step). steps ++ s ∷ steps_after n (t ∷ past) later) is ∙ (ap (λ (l : List Told). steps ++ steps_after n past l) (sym front) ∙ was))
