-- Acts in their order, and the end after them.
use Rattle.std.proofs.Common.{◌≡◌, ◌≢◌, ℕ, zero, suc, ◌≤◌, Bool, true, false, List, [], ◌∷◌, None, refl, arith}
use Rattle.std.specs.Prelude.{length, slice_index_or, if◌then◌else◌}
use Rattle.clock_gate.specs.declared.act.Act.{Act}
use Rattle.clock_gate.specs.declared.act.Act.TheVariants.{Load, Store, End}
use Rattle.writer_reopen.specs.Progress.{Progress, Asks, Ends, act_of, end_of, in_order}

-- none of these acts is the end
abbrev pub NoEnd : List Act → Type 0
NoEnd [] = Unit {0}
NoEnd (act ∷ acts) = (act ≢ End) × NoEnd acts

-- the end is wanted only after all of them
pub ended_past : (acts : List Act) (k : ℕ) → NoEnd acts → slice_index_or acts k End ≡ End → length acts ≤ k
ended_past [] k no_end ended = omega arith
ended_past (act ∷ acts) zero no_end ended = absurd (no_end.0 ended)
ended_past (act ∷ acts) (suc k) no_end ended = let past = ended_past acts k no_end.1 ended in omega arith

module _ {Answer : Type 0} where
  pub act_of-in_order : (acts : List Act) (answer : Answer) (k : ℕ) → act_of (in_order acts answer k) ≡ slice_index_or acts k End
  act_of-in_order [] answer k = refl
  act_of-in_order (act ∷ acts) answer zero = refl
  act_of-in_order (act ∷ acts) answer (suc k) = act_of-in_order acts answer k

  pub end_of_asking : (progress : Progress Answer) → act_of progress ≢ End → end_of progress ≡ None
  end_of_asking (Asks act) asks = refl
  end_of_asking (Ends answer) asks = absurd (asks refl)

  pub ended_in_order : (acts : List Act) (answer : Answer) (k : ℕ) → NoEnd acts → act_of (in_order acts answer k) ≡ End → in_order acts answer k ≡ Ends answer
  ended_in_order [] answer k no_end ended = refl
  ended_in_order (act ∷ acts) answer zero no_end ended = absurd (no_end.0 ended)
  ended_in_order (act ∷ acts) answer (suc k) no_end ended = ended_in_order acts answer k no_end.1 ended

pub load_goes_on : (word : ℕ) → Load word ≢ End
load_goes_on word = λ e. absurd cc

pub store_goes_on : (word value : ℕ) → Store word value ≢ End
store_goes_on word value = λ e. absurd cc

pub either_way : {A : Type 0} (P : A → Type 0) (b : Bool) (x y : A) → (b ≡ true → P x) → (b ≡ false → P y) → P (if b then x else y)
either_way P true x y f g = f refl
either_way P false x y f g = g refl
