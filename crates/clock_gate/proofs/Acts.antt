-- What machines come to for steps one after another.
use Rattle.std.proofs.Common.{◌≡◌, ℕ, List, [], ◌∷◌, ◌++◌, refl}
use Rattle.clock_gate.specs.declared.act.Act.{Act}
use Rattle.clock_gate.specs.Acts.{Touch, after, replayed, Wanted}

module _ {Machine : Type 0} (act : Machine → Act) (given : Machine → ℕ → Machine) where
  pub replayed-append : (machine : Machine) (xs ys : List Touch) → replayed act given machine (xs ++ ys) ≡ replayed act given (replayed act given machine xs) ys
  replayed-append machine [] ys = refl
  replayed-append machine (x ∷ xs) ys = replayed-append (given machine x.value) xs ys

  pub wanted-append : (machine : Machine) (xs ys : List Touch) → Wanted act given machine xs → Wanted act given (replayed act given machine xs) ys → Wanted act given machine (xs ++ ys)
  wanted-append machine [] ys wanted more = more
  wanted-append machine (x ∷ xs) ys wanted more = (wanted.0, wanted-append (given machine x.value) xs ys wanted.1 more)

  pub wanted-front : (machine : Machine) (xs ys : List Touch) → Wanted act given machine (xs ++ ys) → Wanted act given machine xs × Wanted act given (replayed act given machine xs) ys
  wanted-front machine [] ys wanted = (tt, wanted)
  wanted-front machine (x ∷ xs) ys wanted = let rest = wanted-front (given machine x.value) xs ys wanted.1 in ((wanted.0, rest.0), rest.1)

  pub after-append : (machine : Machine) (xs ys : List ℕ) → after act given machine (xs ++ ys) ≡ after act given (after act given machine xs) ys
  after-append machine [] ys = refl
  after-append machine (x ∷ xs) ys = after-append (given machine x) xs ys
