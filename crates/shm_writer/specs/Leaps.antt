-- Stores of a step machine that are made at once.
use Rattle.std.specs.Prelude.{◌≡◌, ◌≢◌, ℕ, suc, List, [], ◌∷◌}
use Rattle.clock_gate.specs.declared.act.Act.{Act}
use Rattle.clock_gate.specs.declared.act.Act.TheVariants.{Store, End}
use Rattle.shm_writer.specs.Publisher.{IsGoodStore}

-- any step machine, by the act that it wants and by what a value makes of it
module _ {Machine : Type 0} (act : Machine → Act) (given : Machine → ℕ → Machine) where
  -- it wants stores of these values in the words from a number on, one after another, and comes to this, which wants a further step
  abbrev pub MakesStores : (word : ℕ) → (values : List ℕ) → Machine → Machine → Type 0
  MakesStores word [] machine later = (machine ≡ later) × (act later ≢ End)
  MakesStores word (value ∷ values) machine later =
      (act machine ≡ Store word value) × IsGoodStore (Store word value) × MakesStores (suc word) values (given machine 0) later
