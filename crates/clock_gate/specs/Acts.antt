-- The acts of a step machine, and what a machine comes to for the values that it was given. This project's own.
use Rattle.std.specs.Prelude.{◌≡◌, ◌≢◌, ℕ, ◌+◌, ◌<◌, Bool, if◌then◌else◌, List, [], ◌∷◌}
use Rattle.clock_gate.specs.declared.act.Act.{Act}
use Rattle.clock_gate.specs.declared.act.Act.TheVariants.{Load, Store, End}

-- an act on one of the first so many words, or none
abbrev pub IsWithin : ℕ → Act → Type 0
IsWithin words (Load word) = word < words
IsWithin words (Store word value) = word < words
IsWithin words End = Unit {0}

-- a load of one of the first so many words
abbrev pub IsLoadWithin : ℕ → Act → Type 0
IsLoadWithin words (Load word) = word < words
IsLoadWithin words (Store word value) = ⊥
IsLoadWithin words End = ⊥

-- a store in one of the first so many words
abbrev pub IsStoreWithin : ℕ → Act → Type 0
IsStoreWithin words (Load word) = ⊥
IsStoreWithin words (Store word value) = word < words
IsStoreWithin words End = ⊥

-- what one step did to the shared words: the word, the value found or stored there, and whether it was stored
pub record Touch : Type 0 where
  pub word : ℕ
  pub value : ℕ
  pub stored : Bool

abbrev pub act_of_touch : Touch → Act
act_of_touch touch = if touch.stored then Store touch.word touch.value else Load touch.word

-- the values of these steps
abbrev pub values_of : List Touch → List ℕ
values_of [] = []
values_of (touch ∷ touches) = touch.value ∷ values_of touches

-- how many of these steps are stores
abbrev pub stores_in : List Touch → ℕ
stores_in [] = 0
stores_in (touch ∷ touches) = (if touch.stored then 1 else 0) + stores_in touches

-- any step machine, by the act that it wants and by what a value makes of it
module _ {Machine : Type 0} (act : Machine → Act) (given : Machine → ℕ → Machine) where
  -- the machine after these values, one after another
  abbrev pub after : Machine → List ℕ → Machine
  after machine [] = machine
  after machine (value ∷ values) = after (given machine value) values

  -- each of these values came while the machine had not ended
  abbrev pub WereAsked : Machine → List ℕ → Type 0
  WereAsked machine [] = Unit {0}
  WereAsked machine (value ∷ values) = (act machine ≢ End) × WereAsked (given machine value) values

  -- the machine after these steps
  abbrev pub replayed : Machine → List Touch → Machine
  replayed machine [] = machine
  replayed machine (touch ∷ touches) = replayed (given machine touch.value) touches

  -- each of these steps is the act that the machine wanted there
  abbrev pub Wanted : Machine → List Touch → Type 0
  Wanted machine [] = Unit {0}
  Wanted machine (touch ∷ touches) = (act machine ≡ act_of_touch touch) × Wanted (given machine touch.value) touches
