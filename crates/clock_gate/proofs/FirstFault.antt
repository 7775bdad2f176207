-- What is known where no test found a fault.
use Rattle.std.proofs.Common.{◌≡◌, Bool, true, false, List, [], ◌∷◌, Option, Some, None, Result, Ok, Err, refl}
use Rattle.std.specs.Prelude.{IsOk, if◌then◌else◌}
use Rattle.clock_gate.specs.FirstFault.{first_fault, unless}

abbrev pub AllHold : {Fault : Type 0} → List (Bool × Fault) → Type 0
AllHold [] = Unit {0}
AllHold (test ∷ tests) = (test.0 ≡ true) × AllHold tests

passes : {Fault : Type 0} (holds : Bool) (fault : Fault) (later : Option Fault) → (if holds then later else Some fault) ≡ None → (holds ≡ true) × (later ≡ None)
passes true fault later is = (refl, is)
passes false fault later is = absurd cc

-- without a fault each test holds
pub all_hold : {Fault : Type 0} (tests : List (Bool × Fault)) → first_fault tests ≡ None → AllHold tests
all_hold [] none = tt
all_hold (test ∷ tests) none = let first = passes test.0 test.1 (first_fault tests) none in (first.0, all_hold tests first.1)

-- an answer that was given had no fault
pub given_unless : {Fault Value : Type 0} (fault : Option Fault) (answer : Result Value Fault) (value : Value) → unless fault answer ≡ Ok value → (fault ≡ None) × (answer ≡ Ok value)
given_unless None answer value is = (refl, is)
given_unless (Some f) answer value is = absurd cc

pub ok_unless : {Fault Value : Type 0} (fault : Option Fault) (answer : Result Value Fault) → IsOk (unless fault answer) → (fault ≡ None) × IsOk answer
ok_unless None answer good = (refl, good)
ok_unless (Some f) answer good = absurd cc
