-- Tests in order, each with the fault of what does not meet it.
use Rattle.std.specs.Prelude.{Bool, List, [], ◌∷◌, Option, Some, None, Result, Ok, Err, if◌then◌else◌}

-- the fault of the first test that does not hold
abbrev pub first_fault : {Fault : Type 0} → List (Bool × Fault) → Option Fault
first_fault [] = None
first_fault (test ∷ tests) = if test.0 then first_fault tests else Some test.1

-- the answer, unless there is a fault
abbrev pub unless : {Fault Value : Type 0} → Option Fault → Result Value Fault → Result Value Fault
unless None answer = answer
unless (Some fault) answer = Err fault
