-- What the top call answers and writes, by its command and the bytes of its source.
use Rattle.std.specs.Prelude.{◌≡◌, ℕ, ◌<◌, ◌≤◌, List, [], ◌++◌, length, take, if◌then◌else◌, Option, Some, true, false, Result, Ok, Err, IsOk, IfOk, ⊤}
use Rattle.clock_gate.specs.declared.limits.TheConstants.{INPUT_LIMIT}
use Rattle.bound_cli.specs.declared.command.Command.{Command}
use Rattle.bound_cli.specs.Command.{reads}
use Rattle.bound_cli.specs.declared.status.Status.{Status}
use Rattle.bound_cli.specs.declared.status.Status.TheVariants as status
use Rattle.bound_cli.specs.Output.{output_of, IsOutput}

-- what a command takes its input from: all that the source has left, or nothing where it reads no input
abbrev pub input_of : Command → Option (List ℕ) → Option (List ℕ)
input_of command left = if reads command then left else Some []

-- a command line after which nothing is read: a refused one, or one of a command without input
abbrev pub IsUnread : Result Command ℕ → Type 0
IsUnread (Ok command) = reads command ≡ false
IsUnread (Err n) = ⊤

-- the bytes are within the limit, and the command has an output for them
abbrev pub IsAccepted : Command → List ℕ → Type 0
IsAccepted command bytes = (length bytes ≤ INPUT_LIMIT) × IsOk (output_of command bytes)

-- which answers the bytes of a source allow. Read rests on the source's count of faults, and comes of a command that reads; Memory
-- rests on nothing.
abbrev pub Allows : Command → List ℕ → Status → Type 0
Allows command bytes status.Ok = IsAccepted command bytes
Allows command bytes (status.Usage n) = ⊥
Allows command bytes (status.Trace line reason) = (length bytes ≤ INPUT_LIMIT) × (output_of command bytes ≡ Err (record { line = line; reason = reason }))
Allows command bytes status.Read = reads command ≡ true
Allows command bytes status.Write = IsAccepted command bytes
Allows command bytes status.TooLong = INPUT_LIMIT < length bytes
Allows command bytes status.Memory = ⊤

-- a sink holds the output after what it held
abbrev pub HoldsOutput : Command → List ℕ → List ℕ → Option (List ℕ) → Type 0
HoldsOutput command bytes before held = IfOk (output_of command bytes) (λ output. (text : List ℕ) × IsOutput output text × (held ≡ Some (before ++ text)))

-- or a front of the output
abbrev pub HoldsFront : Command → List ℕ → List ℕ → Option (List ℕ) → Type 0
HoldsFront command bytes before held = IfOk (output_of command bytes) (λ output. (text : List ℕ) × IsOutput output text × (n : ℕ) × (held ≡ Some (before ++ take n text)))

-- what a sink holds after an answer: the whole output after Ok, a front of it after Write, and else nothing new
abbrev pub Written : Command → List ℕ → List ℕ → Option (List ℕ) → Status → Type 0
Written command bytes before held status.Ok = HoldsOutput command bytes before held
Written command bytes before held (status.Usage n) = held ≡ Some before
Written command bytes before held (status.Trace line reason) = held ≡ Some before
Written command bytes before held status.Read = held ≡ Some before
Written command bytes before held status.Write = HoldsFront command bytes before held
Written command bytes before held status.TooLong = held ≡ Some before
Written command bytes before held status.Memory = held ≡ Some before

-- an answer after which nothing was written
abbrev pub IsSilent : Status → Type 0
IsSilent status.Ok = ⊥
IsSilent (status.Usage n) = ⊤
IsSilent (status.Trace line reason) = ⊤
IsSilent status.Read = ⊤
IsSilent status.Write = ⊥
IsSilent status.TooLong = ⊤
IsSilent status.Memory = ⊤
