-- What a call on the outside does to the bytes, where they are told, and what its failures rest on.
use Rattle.std.specs.Prelude.{◌≡◌, ℕ, ◌+◌, ◌-◌, ◌^◌, ◌<◌, ◌≤◌, min, List, ◌++◌, length, take, drop, Option, Some, Result, IfSome, OnErr}

-- a count of 64 bits is greater than before, or stands at its last value
abbrev pub Rose : ℕ → ℕ → Type 0
Rose before now = min (before + 1) (2 ^ 64 - 1) ≤ now

-- the count of faults never falls, and a failure comes only where it rose
pub record HasCause {T E : Type 0} (before now : ℕ) (result : Result T E) : Type 0 where
  pub later : before ≤ now
  pub failed : OnErr result (Rose before now)

-- the next n bytes stand in front of the buffer and the rest of the buffer is as before; none come exactly at the end
pub record TakesFront (n : ℕ) (bytes before after : List ℕ) (new : Option (List ℕ)) : Type 0 where
  pub within : n ≤ length bytes
  pub more : 0 < length bytes → 0 < n
  pub front : after ≡ take n bytes ++ drop n before
  pub left : new ≡ Some (drop n bytes)

-- a source gave n bytes: where it tells what it had left, they are the next ones
abbrev pub Takes : ℕ → Option (List ℕ) → Option (List ℕ) → List ℕ → List ℕ → Type 0
Takes n old new before after = IfSome old (λ bytes. TakesFront n bytes before after new)

-- a sink took n bytes: where it tells what it holds, the first n of the piece are appended
abbrev pub Puts : ℕ → Option (List ℕ) → Option (List ℕ) → List ℕ → Type 0
Puts n old new piece = IfSome old (λ bytes. new ≡ Some (bytes ++ take n piece))
