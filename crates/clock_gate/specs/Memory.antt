-- What contracts see of a source and a sink in memory.
use Rattle.std.specs.Prelude.{ℕ, ◌+◌, ◌-◌, ◌^◌, min, List, Bool, ◌==◌}
use Rattle.std.specs.List.{list_any}

-- a source: the bytes that are left, the most of a call, the numbers of the calls that fail, the calls and the faults so far
pub record MemSourceState : Type 0 where
  pub left : List ℕ
  pub most : ℕ
  pub fails : List ℕ
  pub calls : ℕ
  pub faults : ℕ

-- a sink: the bytes that it holds, the most that it can hold, and the rest as above
pub record MemSinkState : Type 0 where
  pub held : List ℕ
  pub room : ℕ
  pub most : ℕ
  pub fails : List ℕ
  pub calls : ℕ
  pub faults : ℕ

-- a count of 64 bits after one more, which stands still at its last value
abbrev pub one_more : ℕ → ℕ
one_more count = min (count + 1) (2 ^ 64 - 1)

-- the call after so many is one of those that fail, calls being counted from 1
abbrev pub is_told_to_fail : List ℕ → ℕ → Bool
is_told_to_fail fails calls = list_any (λ number. number == one_more calls) fails
