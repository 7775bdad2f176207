-- What a table of next numbers, or of last ones, says of a test.
use Rattle.std.specs.Prelude.{◌≡◌, ℕ, ◌+◌, ◌<◌, ◌≤◌, Bool, true, false, nat_lt, if◌then◌else◌, List, length, slice_index, Option, Some, None}

-- this is the first number from `from` on that passes the test, or the limit where none below it does
pub record IsNext (test : ℕ → Bool) (limit from next : ℕ) : Type 0 where
  pub low : from ≤ next
  pub high : next ≤ limit
  pub passes : next < limit → test next ≡ true
  pub fails : (k : ℕ) → from ≤ k → k < next → test k ≡ false

-- this is the last number up to `top` that passes the test, or 0 where none from 1 on does
pub record IsLast (test : ℕ → Bool) (top last : ℕ) : Type 0 where
  pub high : last ≤ top
  pub passes : 0 < last → test last ≡ true
  pub fails : (k : ℕ) → last < k → k ≤ top → test k ≡ false

-- a table tells the next number to each from this one on, up to the limit
pub record AreNext (test : ℕ → Bool) (least limit : ℕ) (table : List ℕ) : Type 0 where
  pub sized : length table ≡ limit + 1
  pub next : (from : ℕ) → least ≤ from → from ≤ limit → IsNext test limit from (slice_index table from)

-- a table tells the last number to each up to this one
pub record AreLast (test : ℕ → Bool) (most : ℕ) (table : List ℕ) : Type 0 where
  pub sized : length table ≡ most + 1
  pub last : (top : ℕ) → top ≤ most → IsLast test top (slice_index table top)

-- a number, where it is below this one
abbrev pub if_below : (high n : ℕ) → Option ℕ
if_below high n = if nat_lt n high then Some n else None
