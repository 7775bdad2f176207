-- Points: how often word 1 of the segment has changed, that is twice the position, and one more while an update is open.
use Rattle.std.specs.Prelude.{◌≡◌, ℕ, ◌+◌, ◌/◌, ◌%◌, ◌≤◌, ◌==◌}
use Rattle.generation_word.specs.Numbering.{generation_at}
use Rattle.segment_layout.specs.History.{AbstractSegment}

-- the segment at a point
abbrev pub segment_at : ℕ → AbstractSegment
segment_at point = record { position = point / 2; is_writing = point % 2 == 1 }

-- the number that word 1 holds at a point
abbrev pub number_at : (period point : ℕ) → ℕ
number_at period point = generation_at period (point / 2) + point % 2

-- a point with this number
abbrev pub HasNumber : (period number point : ℕ) → Type 0
HasNumber period number point = number_at period point ≡ number

-- the least of the numbers from one to another with a property
pub record IsLeast (from last : ℕ) (Has : ℕ → Type 0) (least : ℕ) : Type 0 where
  pub not_before : from ≤ least
  pub not_past : least ≤ last
  pub has : Has least
  pub none_less : (n : ℕ) → from ≤ n → Has n → least ≤ n
