-- A search for the least point with a property: it gives that point, or says that there is none.
use Rattle.std.specs.Prelude.{ℕ, ◌≤◌, Option, Some, None}
use Rattle.lawful_report.specs.Points.{IsLeast}
use Rattle.lawful_report.specs.Calls.{FailsAt}

-- none of the numbers from one to another has the property
abbrev pub NoneHas : (from last : ℕ) (Has : ℕ → Type 0) → Type 0
NoneHas from last Has = (n : ℕ) → from ≤ n → n ≤ last → Has n → ⊥

-- the least with the property, or that there is none
abbrev pub IsLeastOrNone : (from last : ℕ) (Has : ℕ → Type 0) → Option ℕ → Type 0
IsLeastOrNone from last Has None = NoneHas from last Has
IsLeastOrNone from last Has (Some least) = IsLeast from last Has least

-- the point at which the last try failed, or that there is none
abbrev pub FailsAtOrNone : (period from until first last : ℕ) → Option ℕ → Type 0
FailsAtOrNone period from until first last None = (point : ℕ) → FailsAt period from until first last point → ⊥
FailsAtOrNone period from until first last (Some point) = FailsAt period from until first last point
