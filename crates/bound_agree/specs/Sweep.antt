-- A run that is open while the edges are passed in order.
use Rattle.std.specs.Prelude.{Bool, true, false, List, [], ◌∷◌, Option, Some, None, ⊤, ℤ, pos, ◌-ℤ◌}
use Rattle.bound_agree.specs.Span.{SpanEnds, KeepsLimits}

-- where the run began that is open from the edge x on, where enough spans hold the points from there on or not
abbrev pub opened : Option ℤ → Bool → ℤ → Option ℤ
opened (Some from) true x = Some from
opened None true x = Some x
opened run false x = None

-- the run that ends one before the edge x, if one does
abbrev pub closed : Option ℤ → Bool → ℤ → List SpanEnds
closed (Some from) false x = record { earliest = from; latest = x -ℤ pos 1 } ∷ []
closed run passes x = []

-- a run that is open and ends one before x is a span
abbrev pub CanClose : Option ℤ → ℤ → Type 0
CanClose None x = ⊤
CanClose (Some from) x = KeepsLimits from (x -ℤ pos 1)
