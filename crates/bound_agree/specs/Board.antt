-- The spans of a board, a slot for each server in the order of their numbers, and the points that enough of them hold.
use Rattle.std.specs.Prelude.{◌≡◌, ℕ, ◌+◌, ◌-◌, ◌^◌, ◌<◌, ◌≤◌, nat_le, Bool, false, ◌&&◌, not, if◌then◌else◌, List, [], Option, Some, None, is_some, replicate, ℤ, neg_ℤ, int_le}
use Rattle.std.specs.List.{count_by}
use Rattle.bound_agree.specs.declared.board.TheConstants.{MOST_SERVERS}
use Rattle.bound_agree.specs.Span.{SpanEnds}
use Rattle.bound_agree.specs.declared.span.TheConstants.{FARTHEST_END}
use Rattle.bound_agree.specs.Runs.{runs_among, AreRuns}

-- a board without spans
abbrev pub no_spans : List (Option SpanEnds)
no_spans = replicate MOST_SERVERS None

-- the span holds the point
abbrev pub holds : ℤ → Option SpanEnds → Bool
holds x None = false
holds x (Some s) = int_le s.earliest x && int_le x s.latest

-- there is a span, and it doesn't hold the point
abbrev pub misses : ℤ → Option SpanEnds → Bool
misses x None = false
misses x (Some s) = not (int_le s.earliest x && int_le x s.latest)

-- how many spans there are
abbrev pub spans_of : List (Option SpanEnds) → ℕ
spans_of spans = count_by is_some spans

-- how many of them hold the point
abbrev pub holders_of : List (Option SpanEnds) → ℤ → ℕ
holders_of spans x = count_by (holds x) spans

-- how many of them don't
abbrev pub missed_by : List (Option SpanEnds) → ℤ → ℕ
missed_by spans x = count_by (misses x) spans

-- at least so many spans hold the point
abbrev pub is_held : ℕ → List (Option SpanEnds) → ℤ → Bool
is_held need spans x = nat_le need (holders_of spans x)

-- the runs of the points that all but so many spans hold; none where that may be all of them
pub record Agree (spans : List (Option SpanEnds)) (most_false : ℕ) (runs : List SpanEnds) : Type 0 where
  pub none : spans_of spans ≤ most_false → runs ≡ []
  pub all : most_false < spans_of spans → AreRuns (is_held (spans_of spans - most_false) spans) runs

-- the same by counting the spans at each point from -2^62 to 2^62
unfoldable pub agreement_of : List (Option SpanEnds) → ℕ → List SpanEnds
agreement_of spans most_false =
    if nat_le (spans_of spans) most_false then []
    else runs_among (is_held (spans_of spans - most_false) spans) (2 ^ 63 + 1) (neg_ℤ FARTHEST_END)
