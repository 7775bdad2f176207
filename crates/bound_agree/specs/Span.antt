-- Spans: the whole numbers from one end to another.
use Rattle.std.specs.Prelude.{ℤ, neg_ℤ, ◌&&◌, int_le, ◌≤ℤ◌, Option, Some, None, if◌then◌else◌}
use Rattle.bound_agree.specs.declared.span.TheConstants.{FARTHEST_END}

-- the ends of a span, which both belong to it
pub record SpanEnds : Type 0 where
  pub earliest : ℤ
  pub latest : ℤ

-- the ends are in order, and lie from -2^62 to 2^62
pub record KeepsLimits (earliest latest : ℤ) : Type 0 where
  pub ordered : earliest ≤ℤ latest
  pub low : neg_ℤ FARTHEST_END ≤ℤ earliest
  pub high : latest ≤ℤ FARTHEST_END

-- the span with these ends, if there is one
unfoldable pub span_of : ℤ → ℤ → Option SpanEnds
span_of earliest latest =
    if int_le earliest latest && (int_le (neg_ℤ FARTHEST_END) earliest && int_le latest FARTHEST_END)
    then Some (record { earliest = earliest; latest = latest }) else None
