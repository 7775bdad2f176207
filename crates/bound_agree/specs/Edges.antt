-- The edges of the spans of a board, in an ordered map that tells how many spans have an edge at each point.
use Rattle.std.specs.Prelude.{◌≡◌, ℕ, ◌+◌, ◌^◌, ◌<◌, Bool, false, if◌then◌else◌, List, [], ◌∷◌, length, Option, Some, None, ⊤, ℤ, pos, neg_ℤ, ◌+ℤ◌, ◌-ℤ◌, int_le, ◌≤ℤ◌, ◌<ℤ◌}
use Rattle.std.specs.Option.{unwrap_or}
use Rattle.std.specs.List.{count_by}
use Rattle.std.specs.Map.{lookup}
use Rattle.std.specs.BTreeMap.{is_at}
use Rattle.std.specs.Ordering.{int_cmp}
use Rattle.bound_agree.specs.declared.board.TheConstants.{MOST_SERVERS}
use Rattle.bound_agree.specs.declared.edge.Edge.{Edge}
use Rattle.bound_agree.specs.declared.edge.Edge.TheVariants.{First, Past}
use Rattle.bound_agree.specs.declared.edge.Counts.{Counts}
use Rattle.bound_agree.specs.declared.span.TheConstants.{FARTHEST_END}
use Rattle.bound_agree.specs.Board.{spans_of}
use Rattle.bound_agree.specs.Span.{SpanEnds, KeepsLimits}

-- the number of spans with this edge
abbrev pub count_of : Edge → Counts → ℕ
count_of First c = c.first
count_of Past c = c.past

-- where a span has this edge: at its first point, or at the first point past it
abbrev pub edge_of : Edge → SpanEnds → ℤ
edge_of First s = s.earliest
edge_of Past s = s.latest +ℤ pos 1

-- a number, where the edges are the same
abbrev pub if_same : Edge → Edge → ℕ → ℕ
if_same First First n = n
if_same First Past n = 0
if_same Past First n = 0
if_same Past Past n = n

-- the later counts have one span more with this edge
pub record IsOneMore (edge : Edge) (before after : Counts) : Type 0 where
  pub first : after.first ≡ before.first + if_same edge First 1
  pub past : after.past ≡ before.past + if_same edge Past 1

abbrev pub nothing : Counts
nothing = record { first = 0; past = 0 }

-- the counts at a point
unfoldable pub counts_at : ℤ → List (ℤ × Counts) → Counts
counts_at at es = unwrap_or (lookup (is_at (int_cmp at)) es) nothing

-- a number, where k is not after x
abbrev pub gate : ℤ → ℤ → ℕ → ℕ
gate k x n = if int_le k x then n else 0

-- how many spans have this edge at or before the point
abbrev pub total_to : Edge → ℤ → List (ℤ × Counts) → ℕ
total_to edge x [] = 0
total_to edge x ((k, c) ∷ rest) = gate k x (count_of edge c) + total_to edge x rest

-- the span has this edge at or before the point
abbrev pub has_passed : Edge → ℤ → Option SpanEnds → Bool
has_passed edge x None = false
has_passed edge x (Some s) = int_le (edge_of edge s) x

-- the keys rise from a point on
abbrev pub IsAbove : ℤ → List (ℤ × Counts) → Type 0
IsAbove low [] = ⊤
IsAbove low ((k, c) ∷ rest) = (low <ℤ k) × IsAbove k rest

abbrev pub Rises : List (ℤ × Counts) → Type 0
Rises [] = ⊤
Rises ((k, c) ∷ rest) = IsAbove k rest

-- an edge lies from -2^62 to just past 2^62
abbrev pub IsKey : ℤ → Type 0
IsKey k = (neg_ℤ FARTHEST_END ≤ℤ k) × (k ≤ℤ (FARTHEST_END +ℤ pos 1))

abbrev pub AreKeys : List (ℤ × Counts) → Type 0
AreKeys [] = ⊤
AreKeys ((k, c) ∷ rest) = IsKey k × AreKeys rest

-- one span more has this edge at the point
abbrev pub Grows : Edge → ℤ → List (ℤ × Counts) → List (ℤ × Counts) → Type 0
Grows edge at before after =
    (other : Edge) (x : ℤ) → total_to other x after ≡ total_to other x before + if_same edge other (gate at x 1)

-- the edges of this span are there besides, if it is one
abbrev pub Adds : Option SpanEnds → List (ℤ × Counts) → List (ℤ × Counts) → Type 0
Adds span before after =
    (edge : Edge) (x : ℤ) → total_to edge x after ≡ total_to edge x before + (if has_passed edge x span then 1 else 0)

-- at no point are there more or fewer
abbrev pub SameTotals : List (ℤ × Counts) → List (ℤ × Counts) → Type 0
SameTotals before after = (edge : Edge) (x : ℤ) → total_to edge x after ≡ total_to edge x before

-- some span has its edges where this one has them, if it is one
abbrev pub HasEdges : Option SpanEnds → List (ℤ × Counts) → Type 0
HasEdges None es = ⊤
HasEdges (Some s) es = (edge : Edge) → total_to edge (edge_of edge s -ℤ pos 1) es < total_to edge (edge_of edge s) es

-- each span is within the limits
abbrev pub IsSpan : Option SpanEnds → Type 0
IsSpan None = ⊤
IsSpan (Some s) = KeepsLimits s.earliest s.latest

abbrev pub AreSpans : List (Option SpanEnds) → Type 0
AreSpans [] = ⊤
AreSpans (s ∷ spans) = IsSpan s × AreSpans spans

-- the map holds the edges of these spans
pub record AreEdgesOf (spans : List (Option SpanEnds)) (es : List (ℤ × Counts)) : Type 0 where
  pub few : length spans < 2 ^ 31
  pub fit : AreSpans spans
  pub totals : (edge : Edge) (x : ℤ) → total_to edge x es ≡ count_by (has_passed edge x) spans
  pub rises : Rises es
  pub keys : AreKeys es

-- what a board keeps: a slot for each server, the number of spans, and their edges
pub record Kept (spans : List (Option SpanEnds)) (count : ℕ) (es : List (ℤ × Counts)) : Type 0 where
  pub wide : length spans ≡ MOST_SERVERS
  pub counted : count ≡ spans_of spans
  pub edges : AreEdgesOf spans es
