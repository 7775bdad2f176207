-- A sweep over the edges gives the runs of the points that enough spans hold.
use Rattle.std.proofs.Common.{◌≡◌, ℕ, ◌+◌, ◌-◌, ◌^◌, ◌<◌, ◌≤◌, nat_le, Bool, true, false, List, [], ◌∷◌, ◌++◌, Option, Some, None, refl, sym, subst, arith, ℤ, pos, neg_ℤ, ◌+ℤ◌, ◌-ℤ◌, ◌≤ℤ◌, ◌<ℤ◌}
use Rattle.std.specs.Prelude.{⊤}
use Rattle.std.proofs.lemmas.Int.{ints, by_lt_z}
use Rattle.std.proofs.lemmas.Bool.Decides.{nat_tests}
use Rattle.bound_agree.specs.declared.edge.Edge.TheVariants.{First, Past}
use Rattle.bound_agree.specs.declared.edge.Counts.{Counts}
use Rattle.bound_agree.specs.Edges.{total_to, IsAbove, IsKey, AreKeys}
use Rattle.bound_agree.specs.Runs.{AreRunsFrom}
use Rattle.bound_agree.specs.Span.{SpanEnds}
use Rattle.bound_agree.specs.Sweep.{opened, closed, CanClose}
use Rattle.bound_agree.proofs.Order.{int_le-false, int_le-true}

-- the runs that a sweep finds: `sum` spans hold the points before the next edge, and `run` is open
abbrev pub sweep : ℕ → ℕ → Option ℤ → List (ℤ × Counts) → List SpanEnds
sweep need sum run [] = []
sweep need sum run ((x, c) ∷ rest) =
    closed run (nat_le need (sum + c.first - c.past)) x
    ++ sweep need (sum + c.first - c.past) (opened run (nat_le need (sum + c.first - c.past)) x) rest

-- it can compute: no sum leaves 32 bits, and each run that closes is a span
abbrev pub IsSwept : ℕ → ℕ → Option ℤ → List (ℤ × Counts) → Type 0
IsSwept need sum run [] = ⊤
IsSwept need sum run ((k, c) ∷ rest) =
    IsKey k × CanClose run k × (c.past ≤ sum + c.first) × (sum + c.first < 2 ^ 32)
    × IsSwept need (sum + c.first - c.past) (opened run (nat_le need (sum + c.first - c.past)) k) rest

-- from `low` on the sum and the edges that follow say how many spans hold a point
abbrev pub Ties : (ℤ → ℕ) → ℕ → ℤ → List (ℤ × Counts) → Type 0
Ties c sum low es = (x : ℤ) → low ≤ℤ x → c x + total_to Past x es ≡ sum + total_to First x es

abbrev pub passing : ℕ → (ℤ → ℕ) → ℤ → Bool
passing need c x = nat_le need (c x)

pub none_to : (low x : ℤ) (es : List (ℤ × Counts)) → IsAbove low es → x ≤ℤ low → (total_to First x es ≡ 0) × (total_to Past x es ≡ 0)
none_to low x [] a h = (refl, refl)
none_to low x ((k, c) ∷ rest) a h =
    let apart = int_le-false k x (omega (arith, ints, h, a.0)) in
    let later = none_to k x rest a.1 (omega (arith, ints, h, a.0)) in
    (rw apart (omega (arith, later.0)), rw apart (omega (arith, later.1)))

-- up to the first edge the count is the sum
sum_before : (c : ℤ → ℕ) (sum : ℕ) (low k x : ℤ) (d : Counts) (rest : List (ℤ × Counts)) → IsAbove low ((k, d) ∷ rest) → Ties c sum low ((k, d) ∷ rest) → low ≤ℤ x → x <ℤ k → c x ≡ sum
sum_before c sum low k x d rest a t from to =
    let apart = int_le-false k x to in
    let later = none_to k x rest a.1 (omega (arith, ints, to)) in
    let tie = rw apart at (t x from) in
    omega (arith, later.0, later.1, tie)

-- and from it on the edges that follow tie to the next sum
ties_after : (c : ℤ → ℕ) (sum : ℕ) (low k : ℤ) (d : Counts) (rest : List (ℤ × Counts)) → IsAbove low ((k, d) ∷ rest) → Ties c sum low ((k, d) ∷ rest) → Ties c (sum + d.first - d.past) k rest
ties_after c sum low k d rest a t x from =
    let here = rw (int_le-true k k (omega (arith, ints))) at (t k (omega (arith, ints, a.0))) in
    let none = none_to k k rest a.1 (omega (arith, ints)) in
    let there = rw (int_le-true k x from) at (t x (omega (arith, ints, a.0, from))) in
    omega (arith, here, none.0, none.1, there)

sum_at : (c : ℤ → ℕ) (sum : ℕ) (k : ℤ) (rest : List (ℤ × Counts)) → IsAbove k rest → Ties c sum k rest → c k ≡ sum
sum_at c sum k rest a t =
    let none = none_to k k rest a (omega (arith, ints)) in
    omega (arith, none.0, none.1, t k (omega (arith, ints)))

-- runs from a point on are runs from a lower one, where the points between fail
pub lowered : (p : ℤ → Bool) (runs : List SpanEnds) (low k : ℤ) → low ≤ℤ k → ((x : ℤ) → low ≤ℤ x → x <ℤ k → p x ≡ false) → AreRunsFrom p runs k → AreRunsFrom p runs low
lowered p [] low k le fail is = λ x from. by_lt_z x k (λ lt. fail x from lt) (λ ge. is x ge)
lowered p (run ∷ runs) low k le fail is = record {
  from_low = omega (arith, ints, le, is.from_low);
  ordered = is.ordered;
  before = λ x from to. by_lt_z x k (λ lt. fail x from lt) (λ ge. is.before x ge to);
  inside = is.inside;
  after = is.after;
  later = is.later;
}

passes_by : (need : ℕ) (c : ℤ → ℕ) (x : ℤ) → need ≤ c x → passing need c x ≡ true
passes_by need c x h = grind (arith, nat_tests)

pub fails_by : (need : ℕ) (c : ℤ → ℕ) (x : ℤ) → c x < need → passing need c x ≡ false
fails_by need c x h = grind (arith, nat_tests)

reached : (need n : ℕ) → nat_le need n ≡ true → need ≤ n
reached need n h = grind (arith, nat_tests)

missed : (need n : ℕ) → nat_le need n ≡ false → n < need
missed need n h = grind (arith, nat_tests)

-- the sweep gives the runs, with no run open and with one that began at `from`
abbrev Swept : (ℤ → ℕ) → ℕ → ℕ → ℤ → List (ℤ × Counts) → Type 0
Swept c need sum low es =
    (sum < need → AreRunsFrom (passing need c) (sweep need sum None es) low)
    × ((from : ℤ) → need ≤ sum → from ≤ℤ low → ((x : ℤ) → from ≤ℤ x → x ≤ℤ low → passing need c x ≡ true) → AreRunsFrom (passing need c) (sweep need sum (Some from) es) from)

turn_none : (c : ℤ → ℕ) (need sum next : ℕ) (low k : ℤ) (rest : List (ℤ × Counts)) (b : Bool) → nat_le need next ≡ b → low <ℤ k → c k ≡ next → ((x : ℤ) → low ≤ℤ x → x <ℤ k → c x ≡ sum) → Swept c need next k rest → sum < need → AreRunsFrom (passing need c) (closed None b k ++ sweep need next (opened None b k) rest) low
turn_none c need sum next low k rest true is lt at before ih small =
    lowered (passing need c) (sweep need next (Some k) rest) low k (omega (arith, ints, lt)) (λ x from to. fails_by need c x (omega (arith, small, before x from to)))
    (ih.1 k (reached need next is) (omega (arith, ints)) (λ x from to.
    let same : x ≡ k = omega (arith, ints, from, to) in
    passes_by need c x (rw same (omega (arith, at, reached need next is)))))
turn_none c need sum next low k rest false is lt at before ih small =
    lowered (passing need c) (sweep need next None rest) low k (omega (arith, ints, lt)) (λ x from to. fails_by need c x (omega (arith, small, before x from to)))
    (ih.0 (missed need next is))

turn_some : (c : ℤ → ℕ) (need sum next : ℕ) (low k from : ℤ) (rest : List (ℤ × Counts)) (b : Bool) → nat_le need next ≡ b → low <ℤ k → c k ≡ next → ((x : ℤ) → low ≤ℤ x → x <ℤ k → c x ≡ sum) → Swept c need next k rest → need ≤ sum → from ≤ℤ low → ((x : ℤ) → from ≤ℤ x → x ≤ℤ low → passing need c x ≡ true) → AreRunsFrom (passing need c) (closed (Some from) b k ++ sweep need next (opened (Some from) b k) rest) from
turn_some c need sum next low k from rest true is lt at before ih large below pass =
    ih.1 from (reached need next is) (omega (arith, ints, below, lt)) (λ x f to. by_lt_z low x
    (λ over. by_lt_z x k
    (λ under. passes_by need c x (omega (arith, large, before x (omega (arith, ints, over)) under)))
    (λ at_k. let same : x ≡ k = omega (arith, ints, at_k, to) in passes_by need c x (rw same (omega (arith, at, reached need next is)))))
    (λ early. pass x f early))
turn_some c need sum next low k from rest false is lt at before ih large below pass =
    let back : k -ℤ pos 1 +ℤ pos 1 ≡ k = omega (arith, ints) in
    record {
      from_low = omega (arith, ints);
      ordered = omega (arith, ints, below, lt);
      before = λ x f to. absurd (omega (arith, ints, f, to));
      inside = λ x f to. by_lt_z low x
          (λ over. passes_by need c x (omega (arith, large, before x (omega (arith, ints, over)) (omega (arith, ints, to)))))
          (λ early. pass x f early);
      after = rw back (fails_by need c k (omega (arith, at, missed need next is)));
      later = subst (λ (y : ℤ). AreRunsFrom (passing need c) (sweep need next None rest) y) (sym back) (ih.0 (missed need next is));
    }

pub swept : (c : ℤ → ℕ) (need : ℕ) (top : ℤ) → ((x : ℤ) → top ≤ℤ x → c x < need) → (es : List (ℤ × Counts)) (sum : ℕ) (low : ℤ) → IsAbove low es → Ties c sum low es → Swept c need sum low es
swept c need top far [] sum low a t = (
  λ small x from. fails_by need c x (omega (arith, small, t x from)),
  λ from large below pass. by_lt_z low top
      (λ under. absurd (omega (arith, large, t top (omega (arith, ints, under)), far top (omega (arith, ints)))))
      (λ over. absurd (omega (arith, large, t low (omega (arith, ints)), far low over))),
)
swept c need top far ((k, d) ∷ rest) sum low a t =
    let next = sum + d.first - d.past in
    let ties = ties_after c sum low k d rest a t in
    let ih = swept c need top far rest next k a.1 ties in
    let at = sum_at c next k rest a.1 ties in (
      turn_none c need sum next low k rest (nat_le need next) refl a.0 at (λ x f to. sum_before c sum low k x d rest a t f to) ih,
      λ from. turn_some c need sum next low k from rest (nat_le need next) refl a.0 at (λ x f to. sum_before c sum low k x d rest a t f to) ih,
    )

-- ---- It can compute
-- a run that is open began within the limits and not after this edge
abbrev Begun : Option ℤ → ℤ → Type 0
Begun None low = ⊤
Begun (Some from) low = (neg_ℤ (pos (2 ^ 62)) ≤ℤ from) × (from ≤ℤ low)

begun_on : (run : Option ℤ) (b : Bool) (low k : ℤ) → Begun run low → low <ℤ k → IsKey k → Begun (opened run b k) k
begun_on None true low k h lt key = (key.0, omega (arith, ints))
begun_on None false low k h lt key = tt
begun_on (Some from) true low k h lt key = (h.0, omega (arith, ints, h.1, lt))
begun_on (Some from) false low k h lt key = tt

can_close : (run : Option ℤ) (low k : ℤ) → Begun run low → low <ℤ k → IsKey k → CanClose run k
can_close None low k h lt key = tt
can_close (Some from) low k h lt key = record {
  ordered = omega (arith, ints, h.1, lt);
  low = h.0;
  high = omega (arith, ints, key.1);
}

pub can : (c : ℤ → ℕ) (need most : ℕ) (es : List (ℤ × Counts)) (sum : ℕ) (run : Option ℤ) (low : ℤ) → most < 2 ^ 32 → IsAbove low es → Ties c sum low es → Begun run low → ((x : ℤ) → sum + total_to First x es ≤ most) → AreKeys es → IsSwept need sum run es
can c need most [] sum run low small a t begun bound keys = tt
can c need most ((k, d) ∷ rest) sum run low small a t begun bound keys =
    let ties = ties_after c sum low k d rest a t in
    let none = none_to k k rest a.1 (omega (arith, ints)) in
    let here = rw (int_le-true k k (omega (arith, ints))) at (t k (omega (arith, ints, a.0))) in
    let most_here = rw (int_le-true k k (omega (arith, ints))) at (bound k) in
    let next = sum + d.first - d.past in
    let later : (x : ℤ) → sum + d.first - d.past + total_to First x rest ≤ most = λ x. by_lt_z x k
    (λ lt. omega (arith, none_to k x rest a.1 (omega (arith, ints, lt)), most_here))
    (λ ge. let there = rw (int_le-true k x ge) at (bound x) in omega (arith, there)) in (
      keys.0,
      can_close run low k begun a.0 keys.0,
      omega (arith, here, none.0, none.1),
      omega (arith, most_here, small),
      can c need most rest next (opened run (nat_le need next) k) k small a.1 ties (begun_on run (nat_le need next) low k begun a.0 keys.0) later keys.1,
    )
