-- The totals over the edges, where the counts at one point change.
use Rattle.std.proofs.Common.{◌≡◌, ◌≢◌, ℕ, ◌+◌, ◌<◌, List, [], ◌∷◌, Some, None, refl, ap, ◌∙◌, arith, ℤ, pos, ◌-ℤ◌, ◌≤ℤ◌, ◌<ℤ◌}
use Rattle.std.proofs.lemmas.Int.{ints, by_lt_z}
use Rattle.std.proofs.lemmas.Map.Keys.{sorted_head, sorted_tail}
use Rattle.std.specs.Map.{lookup, remove_entry, keys_of}
use Rattle.std.specs.BTreeMap.{insert_entry, is_at}
use Rattle.std.specs.Ordering.{int_cmp}
use Rattle.std.specs.List.Sorted.{IsStrictlySortedBy}
use Rattle.bound_agree.specs.declared.edge.Edge.{Edge}
use Rattle.bound_agree.specs.declared.edge.Edge.TheVariants.{First, Past}
use Rattle.bound_agree.specs.declared.edge.Counts.{Counts}
use Rattle.bound_agree.specs.Edges.{count_of, if_same, IsOneMore, nothing, counts_at, gate, total_to, IsAbove, Rises, IsKey, AreKeys, Grows, Adds, SameTotals, edge_of}
use Rattle.bound_agree.specs.Span.{SpanEnds}
use Rattle.bound_agree.proofs.Order.{int_le-false, int_le-true, cmp-less, cmp-greater, cmp-equal, less-cmp}

-- a map's keys rise
above_from : (k : ℤ) (c : Counts) (rest : List (ℤ × Counts)) → IsStrictlySortedBy int_cmp (keys_of ((k, c) ∷ rest)) → IsAbove k rest
above_from k c [] h = tt
above_from k c ((j, d) ∷ rest) h =
    (less-cmp k j (sorted_head int_cmp k (keys_of ((j, d) ∷ rest)) h).0, above_from j d rest (sorted_tail int_cmp k (keys_of ((j, d) ∷ rest)) h))

pub rises_from : (es : List (ℤ × Counts)) → IsStrictlySortedBy int_cmp (keys_of es) → Rises es
rises_from [] h = tt
rises_from ((k, c) ∷ rest) h = above_from k c rest h

-- the keys of entries that rise lie above some point
pub low_of : (es : List (ℤ × Counts)) → Rises es → (low : ℤ) × IsAbove low es
low_of [] up = (pos 0, tt)
low_of ((k, c) ∷ rest) up = (k -ℤ pos 1, (omega (arith, ints), up))

zero_of : (edge : Edge) → count_of edge nothing ≡ 0
zero_of First = refl
zero_of Past = refl

pub gate-zero : (k x : ℤ) → gate k x 0 ≡ 0
gate-zero k x = by_lt_z x k (λ lt. rw (int_le-false k x lt) refl) (λ ge. rw (int_le-true k x ge) refl)

gate-add : (k x : ℤ) (m n : ℕ) → gate k x (m + n) ≡ gate k x m + gate k x n
gate-add k x m n = by_lt_z x k (λ lt. rw (int_le-false k x lt) refl) (λ ge. rw (int_le-true k x ge) refl)

-- ---- One entry put or removed
-- no entry stands at or below the point that all lie above
unkeyed : (low at : ℤ) (es : List (ℤ × Counts)) → IsAbove low es → at ≤ℤ low → lookup (is_at (int_cmp at)) es ≡ None
unkeyed low at [] a h = refl
unkeyed low at ((k, c) ∷ rest) a h =
    let below : at <ℤ k = omega (arith, ints, h, a.0) in
    rw (cmp-less at k below) (unkeyed k at rest a.1 (omega (arith, ints, below)))

inserted : (edge : Edge) (x at : ℤ) (c : Counts) (es : List (ℤ × Counts)) (low : ℤ) → IsAbove low es
    → total_to edge x (insert_entry int_cmp es at c) + gate at x (count_of edge (counts_at at es)) ≡ total_to edge x es + gate at x (count_of edge c)
unfolding counts_at
inserted edge x at c [] low a = rw (zero_of edge) (omega (arith, gate-zero at x))
inserted edge x at c ((k, d) ∷ rest) low a =
    by_lt_z at k
    (λ less. rw (cmp-less at k less, unkeyed k at rest a.1 (omega (arith, ints, less)), zero_of edge) (omega (arith, gate-zero at x)))
    (λ ge. by_lt_z k at
    (λ greater. rw (cmp-greater at k greater) (omega (arith, inserted edge x at c rest k a.1)))
    (λ le. let same : at ≡ k = omega (arith, ints, ge, le) in rw same (rw (cmp-equal k k refl) (omega arith))))

removed : (edge : Edge) (x at : ℤ) (es : List (ℤ × Counts)) (low : ℤ) → IsAbove low es
    → total_to edge x (remove_entry (is_at (int_cmp at)) es) + gate at x (count_of edge (counts_at at es)) ≡ total_to edge x es
unfolding counts_at
removed edge x at [] low a = rw (zero_of edge) (omega (arith, gate-zero at x))
removed edge x at ((k, d) ∷ rest) low a =
    by_lt_z at k
    (λ less. rw (cmp-less at k less) (omega (arith, removed edge x at rest k a.1)))
    (λ ge. by_lt_z k at
    (λ greater. rw (cmp-greater at k greater) (omega (arith, removed edge x at rest k a.1)))
    (λ le. let same : at ≡ k = omega (arith, ints, ge, le) in rw same (rw (cmp-equal k k refl) (omega arith))))

-- ---- One span more or fewer with an edge
gate_more : (edge other : Edge) (k x : ℤ) (c d : Counts) → IsOneMore edge c d → gate k x (count_of other d) ≡ gate k x (count_of other c) + if_same edge other (gate k x 1)
gate_more First First k x c d h = rw h.first (gate-add k x c.first 1)
gate_more First Past k x c d h = let same : d.past ≡ c.past = omega (arith, h.past) in rw same (omega arith)
gate_more Past First k x c d h = let same : d.first ≡ c.first = omega (arith, h.first) in rw same (omega arith)
gate_more Past Past k x c d h = rw h.past (gate-add k x c.past 1)

pub raised : (edge : Edge) (at : ℤ) (c d : Counts) (es fs : List (ℤ × Counts)) → Rises es → c ≡ counts_at at es → IsOneMore edge c d → fs ≡ insert_entry int_cmp es at d → Grows edge at es fs
raised edge at c d es fs up was more is other x =
    let low = low_of es up in
    rw is (omega (arith, inserted other x at d es low.0 low.1, gate_more edge other at x c d more, ap (λ (e : Counts). gate at x (count_of other e)) was))

pub lessened : (edge : Edge) (at : ℤ) (c d : Counts) (es fs : List (ℤ × Counts)) → Rises es → d ≡ counts_at at es → IsOneMore edge c d → fs ≡ insert_entry int_cmp es at c → Grows edge at fs es
lessened edge at c d es fs up was more is other x =
    let low = low_of es up in
    rw is (omega (arith, inserted other x at c es low.0 low.1, gate_more edge other at x c d more, ap (λ (e : Counts). gate at x (count_of other e)) was))

-- the last span with an edge at the point takes the entry with it
pub emptied : (edge : Edge) (at : ℤ) (c d : Counts) (es fs : List (ℤ × Counts)) → Rises es → d ≡ counts_at at es → IsOneMore edge c d → c ≡ nothing → fs ≡ remove_entry (is_at (int_cmp at)) es → Grows edge at fs es
emptied edge at c d es fs up was more none is other x =
    let low = low_of es up in
    let zero = ap (λ (e : Counts). gate at x (count_of other e)) none ∙ ap (λ (n : ℕ). gate at x n) (zero_of other) ∙ gate-zero at x in
    rw is (omega (arith, removed other x at es low.0 low.1, gate_more edge other at x c d more, zero, ap (λ (e : Counts). gate at x (count_of other e)) was))

-- the entry removed is the only one at its point
unkeyed_later : (at : ℤ) (es : List (ℤ × Counts)) (low : ℤ) → IsAbove low es → lookup (is_at (int_cmp at)) (remove_entry (is_at (int_cmp at)) es) ≡ None
unkeyed_later at [] low a = refl
unkeyed_later at ((k, d) ∷ rest) low a =
    by_lt_z at k
    (λ less. rw (cmp-less at k less, cmp-less at k less) (unkeyed_later at rest k a.1))
    (λ ge. by_lt_z k at
    (λ greater. rw (cmp-greater at k greater, cmp-greater at k greater) (unkeyed_later at rest k a.1))
    (λ le. let same : at ≡ k = omega (arith, ints, ge, le) in rw (cmp-equal at k same) (unkeyed k at rest a.1 le)))

keyed : (at : ℤ) (c : Counts) (es : List (ℤ × Counts)) → lookup (is_at (int_cmp at)) (insert_entry int_cmp es at c) ≡ Some c
keyed at c [] = rw (cmp-equal at at refl) refl
keyed at c ((k, d) ∷ rest) =
    by_lt_z at k
    (λ less. rw (cmp-less at k less, cmp-equal at at refl) refl)
    (λ ge. by_lt_z k at
    (λ greater. rw (cmp-greater at k greater, cmp-greater at k greater) (keyed at c rest))
    (λ le. let same : at ≡ k = omega (arith, ints, ge, le) in rw (cmp-equal at k same, cmp-equal at k same) refl))

pub gone : (at : ℤ) (es fs : List (ℤ × Counts)) → Rises es → fs ≡ remove_entry (is_at (int_cmp at)) es → lookup (is_at (int_cmp at)) fs ≢ Some nothing
gone at es fs up is e =
    let low = low_of es up in
    let none = unkeyed_later at es low.0 low.1 in
    absurd (cc (rw is at e, none))

pub stays : (at : ℤ) (c : Counts) (es fs : List (ℤ × Counts)) → c ≢ nothing → fs ≡ insert_entry int_cmp es at c → lookup (is_at (int_cmp at)) fs ≢ Some nothing
stays at c es fs some is e = some (cc (rw is at e, keyed at c es))

-- where there is no entry the counts are 0
pub absent : (edge : Edge) (at : ℤ) (es : List (ℤ × Counts)) → lookup (is_at (int_cmp at)) es ≡ None → count_of edge (counts_at at es) ≡ 0
unfolding counts_at
absent edge at es e = rw e (zero_of edge)

total_none : (edge : Edge) (x : ℤ) (es : List (ℤ × Counts)) (low : ℤ) → IsAbove low es → x ≤ℤ low → total_to edge x es ≡ 0
total_none edge x [] low a h = refl
total_none edge x ((k, d) ∷ rest) low a h =
    let below : x <ℤ k = omega (arith, ints, h, a.0) in
    rw (int_le-false k x below) (omega (arith, total_none edge x rest k a.1 (omega (arith, ints, below))))

-- what stands at a point is the step of the total there
step_at : (edge : Edge) (at : ℤ) (es : List (ℤ × Counts)) (low : ℤ) → IsAbove low es → total_to edge at es ≡ total_to edge (at -ℤ pos 1) es + count_of edge (counts_at at es)
unfolding counts_at
step_at edge at [] low a = rw (zero_of edge) refl
step_at edge at ((k, d) ∷ rest) low a =
    by_lt_z at k
    (λ less. rw (cmp-less at k less, int_le-false k at less, int_le-false k (at -ℤ pos 1) (omega (arith, ints, less))) (omega (arith, step_at edge at rest k a.1)))
    (λ ge. by_lt_z k at
    (λ greater. rw (cmp-greater at k greater, int_le-true k at ge, int_le-true k (at -ℤ pos 1) (omega (arith, ints, greater))) (omega (arith, step_at edge at rest k a.1)))
    (λ le. let same : at ≡ k = omega (arith, ints, ge, le) in
    let none = total_none edge at rest k a.1 le in
    let none_before = total_none edge (at -ℤ pos 1) rest k a.1 (omega (arith, ints, le)) in
    rw (cmp-equal at k same, int_le-true k at ge, int_le-false k (at -ℤ pos 1) (omega (arith, ints, same)), none, none_before) (omega arith)))

pub there : (edge : Edge) (at : ℤ) (es : List (ℤ × Counts)) → Rises es → total_to edge at es ≡ total_to edge (at -ℤ pos 1) es + count_of edge (counts_at at es)
there edge at es up = let low = low_of es up in step_at edge at es low.0 low.1

-- ---- The keys
pub keys_insert : (at : ℤ) (c : Counts) (es : List (ℤ × Counts)) → IsKey at → AreKeys es → AreKeys (insert_entry int_cmp es at c)
keys_insert at c [] key keys = (key, tt)
keys_insert at c ((k, d) ∷ rest) key keys =
    by_lt_z at k
    (λ less. rw (cmp-less at k less) (key, keys))
    (λ ge. by_lt_z k at
    (λ greater. rw (cmp-greater at k greater) (keys.0, keys_insert at c rest key keys.1))
    (λ le. let same : at ≡ k = omega (arith, ints, ge, le) in rw (cmp-equal at k same) (keys.0, keys.1)))

pub keys_remove : (at : ℤ) (es : List (ℤ × Counts)) → AreKeys es → AreKeys (remove_entry (is_at (int_cmp at)) es)
keys_remove at [] keys = tt
keys_remove at ((k, d) ∷ rest) keys =
    by_lt_z at k
    (λ less. rw (cmp-less at k less) (keys.0, keys_remove at rest keys.1))
    (λ ge. by_lt_z k at
    (λ greater. rw (cmp-greater at k greater) (keys.0, keys_remove at rest keys.1))
    (λ le. let same : at ≡ k = omega (arith, ints, ge, le) in rw (cmp-equal at k same) keys.1))

-- ---- Both edges of a span
pub added : (s : SpanEnds) (first past : ℤ) (es fs gs : List (ℤ × Counts)) → first ≡ edge_of First s → past ≡ edge_of Past s
    → Grows First first es fs → Grows Past past fs gs → Adds (Some s) es gs
added s first past es fs gs f p a b First x = omega (arith, a First x, b First x, ap (λ (y : ℤ). gate y x 1) f)
added s first past es fs gs f p a b Past x = omega (arith, a Past x, b Past x, ap (λ (y : ℤ). gate y x 1) p)

pub taken : (s : SpanEnds) (first past : ℤ) (es fs gs : List (ℤ × Counts)) → first ≡ edge_of First s → past ≡ edge_of Past s
    → Grows First first fs es → Grows Past past gs fs → Adds (Some s) gs es
taken s first past es fs gs f p a b First x = omega (arith, a First x, b First x, ap (λ (y : ℤ). gate y x 1) f)
taken s first past es fs gs f p a b Past x = omega (arith, a Past x, b Past x, ap (λ (y : ℤ). gate y x 1) p)

-- one that was made and taken back changes no total
pub back : (edge : Edge) (k : ℤ) (es fs gs : List (ℤ × Counts)) → Grows edge k es fs → Grows edge k gs fs → SameTotals es gs
back edge k es fs gs a b other x = omega (arith, a other x, b other x)

same_one : (edge : Edge) (n : ℕ) → if_same edge edge n ≡ n
same_one First n = refl
same_one Past n = refl

-- where one more has its edge the total steps up
pub grown : (edge : Edge) (k : ℤ) (es fs : List (ℤ × Counts)) → Rises es → Grows edge k es fs → total_to edge (k -ℤ pos 1) fs < total_to edge k fs
grown edge k es fs up a =
    let here : gate k k 1 ≡ 1 = rw (int_le-true k k (omega (arith, ints))) refl in
    let before : gate k (k -ℤ pos 1) 1 ≡ 0 = rw (int_le-false k (k -ℤ pos 1) (omega (arith, ints))) refl in
    omega (arith, there edge k es up, a edge k, a edge (k -ℤ pos 1), same_one edge (gate k k 1), same_one edge (gate k (k -ℤ pos 1) 1), here, before)

-- taking one edge of a span away leaves the other
pub still_has : (first past : ℤ) (es fs : List (ℤ × Counts)) → Grows First first fs es → total_to Past (past -ℤ pos 1) es < total_to Past past es → total_to Past (past -ℤ pos 1) fs < total_to Past past fs
still_has first past es fs a h = omega (arith, a Past past, a Past (past -ℤ pos 1), h)
