-- One host row more in the tables of the pages.
use Rattle.std.proofs.Common.{◌≡◌, ℕ, ◌+◌, ◌<◌, ◌≤◌, Bool, true, false, cond, ◌&&◌, min, List, [], ◌∷◌, ◌++◌, length, length-append, take, slice_index, slice_index_or, Option, sym, ap, ◌∙◌, subst, arith, inl, inr}
use Rattle.std.proofs.lemmas.Bool.{cases_lt, cases_eq}
use Rattle.std.proofs.lemmas.List.{take_more, get_or_push, get_or_append_left}
use Rattle.clock_gate.specs.declared.trace.HostRow.{HostRow}
use Rattle.clock_gate.specs.declared.trace.HostRow.TheVariants.{Clock}
use Rattle.promise_judge.specs.declared.paging.PageTables.{PageTables}
use Rattle.promise_judge.specs.Markers.{changes, brings_back, marker_after, changes_at, repeats_at}
use Rattle.promise_judge.specs.Paging.{AreSeen, ArePageTables}
use Rattle.promise_judge.specs.Searching.{IsLast, AreLast}
use Rattle.promise_judge.proofs.Pages.{changes_next, repeats_next}

last_next : (test : ℕ → Bool) (done latest new : ℕ) (c : Bool) → IsLast test done latest → test (done + 1) ≡ c → new ≡ cond c (done + 1) latest → IsLast test (done + 1) new
last_next test done latest new true is here made = record {
  high = omega arith;
  passes = λ x. subst (λ (k : ℕ). test k ≡ true) (sym made) here;
  fails = λ k a b. absurd (omega arith);
}
last_next test done latest new false is here made =
    let high = is.high in
    record {
      high = omega arith;
      passes = λ x. subst (λ (k : ℕ). test k ≡ true) (sym made) (is.passes (omega arith));
      fails = λ k a b.
          elim (cases_eq k (done + 1)) [
            | inl same ↦ subst (λ (j : ℕ). test j ≡ false) (sym same) here
            | inr other ↦ is.fails k (omega arith) (omega arith)
          ];
    }

table_next : (test : ℕ → Bool) (done new : ℕ) (items : List ℕ) → AreLast test done items → IsLast test (done + 1) new → AreLast test (done + 1) (items ++ new ∷ [])
table_next test done new items are last =
    let sized = are.sized in
    record {
      sized = length-append items (new ∷ []) ∙ ap (λ n. n + 1) sized;
      last = λ top le.
          elim (cases_eq top (done + 1)) [
            | inl same ↦
                (let found : slice_index (items ++ new ∷ []) top ≡ new = get_or_push items new 0 top (sized ∙ sym same) in
                subst (λ (n : ℕ). IsLast test top n) (sym found) (subst (λ (k : ℕ). IsLast test k new) (sym same) last))
            | inr other ↦
                (let found : slice_index (items ++ new ∷ []) top ≡ slice_index items top = get_or_append_left items (new ∷ []) 0 top (omega arith) in
                subst (λ (n : ℕ). IsLast test top n) (sym found) (are.last top (omega arith)))
          ];
    }

-- the first row that passes, or past the limit where none did among the first rows
abbrev IsFirstSoFar : (ℕ → Bool) → (limit done first : ℕ) → Type 0
IsFirstSoFar test limit done first = (1 ≤ first) × (first ≤ limit) × (first < limit → test first ≡ true) × ((k : ℕ) → 1 ≤ k → k ≤ done → k < first → test k ≡ false)

first_next : (test : ℕ → Bool) (limit done first new : ℕ) (c : Bool) → done + 1 ≤ limit → IsFirstSoFar test limit done first → test (done + 1) ≡ c → new ≡ cond c (min (done + 1) first) first → IsFirstSoFar test limit (done + 1) new
first_next test limit done first new true le is here made =
    let low = is.0 in
    let high = is.1 in (
      omega arith,
      omega arith,
      λ lt.
          elim (cases_lt (done + 1) first) [
            | inl before ↦ (let now : new ≡ done + 1 = omega arith in subst (λ (k : ℕ). test k ≡ true) (sym now) here)
            | inr after ↦ (let now : new ≡ first = omega arith in subst (λ (k : ℕ). test k ≡ true) (sym now) (is.2 (omega arith)))
          ],
      λ k a b lt. is.3 k a (omega arith) (omega arith),
    )
first_next test limit done first new false le is here made = (
  let low = is.0 in omega arith,
  let high = is.1 in omega arith,
  λ lt. subst (λ (k : ℕ). test k ≡ true) (sym made) (is.2 (omega arith)),
  λ k a b lt.
      elim (cases_eq k (done + 1)) [
        | inl same ↦ subst (λ (j : ℕ). test j ≡ false) (sym same) here
        | inr other ↦ is.3 k a (omega arith) (omega arith)
      ],
)

pub tables_next : (start : Option ℕ) (host : List HostRow) (done : ℕ) (old new : PageTables) (row : HostRow) (c r : Bool) →
    ArePageTables start host done old → done < length host → row ≡ slice_index_or host done (Clock 0) →
    AreSeen start (take done host ++ row ∷ []) new.markers →
    c ≡ changes (marker_after start (take done host)) row → r ≡ brings_back start (take done host) row →
    new.latest ≡ cond c (old.done + 1) old.latest → new.repeat ≡ cond (c && r) (min (old.done + 1) old.repeat) old.repeat →
    new.changed.items ≡ old.changed.items ++ new.latest ∷ [] → new.done ≡ old.done + 1 → ArePageTables start host (done + 1) new
tables_next start host done old new row c r are lt is seen c_is r_is latest repeat items count =
    let so_far = are.count in
    let change : changes_at start host (done + 1) ≡ c = changes_next start host done ∙ sym (c_is ∙ ap (changes (marker_after start (take done host))) is) in
    let repeating : repeats_at start host (done + 1) ≡ (c && r) =
    repeats_next start host done
    ∙ sym (ap (λ x. x && r) (c_is ∙ ap (changes (marker_after start (take done host))) is)
    ∙ ap (λ x. changes (marker_after start (take done host)) (slice_index_or host done (Clock 0)) && x) (r_is ∙ ap (brings_back start (take done host)) is)) in
    let last : IsLast (changes_at start host) (done + 1) new.latest =
    last_next (changes_at start host) done old.latest new.latest c are.latest change (latest ∙ ap (λ n. cond c (n + 1) old.latest) so_far) in
    let first : IsFirstSoFar (repeats_at start host) (length host + 1) (done + 1) new.repeat =
    first_next (repeats_at start host) (length host + 1) done old.repeat new.repeat (c && r) (omega arith)
    (are.repeat_low, are.repeat_high, are.repeat_passes, are.repeat_fails) repeating (repeat ∙ ap (λ n. cond (c && r) (min (n + 1) old.repeat) old.repeat) so_far) in
    record {
      count = count ∙ ap (λ n. n + 1) so_far;
      markers = subst (λ (rows : List HostRow). AreSeen start rows new.markers) (ap (λ x. take done host ++ x ∷ []) is ∙ sym (take_more host done (Clock 0) lt)) seen;
      changed = subst (λ (l : List ℕ). AreLast (changes_at start host) (done + 1) l) (sym items) (table_next (changes_at start host) done new.latest old.changed.items are.changed last);
      latest = last;
      repeat_low = first.0;
      repeat_high = first.1;
      repeat_passes = first.2;
      repeat_fails = first.3;
    }
