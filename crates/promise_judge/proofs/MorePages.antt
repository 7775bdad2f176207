-- One host row more, of the markers that were seen.
use Rattle.std.proofs.Common.{◌≡◌, ℕ, Bool, true, false, ◌||◌, nat_eq, List, [], ◌∷◌, ◌++◌, Option, Some, refl, sym, ap, ◌∙◌, arith, cond, true≢false, inl, inr, Less, Equal, Greater}
use Rattle.std.specs.Ordering.{nat_cmp}
use Rattle.std.specs.Cmp.{nat_cmp_is}
use Rattle.std.specs.BTreeSet as set
use Rattle.std.specs.BTreeMap.{is_at}
use Rattle.std.proofs.lemmas.Bool.{cases_order, eq-eqb, ne_eqb}
use Rattle.clock_gate.specs.declared.trace.HostRow.{HostRow}
use Rattle.clock_gate.specs.declared.trace.HostRow.TheVariants.{Clock, Page, Disrupt}
use Rattle.promise_judge.specs.declared.paging.MarkersSeen.{MarkersSeen}
use Rattle.promise_judge.specs.Markers.{marker_in, marker_after, is_that, has_stood}
use Rattle.promise_judge.specs.Paging.{AreSeen}
use Rattle.promise_judge.proofs.Pages.{marker_next}

marker_after-push : (start : Option ℕ) (rows : List HostRow) (row : HostRow) → marker_after start (rows ++ row ∷ []) ≡ marker_next (marker_after start rows) row
marker_after-push start [] (Clock n) = refl
marker_after-push start [] (Page w) = refl
marker_after-push start [] Disrupt = refl
marker_after-push start (Clock n ∷ rows) row = marker_after-push start rows row
marker_after-push start (Page w ∷ rows) row = marker_after-push (Some (marker_in w)) rows row
marker_after-push start (Disrupt ∷ rows) row = marker_after-push start rows row

one_page : (a b c : Bool) → (a || (b || c)) ≡ (b || (a || c))
one_page true true c = refl
one_page true false c = refl
one_page false true c = refl
one_page false false c = refl

pub has_stood-page : (start : Option ℕ) (rows : List HostRow) (w : List ℕ) (q : ℕ) → has_stood start (rows ++ Page w ∷ []) q ≡ (nat_eq q (marker_in w) || has_stood start rows q)
has_stood-page start [] w q = one_page (is_that q start) (nat_eq q (marker_in w)) false
has_stood-page start (Page y ∷ rows) w q =
    ap (λ b. is_that q start || b) (has_stood-page (Some (marker_in y)) rows w q) ∙ one_page (is_that q start) (nat_eq q (marker_in w)) (has_stood (Some (marker_in y)) rows q)
has_stood-page start (Clock n ∷ rows) w q = has_stood-page start rows w q
has_stood-page start (Disrupt ∷ rows) w q = has_stood-page start rows w q

abbrev pub is_page : HostRow → Bool
is_page (Clock n) = false
is_page (Page w) = true
is_page Disrupt = false

here_same : (start : Option ℕ) (row : HostRow) (q : ℕ) → is_page row ≡ false → has_stood start (row ∷ []) q ≡ has_stood start [] q
here_same start (Clock n) q other = refl
here_same start (Page w) q other = absurd (true≢false other)
here_same start Disrupt q other = refl

pub has_stood-other : (start : Option ℕ) (rows : List HostRow) (row : HostRow) (q : ℕ) → is_page row ≡ false → has_stood start (rows ++ row ∷ []) q ≡ has_stood start rows q
has_stood-other start [] row q other = here_same start row q other
has_stood-other start (Page y ∷ rows) row q other = ap (λ b. is_that q start || b) (has_stood-other (Some (marker_in y)) rows row q other)
has_stood-other start (Clock n ∷ rows) row q other = has_stood-other start rows row q other
has_stood-other start (Disrupt ∷ rows) row q other = has_stood-other start rows row q other

next_other : (before : Option ℕ) (row : HostRow) → is_page row ≡ false → marker_next before row ≡ before
next_other before (Clock n) other = refl
next_other before (Page w) other = absurd (true≢false other)
next_other before Disrupt other = refl

pub seen_other : (start : Option ℕ) (rows : List HostRow) (row : HostRow) (markers : MarkersSeen) → is_page row ≡ false → AreSeen start rows markers → AreSeen start (rows ++ row ∷ []) markers
seen_other start rows row markers other are = record {
  last = are.last ∙ sym (marker_after-push start rows row ∙ next_other (marker_after start rows) row other);
  all = λ q. are.all q ∙ sym (has_stood-other start rows row q other);
}

one_key : (x q : ℕ) (old : Bool) → cond (is_at (nat_cmp x) q) true old ≡ (nat_eq q x || old)
one_key x q old =
    elim (cases_order x q) [
      | inl same ↦ (let t : nat_eq q x ≡ true = eq-eqb q x (sym same) in rw (sym (nat_cmp_is x q Equal same), t) refl)
      | inr other ↦
          (elim other [
            | inl below ↦ (let f : nat_eq q x ≡ false = ne_eqb q x (λ e. omega arith) in rw (sym (nat_cmp_is x q Less below), f) refl)
            | inr above ↦ (let f : nat_eq q x ≡ false = ne_eqb q x (λ e. omega arith) in rw (sym (nat_cmp_is x q Greater above), f) refl)
          ])
    ]

pub seen_page : (start : Option ℕ) (rows : List HostRow) (row : HostRow) (w : List ℕ) (x : ℕ) (old new : MarkersSeen) → row ≡ Page w → x ≡ marker_in w → AreSeen start rows old → new.last ≡ Some x →
    ((q : ℕ) → set.contains nat_cmp new.all q ≡ cond (is_at (nat_cmp x) q) true (set.contains nat_cmp old.all q)) → AreSeen start (rows ++ row ∷ []) new
seen_page start rows row w x old new is marker are last all = rw is (record {
  last = last ∙ (ap Some marker ∙ sym (marker_after-push start rows (Page w)));
  all = λ q. all q ∙ (one_key x q (set.contains nat_cmp old.all q) ∙ (ap (λ b. nat_eq q x || b) (are.all q)
      ∙ (ap (λ y. nat_eq q y || has_stood start rows q) marker ∙ sym (has_stood-page start rows w q))));
})
