-- How many of the first rows of the host are of one kind, and which of that kind comes next.
use Rattle.std.proofs.Common.{◌≡◌, ℕ, ◌+◌, ◌-◌, ◌≤◌, ◌<◌, List, [], ◌∷◌, ◌++◌, length, take, drop, Option, Some, None, refl, ap, sym, ◌∙◌, subst, arith, length-append, append_assoc, append-nil}
use Rattle.std.proofs.Math.Numerals.{suc-eq-add-one}
use Rattle.std.specs.Prelude.{filter_map, slice_get, slice_index, slice_index_or}
use Rattle.std.proofs.Math.Seq.{get_or-append_seam, take-add}
use Rattle.std.proofs.lemmas.List.{take-append-drop, take_more}
use Rattle.std.proofs.lemmas.List.Elements.{filter_map-append}
use Rattle.std.proofs.lemmas.List.FromFn.{length-range_with_len, get_or-range_with_len}
use Rattle.std.proofs.lemmas.Option.{slice_get_within, get_or_from_slice_get}
use Rattle.clock_gate.specs.declared.trace.HostRow.{HostRow}
use Rattle.clock_gate.specs.declared.trace.HostRow.TheVariants.{Clock, Page, Disrupt}
use Rattle.clock_gate.specs.Trace.{IsHostOf, clock_number, clock_numbers}
use Rattle.abstract_run.specs.HostRun.{clocks_at, page_in, pages_at, pages_of}

-- the items up to one, and it
take_next : {X : Type 0} (xs : List X) (n : ℕ) (x : X) → slice_get xs n ≡ Some x → take (n + 1) xs ≡ take n xs ++ x ∷ []
take_next {X = X} xs n x at =
    take_more xs n x (slice_get_within xs n x at) ∙ ap (λ (y : X). take n xs ++ y ∷ []) (get_or_from_slice_get xs n x x at)

-- and those after it
split_next : {X : Type 0} (xs : List X) (n : ℕ) (x : X) → slice_get xs n ≡ Some x → xs ≡ take n xs ++ x ∷ drop (n + 1) xs
split_next {X = X} xs n x at =
    sym (take-append-drop (n + 1) xs)
    ∙ ap (λ (front : List X). front ++ drop (n + 1) xs) (take_next xs n x at)
    ∙ append_assoc (take n xs) (x ∷ []) (drop (n + 1) xs)

module _ {X Y : Type 0} (h : X → Option Y) where
  kept_one : (x : X) (y : Y) (xs : List X) → h x ≡ Some y → filter_map h (x ∷ xs) ≡ y ∷ filter_map h xs
  kept_one x y xs is = rw is refl

  kept_none : (x : X) (xs : List X) → h x ≡ None → filter_map h (x ∷ xs) ≡ filter_map h xs
  kept_none x xs is = rw is refl

  -- an item of the kind is one more
  next_some : (xs : List X) (n : ℕ) (x : X) (y : Y) → slice_get xs n ≡ Some x → h x ≡ Some y → length (filter_map h (take (n + 1) xs)) ≡ length (filter_map h (take n xs)) + 1
  next_some xs n x y at is =
      ap (λ (l : List X). length (filter_map h l)) (take_next xs n x at)
      ∙ ap length (filter_map-append h (take n xs) (x ∷ []) ∙ ap (λ (l : List Y). filter_map h (take n xs) ++ l) (kept_one x y [] is))
      ∙ length-append _ _

  -- another item is none
  next_none : (xs : List X) (n : ℕ) (x : X) → slice_get xs n ≡ Some x → h x ≡ None → length (filter_map h (take (n + 1) xs)) ≡ length (filter_map h (take n xs))
  next_none xs n x at is =
      ap (λ (l : List X). length (filter_map h l)) (take_next xs n x at)
      ∙ ap length (filter_map-append h (take n xs) (x ∷ []) ∙ ap (λ (l : List Y). filter_map h (take n xs) ++ l) (kept_none x [] is) ∙ append-nil (filter_map h (take n xs)))

  -- all of the kind: those before an item, it, and those after it
  split_kind : (xs : List X) (n : ℕ) (x : X) (y : Y) → slice_get xs n ≡ Some x → h x ≡ Some y
      → filter_map h xs ≡ filter_map h (take n xs) ++ y ∷ filter_map h (drop (n + 1) xs)
  split_kind xs n x y at is =
      ap (filter_map h) (split_next xs n x at)
      ∙ filter_map-append h (take n xs) (x ∷ drop (n + 1) xs)
      ∙ ap (λ (l : List Y). filter_map h (take n xs) ++ l) (kept_one x y (drop (n + 1) xs) is)

  -- the item of the kind that comes next
  kind_at : (xs : List X) (n : ℕ) (x : X) (y d : Y) → slice_get xs n ≡ Some x → h x ≡ Some y → slice_index_or (filter_map h xs) (length (filter_map h (take n xs))) d ≡ y
  kind_at xs n x y d at is =
      ap (λ (l : List Y). slice_index_or l (length (filter_map h (take n xs))) d) (split_kind xs n x y at is)
      ∙ get_or-append_seam (filter_map h (take n xs)) y (filter_map h (drop (n + 1) xs)) d

  kind_within : (xs : List X) (n : ℕ) (x : X) (y : Y) → slice_get xs n ≡ Some x → h x ≡ Some y → length (filter_map h (take n xs)) < length (filter_map h xs)
  kind_within xs n x y at is =
      let all : length (filter_map h xs) ≡ length (filter_map h (take n xs)) + length (y ∷ filter_map h (drop (n + 1) xs)) = ap length (split_kind xs n x y at is) ∙ length-append _ _ in
      omega (arith, all)

  kind_most : (xs : List X) (n : ℕ) → length (filter_map h (take n xs)) ≤ length (filter_map h xs)
  kind_most xs n =
      let all : length (filter_map h xs) ≡ length (filter_map h (take n xs)) + length (filter_map h (drop n xs)) =
      ap (λ (l : List X). length (filter_map h l)) (sym (take-append-drop n xs)) ∙ ap length (filter_map-append h (take n xs) (drop n xs)) ∙ length-append _ _ in
      omega (arith, all)

  kept_by : (x : X) (kept : Option Y) (xs : List X) → h x ≡ kept → length (filter_map h xs) ≤ length xs → length (filter_map h (x ∷ xs)) ≤ length (x ∷ xs)
  kept_by x (Some y) xs is few = rw is (omega (arith, few))
  kept_by x None xs is few = rw is (omega (arith, few))

  kind_few : (xs : List X) → length (filter_map h xs) ≤ length xs
  kind_few [] = omega arith
  kind_few (x ∷ xs) = kept_by x (h x) xs refl (kind_few xs)

-- ---- rows of the clock

pub clocks_more : (rows : List HostRow) (done number : ℕ) → slice_get rows done ≡ Some (Clock number) → clocks_at rows (done + 1) ≡ clocks_at rows done + 1
unfolding clock_numbers
clocks_more rows done number at = next_some clock_number rows done (Clock number) number at refl

pub clocks_page : (rows : List HostRow) (done : ℕ) (words : List ℕ) → slice_get rows done ≡ Some (Page words) → clocks_at rows (done + 1) ≡ clocks_at rows done
unfolding clock_numbers
clocks_page rows done words at = next_none clock_number rows done (Page words) at refl

pub clocks_disrupt : (rows : List HostRow) (done : ℕ) → slice_get rows done ≡ Some Disrupt → clocks_at rows (done + 1) ≡ clocks_at rows done
unfolding clock_numbers
clocks_disrupt rows done at = next_none clock_number rows done Disrupt at refl

clocks_all : (clocks : ℕ) (rows : List HostRow) → IsHostOf clocks rows → length (clock_numbers rows) ≡ clocks
clocks_all clocks rows is = ap length is.numbered ∙ length-range_with_len 1 clocks

clocks_within : (rows : List HostRow) (done number : ℕ) → slice_get rows done ≡ Some (Clock number) → clocks_at rows done < length (clock_numbers rows)
unfolding clock_numbers
clocks_within rows done number at = kind_within clock_number rows done (Clock number) number at refl

clock_at : (rows : List HostRow) (done number : ℕ) → slice_get rows done ≡ Some (Clock number) → slice_index (clock_numbers rows) (clocks_at rows done) ≡ number
unfolding clock_numbers
clock_at rows done number at = kind_at clock_number rows done (Clock number) number 0 at refl

-- a row of the clock gives the number that comes next
pub next_clock : (clocks : ℕ) (rows : List HostRow) (done number : ℕ) → IsHostOf clocks rows → slice_get rows done ≡ Some (Clock number) → number ≡ clocks_at rows done + 1
next_clock clocks rows done number is at =
    let within : clocks_at rows done < clocks = (let fewer = clocks_within rows done number at in let all = clocks_all clocks rows is in omega arith) in
    sym (clock_at rows done number at)
    ∙ ap (λ (l : List ℕ). slice_index l (clocks_at rows done)) is.numbered
    ∙ get_or-range_with_len 1 clocks (clocks_at rows done) 0 within
    ∙ omega arith

clocks_of_all : (rows : List HostRow) (done : ℕ) → clocks_at rows done ≤ length (clock_numbers rows)
unfolding clock_numbers
clocks_of_all rows done = kind_most clock_number rows done

-- and there are no more than the rows of the clock
pub clocks_most : (clocks : ℕ) (rows : List HostRow) (done : ℕ) → IsHostOf clocks rows → clocks_at rows done ≤ clocks
clocks_most clocks rows done is = let most = clocks_of_all rows done in let all = clocks_all clocks rows is in omega arith

clocks_split : (rows : List HostRow) (n m : ℕ) → clocks_at rows n ≤ clocks_at rows (n + m)
unfolding clock_numbers
clocks_split rows n m =
    let all : length (filter_map clock_number (take (n + m) rows)) ≡ length (filter_map clock_number (take n rows)) + length (filter_map clock_number (take m (drop n rows))) =
    ap (λ (l : List HostRow). length (filter_map clock_number l)) (take-add n m rows)
    ∙ ap length (filter_map-append clock_number (take n rows) (take m (drop n rows)))
    ∙ length-append _ _ in
    omega (arith, all)

-- the first row is one of the clock
pub clocks_first : (rows : List HostRow) → take 1 rows ≡ Clock 1 ∷ [] → clocks_at rows 1 ≡ 1
unfolding clock_numbers
clocks_first rows begins = ap (λ (l : List HostRow). length (filter_map clock_number l)) begins

pub clocks_some : (clocks : ℕ) (rows : List HostRow) (done : ℕ) → IsHostOf clocks rows → 0 < done → 0 < clocks_at rows done
clocks_some clocks rows done is begun =
    let place : done ≡ 1 + (done - 1) = omega arith in
    let more = clocks_split rows 1 (done - 1) in
    let first = clocks_first rows is.begins in
    rw place (omega (arith, more, first))

-- ---- page rows

pub pages_clock : (rows : List HostRow) (done number : ℕ) → slice_get rows done ≡ Some (Clock number) → pages_at rows (done + 1) ≡ pages_at rows done
pages_clock rows done number at = next_none page_in rows done (Clock number) at refl

pub pages_more : (rows : List HostRow) (done : ℕ) (words : List ℕ) → slice_get rows done ≡ Some (Page words) → pages_at rows (done + 1) ≡ pages_at rows done + 1
pages_more rows done words at = next_some page_in rows done (Page words) words at refl

pub pages_disrupt : (rows : List HostRow) (done : ℕ) → slice_get rows done ≡ Some Disrupt → pages_at rows (done + 1) ≡ pages_at rows done
pages_disrupt rows done at = next_none page_in rows done Disrupt at refl

-- a page row has the words of the page that comes next
pub next_page : (start : List ℕ) (rows : List HostRow) (done : ℕ) (words : List ℕ) → slice_get rows done ≡ Some (Page words)
    → slice_index_or (pages_of (Some start) rows) (pages_at rows done + 1) [] ≡ words
next_page start rows done words at =
    subst (λ (page : ℕ). slice_index_or (pages_of (Some start) rows) page [] ≡ words) (suc-eq-add-one (pages_at rows done)) (kind_at page_in rows done (Page words) words [] at refl)

pub next_page_within : (start : List ℕ) (rows : List HostRow) (done : ℕ) (words : List ℕ) → slice_get rows done ≡ Some (Page words)
    → pages_at rows done + 1 < length (pages_of (Some start) rows)
next_page_within start rows done words at = let within = kind_within page_in rows done (Page words) words at refl in omega (arith, within)

-- the pages are not more than the rows
pub pages_most : (rows : List HostRow) (done : ℕ) → pages_at rows done ≤ length rows
pages_most rows done = let most = kind_most page_in rows done in let few = kind_few page_in rows in omega arith
