-- Lists: what holds of each element, forwards, backwards and of what is taken out.
use Rattle.std.proofs.Common.{◌≡◌, ℕ, zero, suc, ◌-◌, ◌<◌, List, [], ◌∷◌, Option, Some, None, IfSome, All, length, reverse, get_or, slice_get, slice_index_or, filter_map, refl, subst, ap, ◌∙◌, arith}
use Rattle.std.specs.List.{AllByRecursion, cons_option}
use Rattle.std.proofs.lemmas.List.{get_or-reverse, length-reverse}

-- what holds of each element of a list from its end holds of each element
pub all_forwards : {X : Type 0} (P : X → Type 0) (xs : List X) → All P (reverse xs) → All P xs
all_forwards P xs all k d below =
    let back : length xs - 1 - k < length xs = omega (arith, below) in
    let twice : length xs - 1 - (length xs - 1 - k) ≡ k = omega (arith, below) in
    subst P (get_or-reverse xs (length xs - 1 - k) d back ∙ ap (λ (n : ℕ). get_or xs n d) twice) (all (length xs - 1 - k) d (omega (arith, length-reverse xs, back)))

-- what holds of each value that is given holds of each of those that are taken out
taken_or : {Y : Type 0} (P : Y → Type 0) (found : Option Y) (rest : List Y) → IfSome found P → AllByRecursion P rest → AllByRecursion P (cons_option found rest)
taken_or P None rest one all = all
taken_or P (Some y) rest one all = (one, all)

pub all_taken : {X Y : Type 0} (P : Y → Type 0) (h : X → Option Y) (xs : List X) → AllByRecursion (λ x. IfSome (h x) P) xs → AllByRecursion P (filter_map h xs)
all_taken P h [] all = tt
all_taken P h (x ∷ xs) all = taken_or P (h x) (filter_map h xs) all.0 (all_taken P h xs all.1)

-- what holds of each holds of the one at a place
pub all_at : {X : Type 0} (P : X → Type 0) (xs : List X) (k : ℕ) (x : X) → AllByRecursion P xs → slice_get xs k ≡ Some x → P x
all_at P [] k x all at = absurd (cc at)
all_at P (y ∷ ys) zero x all at = let same : y ≡ x = cc at in subst P same all.0
all_at P (y ∷ ys) (suc k) x all at = all_at P ys k x all.1 at

-- what stands at a place is found there
pub found_at : {X : Type 0} (xs : List X) (k : ℕ) (d : X) → k < length xs → slice_get xs k ≡ Some (slice_index_or xs k d)
found_at [] k d below = absurd (omega (arith, below))
found_at (x ∷ xs) zero d below = refl
found_at (x ∷ xs) (suc k) d below = found_at xs k d (omega (arith, below))
