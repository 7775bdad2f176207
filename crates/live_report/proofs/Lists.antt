-- On lists that are mapped.
use Rattle.std.proofs.Common.{◌≡◌, ℕ, zero, suc, ◌<◌, List, [], ◌∷◌, ◌++◌, length, map, refl, ap, ◌∙◌, arith, Some}
use Rattle.std.specs.Prelude.{slice_get, slice_index_or}
use Rattle.std.proofs.lemmas.Option.{slice_get-get_or}

pub length_map : {A B : Type 0} (f : A → B) (xs : List A) → length (map f xs) ≡ length xs
length_map f [] = refl
length_map f (x ∷ xs) = let rest = length_map f xs in omega (arith, rest)

map_at : {A B : Type 0} (f : A → B) (xs : List A) (k : ℕ) (d : A) → slice_index_or (map f xs) k (f d) ≡ f (slice_index_or xs k d)
map_at f [] k d = refl
map_at f (x ∷ xs) zero d = refl
map_at f (x ∷ xs) (suc k) d = map_at f xs k d

pub get_map : {A B : Type 0} (f : A → B) (xs : List A) (k : ℕ) (d : A) → k < length xs → slice_get (map f xs) k ≡ Some (f (slice_index_or xs k d))
get_map f xs k d low = let long = length_map f xs in slice_get-get_or (map f xs) k (f d) (omega (arith, low, long)) ∙ ap Some (map_at f xs k d)

pub map_append : {A B : Type 0} (f : A → B) (xs ys : List A) → map f (xs ++ ys) ≡ map f xs ++ map f ys
map_append f [] ys = refl
map_append f (x ∷ xs) ys = ap (λ l. f x ∷ l) (map_append f xs ys)
