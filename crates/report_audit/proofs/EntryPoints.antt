-- The entries by their positions, and the search for one with an as-of.
use Rattle.std.proofs.Common.{◌≡◌, ◌≢◌, inl, inr, ℕ, ℤ, ◌+◌, ◌-◌, ◌*◌, ◌/◌, ◌<◌, ◌≤◌, Bool, true, false, nat_lt, List, length, Some, None, refl, sym, ap, subst, ◌∙◌, arith}
use Rattle.std.specs.Prelude.{if◌then◌else◌, slice_get, All}
use Rattle.std.proofs.lemmas.Bool.{cases_eq, cases_lt}
use Rattle.std.proofs.lemmas.Bool.Decides.{nat_tests}
use Rattle.std.proofs.lemmas.Option.{slice_get_past, slice_get_within, slice_get-get_or, get_or_from_slice_get}
use Rattle.std.proofs.lemmas.List.Elements.{All-get_or}
use Rattle.lawful_report.specs.declared.entry.Entry.{Entry}
use Rattle.lawful_report.specs.Course.{Course, entry_at}
use Rattle.lawful_report.specs.Calls.{HasAsOf}
use Rattle.lawful_report.specs.Points.{IsLeast}
use Rattle.lawful_report.proofs.Dominance.{one_entry}

-- what holds of all holds of one
pub all_at : {X : Type 0} (P : X → Type 0) (xs : List X) (i : ℕ) (x : X) → All P xs → slice_get xs i ≡ Some x → P x
all_at P xs i x all is = subst P (get_or_from_slice_get xs i x x is) (All-get_or P xs i x (slice_get_within xs i x is) all)

-- an entry by its position in a list of them
pub at_position : (course : Course) (entries : List Entry) (before position : ℕ) → course.entries ≡ entries → course.before ≡ before
    → entry_at course position ≡ (if nat_lt before position then slice_get entries (position - before - 1) else None)
at_position course entries before position same first = rw (same, first) refl

by_place : (P : Entry → Type 0) (entries : List Entry) (place : ℕ) (later : Bool) (entry : Entry) → All P entries → (if later then slice_get entries place else None) ≡ Some entry → P entry
by_place P entries place true entry all is = all_at P entries place entry all is
by_place P entries place false entry all is = absurd (cc is)

-- what holds of all entries holds of one at a position
pub all_entries : (P : Entry → Type 0) (course : Course) (position : ℕ) (entry : Entry) → All P course.entries → entry_at course position ≡ Some entry → P entry
all_entries P course position entry all is = by_place P course.entries (position - course.before - 1) (nat_lt course.before position) entry all is

beyond : (xs : List Entry) (i j : ℕ) (x : Entry) → slice_get xs i ≡ None → i ≤ j → slice_get xs j ≡ Some x → ⊥
beyond xs i j x never le is = elim (cases_lt i (length xs)) [
  | inl inside ↦ absurd (cc (sym never ∙ slice_get-get_or xs i x inside))
  | inr past ↦ absurd (cc (sym (slice_get_past xs j (omega (arith, past, le))) ∙ is))
]

-- past the entries there is none
pub past_entries : (entries : List Entry) (before position n : ℕ) (entry : Entry) → before < position → (if nat_lt before position then slice_get entries (position - before - 1) else None) ≡ None → position ≤ n
    → (if nat_lt before n then slice_get entries (n - before - 1) else None) ≡ Some entry → ⊥
past_entries entries before position n entry later none le some =
    let here : nat_lt before position ≡ true = grind (arith, nat_tests) in
    let there : nat_lt before n ≡ true = grind (arith, nat_tests) in
    let is_none : slice_get entries (position - before - 1) ≡ None = rw here at none in
    let is_some : slice_get entries (n - before - 1) ≡ Some entry = rw there at some in
    beyond entries (position - before - 1) (n - before - 1) entry is_none (omega arith) is_some

entry_here : (course : Course) (position n : ℕ) (a b : Entry) → n ≡ 2 * position → entry_at course position ≡ Some a → entry_at course (n / 2) ≡ Some b → a ≡ b
entry_here course position n a b is one two =
    let half : n / 2 ≡ position = omega arith in
    one_entry a b (sym one ∙ (ap (λ (k : ℕ). entry_at course k) (sym half) ∙ two))

-- where the entry at a position has another as-of, the search goes on to the next
pub next_position : (course : Course) (as_of : ℤ) (from position : ℕ) (entry : Entry) → entry_at course position ≡ Some entry → entry.rec.as_of ≢ as_of
    → ((n : ℕ) → from ≤ n → HasAsOf course as_of n → 2 * position ≤ n) → (n : ℕ) → from ≤ n → HasAsOf course as_of n → 2 * (position + 1) ≤ n
next_position course as_of from position entry stands other none n le has = elim (cases_eq n (2 * position)) [
  | inl same ↦ absurd (other (ap (λ (e : Entry). e.rec.as_of) (entry_here course position n entry has.entry same stands has.stands) ∙ has.as_of_is))
  | inr apart ↦ omega (arith, apart, has.even, none n le has)
]

-- and where it has this one, that is the least
pub found_position : (course : Course) (as_of : ℤ) (from until position : ℕ) (entry : Entry) → entry_at course position ≡ Some entry → entry.rec.as_of ≡ as_of → from ≤ 2 * position → 2 * position ≤ until
    → ((n : ℕ) → from ≤ n → HasAsOf course as_of n → 2 * position ≤ n)
    → IsLeast from until (HasAsOf course as_of) (2 * position) × ((found : Entry) → entry_at course (2 * position / 2) ≡ Some found → found.replied ≡ entry.replied)
found_position course as_of from until position entry stands is low high none =
    let half : 2 * position / 2 ≡ position = omega arith in
    let there : entry_at course (2 * position / 2) ≡ Some entry = ap (λ (k : ℕ). entry_at course k) half ∙ stands in (
      record { not_before = low; not_past = high; has = record { even = omega arith; entry = entry; stands = there; as_of_is = is }; none_less = none },
      λ found found_is. ap (λ (e : Entry). e.replied) (one_entry found entry (sym found_is ∙ there)),
    )
