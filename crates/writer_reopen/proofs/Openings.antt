-- What an opening comes to.
use Rattle.std.proofs.Common.{◌≡◌, ◌≢◌, ℕ, zero, suc, ◌+◌, ◌%◌, ◌<◌, ◌≤◌, Bool, true, false, List, [], ◌∷◌, ◌++◌, Option, Some, None, Result, Ok, Err, refl, sym, ap, subst, ◌∙◌, inl, inr, arith}
use Rattle.std.specs.Prelude.{length, take, slice_index_or, slice_index, slice_set, IsOk, ◌==◌, if◌then◌else◌}
use Rattle.std.proofs.lemmas.Bool.{cases_lt}
use Rattle.std.proofs.lemmas.Bool.Decides.{nat_tests}
use Rattle.std.proofs.lemmas.List.{append-nil, get_or_past, get_or-take, length-append, length-take-le, take-take, take_more_set}
use Rattle.clock_gate.specs.FirstFault.{first_fault, unless}
use Rattle.clock_gate.proofs.FirstFault.{ok_unless}
use Rattle.generation_word.specs.declared.layout.Layout.{Layout}
use Rattle.generation_word.specs.Header.{header_of, generation_in}
use Rattle.clock_gate.specs.declared.act.Act.{Act}
use Rattle.clock_gate.specs.declared.act.Act.TheVariants.{End}
use Rattle.segment_layout.specs.declared.start.Start.{Start}
use Rattle.segment_layout.specs.declared.start.Start.TheVariants.{Fresh, Kept, Torn}
use Rattle.segment_layout.specs.declared.image_fault.ImageFault.{ImageFault}
use Rattle.segment_layout.specs.declared.image_fault.ImageFault.TheVariants.{Magic}
use Rattle.segment_layout.specs.Words.{AreGoodWords, fields_of_words}
use Rattle.segment_layout.specs.Image.{has_magic, header_tests, data_tests, start_at, image_of, is_old_header}
use Rattle.segment_layout.proofs.Admitted.{good_from_tests}
use Rattle.writer_reopen.specs.Progress.{Ends, end_of}
use Rattle.writer_reopen.specs.Opening.{by_generation, torn_steps, move_steps, kept_steps, later_steps, opening_steps, opening_for, opening_of, OpenerState, opening_act, opening_given, opening_end, loaded_words, IsAdmitted}
use Rattle.writer_reopen.proofs.InOrder.{NoEnd, ended_past, act_of-in_order, ended_in_order, load_goes_on, store_goes_on, either_way}

-- ---- nothing loaded yet

zeros_are_fresh : (layout : Layout) → image_of layout (0 ∷ 0 ∷ 0 ∷ 0 ∷ 0 ∷ 0 ∷ 0 ∷ 0 ∷ 0 ∷ 0 ∷ []) ≡ Ok Fresh
unfolding image_of
zeros_are_fresh layout = refl

pub nothing_loaded : (layout : Layout) → IsAdmitted layout []
nothing_loaded layout = record { rest = 0 ∷ 0 ∷ 0 ∷ 0 ∷ 0 ∷ 0 ∷ 0 ∷ 0 ∷ 0 ∷ 0 ∷ []; whole = refl; admitted = rw (zeros_are_fresh layout) refl }

-- ---- the list of steps

-- what holds in each of the three cases holds of the one that stands
pub by_cases : {Value : Type 0} (P : Value → Type 0) (g : ℕ) (fresh torn kept : Value)
    → ((g == 0) ≡ true → P fresh) → ((g == 0) ≡ false → (g % 2 == 1) ≡ true → P torn) → ((g == 0) ≡ false → (g % 2 == 1) ≡ false → P kept)
    → P (by_generation g fresh torn kept)
by_cases P g fresh torn kept f t k = either_way P (g == 0) fresh _ f (λ other. either_way P (g % 2 == 1) torn kept (t other) (k other))

torn_no_end : (old : Bool) (g : ℕ) → NoEnd (torn_steps old g) × (length (torn_steps old g) ≤ 10)
torn_no_end true g = ((store_goes_on _ _, tt), omega arith)
torn_no_end false g = (tt, omega arith)

move_no_end : (old : Bool) (g : ℕ) → NoEnd (move_steps old g) × (length (move_steps old g) ≤ 2)
move_no_end true g = ((store_goes_on _ _, (store_goes_on _ _, tt)), omega arith)
move_no_end false g = (tt, omega arith)

kept_no_end : (old : Bool) (g : ℕ) → NoEnd (kept_steps old g) × (length (kept_steps old g) ≤ 10)
kept_no_end old g =
    let move = move_no_end old g in
    ((load_goes_on 2, (load_goes_on 3, (load_goes_on 4, (load_goes_on 5, (load_goes_on 6, (load_goes_on 7, (load_goes_on 8, (load_goes_on 9, move.0)))))))), omega (arith, move.1))

later_few : (layout : Layout) (header : ℕ) → NoEnd (later_steps layout header) × (length (later_steps layout header) ≤ 10)
later_few layout header =
    by_cases (λ (acts : List Act). NoEnd acts × (length acts ≤ 10)) (generation_in header) _ _ _
    (λ zero_number. ((store_goes_on _ _, (store_goes_on _ _, tt)), omega arith))
    (λ other odd. torn_no_end (is_old_header layout header) (generation_in header))
    (λ other even. kept_no_end (is_old_header layout header) (generation_in header))

pub steps_no_end : (layout : Layout) (header : ℕ) → NoEnd (opening_steps layout header)
steps_no_end layout header = (load_goes_on 0, (load_goes_on 1, (later_few layout header).0))

pub steps_most : (layout : Layout) (header : ℕ) → length (opening_steps layout header) ≤ 12
steps_most layout header = let few = (later_few layout header).1 in omega arith

pub asked_below : (layout : Layout) (header k : ℕ) → slice_index_or (opening_steps layout header) k End ≢ End → k < 12
asked_below layout header k asks = elim (cases_lt k 12) [
  | inl below ↦ below
  | inr past ↦ let most = steps_most layout header in absurd (asks (get_or_past (opening_steps layout header) k End (omega arith)))
]

-- ---- where an opening stands

-- the header is looked at only once it was loaded
at_header : (layout : Layout) (xs : List ℕ) (k : ℕ) → k ≤ length xs
    → slice_index_or (opening_steps layout (slice_index (take k xs) 1)) k End ≡ slice_index_or (opening_steps layout (slice_index xs 1)) k End
at_header layout xs zero h = refl
at_header layout xs (suc zero) h = refl
at_header layout xs (suc (suc k)) h = rw (get_or-take (suc (suc k)) xs 1 0 (omega arith)) refl

pub act-by_number : (layout : Layout) (values : List ℕ) → opening_act (record { layout = layout; values = values }) ≡ slice_index_or (opening_steps layout (slice_index values 1)) (length values) End
act-by_number layout values = act_of-in_order (opening_steps layout (slice_index values 1)) (opening_for layout values) (length values)

pub act-of_loaded : (layout : Layout) (xs : List ℕ) (k : ℕ) → k ≤ length xs
    → slice_index_or (opening_steps layout (slice_index xs 1)) k End ≡ opening_act (record { layout = layout; values = take k xs })
act-of_loaded layout xs k h =
    sym (act-by_number layout (take k xs) ∙ ap (λ (n : ℕ). slice_index_or (opening_steps layout (slice_index (take k xs) 1)) n End) (length-take-le k xs h) ∙ at_header layout xs k h)

-- the end is wanted exactly once all steps were made
pub ended_when_past : (layout : Layout) (xs : List ℕ) (k : ℕ) → k ≤ length xs → length (opening_steps layout (slice_index xs 1)) ≤ k → opening_act (record { layout = layout; values = take k xs }) ≡ End
ended_when_past layout xs k h past = sym (act-of_loaded layout xs k h) ∙ get_or_past (opening_steps layout (slice_index xs 1)) k End past

pub past_when_ended : (layout : Layout) (xs : List ℕ) (k : ℕ) → k ≤ length xs → opening_act (record { layout = layout; values = take k xs }) ≡ End → length (opening_steps layout (slice_index xs 1)) ≤ k
past_when_ended layout xs k h at_end = ended_past (opening_steps layout (slice_index xs 1)) k (steps_no_end layout (slice_index xs 1)) (act-of_loaded layout xs k h ∙ at_end)

pub ended : (state : OpenerState) → opening_act state ≡ End → opening_of state.layout state.values ≡ Ends (opening_for state.layout state.values)
ended state at_end = ended_in_order (opening_steps state.layout (slice_index state.values 1)) (opening_for state.layout state.values) (length state.values) (steps_no_end state.layout (slice_index state.values 1)) at_end

pub answer_at_end : (state : OpenerState) → opening_act state ≡ End → opening_end state ≡ Some (opening_for state.layout state.values)
answer_at_end state at_end = ap end_of (ended state at_end)

pub ended_after : (state : OpenerState) → opening_act state ≡ End → length (opening_steps state.layout (slice_index state.values 1)) ≤ length state.values
ended_after state at_end =
    ended_past (opening_steps state.layout (slice_index state.values 1)) (length state.values) (steps_no_end state.layout (slice_index state.values 1)) (sym (act-by_number state.layout state.values) ∙ at_end)

-- ---- the record of a kept segment

under_if : (b : Bool) (x y : Result Start ImageFault) (f : ImageFault) → y ≡ Err f → IsOk (if b then x else y) → (b ≡ true) × IsOk x
under_if true x y f refused good = (refl, good)
under_if false x y f refused good = absurd cc

skipped : {Value : Type 0} (b : Bool) (x y : Result Value ImageFault) → b ≡ false → IsOk (if b then x else y) → IsOk y
skipped true x y other good = absurd cc
skipped false x y other good = good

header_some : (header : ℕ) → generation_in header ≢ 0 → (header == 0) ≡ false
header_some zero not_zero = absurd (not_zero refl)
header_some (suc n) not_zero = grind (arith, nat_tests)

nothing_more : (xs ys : List ℕ) → length xs ≡ 10 → length (xs ++ ys) ≡ 10 → ys ≡ []
nothing_more xs [] ten whole = refl
nothing_more xs (y ∷ ys) ten whole = absurd (omega (arith, length-append xs (y ∷ ys)))

pub admitted_good : (layout : Layout) (words : List ℕ) → IsOk (image_of layout words)
    → (slice_index words 1 == 0) ≡ false → (generation_in (slice_index words 1) == 0) ≡ false → (generation_in (slice_index words 1) % 2 == 1) ≡ false → AreGoodWords words
unfolding image_of
admitted_good layout words admitted some_header some_number even =
    let g : ℕ = generation_in (slice_index words 1) in
    let kept : Result Start ImageFault = unless (first_fault (data_tests words)) (Ok (Kept g (fields_of_words words))) in
    let by_number : Result Start ImageFault = start_at words g in
    let by_header : Result Start ImageFault = unless (first_fault (header_tests layout (slice_index words 1))) by_number in
    let magic = under_if (has_magic words) (if slice_index words 1 == 0 then Ok Fresh else by_header) (Err Magic) Magic refl admitted in
    let header = skipped (slice_index words 1 == 0) (Ok Fresh) by_header some_header magic.1 in
    let number = ok_unless (first_fault (header_tests layout (slice_index words 1))) by_number header in
    let not_fresh = skipped (g == 0) (Ok Fresh) (if g % 2 == 1 then Ok (Torn g) else kept) some_number number.1 in
    let tests = skipped (g % 2 == 1) (Ok (Torn g)) kept even not_fresh in
    good_from_tests words (ok_unless (first_fault (data_tests words)) (Ok (Kept g (fields_of_words words))) tests).0

-- what ten loaded words of a record that was published are
pub kept_good : (layout : Layout) (values : List ℕ) → IsAdmitted layout values → 10 ≤ length values
    → generation_in (slice_index values 1) ≢ 0 → generation_in (slice_index values 1) % 2 ≢ 1 → AreGoodWords (take 10 values)
kept_good layout values is ten not_zero not_odd =
    let some_number : (generation_in (slice_index values 1) == 0) ≡ false = grind (arith, nat_tests) in
    let even : (generation_in (slice_index values 1) % 2 == 1) ≡ false = grind (arith, nat_tests) in
    let all : loaded_words values ≡ take 10 values = rw (some_number, even) refl in
    let none : is.rest ≡ [] = nothing_more (loaded_words values) is.rest (ap length all ∙ length-take-le 10 values ten) is.whole in
    let whole : loaded_words values ++ is.rest ≡ take 10 values = rw (none, append-nil (loaded_words values)) all in
    let admitted : IsOk (image_of layout (take 10 values)) = subst (λ (words : List ℕ). IsOk (image_of layout words)) whole is.admitted in
    let header : slice_index (take 10 values) 1 ≡ slice_index values 1 = get_or-take 10 values 1 0 (omega arith) in
    admitted_good layout (take 10 values) admitted
    (rw header (header_some (slice_index values 1) not_zero))
    (rw header some_number)
    (rw header even)

-- ---- one value more

pub room : (layout : Layout) (xs : List ℕ) (k : ℕ) → length xs ≡ 12 → k ≤ 12 → opening_act (record { layout = layout; values = take k xs }) ≢ End → k < 12
room layout xs k twelve most asks =
    asked_below layout (slice_index xs 1) k (λ e. asks (sym (act-of_loaded layout xs k (omega arith)) ∙ e))

one_more : (xs : List ℕ) (k i value : ℕ) → k < length xs → i ≡ k → take (k + 1) (slice_set xs i value) ≡ take k xs ++ value ∷ []
one_more xs k i value h same = rw same (take_more_set xs k value h)

pub given-one_more : (layout : Layout) (xs : List ℕ) (k i value : ℕ) → k < length xs → i ≡ k
    → ◌≡◌ {A = OpenerState} (record { layout = layout; values = take (k + 1) (slice_set xs i value) }) (opening_given (record { layout = layout; values = take k xs }) value)
given-one_more layout xs k i value h same = ap (λ (values : List ℕ). record { layout = layout; values = values }) (one_more xs k i value h same)

pub admitted-one_more : (layout : Layout) (xs : List ℕ) (k i value : ℕ) → k < length xs → i ≡ k
    → IsAdmitted layout (take k xs ++ value ∷ []) → IsAdmitted layout (take (k + 1) (slice_set xs i value))
admitted-one_more layout xs k i value h same is = subst (λ (values : List ℕ). IsAdmitted layout values) (sym (one_more xs k i value h same)) is

-- ---- the end

pub is_kept : (layout : Layout) (header : ℕ) → generation_in header ≢ 0 → generation_in header % 2 ≢ 1
    → later_steps layout header ≡ kept_steps (is_old_header layout header) (generation_in header)
is_kept layout header not_zero not_odd =
    let some_number : (generation_in header == 0) ≡ false = grind (arith, nat_tests) in
    let even : (generation_in header % 2 == 1) ≡ false = grind (arith, nat_tests) in
    rw (some_number, even) refl

kept_long : (old : Bool) (g : ℕ) → 8 ≤ length (kept_steps old g)
kept_long true g = omega arith
kept_long false g = omega arith

ten_given : (state : OpenerState) → opening_act state ≡ End → generation_in (slice_index state.values 1) ≢ 0 → generation_in (slice_index state.values 1) % 2 ≢ 1
    → 10 ≤ length state.values
ten_given state at_end not_zero not_odd =
    let header : ℕ = slice_index state.values 1 in
    let past : length (opening_steps state.layout header) ≤ length state.values = ended_after state at_end in
    let same : length (later_steps state.layout header) ≡ length (kept_steps (is_old_header state.layout header) (generation_in header)) = ap length (is_kept state.layout header not_zero not_odd) in
    let long = kept_long (is_old_header state.layout header) (generation_in header) in
    omega arith

header_same : (layout : Layout) (xs : List ℕ) (k : ℕ) → k ≤ length xs → opening_act (record { layout = layout; values = take k xs }) ≡ End → slice_index (take k xs) 1 ≡ slice_index xs 1
header_same layout xs k h at_end =
    let past : length (opening_steps layout (slice_index (take k xs) 1)) ≤ length (take k xs) = ended_after (record { layout = layout; values = take k xs }) at_end in
    let same : length (take k xs) ≡ k = length-take-le k xs h in
    get_or-take k xs 1 0 (omega arith)

pub kept_end : (layout : Layout) (xs : List ℕ) (k : ℕ) (told : ℕ × ℕ × ℕ) → length xs ≡ 12 → k ≤ 12 → IsAdmitted layout (take k xs)
    → opening_act (record { layout = layout; values = take k xs }) ≡ End → told ≡ header_of (slice_index xs 1) → told.2 ≢ 0 → told.2 % 2 ≢ 1
    → (10 ≤ length (take k xs)) × AreGoodWords (take 10 (take k xs))
kept_end layout xs k told twelve most is at_end tells not_zero not_odd =
    let header : slice_index (take k xs) 1 ≡ slice_index xs 1 = header_same layout xs k (omega arith) at_end in
    let number : told.2 ≡ generation_in (slice_index (take k xs) 1) = ap (λ (t : ℕ × ℕ × ℕ). t.2) tells ∙ ap generation_in (sym header) in
    let some_number = subst (λ (n : ℕ). n ≢ 0) number not_zero in
    let even = subst (λ (n : ℕ). n % 2 ≢ 1) number not_odd in
    let ten = ten_given (record { layout = layout; values = take k xs }) at_end some_number even in
    (ten, kept_good layout (take k xs) is ten some_number even)

pub fields_of_ten : (values : List ℕ) → fields_of_words (take 10 values) ≡ fields_of_words values
fields_of_ten values =
    rw (
      get_or-take 10 values 2 0 (omega arith),
      get_or-take 10 values 3 0 (omega arith),
      get_or-take 10 values 4 0 (omega arith),
      get_or-take 10 values 5 0 (omega arith),
      get_or-take 10 values 6 0 (omega arith),
      get_or-take 10 values 7 0 (omega arith),
      get_or-take 10 values 8 0 (omega arith),
      get_or-take 10 values 9 0 (omega arith),
    ) refl

-- the first ten values are what was copied of those that stand in the array
pub ten_copied : (state : OpenerState) (layout : Layout) (xs : List ℕ) (k : ℕ) (copy : List ℕ) → record { layout = layout; values = take k xs } ≡ state
    → k ≤ length xs → 10 ≤ length state.values → copy ≡ take 10 xs → take 10 state.values ≡ copy
ten_copied state layout xs k copy shows h ten same =
    let ten_loaded : 10 ≤ length (take k xs) = subst (λ (s : OpenerState). 10 ≤ length s.values) (sym shows) ten in
    let loaded : length (take k xs) ≡ k = length-take-le k xs h in
    ap (λ (s : OpenerState). take 10 s.values) (sym shows) ∙ take-take 10 k xs (omega arith) ∙ sym same
