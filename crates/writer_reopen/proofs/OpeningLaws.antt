-- The laws of an opening.
use Rattle.std.proofs.Common.{◌≡◌, ◌≢◌, ℕ, suc, ◌+◌, ◌*◌, ◌/◌, ◌%◌, ◌^◌, ◌<◌, ◌≤◌, Bool, true, false, List, [], ◌∷◌, ◌++◌, Option, Some, None, Result, Ok, Err, length, take, refl, sym, ap, ◌∙◌, arith, append-nil, append_assoc, length-append}
use Rattle.std.specs.Prelude.{slice_index, slice_get, slice_index_or, ◌==◌, if◌then◌else◌, ◌↔◌}
use Rattle.std.proofs.lemmas.Bool.{eqb-true, eqb-false}
use Rattle.std.proofs.lemmas.Bool.Decides.{nat_tests}
use Rattle.std.proofs.lemmas.List.{get_or-take}
use Rattle.clock_gate.specs.FirstFault.{first_fault, unless}
use Rattle.clock_gate.proofs.FirstFault.{given_unless}
use Rattle.generation_word.specs.declared.layout.Layout.{Layout}
use Rattle.generation_word.specs.declared.layout.Layout.TheVariants.{Two, Three}
use Rattle.generation_word.specs.declared.header.TheConstants.{LOW_HALF_THREE}
use Rattle.generation_word.specs.Layout.{period_of}
use Rattle.generation_word.specs.Numbering.{odd_after, after_odd, even_after}
use Rattle.generation_word.specs.Header.{generation_in}
use Rattle.clock_gate.specs.Acts.{after, WereAsked}
use Rattle.clock_gate.specs.declared.act.Act.{Act}
use Rattle.clock_gate.specs.declared.act.Act.TheVariants.{End}
use Rattle.segment_layout.specs.declared.start.Start.{Start}
use Rattle.segment_layout.specs.declared.start.Start.TheVariants.{Fresh, Kept, Torn}
use Rattle.segment_layout.specs.declared.image_fault.ImageFault.{ImageFault}
use Rattle.segment_layout.specs.declared.image_fault.ImageFault.TheVariants.{Magic}
use Rattle.segment_layout.specs.Words.{fields_of_words}
use Rattle.segment_layout.specs.Image.{has_magic, header_tests, data_tests, start_at, image_of, is_old_header}
use Rattle.writer_reopen.specs.declared.opening.Opening.{Opening}
use Rattle.writer_reopen.specs.Progress.{Ends, next_or_end}
use Rattle.writer_reopen.specs.Opening.{version_in, by_generation, torn_steps, kept_steps, later_steps, opening_steps, moved_to, opening_for, opening_of, OpenerState, new_opener, opening_act, opening_given, opening_left, IsMoved, loaded_words}
use Rattle.writer_reopen.proofs.Openings.{by_cases, asked_below, act-by_number, fields_of_ten, is_kept}

-- ---- by all the values that were given

after-given : (state : OpenerState) (values : List ℕ) → after opening_act opening_given state values ≡ record { layout = state.layout; values = state.values ++ values }
after-given state [] = ap (λ (values : List ℕ). record { layout = state.layout; values = values }) (sym (append-nil state.values))
after-given state (value ∷ values) =
    after-given (opening_given state value) values
    ∙ ap (λ (all : List ℕ). record { layout = state.layout; values = all }) (append_assoc state.values (value ∷ []) values)

pub keeps_values : (layout : Layout) (values : List ℕ) → after opening_act opening_given (new_opener layout) values ≡ record { layout = layout; values = values }
keeps_values layout values = after-given (new_opener layout) values

pub acts-by_header : (layout : Layout) (values : List ℕ) → opening_act (after opening_act opening_given (new_opener layout) values) ≡ slice_index_or (opening_steps layout (slice_index values 1)) (length values) End
acts-by_header layout values = ap opening_act (keeps_values layout values) ∙ act-by_number layout values

wants_below : (state : OpenerState) → opening_act state ≢ End → length state.values < 12
wants_below state wants = asked_below state.layout (slice_index state.values 1) (length state.values) (λ e. wants (act-by_number state.layout state.values ∙ e))

pub comes_nearer : (state : OpenerState) (value : ℕ) → opening_act state ≢ End → opening_left (opening_given state value) < opening_left state
comes_nearer state value wants =
    let below = wants_below state wants in
    omega (arith, length-append state.values (value ∷ []))

asked_most : (state : OpenerState) (values : List ℕ) → length state.values ≤ 12 → WereAsked opening_act opening_given state values → length state.values + length values ≤ 12
asked_most state [] h asked = omega arith
asked_most state (value ∷ values) h asked =
    let below = wants_below state asked.0 in
    let longer : length (state.values ++ value ∷ []) ≡ length state.values + 1 = omega (arith, length-append state.values (value ∷ [])) in
    let rest : length (state.values ++ value ∷ []) + length values ≤ 12 = asked_most (opening_given state value) values (omega arith) asked.1 in
    omega arith

pub at_most_twelve : (layout : Layout) (values : List ℕ) → WereAsked opening_act opening_given (new_opener layout) values → length values ≤ 12
at_most_twelve layout values asked = let most : 0 + length values ≤ 12 = asked_most (new_opener layout) values (omega arith) asked in omega arith

-- ---- the number of steps

pub fresh_length : (layout : Layout) (header : ℕ) → generation_in header ≡ 0 → length (opening_steps layout header) ≡ 4
fresh_length layout header is = rw is refl

torn_count : (old : Bool) (g : ℕ) → length (torn_steps old g) ≡ (if old then 1 else 0)
torn_count true g = refl
torn_count false g = refl

is_torn : (layout : Layout) (header : ℕ) → generation_in header % 2 ≡ 1 → later_steps layout header ≡ torn_steps (is_old_header layout header) (generation_in header)
is_torn layout header odd =
    let some_number : (generation_in header == 0) ≡ false = grind (arith, nat_tests) in
    let test : (generation_in header % 2 == 1) ≡ true = grind (arith, nat_tests) in
    rw (some_number, test) refl

two_more : (b : Bool) (n x y : ℕ) → n ≡ (if b then x else y) → suc (suc n) ≡ (if b then suc (suc x) else suc (suc y))
two_more true n x y is = ap (λ (k : ℕ). suc (suc k)) is
two_more false n x y is = ap (λ (k : ℕ). suc (suc k)) is

pub torn_length : (layout : Layout) (header : ℕ) → generation_in header % 2 ≡ 1 → length (opening_steps layout header) ≡ (if is_old_header layout header then 3 else 2)
torn_length layout header odd =
    two_more (is_old_header layout header) (length (later_steps layout header)) 1 0 (ap length (is_torn layout header odd) ∙ torn_count (is_old_header layout header) (generation_in header))

kept_count : (old : Bool) (g : ℕ) → length (kept_steps old g) ≡ (if old then 10 else 8)
kept_count true g = refl
kept_count false g = refl

pub kept_length : (layout : Layout) (header : ℕ) → generation_in header ≢ 0 → generation_in header % 2 ≡ 0 → length (opening_steps layout header) ≡ (if is_old_header layout header then 12 else 10)
kept_length layout header not_zero even =
    let not_odd : generation_in header % 2 ≢ 1 = λ odd. absurd (omega arith) in
    two_more (is_old_header layout header) (length (later_steps layout header)) 10 8 (ap length (is_kept layout header not_zero not_odd) ∙ kept_count (is_old_header layout header) (generation_in header))

-- ---- the move

abbrev parts_of : Bool → ℕ → ℕ × ℕ × ℕ
parts_of b header = if b then (80, 3, header / 2 ^ 32) else (header % 2 ^ 32, header / 2 ^ 32 % 2 ^ 16, header / 2 ^ 48)

number_by : (b : Bool) (header : ℕ) → header < 2 ^ 64 → (parts_of b header).1 ≡ 2 → (parts_of b header).2 < 2 ^ 16
number_by true header fits version = absurd (omega arith)
number_by false header fits version = omega arith

number_small : (header : ℕ) → header < 2 ^ 64 → version_in header ≡ 2 → generation_in header < 2 ^ 16
number_small header fits version = number_by (header % 2 ^ 32 == LOW_HALF_THREE) header fits version

next_even : (g : ℕ) → g < 2 ^ 16 → g % 2 ≡ 0 → (odd_after g ≡ g + 1) × (even_after (period_of Three) g ≡ g + 2)
next_even g small even =
    let test : (g % 2 == 0) ≡ true = grind (arith, nat_tests) in
    let odd : odd_after g ≡ g + 1 = rw test refl in
    let before : (g + 1 == 2 * period_of Three + 1) ≡ false = grind (arith, nat_tests) in
    let next : after_odd (period_of Three) (g + 1) ≡ g + 1 + 1 = rw before refl in
    let two : g + 1 + 1 ≡ g + 2 = omega arith in
    (odd, ap (after_odd (period_of Three)) odd ∙ next ∙ two)

pub numbers_after : (header : ℕ) → header < 2 ^ 64 → version_in header ≡ 2 → generation_in header % 2 ≡ 0
    → (odd_after (generation_in header) ≡ generation_in header + 1) × (even_after (period_of Three) (generation_in header) ≡ generation_in header + 2)
numbers_after header fits version even = next_even (generation_in header) (number_small header fits version) even

proj_if : {A B : Type 0} (f : A → B) (b : Bool) (x y : A) → f (if b then x else y) ≡ (if b then f x else f y)
proj_if f true x y = refl
proj_if f false x y = refl

moved_is : (layout : Layout) (values : List ℕ) → (opening_for layout values).moved ≡ by_generation (generation_in (slice_index values 1)) None None (moved_to (is_old_header layout (slice_index values 1)) (generation_in (slice_index values 1)))
moved_is layout values =
    let g : ℕ = generation_in (slice_index values 1) in
    let fresh : Opening = record { start = Fresh; moved = None } in
    let torn : Opening = record { start = Torn g; moved = None } in
    let kept : Opening = record { start = Kept g (fields_of_words values); moved = moved_to (is_old_header layout (slice_index values 1)) g } in
    proj_if (λ (o : Opening). o.moved) (g == 0) fresh (if g % 2 == 1 then torn else kept)
    ∙ ap (λ (m : Option ℕ). if g == 0 then None else m) (proj_if (λ (o : Opening). o.moved) (g % 2 == 1) torn kept)

old_is : (layout : Layout) (header : ℕ) → is_old_header layout header ≡ true → (layout ≡ Three) × (version_in header ≡ 2)
old_is Two header is = absurd cc
old_is Three header is = (refl, eqb-true (version_in header) 2 is)

is_old_by : (layout : Layout) (header : ℕ) → layout ≡ Three → version_in header ≡ 2 → is_old_header layout header ≡ true
is_old_by Two header three version = absurd cc
is_old_by Three header three version = grind (arith, nat_tests)

moved_parts : (zero_number odd old : Bool) (number n : ℕ) → (if zero_number then None else if odd then None else if old then Some number else None) ≡ Some n
    → (zero_number ≡ false) × ((odd ≡ false) × ((old ≡ true) × (number ≡ n)))
moved_parts true odd old number n is = absurd cc
moved_parts false true old number n is = absurd cc
moved_parts false false true number n is = (refl, (refl, (refl, cc)))
moved_parts false false false number n is = absurd cc

moved_fwd : (layout : Layout) (values : List ℕ) (n : ℕ) → slice_index values 1 < 2 ^ 64 → (opening_for layout values).moved ≡ Some n → IsMoved layout (slice_index values 1) n
moved_fwd layout values n fits is =
    let header : ℕ = slice_index values 1 in
    let g : ℕ = generation_in header in
    let parts = moved_parts (g == 0) (g % 2 == 1) (is_old_header layout header) (even_after (period_of Three) g) n (sym (moved_is layout values) ∙ is) in
    let old = old_is layout header parts.1.1.0 in
    let other = eqb-false (g % 2) 1 parts.1.0 in
    let even : g % 2 ≡ 0 = omega arith in
    let numbers = numbers_after header fits old.1 even in
    record { layout_three = old.0; version_two = old.1; even = even; some_number = eqb-false g 0 parts.0; next = sym parts.1.1.1 ∙ numbers.1 }

moved_back : (layout : Layout) (values : List ℕ) (n : ℕ) → slice_index values 1 < 2 ^ 64 → IsMoved layout (slice_index values 1) n → (opening_for layout values).moved ≡ Some n
moved_back layout values n fits is =
    let header : ℕ = slice_index values 1 in
    let g : ℕ = generation_in header in
    let other = is.some_number in
    let even = is.even in
    let not_zero : (g == 0) ≡ false = grind (arith, nat_tests) in
    let not_odd : (g % 2 == 1) ≡ false = grind (arith, nat_tests) in
    let old : is_old_header layout header ≡ true = is_old_by layout header is.layout_three is.version_two in
    let numbers = numbers_after header fits is.version_two is.even in
    moved_is layout values
    ∙ ap (λ (b : Bool). if b then None else if g % 2 == 1 then None else moved_to (is_old_header layout header) g) not_zero
    ∙ ap (λ (b : Bool). if b then None else moved_to (is_old_header layout header) g) not_odd
    ∙ ap (λ (b : Bool). moved_to b g) old
    ∙ ap Some (numbers.1 ∙ sym is.next)

pub moved_exactly : (layout : Layout) (values : List ℕ) (n : ℕ) → slice_index values 1 < 2 ^ 64 → ((opening_for layout values).moved ≡ Some n) ↔ IsMoved layout (slice_index values 1) n
moved_exactly layout values n fits = (moved_fwd layout values n fits, moved_back layout values n fits)

-- ---- the start

start_is : (layout : Layout) (values : List ℕ) → (opening_for layout values).start ≡ by_generation (generation_in (slice_index values 1)) Fresh (Torn (generation_in (slice_index values 1))) (Kept (generation_in (slice_index values 1)) (fields_of_words values))
start_is layout values =
    let g : ℕ = generation_in (slice_index values 1) in
    let fresh : Opening = record { start = Fresh; moved = None } in
    let torn : Opening = record { start = Torn g; moved = None } in
    let kept : Opening = record { start = Kept g (fields_of_words values); moved = moved_to (is_old_header layout (slice_index values 1)) g } in
    proj_if (λ (o : Opening). o.start) (g == 0) fresh (if g % 2 == 1 then torn else kept)
    ∙ ap (λ (s : Start). if g == 0 then Fresh else s) (proj_if (λ (o : Opening). o.start) (g % 2 == 1) torn kept)

under_magic : (b : Bool) (x : Result Start ImageFault) (f : ImageFault) (start : Start) → (if b then x else Err f) ≡ Ok start → x ≡ Ok start
under_magic true x f start is = is
under_magic false x f start is = absurd cc

same_ok : (a b : Start) → ◌≡◌ {A = Result Start ImageFault} (Ok a) (Ok b) → a ≡ b
same_ok a b is = cc

start_value : (zero_number odd : Bool) (fault : Option ImageFault) (first torn kept start : Start) → (if zero_number then Ok first else if odd then Ok torn else unless fault (Ok kept)) ≡ Ok start
    → (if zero_number then first else if odd then torn else kept) ≡ start
start_value true odd fault first torn kept start is = same_ok first start is
start_value false true fault first torn kept start is = same_ok torn start is
start_value false false fault first torn kept start is = same_ok kept start (given_unless fault (Ok kept) start is).1

header_value : (none : Bool) (header : ℕ) (later : Result Start ImageFault) (start other : Start) → (header == 0) ≡ none → (if none then Ok Fresh else later) ≡ Ok start
    → (later ≡ Ok start → other ≡ start) → (header ≡ 0 → other ≡ Fresh) → other ≡ start
header_value true header later start other test is by_later by_zero = by_zero (eqb-true header 0 test) ∙ same_ok Fresh start is
header_value false header later start other test is by_later by_zero = by_later is

zero_start : (header : ℕ) (torn kept : ℕ → Start) → header ≡ 0 → by_generation (generation_in header) Fresh (torn (generation_in header)) (kept (generation_in header)) ≡ Fresh
zero_start header torn kept is = rw is refl

pub admitted_start : (layout : Layout) (words : List ℕ) (start : Start) → image_of layout words ≡ Ok start → (opening_for layout words).start ≡ start
unfolding image_of
admitted_start layout words start is =
    let header : ℕ = slice_index words 1 in
    let g : ℕ = generation_in header in
    let later : Result Start ImageFault = unless (first_fault (header_tests layout header)) (start_at words g) in
    let magic : (if header == 0 then Ok Fresh else later) ≡ Ok start = under_magic (has_magic words) (if header == 0 then Ok Fresh else later) Magic start is in
    start_is layout words
    ∙ header_value (header == 0) header later start (by_generation g Fresh (Torn g) (Kept g (fields_of_words words))) refl magic
    (λ told. start_value (g == 0) (g % 2 == 1) (first_fault (data_tests words)) Fresh (Torn g) (Kept g (fields_of_words words)) start (given_unless (first_fault (header_tests layout header)) (start_at words g) start told).1)
    (λ none. zero_start header (λ n. Torn n) (λ n. Kept n (fields_of_words words)) none)

pub loaded-header : (values : List ℕ) → slice_index (loaded_words values) 1 ≡ slice_index values 1
loaded-header values =
    let some : 1 < by_generation (generation_in (slice_index values 1)) 2 2 10 = by_cases (λ (n : ℕ). 1 < n) (generation_in (slice_index values 1)) 2 2 10 (λ a. omega arith) (λ a b. omega arith) (λ a b. omega arith) in
    get_or-take (by_generation (generation_in (slice_index values 1)) 2 2 10) values 1 0 some

kept_same : (zero_number odd : Bool) (first torn a b : Start) → (zero_number ≡ false → odd ≡ false → a ≡ b) → (if zero_number then first else if odd then torn else a) ≡ (if zero_number then first else if odd then torn else b)
kept_same true odd first torn a b same = refl
kept_same false true first torn a b same = refl
kept_same false false first torn a b same = same refl refl

loaded_ten : (values : List ℕ) (g : ℕ) → g ≡ generation_in (slice_index values 1) → (g == 0) ≡ false → (g % 2 == 1) ≡ false → loaded_words values ≡ take 10 values
loaded_ten values g is not_zero not_odd =
    ap (λ (n : ℕ). take (by_generation n 2 2 10) values) (sym is) ∙ rw (not_zero, not_odd) refl

same_start : (layout : Layout) (values image : List ℕ) → loaded_words values ≡ loaded_words image → (opening_for layout values).start ≡ (opening_for layout image).start
same_start layout values image same =
    let header : slice_index values 1 ≡ slice_index image 1 = sym (loaded-header values) ∙ ap (λ (ws : List ℕ). slice_index ws 1) same ∙ loaded-header image in
    let g : ℕ = generation_in (slice_index image 1) in
    let number : generation_in (slice_index values 1) ≡ g = ap generation_in header in
    start_is layout values
    ∙ ap (λ (n : ℕ). by_generation n Fresh (Torn n) (Kept n (fields_of_words values))) number
    ∙ kept_same (g == 0) (g % 2 == 1) Fresh (Torn g) (Kept g (fields_of_words values)) (Kept g (fields_of_words image))
    (λ not_zero not_odd. ap (Kept g) (
    sym (fields_of_ten values)
    ∙ ap fields_of_words (sym (loaded_ten values g (sym number) not_zero not_odd) ∙ same ∙ loaded_ten image g refl not_zero not_odd)
    ∙ fields_of_ten image))
    ∙ sym (start_is layout image)

told_end : (act : Option Act) (a b : Opening) → next_or_end act a ≡ Ends b → a ≡ b
told_end None a b is = cc
told_end (Some act) a b is = absurd cc

pub opens_as_admitted : (layout : Layout) (image values : List ℕ) (start : Start) (opening : Opening) → image_of layout image ≡ Ok start → loaded_words values ≡ loaded_words image
    → opening_of layout values ≡ Ends opening → opening.start ≡ start
opens_as_admitted layout image values start opening is same ended =
    let told : opening_for layout values ≡ opening = told_end (slice_get (opening_steps layout (slice_index values 1)) (length values)) (opening_for layout values) opening ended in
    ap (λ (o : Opening). o.start) (sym told) ∙ same_start layout values image same ∙ admitted_start layout image start is
