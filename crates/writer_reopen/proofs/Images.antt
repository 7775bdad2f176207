-- An opening that is handed the words of an admitted image.
use Rattle.std.proofs.Common.{◌≡◌, ℕ, zero, suc, ◌+◌, ◌%◌, ◌<◌, ◌≤◌, Bool, true, false, List, [], ◌∷◌, ◌++◌, length, take, drop, refl, sym, ap, subst, ◌∙◌, inl, inr, arith, length-append}
use Rattle.std.specs.Prelude.{slice_index, slice_index_or, IsOk, ◌==◌, if◌then◌else◌}
use Rattle.std.proofs.lemmas.Bool.{cases_lt}
use Rattle.std.proofs.lemmas.List.{get_or-take, length-take-le, take_all, take_more, take-append-drop, take-take}
use Rattle.generation_word.specs.declared.layout.Layout.{Layout}
use Rattle.generation_word.specs.Header.{generation_in}
use Rattle.clock_gate.specs.declared.act.Act.{Act}
use Rattle.clock_gate.specs.declared.act.Act.TheVariants.{Load, Store, End}
use Rattle.segment_layout.specs.Image.{image_of, is_old_header}
use Rattle.writer_reopen.specs.Opening.{fresh_steps, torn_steps, move_steps, kept_steps, opening_steps, OpenerState, opening_act, opening_given, loads_at, loaded_words, IsAdmitted, LoadsImage}
use Rattle.writer_reopen.proofs.Openings.{by_cases, act-by_number}
use Rattle.writer_reopen.proofs.OpeningLaws.{loaded-header}

some_loads : (header : ℕ) → (2 ≤ loads_at header) × (loads_at header ≤ 10)
some_loads header =
    by_cases (λ (n : ℕ). (2 ≤ n) × (n ≤ 10)) (generation_in header) 2 2 10 (λ a. (omega arith, omega arith)) (λ a b. (omega arith, omega arith)) (λ a b. (omega arith, omega arith))

-- ---- what is loaded is the image's

image_loads : (image : List ℕ) → length image ≡ 10 → length (loaded_words image) ≡ loads_at (slice_index image 1)
image_loads image ten = let few = some_loads (slice_index image 1) in length-take-le (loads_at (slice_index image 1)) image (omega arith)

header_loaded : (image values : List ℕ) → length image ≡ 10 → LoadsImage image values → 2 ≤ length values → slice_index values 1 ≡ slice_index image 1
header_loaded image values ten loads two =
    let few = some_loads (slice_index image 1) in
    sym (get_or-take (loads_at (slice_index image 1)) values 1 0 (omega arith))
    ∙ ap (λ (ws : List ℕ). slice_index ws 1) loads
    ∙ get_or-take (length values) (loaded_words image) 1 0 (omega arith)
    ∙ loaded-header image

header_later : (values : List ℕ) → length values < 2 → slice_index values 1 ≡ 0
header_later [] h = refl
header_later (a ∷ []) h = refl
header_later (a ∷ b ∷ values) h = absurd (omega arith)

-- a front of a front is a front
prefix_again : (a b : ℕ) (xs : List ℕ) → take a (take b xs) ≡ take (length (take a (take b xs))) xs
prefix_again zero b xs = refl
prefix_again (suc a) zero xs = refl
prefix_again (suc a) (suc b) [] = refl
prefix_again (suc a) (suc b) (x ∷ xs) = ap (λ (ys : List ℕ). x ∷ ys) (prefix_again a b xs)

-- the loaded words begin the image
begins_image : (image values : List ℕ) → length image ≡ 10 → LoadsImage image values → loaded_words values ≡ take (length (loaded_words values)) image
begins_image image values ten loads = elim (cases_lt (length values) 2) [
  | inl few ↦
      let bounds = some_loads (slice_index image 1) in
      let none : slice_index values 1 ≡ 0 = header_later values few in
      let all : loaded_words values ≡ values = ap (λ (header : ℕ). take (loads_at header) values) none ∙ take_all 2 values (omega arith) in
      let is : values ≡ take (length values) image =
      sym (take_all (loads_at (slice_index image 1)) values (omega arith)) ∙ loads ∙ take-take (length values) (loads_at (slice_index image 1)) image (omega arith) in
      subst (λ (ws : List ℕ). ws ≡ take (length ws) image) (sym all) is
  | inr many ↦
      let bounds = some_loads (slice_index image 1) in
      let header : slice_index values 1 ≡ slice_index image 1 = header_loaded image values ten loads (omega arith) in
      let all : loaded_words values ≡ take (length values) (loaded_words image) = ap (λ (h : ℕ). take (loads_at h) values) header ∙ loads in
      subst (λ (ws : List ℕ). ws ≡ take (length ws) image) (sym all) (prefix_again (length values) (loads_at (slice_index image 1)) image)
]

pub admits : (layout : Layout) (image values : List ℕ) → length image ≡ 10 → IsOk (image_of layout image) → LoadsImage image values → IsAdmitted layout values
admits layout image values ten good loads =
    let n : ℕ = length (loaded_words values) in
    let whole : loaded_words values ++ drop n image ≡ image = ap (λ (ws : List ℕ). ws ++ drop n image) (begins_image image values ten loads) ∙ take-append-drop n image in
    record { rest = drop n image; whole = ap length whole ∙ ten; admitted = subst (λ (ws : List ℕ). IsOk (image_of layout ws)) (sym whole) good }

-- ---- one value more

more_loaded : (image values : List ℕ) (value : ℕ) → length image ≡ 10 → LoadsImage image values → length values < loads_at (slice_index image 1) → value ≡ slice_index image (length values)
    → LoadsImage image (values ++ value ∷ [])
more_loaded image values value ten loads below is =
    let n : ℕ = loads_at (slice_index image 1) in
    let k : ℕ = length values in
    let longer : length (values ++ value ∷ []) ≡ k + 1 = omega (arith, length-append values (value ∷ [])) in
    let count : length (loaded_words image) ≡ n = image_loads image ten in
    let before : values ≡ take k (loaded_words image) = sym (take_all n values (omega arith)) ∙ loads in
    let next : value ≡ slice_index (loaded_words image) k = is ∙ sym (get_or-take n image k 0 below) in
    take_all n (values ++ value ∷ []) (omega arith)
    ∙ ap (λ (ws : List ℕ). ws ++ value ∷ []) before
    ∙ ap (λ (v : ℕ). take k (loaded_words image) ++ v ∷ []) next
    ∙ sym (take_more (loaded_words image) k 0 (omega arith))
    ∙ ap (λ (l : ℕ). take l (loaded_words image)) (sym longer)

take_front : (n : ℕ) (xs ys : List ℕ) → n ≤ length xs → take n (xs ++ ys) ≡ take n xs
take_front zero xs ys h = refl
take_front (suc n) [] ys h = absurd (omega arith)
take_front (suc n) (x ∷ xs) ys h = ap (λ (zs : List ℕ). x ∷ zs) (take_front n xs ys (omega arith))

more_stored : (image values : List ℕ) (value : ℕ) → length image ≡ 10 → LoadsImage image values → loads_at (slice_index image 1) ≤ length values
    → LoadsImage image (values ++ value ∷ [])
more_stored image values value ten loads past =
    let n : ℕ = loads_at (slice_index image 1) in
    let longer : length (values ++ value ∷ []) ≡ length values + 1 = omega (arith, length-append values (value ∷ [])) in
    let count : length (loaded_words image) ≡ n = image_loads image ten in
    take_front n values (value ∷ []) past
    ∙ loads
    ∙ take_all (length values) (loaded_words image) (omega arith)
    ∙ sym (take_all (length (values ++ value ∷ [])) (loaded_words image) (omega arith))

-- ---- which step is a load

abbrev NoLoads : List Act → Type 0
NoLoads [] = Unit {0}
NoLoads (act ∷ acts) = ((word : ℕ) → act ≡ Load word → ⊥) × NoLoads acts

-- so many loads in the order of their words, and no load after them
abbrev LoadsThen : (word count : ℕ) → List Act → Type 0
LoadsThen word zero acts = NoLoads acts
LoadsThen word (suc count) [] = ⊥
LoadsThen word (suc count) (act ∷ acts) = (act ≡ Load word) × LoadsThen (suc word) count acts

loads_below : (first count : ℕ) (acts : List Act) (k : ℕ) → LoadsThen first count acts → k < count → slice_index_or acts k End ≡ Load (first + k)
loads_below first zero acts k then_ below = absurd (omega arith)
loads_below first (suc count) [] k then_ below = absurd then_
loads_below first (suc count) (act ∷ acts) zero then_ below = let same : first ≡ first + 0 = omega arith in then_.0 ∙ ap (λ (n : ℕ). Load n) same
loads_below first (suc count) (act ∷ acts) (suc k) then_ below =
    let same : suc first + k ≡ first + suc k = omega arith in
    loads_below (suc first) count acts k then_.1 (omega arith) ∙ ap (λ (n : ℕ). Load n) same

no_load : (word value other : ℕ) → Store word value ≡ Load other → ⊥
no_load word value other is = absurd cc

torn_none : (old : Bool) (g : ℕ) → NoLoads (torn_steps old g)
torn_none true g = (no_load _ _, tt)
torn_none false g = tt

move_none : (old : Bool) (g : ℕ) → NoLoads (move_steps old g)
move_none true g = (no_load _ _, (no_load _ _, tt))
move_none false g = tt

both_cases : (P : ℕ → List Act → Type 0) (zero_number odd : Bool) (a b c : ℕ) (x y z : List Act) → P a x → P b y → P c z
    → P (if zero_number then a else if odd then b else c) (if zero_number then x else if odd then y else z)
both_cases P true odd a b c x y z f t k = f
both_cases P false true a b c x y z f t k = t
both_cases P false false a b c x y z f t k = k

steps_load : (layout : Layout) (header : ℕ) → LoadsThen 0 (loads_at header) (opening_steps layout header)
steps_load layout header =
    let g : ℕ = generation_in header in
    let old : Bool = is_old_header layout header in
    both_cases (λ (n : ℕ) (acts : List Act). LoadsThen 0 n (Load 0 ∷ Load 1 ∷ acts)) (g == 0) (g % 2 == 1) 2 2 10 (fresh_steps layout) (torn_steps old g) (kept_steps old g)
    (refl, (refl, (no_load _ _, (no_load _ _, tt))))
    (refl, (refl, torn_none old g))
    (refl, (refl, (refl, (refl, (refl, (refl, (refl, (refl, (refl, (refl, move_none old g))))))))))

-- ---- one step of an opening of this image

zero_more : (k : ℕ) → Load (0 + k) ≡ Load k
zero_more k = let same : 0 + k ≡ k = omega arith in ap (λ (n : ℕ). Load n) same

early_acts : (layout : Layout) (a b k : ℕ) → k < 2 → slice_index_or (opening_steps layout a) k End ≡ slice_index_or (opening_steps layout b) k End
early_acts layout a b zero h = refl
early_acts layout a b (suc zero) h = refl
early_acts layout a b (suc (suc k)) h = absurd (omega arith)

-- the header counts only from the second step on
same_act : (layout : Layout) (image values : List ℕ) → length image ≡ 10 → LoadsImage image values
    → opening_act (record { layout = layout; values = values }) ≡ slice_index_or (opening_steps layout (slice_index image 1)) (length values) End
same_act layout image values ten loads = act-by_number layout values ∙ elim (cases_lt (length values) 2) [
  | inl few ↦ early_acts layout (slice_index values 1) (slice_index image 1) (length values) few
  | inr many ↦ ap (λ (h : ℕ). slice_index_or (opening_steps layout h) (length values) End) (header_loaded image values ten loads (omega arith))
]

pub goes_on : (layout : Layout) (image values : List ℕ) (value : ℕ) → length image ≡ 10 → IsOk (image_of layout image) → LoadsImage image values
    → ((word : ℕ) → opening_act (record { layout = layout; values = values }) ≡ Load word → value ≡ slice_index image word)
    → IsAdmitted layout (values ++ value ∷ []) × LoadsImage image (values ++ value ∷ [])
goes_on layout image values value ten good loads hands =
    let k : ℕ = length values in
    let header : ℕ = slice_index image 1 in
    let more : LoadsImage image (values ++ value ∷ []) = elim (cases_lt k (loads_at header)) [
      | inl below ↦ more_loaded image values value ten loads below (hands k (same_act layout image values ten loads ∙ loads_below 0 (loads_at header) (opening_steps layout header) k (steps_load layout header) below ∙ zero_more k))
      | inr past ↦ more_stored image values value ten loads past
    ] in
    (admits layout image (values ++ value ∷ []) ten good more, more)

-- ---- a whole opening of an image

pub record Opens (layout : Layout) (image : List ℕ) (state : OpenerState) : Type 0 where
  pub same_layout : state.layout ≡ layout
  pub ten : length image ≡ 10
  pub admitted : IsOk (image_of layout image)
  pub loads : LoadsImage image state.values

opens_on : (layout : Layout) (image : List ℕ) (state : OpenerState) (value : ℕ) → Opens layout image state → ((word : ℕ) → opening_act state ≡ Load word → value ≡ slice_index image word)
    → IsAdmitted state.layout (state.values ++ value ∷ []) × Opens layout image (opening_given state value)
opens_on layout image state value is hands =
    let good : IsOk (image_of state.layout image) = subst (λ (l : Layout). IsOk (image_of l image)) (sym is.same_layout) is.admitted in
    let next = goes_on state.layout image state.values value is.ten good is.loads hands in
    (next.0, record { same_layout = is.same_layout; ten = is.ten; admitted = is.admitted; loads = next.1 })

same_load : (a b : ℕ) → Load a ≡ Load b → a ≡ b
same_load a b is = cc

pub opens-load : (layout : Layout) (image : List ℕ) (state : OpenerState) (act : Act) (word place : ℕ) → Opens layout image state → act ≡ opening_act state → act ≡ Load word → place ≡ word
    → IsAdmitted state.layout (state.values ++ slice_index image place ∷ []) × Opens layout image (opening_given state (slice_index image place))
opens-load layout image state act word place is wants loads same =
    opens_on layout image state (slice_index image place) is
    (λ w e. ap (slice_index image) (same ∙ same_load word w (sym loads ∙ wants ∙ e)))

pub opens-store : (layout : Layout) (image : List ℕ) (state : OpenerState) (act : Act) (word stored value : ℕ) → Opens layout image state → act ≡ opening_act state → act ≡ Store word stored
    → IsAdmitted state.layout (state.values ++ value ∷ []) × Opens layout image (opening_given state value)
opens-store layout image state act word stored value is wants stores =
    opens_on layout image state value is (λ w e. absurd (no_load word stored w (sym stores ∙ wants ∙ e)))
