-- The words that an opening loads begin an image that is admitted.
use Rattle.std.proofs.Common.{◌≡◌, ℕ, zero, suc, ◌^◌, ◌+◌, ◌*◌, ◌<◌, ◌≤◌, Bool, true, false, List, [], ◌∷◌, ◌++◌, length, take, drop, refl, sym, ap, ◌∙◌, subst, arith, inl, inr, append_assoc}
use Rattle.std.specs.Prelude.{◌==◌, ◌%◌, if◌then◌else◌, slice_index, IsOk}
use Rattle.std.proofs.lemmas.Bool.{cases_lt}
use Rattle.std.proofs.lemmas.Bool.Decides.{nat_tests}
use Rattle.std.proofs.lemmas.List.{get_or-take, get_or_past, length-take, length-take-le, take_all, take-take, take-append-drop}
use Rattle.generation_word.specs.declared.layout.Layout.{Layout}
use Rattle.generation_word.specs.declared.layout.Layout.TheVariants.{Two, Three}
use Rattle.generation_word.specs.Layout.{period_of}
use Rattle.generation_word.specs.Header.{generation_in, word1_of}
use Rattle.generation_word.proofs.Laws.{generation_at_most}
use Rattle.segment_layout.specs.declared.start.Start.{Start}
use Rattle.segment_layout.specs.declared.start.Start.TheVariants.{Fresh, Kept, Torn}
use Rattle.segment_layout.specs.Image.{IsImageOf, image_of}
use Rattle.segment_run.specs.SegmentRun.{SegmentRun, header_shown, number_shown, start_found, is_old}
use Rattle.segment_run.specs.ShowsSegment.{ShowsSegment}
use Rattle.segment_run.proofs.SegmentAdmitted.{segment_admitted, segment_image}
use Rattle.segment_run.proofs.SegmentHeader.{number_at_rest, number_in_update, period_positive}
use Rattle.writer_reopen.specs.Opening.{loads_at, loaded_words, IsAdmitted, LoadsImage}
use Rattle.writer_reopen.proofs.Found.{IsFoundBy}
use Rattle.writer_reopen.proofs.Images.{admits}
use Rattle.writer_reopen.proofs.Openings.{by_cases}
use Rattle.step_core.specs.ShowsDaemon.{given_after}
use Rattle.step_core.proofs.SegmentOpen.{found_by_header}
use Rattle.step_core.proofs.SegmentOpening.{opening_begins}

-- ---- word 1

-- the number that word 1 shows is one of the layout
pub number_most : (segment : SegmentRun) → number_shown segment ≤ 2 * period_of segment.layout + 1
number_most segment = by segment.is_writing refl
  where
    by : (writes : Bool) → segment.is_writing ≡ writes → number_shown segment ≤ 2 * period_of segment.layout + 1
    by true is =
        let most = generation_at_most (period_of segment.layout) segment.position (period_positive segment.layout) in
        omega (arith, number_in_update segment is, most)
    by false is =
        let most = generation_at_most (period_of segment.layout) segment.position (period_positive segment.layout) in
        omega (arith, number_at_rest segment is, most)

own_fits : (layout : Layout) (number : ℕ) → number ≤ 2 * period_of layout + 1 → word1_of layout number < 2 ^ 64
own_fits Two number most = omega arith
own_fits Three number most = omega arith

shown_fits : (segment : SegmentRun) → slice_index segment.image 1 < 2 ^ 64 → header_shown segment < 2 ^ 64
shown_fits segment fits = by segment.is_headed
  where
    by : (is_headed : Bool) → (if is_headed then word1_of segment.layout (number_shown segment) else slice_index segment.image 1) < 2 ^ 64
    by true = own_fits segment.layout (number_shown segment) (number_most segment)
    by false = fits

-- ---- the values of an opening

-- the words that are loaded are the image's
loads_front : (layout : Layout) (image : List ℕ) (first header : ℕ) (start : Start) → first ≡ slice_index image 0 → header ≡ slice_index image 1 → length image ≡ 10 → IsFoundBy (generation_in header) start → IsImageOf layout image start
    → LoadsImage image (first ∷ header ∷ given_after start)
loads_front layout [] first header start first_is header_is ten found is = absurd (omega (arith, ten))
loads_front layout (magic ∷ []) first header start first_is header_is ten found is = absurd (omega (arith, ten))
loads_front layout (magic ∷ word ∷ words) first header Fresh first_is header_is ten found is =
    let test : (generation_in word == 0) ≡ true = grind (arith, nat_tests, header_is, found) in
    rw (first_is, header_is, test) refl
loads_front layout (magic ∷ word ∷ words) first header (Torn generation) first_is header_is ten found is =
    let same : generation_in word ≡ generation = ap generation_in (sym header_is) ∙ found.0 in
    let odd = found.1 in
    let some : (generation_in word == 0) ≡ false = grind (arith, nat_tests, same, odd) in
    let test : (generation_in word % 2 == 1) ≡ true = grind (arith, nat_tests, same, odd) in
    rw (first_is, header_is, some, test) refl
loads_front layout (magic ∷ word ∷ words) first header (Kept generation rec) first_is header_is ten found is =
    let same : generation_in word ≡ generation = ap generation_in (sym header_is) ∙ found.0 in
    let even = found.1 in
    let positive = found.2 in
    let some : (generation_in word == 0) ≡ false = grind (arith, nat_tests, same, positive) in
    let test : (generation_in word % 2 == 1) ≡ false = grind (arith, nat_tests, same, even) in
    let rest = ap (drop 2) is.spelled in
    rw (first_is, header_is, some, test, rest) refl

-- an opening of a segment that is shown begins with its words
pub opening_admits : (segment : SegmentRun) (words : List ℕ) → slice_index segment.image 1 < 2 ^ 64 → ShowsSegment segment words → IsAdmitted segment.layout (slice_index words 0 ∷ header_shown segment ∷ given_after (start_found segment))
opening_admits segment words image_fits shows =
    let wide = shows.wide in
    let ten : length (take 10 words) ≡ 10 = length-take-le 10 words (omega (arith, wide)) in
    let begins = opening_begins segment shows.is in
    let fits : slice_index words 1 < 2 ^ 64 = rw shows.header (shown_fits segment image_fits) in
    admits segment.layout (take 10 words) (slice_index words 0 ∷ header_shown segment ∷ given_after (start_found segment)) ten (rw (segment_admitted segment words shows fits) refl)
    (loads_front segment.layout (take 10 words) (slice_index words 0) (header_shown segment) (start_found segment)
    (sym (get_or-take 10 words 0 0 (omega arith))) (sym shows.header ∙ sym (get_or-take 10 words 1 0 (omega arith))) ten
    (found_by_header segment (start_found segment) (is_old segment) 0 (header_shown segment) begins) (segment_image segment words shows))

-- ---- the first of them

take_swap : (m n : ℕ) (xs : List ℕ) → take m (take n xs) ≡ take n (take m xs)
take_swap zero zero xs = refl
take_swap zero (suc n) xs = refl
take_swap (suc m) zero xs = refl
take_swap (suc m) (suc n) [] = refl
take_swap (suc m) (suc n) (x ∷ xs) = ap (λ (ys : List ℕ). x ∷ ys) (take_swap m n xs)

loads_two : (header : ℕ) → 2 ≤ loads_at header
loads_two header = by_cases (λ (n : ℕ). 2 ≤ n) (generation_in header) 2 2 10 (λ a. omega arith) (λ a b. omega arith) (λ a b. omega arith)

loaded_front : (n : ℕ) (values : List ℕ) → loaded_words (take n values) ≡ take n (loaded_words values)
loaded_front n values = elim (cases_lt n 2) [
  | inl few ↦
      let two = loads_two (slice_index values 1) in
      let none : slice_index (take n values) 1 ≡ 0 = get_or_past (take n values) 1 0 (omega (arith, few, length-take n values)) in
      ap (λ (header : ℕ). take (loads_at header) (take n values)) none
      ∙ take_all 2 (take n values) (omega (arith, few, length-take n values))
      ∙ sym (take-take n (loads_at (slice_index values 1)) values (omega (arith, few, two)))
  | inr many ↦
      ap (λ (header : ℕ). take (loads_at header) (take n values)) (get_or-take n values 1 0 (omega (arith, many)))
      ∙ take_swap (loads_at (slice_index values 1)) n values
]

pub admits_front : (layout : Layout) (values : List ℕ) (n : ℕ) → IsAdmitted layout values → IsAdmitted layout (take n values)
admits_front layout values n is =
    let loaded : List ℕ = loaded_words values in
    let same : loaded_words (take n values) ++ (drop n loaded ++ is.rest) ≡ loaded ++ is.rest =
    ap (λ (words : List ℕ). words ++ (drop n loaded ++ is.rest)) (loaded_front n values)
    ∙ sym (append_assoc (take n loaded) (drop n loaded) is.rest)
    ∙ ap (λ (words : List ℕ). words ++ is.rest) (take-append-drop n loaded) in
    record {
      rest = drop n loaded ++ is.rest;
      whole = ap length same ∙ is.whole;
      admitted = subst (λ (words : List ℕ). IsOk (image_of layout words)) (sym same) is.admitted;
    }
