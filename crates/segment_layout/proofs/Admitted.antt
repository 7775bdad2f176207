-- What ten words hold is what is admitted.
use Rattle.std.proofs.Common.{◌≡◌, ◌≢◌, ℕ, ◌/◌, ◌%◌, ◌^◌, ◌<◌, ◌≤◌, Bool, true, false, List, [], ◌∷◌, Option, Some, None, Result, Ok, Err, inl, inr, refl, sym, ap, subst, ◌∙◌, arith}
use Rattle.std.specs.Prelude.{slice_index, ◌==◌, nat_lt, nat_le, if◌then◌else◌, ◌⊎◌}
use Rattle.std.proofs.lemmas.Bool.Decides.{nat_tests}
use Rattle.clock_gate.specs.FirstFault.{first_fault, unless}
use Rattle.clock_gate.proofs.FirstFault.{all_hold, given_unless}
use Rattle.generation_word.specs.declared.layout.Layout.{Layout}
use Rattle.generation_word.specs.declared.layout.Layout.TheVariants.{Two, Three}
use Rattle.generation_word.specs.declared.header.TheConstants.{LOW_HALF_THREE}
use Rattle.generation_word.specs.Header.{word1_of, header_of}
use Rattle.generation_word.proofs.HeaderLaws.{header_of-word1_of}
use Rattle.segment_layout.specs.declared.words.TheConstants.{MAGIC}
use Rattle.segment_layout.specs.declared.start.Start.{Start}
use Rattle.segment_layout.specs.declared.start.Start.TheVariants.{Fresh, Kept, Torn}
use Rattle.segment_layout.specs.declared.image_fault.ImageFault.{ImageFault}
use Rattle.segment_layout.specs.declared.image_fault.ImageFault.TheVariants as fault
use Rattle.segment_layout.specs.Record.{RecordFields, KeepsBounds}
use Rattle.segment_layout.specs.Words.{record_words, AreGoodWords, fields_of_words}
use Rattle.segment_layout.specs.Image.{IsHeaderFor, HasGeneration, IsImageOf, Test, has_magic, header_tests, data_tests, start_at, start_by, start_of, image_of}
use Rattle.segment_layout.proofs.Back.{are_good_words, good_as_of_seconds, good_as_of_nanos, good_void_after_seconds, good_void_after_nanos, good_bound, good_marker, good_drift_and_status, good_flag, record_words_good, fields_of_words-data_words}

-- ---- the data words

below : (a b : ℕ) → nat_lt a b ≡ true → a < b
below a b e = grind (arith, nat_tests)

at_most : (a b : ℕ) → nat_le a b ≡ true → a ≤ b
at_most a b e = grind (arith, nat_tests)

pub good_from_tests : (words : List ℕ) → first_fault (data_tests words) ≡ None → AreGoodWords words
good_from_tests words none =
    let t3 = all_hold (data_tests words) none in
    let t5 = t3.1 in
    let t6 = t5.1 in
    let drift = t6.1 in
    let status = drift.1 in
    let t9 = status.1 in
    let t2 = t9.1 in
    let t4 = t2.1 in
    are_good_words words
    (good_as_of_seconds _ (at_most _ _ t2.0))
    (good_as_of_nanos _ (below _ _ t3.0))
    (good_void_after_seconds _ (at_most _ _ t4.0))
    (good_void_after_nanos _ (below _ _ t5.0))
    (good_bound _ (at_most _ _ t6.0))
    (good_marker _)
    (good_drift_and_status _ (at_most _ _ drift.0) (at_most _ _ status.0))
    (good_flag _ (at_most _ _ t9.0))

is_below : (a b : ℕ) → a < b → nat_lt a b ≡ true
is_below a b h = grind (arith, nat_tests)

is_at_most : (a b : ℕ) → a ≤ b → nat_le a b ≡ true
is_at_most a b h = grind (arith, nat_tests)

tests_from_good : (words : List ℕ) → AreGoodWords words → first_fault (data_tests words) ≡ None
tests_from_good words good =
    rw (
      is_below (slice_index words 3) 1000000000 ((good 3 (omega arith) (omega arith)).as_of_nanos refl),
      is_below (slice_index words 5) 1000000000 ((good 5 (omega arith) (omega arith)).void_after_nanos refl),
      is_at_most (slice_index words 6) (2 ^ 62) ((good 6 (omega arith) (omega arith)).bound refl),
      is_at_most (slice_index words 8 % 2 ^ 32) 1000000000 ((good 8 (omega arith) (omega arith)).drift refl),
      is_at_most (slice_index words 8 / 2 ^ 32) 3 ((good 8 (omega arith) (omega arith)).status refl),
      is_at_most (slice_index words 9) 1 ((good 9 (omega arith) (omega arith)).flag refl),
      is_at_most (slice_index words 2) 4000000000 ((good 2 (omega arith) (omega arith)).as_of_seconds refl),
      is_at_most (slice_index words 4) 4000001000 ((good 4 (omega arith) (omega arith)).void_after_seconds refl),
    ) refl

-- ---- the header

record Passes (layout : Layout) (word generation : ℕ) : Type 0 where
  tests : first_fault (header_tests layout word) ≡ None
  number : (header_of word).2 ≡ generation
  other : (word == 0) ≡ false

passes_two : (layout : Layout) (g : ℕ) → word1_of Two g < 2 ^ 64 → Passes layout (word1_of Two g) g
passes_two Two g fits = let told = header_of-word1_of Two g (omega arith) in record { tests = rw told refl; number = rw told refl; other = grind (arith, nat_tests) }
passes_two Three g fits = let told = header_of-word1_of Two g (omega arith) in record { tests = rw told refl; number = rw told refl; other = grind (arith, nat_tests) }

passes_three : (g : ℕ) → word1_of Three g < 2 ^ 64 → Passes Three (word1_of Three g) g
passes_three g fits =
    let told = header_of-word1_of Three g (omega arith) in
    let low : word1_of Three g % 2 ^ 32 ≡ LOW_HALF_THREE = omega arith in
    record { tests = rw (told, low) refl; number = rw told refl; other = grind (arith, nat_tests) }

header_passes : (layout : Layout) (word g : ℕ) → word < 2 ^ 64 → IsHeaderFor layout word g → Passes layout word g
header_passes Two word g fits is = subst (λ (w : ℕ). Passes Two w g) (sym is) (passes_two Two g (omega arith))
header_passes Three word g fits (inl is) = subst (λ (w : ℕ). Passes Three w g) (sym is) (passes_two Three g (omega arith))
header_passes Three word g fits (inr is) = subst (λ (w : ℕ). Passes Three w g) (sym is) (passes_three g (omega arith))

-- ---- the image

image_of-generation : (layout : Layout) (words : List ℕ) (g : ℕ) → slice_index words 1 < 2 ^ 64 → HasGeneration layout words g → image_of layout words ≡ start_at words g
unfolding image_of
image_of-generation layout words g fits has =
    let header = header_passes layout (slice_index words 1) g fits has.header in
    rw (has.magic, header.other, header.tests, header.number) refl

image_of-nothing : (layout : Layout) (words : List ℕ) → slice_index words 1 ≡ 0 → (slice_index words 0 ≡ 0) ⊎ (slice_index words 0 ≡ MAGIC) → image_of layout words ≡ Ok Fresh
unfolding image_of
image_of-nothing layout words zero_header (inl nothing) = rw (nothing, zero_header) refl
image_of-nothing layout words zero_header (inr magic) = rw (magic, zero_header) refl

start_at-torn : (words : List ℕ) (g : ℕ) → g % 2 ≡ 1 → start_at words g ≡ Ok (Torn g)
start_at-torn words g odd = let other : (g == 0) ≡ false = grind (arith, nat_tests) in rw (other, odd) refl

start_at-kept : (words : List ℕ) (g : ℕ) (rec : RecordFields) → g % 2 ≡ 0 → 0 < g → words ≡ record_words (slice_index words 1) rec → KeepsBounds rec.as_of rec.void_after rec.bound rec.drift → start_at words g ≡ Ok (Kept g rec)
start_at-kept words g rec even positive spelled bounds =
    let other : (g == 0) ≡ false = grind (arith, nat_tests) in
    let good : AreGoodWords words = subst AreGoodWords (sym spelled) (record_words_good (slice_index words 1) rec bounds) in
    let read : fields_of_words words ≡ rec = ap fields_of_words spelled ∙ fields_of_words-data_words MAGIC (slice_index words 1) rec bounds in
    rw (other, even, tests_from_good words good, read) refl

pub image_of-only : (layout : Layout) (words : List ℕ) (start : Start) → slice_index words 1 < 2 ^ 64 → IsImageOf layout words start → image_of layout words ≡ Ok start
image_of-only layout words Fresh fits (inl nothing) = image_of-nothing layout words nothing.0 nothing.1
image_of-only layout words Fresh fits (inr has) = image_of-generation layout words 0 fits has
image_of-only layout words (Kept g rec) fits holds = image_of-generation layout words g fits holds.header ∙ start_at-kept words g rec holds.even holds.published holds.spelled holds.bounds
image_of-only layout words (Torn g) fits holds = image_of-generation layout words g fits holds.0 ∙ start_at-torn words g holds.1

-- an image whose header is good and whose data words are not
pub image_of-fault : (layout : Layout) (words : List ℕ) (g : ℕ) (fault : ImageFault) → has_magic words ≡ true → slice_index words 1 ≢ 0
    → unless (first_fault (header_tests layout (slice_index words 1))) (Ok (header_of (slice_index words 1)).2) ≡ Ok g → g ≢ 0 → g % 2 ≢ 1 → first_fault (data_tests words) ≡ Some fault → image_of layout words ≡ Err fault
unfolding image_of
image_of-fault layout words g fault magic other header not_zero not_odd first =
    let passed = given_unless (first_fault (header_tests layout (slice_index words 1))) (Ok (header_of (slice_index words 1)).2) g header in
    let read : ◌≡◌ {A = Result ℕ ImageFault} (Ok (header_of (slice_index words 1)).2) (Ok g) = passed.1 in
    let same : (header_of (slice_index words 1)).2 ≡ g = cc read in
    let some_header : (slice_index words 1 == 0) ≡ false = grind (arith, nat_tests) in
    let some_number : (g == 0) ≡ false = grind (arith, nat_tests) in
    let even : (g % 2 == 1) ≡ false = grind (arith, nat_tests) in
    rw (magic, some_header, passed.0, same, some_number, even, first) refl

-- ---- what is admitted is told by word 1

start_at-start : (words : List ℕ) (generation : ℕ) (start : Start) → start_at words generation ≡ Ok start → start_by words generation ≡ start
start_at-start words generation start is = by_zero (generation == 0) (generation % 2 == 1) is
  where
    by_zero : (none odd : Bool)
        → (if none then Ok Fresh else if odd then Ok (Torn generation) else unless (first_fault (data_tests words)) (Ok (Kept generation (fields_of_words words)))) ≡ Ok start
        → (if none then Fresh else if odd then Torn generation else Kept generation (fields_of_words words)) ≡ start
    by_zero true odd e = cc
    by_zero false true e = cc
    by_zero false false e =
        let kept : ◌≡◌ {A = Result Start ImageFault} (Ok (Kept generation (fields_of_words words))) (Ok start) = (given_unless (first_fault (data_tests words)) (Ok (Kept generation (fields_of_words words))) start e).1 in
        cc kept

pub image_of-start : (layout : Layout) (words : List ℕ) (start : Start) → image_of layout words ≡ Ok start → start_of words ≡ start
unfolding image_of
image_of-start layout words start is = by_magic (has_magic words) is
  where
    number : ℕ
    number = (header_of (slice_index words 1)).2

    by_header : Result Start ImageFault
    by_header = unless (first_fault (header_tests layout (slice_index words 1))) (start_at words number)

    of_zero : slice_index words 1 ≡ 0 → ◌≡◌ {A = Result Start ImageFault} (Ok Fresh) (Ok start) → start_of words ≡ start
    of_zero zero_header e = rw zero_header cc

    of_other : by_header ≡ Ok start → start_of words ≡ start
    of_other e = start_at-start words number start (given_unless (first_fault (header_tests layout (slice_index words 1))) (start_at words number) start e).1

    by_zero : (test : Bool) → (slice_index words 1 == 0) ≡ test → (if test then Ok Fresh else by_header) ≡ Ok start → start_of words ≡ start
    by_zero true test e = of_zero (grind (arith, nat_tests)) e
    by_zero false test e = of_other e

    by_magic : (magic : Bool) → (if magic then if slice_index words 1 == 0 then Ok Fresh else by_header else Err fault.Magic) ≡ Ok start → start_of words ≡ start
    by_magic true e = by_zero (slice_index words 1 == 0) refl e
    by_magic false e = absurd cc
