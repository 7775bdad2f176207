-- The segment that an image begins with: the image's words show it.
use Rattle.std.proofs.Common.{◌≡◌, ◌≢◌, ℕ, zero, suc, ◌+◌, ◌-◌, ◌*◌, ◌/◌, ◌%◌, ◌^◌, ◌<◌, ◌≤◌, Bool, true, false, List, [], ◌∷◌, Option, Some, None, Ok, Err, length, drop, refl, ap, sym, ◌∙◌, subst, arith, inl, inr}
use Rattle.std.specs.Prelude.{◌⊎◌, ◌||◌, ◌&&◌, ◌==◌, if◌then◌else◌, slice_index, slice_index_or, Result}
use Rattle.std.proofs.lemmas.Bool.{cases_eq, eqb-true}
use Rattle.std.proofs.lemmas.Bool.Decides.{nat_tests}
use Rattle.std.proofs.lemmas.Int.{ints}
use Rattle.std.proofs.Math.Nat.{mod-eq_of_lt}
use Rattle.clock_gate.specs.FirstFault.{first_fault, unless}
use Rattle.clock_gate.proofs.FirstFault.{all_hold, given_unless}
use Rattle.generation_word.specs.declared.header.TheConstants.{LOW_HALF_THREE}
use Rattle.generation_word.specs.declared.layout.Layout.{Layout}
use Rattle.generation_word.specs.declared.layout.Layout.TheVariants.{Two, Three}
use Rattle.generation_word.specs.Layout.{period_of}
use Rattle.generation_word.specs.Numbering.{generation_at}
use Rattle.generation_word.specs.Header.{word1_of, header_of}
use Rattle.generation_word.proofs.HeaderLaws.{made_two, made_three}
use Rattle.generation_word.specs.Header.{generation_in}
use Rattle.segment_layout.specs.declared.words.TheConstants.{MAGIC}
use Rattle.segment_layout.specs.declared.publication.Publication.{Publication}
use Rattle.segment_layout.specs.declared.start.Start.{Start}
use Rattle.segment_layout.specs.declared.start.Start.TheVariants.{Fresh, Kept, Torn}
use Rattle.segment_layout.specs.declared.image_fault.ImageFault.{ImageFault}
use Rattle.segment_layout.specs.declared.image_fault.ImageFault.TheVariants as fault
use Rattle.segment_layout.specs.Record.{RecordFields, KeepsBounds}
use Rattle.segment_layout.specs.Words.{record_words, data_words, AreGoodWords, fields_of_words}
use Rattle.segment_layout.specs.Image.{IsHeaderFor, has_magic, reads_version, header_tests, data_tests, start_at, image_of, start_by, generation_of_start}
use Rattle.segment_layout.specs.History.{Begun, last_store}
use Rattle.segment_layout.proofs.Admitted.{good_from_tests, image_of-start}
use Rattle.segment_layout.proofs.Back.{data_words-fields_of_words}
use Rattle.segment_run.specs.SegmentRun.{SegmentRun, start_found, header_shown, number_shown, published_at, image_publication, no_publication, segment_of_image, segment_by, segment_start}
use Rattle.segment_run.specs.ShowsSegment.{HoldsWords, IsSegment, ShowsSegment}
use Rattle.segment_run.proofs.SegmentHeader.{header_tells, own_header_some}

-- ---- what an admitted image holds

-- what ten words hold that are admitted: the magic or no segment yet, a header that the layout reads or 0, and good data words
-- where a record is kept
abbrev pub Holds : Layout → List ℕ → Start → Type 0
Holds layout image Fresh = (slice_index image 1 ≡ 0) ⊎ IsHeaderFor layout (slice_index image 1) 0
Holds layout image (Torn generation) = IsHeaderFor layout (slice_index image 1) generation × ((generation % 2 ≡ 1) × (generation ≤ 2 * period_of layout + 1))
Holds layout image (Kept generation rec) =
    IsHeaderFor layout (slice_index image 1) generation
    × ((generation % 2 ≡ 0) × ((0 < generation) × ((generation ≤ 2 * period_of layout) × ((rec ≡ fields_of_words image) × AreGoodWords image))))

-- what holds of an image that is admitted
pub record IsAdmittedAs (layout : Layout) (image : List ℕ) (start : Start) : Type 0 where
  pub magic : (slice_index image 0 ≡ MAGIC) ⊎ ((slice_index image 0 ≡ 0) × (slice_index image 1 ≡ 0))
  pub holds : Holds layout image start

passes_if : {Value : Type 0} (b : Bool) (x : Result Value ImageFault) (f : ImageFault) (value : Value) → (if b then x else Err f) ≡ Ok value → (b ≡ true) × (x ≡ Ok value)
passes_if true x f value e = (refl, e)
passes_if false x f value e = absurd cc

either_holds : (first second : Bool) → (first || second) ≡ true → (first ≡ true) ⊎ (second ≡ true)
either_holds true second e = inl refl
either_holds false second e = inr e

both_are : (first second : Bool) → (first && second) ≡ true → (first ≡ true) × (second ≡ true)
both_are true second e = (refl, e)
both_are false second e = absurd (cc e)

magic_by : (first header : ℕ) → ((first == MAGIC) ≡ true) ⊎ ((first == 0 && header == 0) ≡ true) → (first ≡ MAGIC) ⊎ ((first ≡ 0) × (header ≡ 0))
magic_by first header (inl is) = inl (eqb-true first MAGIC is)
magic_by first header (inr none) = let both = both_are (first == 0) (header == 0) none in inr (eqb-true first 0 both.0, eqb-true header 0 both.1)

magic_of : (image : List ℕ) → has_magic image ≡ true → (slice_index image 0 ≡ MAGIC) ⊎ ((slice_index image 0 ≡ 0) × (slice_index image 1 ≡ 0))
magic_of image has = magic_by (slice_index image 0) (slice_index image 1) (either_holds (slice_index image 0 == MAGIC) (slice_index image 0 == 0 && slice_index image 1 == 0) has)

-- ---- the header

-- a header and its number, which fits in the layout
abbrev Reads : Layout → ℕ → ℕ → Type 0
Reads layout word generation = IsHeaderFor layout word generation × (generation ≤ 2 * period_of layout + 1)

triple : (told : ℕ × ℕ × ℕ) (size version : ℕ) → told.0 ≡ size → told.1 ≡ version → told ≡ (size, version, told.2)
triple told size version same_size same_version = rw (← same_size, ← same_version) refl

reads_two : (word : ℕ) → word < 2 ^ 64 → (header_of word).0 ≡ 80 → (header_of word).1 ≡ 2 → ((header_of word).2 < 2 ^ 16) × (word ≡ word1_of Two (header_of word).2)
reads_two word fits size version = made_two word (header_of word).2 fits (triple (header_of word) 80 2 size version)

three_number : (word : ℕ) → word % 2 ^ 32 ≡ LOW_HALF_THREE → (header_of word).2 ≡ word / 2 ^ 32
three_number word low = rw low refl

reads_by : (layout : Layout) (word : ℕ) → word < 2 ^ 64 → ((header_of word).0 == 80) ≡ true → reads_version layout word ≡ true → Reads layout word (header_of word).2
reads_by Two word fits size version =
    let made = reads_two word fits (eqb-true (header_of word).0 80 size) (eqb-true (header_of word).1 2 version) in
    (made.1, (let few = made.0 in omega (arith, few)))
reads_by Three word fits size version =
    elim (either_holds ((header_of word).1 == 2) (word % 2 ^ 32 == LOW_HALF_THREE) version) [
      | inl two ↦
          let made = reads_two word fits (eqb-true (header_of word).0 80 size) (eqb-true (header_of word).1 2 two) in
          (inl made.1, (let few = made.0 in omega (arith, few)))
      | inr three ↦
          let low : word % 2 ^ 32 ≡ LOW_HALF_THREE = eqb-true (word % 2 ^ 32) LOW_HALF_THREE three in
          let number = three_number word low in
          (inr (made_three word low ∙ ap (word1_of Three) (sym number)), omega (arith, number, fits))
    ]

header_reads : (layout : Layout) (word : ℕ) → word < 2 ^ 64 → first_fault (header_tests layout word) ≡ None → Reads layout word (header_of word).2
header_reads layout word fits none =
    let both = all_hold (header_tests layout word) none in
    reads_by layout word fits both.0 both.1.0

-- ---- the start

start_of_zero : (layout : Layout) (image : List ℕ) (start : Start) → slice_index image 1 ≡ 0 → ◌≡◌ {A = Result Start ImageFault} (Ok Fresh) (Ok start) → Holds layout image start
start_of_zero layout image start none is =
    let same : Fresh ≡ start = cc is in
    subst (λ (s : Start). Holds layout image s) same (inl none)

start_of_number : (layout : Layout) (image : List ℕ) (generation : ℕ) (start : Start) → Reads layout (slice_index image 1) generation → start_at image generation ≡ Ok start → Holds layout image start
start_of_number layout image generation start reads is =
    elim (cases_eq generation 0) [
      | inl none ↦
          let test : (generation == 0) ≡ true = grind (arith, nat_tests) in
          let found : ◌≡◌ {A = Result Start ImageFault} (Ok Fresh) (Ok start) = rw test at is in
          let same : Fresh ≡ start = cc found in
          subst (λ (s : Start). Holds layout image s) same (inr (subst (λ (g : ℕ). IsHeaderFor layout (slice_index image 1) g) none reads.0))
      | inr some ↦
          let some_test : (generation == 0) ≡ false = grind (arith, nat_tests) in
          elim (cases_eq (generation % 2) 1) [
            | inl odd ↦
                let odd_test : (generation % 2 == 1) ≡ true = grind (arith, nat_tests) in
                let found : ◌≡◌ {A = Result Start ImageFault} (Ok (Torn generation)) (Ok start) = rw (some_test, odd_test) at is in
                let same : Torn generation ≡ start = cc found in
                subst (λ (s : Start). Holds layout image s) same (reads.0, (odd, reads.1))
            | inr even ↦
                let even_test : (generation % 2 == 1) ≡ false = grind (arith, nat_tests) in
                let found : unless (first_fault (data_tests image)) (Ok (Kept generation (fields_of_words image))) ≡ Ok start = rw (some_test, even_test) at is in
                let passed = given_unless (first_fault (data_tests image)) (Ok (Kept generation (fields_of_words image))) start found in
                let kept : ◌≡◌ {A = Result Start ImageFault} (Ok (Kept generation (fields_of_words image))) (Ok start) = passed.1 in
                let same : Kept generation (fields_of_words image) ≡ start = cc kept in
                let most = reads.1 in
                subst (λ (s : Start). Holds layout image s) same
                (reads.0, (omega arith, (omega arith, (omega (arith, most), (refl, good_from_tests image passed.0)))))
          ]
    ]

pub admitted_holds : (layout : Layout) (image : List ℕ) (start : Start) → slice_index image 1 < 2 ^ 64 → image_of layout image ≡ Ok start → IsAdmittedAs layout image start
unfolding image_of
admitted_holds layout image start fits is =
    let header : ℕ = slice_index image 1 in
    let by_header : Result Start ImageFault = unless (first_fault (header_tests layout (slice_index image 1))) (start_at image (header_of (slice_index image 1)).2) in
    let magic = passes_if (has_magic image) (if slice_index image 1 == 0 then Ok Fresh else by_header) fault.Magic start is in
    record {
      magic = magic_of image magic.0;
      holds = elim (cases_eq (slice_index image 1) 0) [
        | inl none ↦
            let test : (slice_index image 1 == 0) ≡ true = grind (arith, nat_tests) in
            start_of_zero layout image start none (rw test at magic.1)
        | inr some ↦
            let test : (slice_index image 1 == 0) ≡ false = grind (arith, nat_tests) in
            let later : by_header ≡ Ok start = rw test at magic.1 in
            let passed = given_unless (first_fault (header_tests layout (slice_index image 1))) (start_at image (header_of (slice_index image 1)).2) start later in
            start_of_number layout image (header_of (slice_index image 1)).2 start (header_reads layout (slice_index image 1) fits passed.0) passed.1
      ];
    }

-- ---- numbers

-- up to a period the number is twice the position
number_doubled : (layout : Layout) (position : ℕ) → position ≤ period_of layout → generation_at (period_of layout) position ≡ 2 * position
number_doubled layout zero few = refl
number_doubled layout (suc position) few =
    let itself : position % period_of layout ≡ position = mod-eq_of_lt few in
    omega (arith, itself)

half_even : (layout : Layout) (generation : ℕ) → generation % 2 ≡ 0 → generation ≤ 2 * period_of layout → generation_at (period_of layout) (generation / 2) ≡ generation
half_even layout generation even few = number_doubled layout (generation / 2) (omega arith) ∙ omega (arith, even)

half_odd : (layout : Layout) (generation : ℕ) → generation % 2 ≡ 1 → generation ≤ 2 * period_of layout + 1 → generation_at (period_of layout) (generation / 2) + 1 ≡ generation
half_odd layout generation odd few = let half = number_doubled layout (generation / 2) (omega arith) in omega (arith, half, odd)

-- ---- the record of good words keeps its bounds

pub good_keeps_bounds : (words : List ℕ) → AreGoodWords words → KeepsBounds (fields_of_words words).as_of (fields_of_words words).void_after (fields_of_words words).bound (fields_of_words words).drift
good_keeps_bounds words good =
    let as_of_seconds = (good 2 (omega arith) (omega arith)).as_of_seconds refl in
    let as_of_nanos = (good 3 (omega arith) (omega arith)).as_of_nanos refl in
    let void_after_seconds = (good 4 (omega arith) (omega arith)).void_after_seconds refl in
    let void_after_nanos = (good 5 (omega arith) (omega arith)).void_after_nanos refl in
    let bound = (good 6 (omega arith) (omega arith)).bound refl in
    let drift = (good 8 (omega arith) (omega arith)).drift refl in
    record {
      as_of_low = omega (arith, ints);
      as_of_high = omega (arith, ints, as_of_seconds, as_of_nanos);
      void_after_low = omega (arith, ints);
      void_after_high = omega (arith, ints, void_after_seconds, void_after_nanos);
      bound_low = omega (arith, ints);
      bound_high = omega (arith, ints, bound);
      drift_high = drift;
    }

-- ---- an image by what it holds

abbrev bare_segment : Layout → List ℕ → (position : ℕ) → Bool → SegmentRun
bare_segment layout image position writes = segment_of_image layout image position position writes []

abbrev kept_segment : Layout → List ℕ → (position : ℕ) → Publication → SegmentRun
kept_segment layout image position publication = segment_of_image layout image (position - 1) position false (publication ∷ [])

-- a segment where no record is known
bare_is : (layout : Layout) (image : List ℕ) (position : ℕ) (writes : Bool) → (writes ≡ false → position ≡ 0)
    → (slice_index image 1 ≡ 0) ⊎ IsHeaderFor layout (slice_index image 1) (number_shown (bare_segment layout image position writes))
    → (slice_index image 1 ≡ 0 → (position ≡ 0) × (writes ≡ false)) → IsSegment (bare_segment layout image position writes)
bare_is layout image position writes at_none header none =
    record {
      known = omega arith;
      calm = λ calm some. absurd (let zero_position = at_none calm in omega (arith, zero_position, some));
      writes = λ is. inr refl;
      stands = λ calm above. absurd (omega (arith, above));
      records = λ other above below. absurd (omega (arith, above, below));
      header = header;
      none = none;
    }

-- what ten good words hold is their record
words_hold : (layout : Layout) (image : List ℕ) (position : ℕ) (publication : Publication) → length image ≡ 10 → AreGoodWords image → publication.rec ≡ fields_of_words image → HoldsWords (kept_segment layout image position publication) publication.rec
words_hold layout image position publication ten good is word low high =
    item_after image (data_words publication.rec) word (data_words-fields_of_words image ten good ∙ ap data_words (sym is)) low
  where
    item_after : (xs ys : List ℕ) (n : ℕ) → drop 2 xs ≡ ys → 2 ≤ n → slice_index xs n ≡ slice_index (MAGIC ∷ 0 ∷ ys) n
    item_after xs ys zero same low = absurd (omega arith)
    item_after xs ys (suc zero) same low = absurd (omega arith)
    item_after [] ys (suc (suc n)) same low = ap (λ (zs : List ℕ). slice_index zs n) same
    item_after (x ∷ []) ys (suc (suc n)) same low = ap (λ (zs : List ℕ). slice_index zs n) same
    item_after (x ∷ y ∷ xs) ys (suc (suc n)) same low = ap (λ (zs : List ℕ). slice_index zs n) same

kept_newest : (layout : Layout) (image : List ℕ) (position : ℕ) (publication : Publication) (at : ℕ) → 0 < position → at ≡ position → published_at (kept_segment layout image position publication) at ≡ publication
kept_newest layout image position publication at some same =
    let place : at - (position - 1) - 1 ≡ 0 = omega arith in
    ap (λ (n : ℕ). slice_index_or (publication ∷ []) n no_publication) place

kept_is : (layout : Layout) (image : List ℕ) (position : ℕ) (publication : Publication) → 0 < position → IsHeaderFor layout (slice_index image 1) (generation_at (period_of layout) position) → slice_index image 1 ≢ 0
    → KeepsBounds publication.rec.as_of publication.rec.void_after publication.rec.bound publication.rec.drift → HoldsWords (kept_segment layout image position publication) publication.rec
    → IsSegment (kept_segment layout image position publication)
kept_is layout image position publication some header some_header bounds holds =
    record {
      known = omega arith;
      calm = λ calm above. omega arith;
      writes = λ writes. absurd (cc writes);
      stands = λ calm above word low high.
          holds word low high ∙ ap (λ (p : Publication). slice_index (record_words 0 p.rec) word) (sym (kept_newest layout image position publication position some refl));
      records = λ other above below.
          subst (λ (p : Publication). KeepsBounds p.rec.as_of p.rec.void_after p.rec.bound p.rec.drift) (sym (kept_newest layout image position publication other some (omega (arith, above, below)))) bounds;
      header = inr (subst (λ (n : ℕ). IsHeaderFor layout (slice_index image 1) n) (omega arith) header);
      none = λ none. absurd (some_header none);
    }

-- ---- the words that begin with the image

image_shows : (segment : SegmentRun) (words : List ℕ) → IsSegment segment → length words ≡ 24 → ((word : ℕ) → word < 10 → slice_index words word ≡ slice_index segment.image word)
    → (slice_index segment.image 0 ≡ MAGIC) ⊎ ((slice_index segment.image 0 ≡ 0) × (slice_index segment.image 1 ≡ 0)) → segment.is_headed ≡ false → segment.begun ≡ [] → ShowsSegment segment words
image_shows segment words is wide same magic unheaded none =
    record {
      is = is;
      wide = wide;
      magic = magic_same (slice_index segment.image 0) (slice_index segment.image 1) (slice_index words 0) (slice_index words 1) (same 0 (omega arith)) (same 1 (omega arith)) magic;
      header = same 1 (omega arith) ∙ image_header;
      data_words = λ word low high. same word high ∙ ap (λ (b : List Begun). last_store segment.image b word) (sym none);
    }
  where
    image_header : slice_index segment.image 1 ≡ header_shown segment
    image_header = rw unheaded refl

    magic_same : (first header now_first now_header : ℕ) → now_first ≡ first → now_header ≡ header → (first ≡ MAGIC) ⊎ ((first ≡ 0) × (header ≡ 0)) → (now_first ≡ MAGIC) ⊎ ((now_first ≡ 0) × (now_header ≡ 0))
    magic_same first header now_first now_header e f (inl m) = inl (e ∙ m)
    magic_same first header now_first now_header e f (inr z) = inr (e ∙ z.0, f ∙ z.1)

-- ---- how a segment begins

-- the segment that an image begins with is one, and its position is half the number that the header tells
pub record IsStartOf (layout : Layout) (image : List ℕ) (segment : SegmentRun) : Type 0 where
  pub is : IsSegment segment
  pub layout_is : segment.layout ≡ layout
  pub image_is : segment.image ≡ image
  pub unheaded : segment.is_headed ≡ false
  pub none_begun : segment.begun ≡ []

header_some : (layout : Layout) (word generation : ℕ) → IsHeaderFor layout word generation → word ≢ 0
header_some Two word generation is = λ none. own_header_some Two generation (sym is ∙ none)
header_some Three word generation (inl is) = λ none. own_header_some Two generation (sym is ∙ none)
header_some Three word generation (inr is) = λ none. own_header_some Three generation (sym is ∙ none)

start_is : (layout : Layout) (image : List ℕ) (sequence : ℕ) (start : Start) → length image ≡ 10 → Holds layout image start → IsSegment (segment_by layout image sequence start)
start_is layout image sequence Fresh ten holds = bare_is layout image 0 false (λ calm. refl) holds (λ none. (refl, refl))
start_is layout image sequence (Torn generation) ten holds =
    let number : generation ≡ generation_at (period_of layout) (generation / 2) + 1 = sym (half_odd layout generation holds.1.0 holds.1.1) in
    bare_is layout image (generation / 2) true (λ calm. absurd (cc calm))
    (inr (subst (λ (n : ℕ). IsHeaderFor layout (slice_index image 1) n) number holds.0))
    (λ none. absurd (header_some layout (slice_index image 1) generation holds.0 none))
start_is layout image sequence (Kept generation rec) ten holds =
    let even = holds.1.0 in
    let some = holds.1.1.0 in
    let number : generation ≡ generation_at (period_of layout) (generation / 2) = sym (half_even layout generation holds.1.0 holds.1.1.1.0) in
    let good = holds.1.1.1.1.1 in
    let rec_is : rec ≡ fields_of_words image = holds.1.1.1.1.0 in
    kept_is layout image (generation / 2) (image_publication sequence generation rec) (omega (arith, even, some))
    (subst (λ (n : ℕ). IsHeaderFor layout (slice_index image 1) n) number holds.0)
    (header_some layout (slice_index image 1) generation holds.0)
    (subst (λ (r : RecordFields). KeepsBounds r.as_of r.void_after r.bound r.drift) (sym rec_is) (good_keeps_bounds image good))
    (words_hold layout image (generation / 2) (image_publication sequence generation rec) ten good rec_is)

begins_of : (layout : Layout) (image : List ℕ) (sequence : ℕ) (start : Start) → length image ≡ 10 → Holds layout image start → IsStartOf layout image (segment_by layout image sequence start)
begins_of layout image sequence Fresh ten holds = record { is = start_is layout image sequence Fresh ten holds; layout_is = refl; image_is = refl; unheaded = refl; none_begun = refl }
begins_of layout image sequence (Torn generation) ten holds =
    record { is = start_is layout image sequence (Torn generation) ten holds; layout_is = refl; image_is = refl; unheaded = refl; none_begun = refl }
begins_of layout image sequence (Kept generation rec) ten holds =
    record { is = start_is layout image sequence (Kept generation rec) ten holds; layout_is = refl; image_is = refl; unheaded = refl; none_begun = refl }

-- a record is kept under an even number above 0
pub kept_number : (words : List ℕ) (number generation : ℕ) (rec : RecordFields) → start_by words number ≡ Kept generation rec → (generation % 2 ≡ 0) × (0 < generation)
kept_number words number generation rec is = by_tests (number == 0) (number % 2 == 1) refl refl is
  where
    by_tests : (none odd : Bool) → (number == 0) ≡ none → (number % 2 == 1) ≡ odd
        → (if none then Fresh else if odd then Torn number else Kept number (fields_of_words words)) ≡ Kept generation rec → (generation % 2 ≡ 0) × (0 < generation)
    by_tests true odd zero_is odd_is e = absurd cc
    by_tests false true zero_is odd_is e = absurd cc
    by_tests false false zero_is odd_is e =
        let same : number ≡ generation = cc in
        let even : number % 2 ≡ 0 = grind (arith, nat_tests) in
        let some : 0 < number = grind (arith, nat_tests) in
        subst (λ (n : ℕ). (n % 2 ≡ 0) × (0 < n)) same (even, some)

-- the words that begin with an image that is admitted show the segment that it begins with
pub segment_start_shows : (layout : Layout) (image words : List ℕ) (sequence : ℕ) (start : Start) → length image ≡ 10 → slice_index image 1 < 2 ^ 64 → image_of layout image ≡ Ok start
    → length words ≡ 24 → ((word : ℕ) → word < 10 → slice_index words word ≡ slice_index image word) → ShowsSegment (segment_start layout image sequence) words
segment_start_shows layout image words sequence start ten fits admitted wide same =
    let holds = admitted_holds layout image start fits admitted in
    let of_image = begins_of layout image sequence start ten holds.holds in
    subst (λ (found : Start). ShowsSegment (segment_by layout image sequence found) words) (sym (image_of-start layout image start admitted))
    (image_shows (segment_by layout image sequence start) words of_image.is wide
    (λ word low. same word low ∙ ap (λ (ws : List ℕ). slice_index ws word) (sym of_image.image_is))
    (subst (λ (ws : List ℕ). (slice_index ws 0 ≡ MAGIC) ⊎ ((slice_index ws 0 ≡ 0) × (slice_index ws 1 ≡ 0))) (sym of_image.image_is) holds.magic)
    of_image.unheaded of_image.none_begun)

-- ---- the position that word 1 tells

fresh_told : (layout : Layout) (word : ℕ) → (word ≡ 0) ⊎ IsHeaderFor layout word 0 → generation_in word ≡ 0
fresh_told layout word (inl none) = ap generation_in none
fresh_told layout word (inr is) = header_tells layout word 0 is

start_position : (layout : Layout) (image : List ℕ) (sequence : ℕ) (start : Start) → Holds layout image start
    → (generation_in (slice_index image 1) ≡ generation_of_start start) × (generation_in (slice_index image 1) / 2 ≡ (segment_by layout image sequence start).position)
start_position layout image sequence Fresh holds =
    let tells = fresh_told layout (slice_index image 1) holds in
    (tells, ap (λ (n : ℕ). n / 2) tells)
start_position layout image sequence (Torn generation) holds =
    let tells = header_tells layout (slice_index image 1) generation holds.0 in
    (tells, ap (λ (n : ℕ). n / 2) tells)
start_position layout image sequence (Kept generation rec) holds =
    let tells = header_tells layout (slice_index image 1) generation holds.0 in
    (tells, ap (λ (n : ℕ). n / 2) tells)

-- word 1 of an image that is admitted tells the generation of what it holds, and half of it is the position
pub segment_start_told : (layout : Layout) (image : List ℕ) (sequence : ℕ) (start : Start) → slice_index image 1 < 2 ^ 64 → image_of layout image ≡ Ok start
    → (generation_in (slice_index image 1) ≡ generation_of_start start) × (generation_in (slice_index image 1) / 2 ≡ (segment_start layout image sequence).position)
segment_start_told layout image sequence start fits admitted =
    subst (λ (found : Start). (generation_in (slice_index image 1) ≡ generation_of_start start) × (generation_in (slice_index image 1) / 2 ≡ (segment_by layout image sequence found).position)) (sym (image_of-start layout image start admitted))
    (start_position layout image sequence start (admitted_holds layout image start fits admitted).holds)

-- ---- what an opening finds in it

torn_found : (layout : Layout) (image : List ℕ) (generation : ℕ) → generation % 2 ≡ 1 → generation ≤ 2 * period_of layout + 1 → start_found (bare_segment layout image (generation / 2) true) ≡ Torn generation
torn_found layout image generation odd most = ap Torn (half_odd layout generation odd most)

kept_found : (layout : Layout) (image : List ℕ) (position : ℕ) (publication : Publication) (generation : ℕ) → 0 < position → generation_at (period_of layout) position ≡ generation → start_found (kept_segment layout image position publication) ≡ Kept generation publication.rec
kept_found layout image position publication generation some number =
    let test : (position == 0) ≡ false = grind (arith, nat_tests) in
    let shown : generation_at (period_of layout) position + 0 ≡ generation = omega (arith, number) in
    rw test (ap (λ (g : ℕ). Kept g (published_at (kept_segment layout image position publication) position).rec) shown
    ∙ ap (λ (p : Publication). Kept generation p.rec) (kept_newest layout image position publication position some refl))

found_by : (layout : Layout) (image : List ℕ) (sequence : ℕ) (start : Start) → Holds layout image start → start_found (segment_by layout image sequence start) ≡ start
found_by layout image sequence Fresh holds = refl
found_by layout image sequence (Torn generation) holds = torn_found layout image generation holds.1.0 holds.1.1
found_by layout image sequence (Kept generation rec) holds =
    let even = holds.1.0 in
    let some = holds.1.1.0 in
    kept_found layout image (generation / 2) (image_publication sequence generation rec) generation (omega (arith, even, some)) (half_even layout generation holds.1.0 holds.1.1.1.0)

-- the first opening finds what the image holds
pub segment_start_found : (layout : Layout) (image : List ℕ) (sequence : ℕ) (start : Start) → slice_index image 1 < 2 ^ 64 → image_of layout image ≡ Ok start → start_found (segment_start layout image sequence) ≡ start
segment_start_found layout image sequence start fits admitted =
    subst (λ (found : Start). start_found (segment_by layout image sequence found) ≡ start) (sym (image_of-start layout image start admitted))
    (found_by layout image sequence start (admitted_holds layout image start fits admitted).holds)
