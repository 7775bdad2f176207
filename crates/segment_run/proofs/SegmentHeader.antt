-- What the header of a segment tells.
use Rattle.std.proofs.Common.{◌≡◌, ◌≢◌, ℕ, ◌+◌, ◌*◌, ◌/◌, ◌%◌, ◌^◌, ◌<◌, true, false, refl, ap, sym, ◌∙◌, arith, inl, inr, List}
use Rattle.std.specs.Prelude.{◌⊎◌, slice_index}
use Rattle.generation_word.specs.declared.header.TheConstants.{LOW_HALF_THREE}
use Rattle.generation_word.specs.declared.layout.Layout.{Layout}
use Rattle.generation_word.specs.declared.layout.Layout.TheVariants.{Two, Three}
use Rattle.generation_word.specs.Header.{word1_of, header_of, generation_in}
use Rattle.generation_word.specs.Layout.{period_of}
use Rattle.generation_word.proofs.Laws.{generation_at-even, generation_at_positive}
use Rattle.segment_layout.specs.Image.{IsHeaderFor}
use Rattle.segment_layout.specs.declared.words.TheConstants.{MAGIC}
use Rattle.segment_run.specs.SegmentRun.{SegmentRun, number_at, number_shown, header_shown}
use Rattle.segment_run.specs.ShowsSegment.{IsSegment, ShowsSegment}

told_two : (g : ℕ) → header_of (word1_of Two g) ≡ (80, 2, g)
told_two g =
    let low : (80 + 2 * 2 ^ 32 + g * 2 ^ 48) % 2 ^ 32 ≡ 80 = omega arith in
    let version : (80 + 2 * 2 ^ 32 + g * 2 ^ 48) / 2 ^ 32 % 2 ^ 16 ≡ 2 = omega arith in
    let number : (80 + 2 * 2 ^ 32 + g * 2 ^ 48) / 2 ^ 48 ≡ g = omega arith in
    rw (low, version, number) refl

pub told_three : (g : ℕ) → header_of (word1_of Three g) ≡ (80, 3, g)
told_three g =
    let low : (LOW_HALF_THREE + g * 2 ^ 32) % 2 ^ 32 ≡ LOW_HALF_THREE = omega arith in
    let number : (LOW_HALF_THREE + g * 2 ^ 32) / 2 ^ 32 ≡ g = omega arith in
    rw (low, number) refl

number_two : (g : ℕ) → generation_in (word1_of Two g) ≡ g
number_two g = ap (λ (x : ℕ × ℕ × ℕ). x.2) (told_two g)

number_three : (g : ℕ) → generation_in (word1_of Three g) ≡ g
number_three g = ap (λ (x : ℕ × ℕ × ℕ). x.2) (told_three g)

-- a header tells its generation, in whichever layout
pub header_tells : (layout : Layout) (word g : ℕ) → IsHeaderFor layout word g → generation_in word ≡ g
header_tells Two word g is = ap generation_in is ∙ number_two g
header_tells Three word g (inl is) = ap generation_in is ∙ number_two g
header_tells Three word g (inr is) = ap generation_in is ∙ number_three g

-- the layout's own header is a header
pub own_header : (layout : Layout) (g : ℕ) → IsHeaderFor layout (word1_of layout g) g
own_header Two g = refl
own_header Three g = inr refl

pub own_header_some : (layout : Layout) (g : ℕ) → word1_of layout g ≢ 0
own_header_some Two g = λ none. absurd (omega arith)
own_header_some Three g = λ none. absurd (omega arith)

pub period_positive : (layout : Layout) → 0 < period_of layout
period_positive Two = omega arith
period_positive Three = omega arith

-- the number at rest is that of the position, and in an update one more
pub number_at_rest : (segment : SegmentRun) → segment.is_writing ≡ false → number_shown segment ≡ number_at segment segment.position
number_at_rest segment calm = rw calm (omega arith)

pub number_in_update : (segment : SegmentRun) → segment.is_writing ≡ true → number_shown segment ≡ number_at segment segment.position + 1
number_in_update segment writes = rw writes refl

pub number_even : (segment : SegmentRun) (position : ℕ) → number_at segment position % 2 ≡ 0
number_even segment position = generation_at-even (period_of segment.layout) position

pub number_positive : (segment : SegmentRun) (position : ℕ) → 0 < position → 0 < number_at segment position
number_positive segment position some = generation_at_positive (period_of segment.layout) position some

number_none : (segment : SegmentRun) → (segment.position ≡ 0) × (segment.is_writing ≡ false) → number_shown segment ≡ 0
number_none segment none = rw (none.0, none.1) refl

number_by : (segment : SegmentRun) → (header_shown segment ≡ 0 → (segment.position ≡ 0) × (segment.is_writing ≡ false))
    → (header_shown segment ≡ 0) ⊎ IsHeaderFor segment.layout (header_shown segment) (number_shown segment) → generation_in (header_shown segment) ≡ number_shown segment
number_by segment none (inl zero) = ap generation_in zero ∙ sym (number_none segment (none zero))
number_by segment none (inr is) = header_tells segment.layout (header_shown segment) (number_shown segment) is

-- word 1 tells the number shown
pub number_told : (segment : SegmentRun) → IsSegment segment → generation_in (header_shown segment) ≡ number_shown segment
number_told segment is = number_by segment is.none is.header

header_by : (segment : SegmentRun) (header : ℕ) → header ≢ 0 → (header ≡ 0) ⊎ IsHeaderFor segment.layout header (number_shown segment) → IsHeaderFor segment.layout header (number_shown segment)
header_by segment header some (inl zero) = absurd (some zero)
header_by segment header some (inr is) = is

-- word 1 is a header once something was published, and in an update
pub header_of_published : (segment : SegmentRun) → IsSegment segment → 0 < segment.position → IsHeaderFor segment.layout (header_shown segment) (number_shown segment)
header_of_published segment is some = header_by segment (header_shown segment) (λ zero. (let none = (is.none zero).0 in absurd (omega arith))) is.header

pub header_in_update : (segment : SegmentRun) → IsSegment segment → segment.is_writing ≡ true → IsHeaderFor segment.layout (header_shown segment) (number_shown segment)
header_in_update segment is writes = header_by segment (header_shown segment) (λ zero. (let none = (is.none zero).1 in absurd (cc (none, writes)))) is.header

-- word 0 is the magic where word 1 is not 0
pub magic_of_header : (segment : SegmentRun) (words : List ℕ) → ShowsSegment segment words → header_shown segment ≢ 0 → slice_index words 0 ≡ MAGIC
magic_of_header segment words shows some = magic_by (slice_index words 0) (slice_index words 1) (λ none. some (sym shows.header ∙ none)) shows.magic where
  magic_by : (first header : ℕ) → header ≢ 0 → (first ≡ MAGIC) ⊎ ((first ≡ 0) × (header ≡ 0)) → first ≡ MAGIC
  magic_by first header not_zero (inl is) = is
  magic_by first header not_zero (inr none) = absurd (not_zero none.1)
