-- The first ten words are an image of what an opening finds, at every moment.
use Rattle.std.proofs.Common.{◌≡◌, ◌≢◌, ℕ, zero, suc, ◌^◌, ◌<◌, Bool, true, false, List, Ok, length, take, refl, sym, ◌∙◌, subst, arith, inl, inr, length-take-le}
use Rattle.std.specs.Prelude.{◌⊎◌, ◌==◌, if◌then◌else◌, slice_index}
use Rattle.std.proofs.lemmas.Bool.Decides.{nat_tests}
use Rattle.std.proofs.lemmas.List.{ext_get_or, get_or-take}
use Rattle.segment_layout.specs.declared.words.TheConstants.{MAGIC}
use Rattle.segment_layout.specs.declared.start.Start.TheVariants.{Fresh, Kept, Torn}
use Rattle.segment_layout.specs.Words.{record_words}
use Rattle.segment_layout.specs.Image.{IsHeaderFor, HasGeneration, HoldsNothing, IsImageOf, image_of}
use Rattle.segment_layout.proofs.Admitted.{image_of-only}
use Rattle.segment_run.specs.SegmentRun.{SegmentRun, header_shown, number_shown, published_at, start_found}
use Rattle.segment_run.specs.ShowsSegment.{ShowsSegment}
use Rattle.segment_run.proofs.SegmentHeader.{number_at_rest, number_in_update, number_even, number_positive, header_of_published, header_in_update, magic_of_header}

first_ten : (words : List ℕ) (word : ℕ) → word < 10 → slice_index (take 10 words) word ≡ slice_index words word
first_ten words word low = get_or-take 10 words word 0 low

-- the magic and a header with the number shown
shown_generation : (segment : SegmentRun) (words : List ℕ) → ShowsSegment segment words → header_shown segment ≢ 0 → IsHeaderFor segment.layout (header_shown segment) (number_shown segment) → HasGeneration segment.layout (take 10 words) (number_shown segment)
shown_generation segment words shows some header =
    record {
      magic = first_ten words 0 (omega arith) ∙ magic_of_header segment words shows some;
      header = subst (λ (word : ℕ). IsHeaderFor segment.layout word (number_shown segment)) (sym (first_ten words 1 (omega arith) ∙ shows.header)) header;
    }

some_in_update : (segment : SegmentRun) (words : List ℕ) → ShowsSegment segment words → segment.is_writing ≡ true → header_shown segment ≢ 0
some_in_update segment words shows writes none = let calm = (shows.is.none none).1 in absurd (cc (calm, writes))

some_published : (segment : SegmentRun) (words : List ℕ) → ShowsSegment segment words → 0 < segment.position → header_shown segment ≢ 0
some_published segment words shows some none = let position = (shows.is.none none).0 in absurd (omega (arith, position, some))

torn_image : (segment : SegmentRun) (words : List ℕ) → ShowsSegment segment words → segment.is_writing ≡ true → IsImageOf segment.layout (take 10 words) (Torn (number_shown segment))
torn_image segment words shows writes =
    let number = number_in_update segment writes in
    let even = number_even segment segment.position in
    (shown_generation segment words shows (some_in_update segment words shows writes) (header_in_update segment shows.is writes), omega (arith, number, even))

-- nothing was published
nothing_by : (segment : SegmentRun) (words : List ℕ) (first header : ℕ) → first ≡ slice_index (take 10 words) 0 → header ≡ slice_index (take 10 words) 1 → (first ≡ MAGIC) ⊎ ((first ≡ 0) × (header ≡ 0))
    → (header ≡ 0) ⊎ IsHeaderFor segment.layout header 0 → HoldsNothing segment.layout (take 10 words)
nothing_by segment words first header same_first same_header (inr none) shown = inl (sym same_header ∙ none.1, inl (sym same_first ∙ none.0))
nothing_by segment words first header same_first same_header (inl magic) (inl none) = inl (sym same_header ∙ none, inr (sym same_first ∙ magic))
nothing_by segment words first header same_first same_header (inl magic) (inr is) =
    inr (record { magic = sym same_first ∙ magic; header = subst (λ (word : ℕ). IsHeaderFor segment.layout word 0) same_header is })

fresh_image : (segment : SegmentRun) (words : List ℕ) → ShowsSegment segment words → segment.is_writing ≡ false → segment.position ≡ 0 → IsImageOf segment.layout (take 10 words) Fresh
fresh_image segment words shows calm none =
    let number : number_shown segment ≡ 0 = rw (none, calm) refl in
    nothing_by segment words (slice_index words 0) (slice_index words 1) (sym (first_ten words 0 (omega arith))) (sym (first_ten words 1 (omega arith))) shows.magic
    (subst (λ (word : ℕ). (word ≡ 0) ⊎ IsHeaderFor segment.layout word 0) (sym shows.header)
    (subst (λ (n : ℕ). (header_shown segment ≡ 0) ⊎ IsHeaderFor segment.layout (header_shown segment) n) number shows.is.header))

-- the record of the last publication
spelled_word : (segment : SegmentRun) (words : List ℕ) → ShowsSegment segment words → segment.is_writing ≡ false → 0 < segment.position → (word : ℕ) → word < 10
    → slice_index (take 10 words) word ≡ slice_index (record_words (slice_index (take 10 words) 1) (published_at segment segment.position).rec) word
spelled_word segment words shows calm some zero low = first_ten words 0 (omega arith) ∙ magic_of_header segment words shows (some_published segment words shows some)
spelled_word segment words shows calm some (suc zero) low = refl
spelled_word segment words shows calm some (suc (suc word)) low =
    first_ten words (suc (suc word)) low ∙ shows.data_words (suc (suc word)) (omega arith) low ∙ shows.is.stands calm (shows.is.calm calm some) (suc (suc word)) (omega arith) low

kept_image : (segment : SegmentRun) (words : List ℕ) → ShowsSegment segment words → segment.is_writing ≡ false → 0 < segment.position → IsImageOf segment.layout (take 10 words) (Kept (number_shown segment) (published_at segment segment.position).rec)
kept_image segment words shows calm some =
    let number = number_at_rest segment calm in
    let even = number_even segment segment.position in
    let positive = number_positive segment segment.position some in
    let wide = shows.wide in
    let ten : length (take 10 words) ≡ 10 = length-take-le 10 words (omega (arith, wide)) in
    record {
      header = shown_generation segment words shows (some_published segment words shows some) (header_of_published segment shows.is some);
      even = omega (arith, number, even);
      published = omega (arith, number, positive);
      spelled = ext_get_or 0 (take 10 words) (record_words (slice_index (take 10 words) 1) (published_at segment segment.position).rec) ten
          (λ word low. spelled_word segment words shows calm some word (omega (arith, low, ten)));
      bounds = shows.is.records segment.position (shows.is.calm calm some) (omega arith);
    }

image_by : (segment : SegmentRun) (words : List ℕ) (writes none : Bool) → ShowsSegment segment words → segment.is_writing ≡ writes → (segment.position == 0) ≡ none
    → IsImageOf segment.layout (take 10 words) (if writes then Torn (number_shown segment) else if none then Fresh else Kept (number_shown segment) (published_at segment segment.position).rec)
image_by segment words true none shows is at_none = torn_image segment words shows is
image_by segment words false true shows is at_none = fresh_image segment words shows is (grind (arith, nat_tests))
image_by segment words false false shows is at_none = kept_image segment words shows is (grind (arith, nat_tests))

-- the first ten words are an image of what an opening finds
pub segment_image : (segment : SegmentRun) (words : List ℕ) → ShowsSegment segment words → IsImageOf segment.layout (take 10 words) (start_found segment)
segment_image segment words shows = image_by segment words segment.is_writing (segment.position == 0) shows refl refl

-- and they are admitted as that
pub segment_admitted : (segment : SegmentRun) (words : List ℕ) → ShowsSegment segment words → slice_index words 1 < 2 ^ 64 → image_of segment.layout (take 10 words) ≡ Ok (start_found segment)
segment_admitted segment words shows fits =
    let header = first_ten words 1 (omega arith) in
    image_of-only segment.layout (take 10 words) (start_found segment) (omega (arith, header, fits)) (segment_image segment words shows)
