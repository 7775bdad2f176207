-- A later segment: what stays published, and what a step keeps that leaves the words.
use Rattle.std.proofs.Common.{◌≡◌, ℕ, ◌+◌, ◌-◌, ◌*◌, ◌<◌, ◌≤◌, Bool, true, false, List, [], length, refl, ap, sym, ◌∙◌, arith, inl, inr, append-nil}
use Rattle.std.specs.Prelude.{◌⊎◌, slice_index, slice_index_or}
use Rattle.std.proofs.lemmas.List.{get_or_append_left}
use Rattle.segment_layout.specs.declared.words.TheConstants.{MAGIC}
use Rattle.segment_layout.specs.declared.publication.Publication.{Publication}
use Rattle.segment_layout.specs.Words.{flag_of}
use Rattle.segment_run.specs.SegmentRun.{SegmentRun, published_at, no_publication}
use Rattle.segment_run.specs.ShowsSegment.{ShowsSegment, IsSegmentLater, KeepsSegment}

-- ---- points

-- a later point has a later position
pub later_position : (p q : ℕ) (b c : Bool) → 2 * p + flag_of b ≤ 2 * q + flag_of c → p ≤ q
later_position p q true true h = omega arith
later_position p q true false h = omega arith
later_position p q false true h = omega arith
later_position p q false false h = omega arith

-- where a later point is at rest at the same position, the point was at rest
pub calm_before : (p q : ℕ) (b c : Bool) → 2 * p + flag_of b ≤ 2 * q + flag_of c → q ≡ p → c ≡ false → b ≡ false
calm_before p q true true h same calm = absurd (cc calm)
calm_before p q true false h same calm = absurd (omega arith)
calm_before p q false c h same calm = refl

-- ---- later segments

pub later_same : (segment : SegmentRun) → IsSegmentLater segment segment
later_same segment =
    record { layout = refl; image = refl; base = refl; point = omega arith; more = []; history = sym (append-nil segment.history); header = λ same calm some. refl }

-- what was published stays published
pub published_later : (old new : SegmentRun) (position : ℕ) → length old.history + old.base ≡ old.position → IsSegmentLater old new → old.base < position → position ≤ old.position
    → published_at new position ≡ published_at old position
published_later old new position known later above below =
    let place : position - new.base - 1 ≡ position - old.base - 1 = ap (λ (base : ℕ). position - base - 1) later.base in
    ap (λ (n : ℕ). slice_index_or new.history n no_publication) place
    ∙ ap (λ (h : List Publication). slice_index_or h (position - old.base - 1) no_publication) later.history
    ∙ get_or_append_left old.history later.more no_publication (position - old.base - 1) (omega arith)

-- ---- the words

magic_keeps : (words after : List ℕ) → KeepsSegment words after → (slice_index words 0 ≡ MAGIC) ⊎ ((slice_index words 0 ≡ 0) × (slice_index words 1 ≡ 0))
    → (slice_index after 0 ≡ MAGIC) ⊎ ((slice_index after 0 ≡ 0) × (slice_index after 1 ≡ 0))
magic_keeps words after keeps (inl is) = inl (keeps.same 0 (omega arith) ∙ is)
magic_keeps words after keeps (inr none) = inr (keeps.same 0 (omega arith) ∙ none.0, keeps.same 1 (omega arith) ∙ none.1)

-- a step that leaves the segment's words
pub segment_keeps : (segment : SegmentRun) (words after : List ℕ) → ShowsSegment segment words → KeepsSegment words after → length after ≡ length words → ShowsSegment segment after
segment_keeps segment words after shows keeps same =
    record {
      is = shows.is;
      wide = same ∙ shows.wide;
      magic = magic_keeps words after keeps shows.magic;
      header = keeps.same 1 (omega arith) ∙ shows.header;
      data_words = λ word low high. keeps.same word high ∙ shows.data_words word low high;
    }
