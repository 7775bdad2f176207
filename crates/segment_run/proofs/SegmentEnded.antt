-- The segment in the abstract run by itself: when an update is opened, when it ends, and when word 1 is stored with the same number.
use Rattle.std.proofs.Common.{◌≡◌, ◌≢◌, ℕ, ◌+◌, ◌-◌, ◌<◌, ◌≤◌, Bool, true, false, List, [], ◌∷◌, ◌++◌, length, refl, ap, sym, ◌∙◌, subst, arith, inl, inr, length-append, append-nil}
use Rattle.std.specs.Prelude.{◌⊎◌, slice_index, slice_index_or}
use Rattle.std.proofs.lemmas.Bool.{cases_lt}
use Rattle.std.proofs.lemmas.List.{get_or_append_left}
use Rattle.std.proofs.Math.Seq.{get_or-append_seam}
use Rattle.generation_word.specs.Header.{word1_of}
use Rattle.segment_layout.specs.declared.publication.Publication.{Publication}
use Rattle.segment_layout.specs.Image.{IsHeaderFor}
use Rattle.segment_layout.specs.Record.{RecordFields, KeepsBounds}
use Rattle.segment_layout.specs.Words.{record_words, flag_of}
use Rattle.segment_layout.specs.History.{Begun}
use Rattle.segment_run.specs.SegmentRun.{SegmentRun, header_shown, number_at, number_shown, published_at, no_publication, headed}
use Rattle.segment_run.specs.ShowsSegment.{HoldsWords, IsSegment, IsSegmentLater}
use Rattle.segment_run.proofs.SegmentHeader.{own_header, own_header_some}

abbrev pub KeepsBoundsOf : RecordFields → Type 0
KeepsBoundsOf rec = KeepsBounds rec.as_of rec.void_after rec.bound rec.drift

flag_most : (b : Bool) → flag_of b ≤ 1
flag_most true = omega arith
flag_most false = omega arith

-- ---- word 1 was stored

headed_header : (segment : SegmentRun) → segment.is_headed ≡ true → header_shown segment ≡ word1_of segment.layout (number_shown segment)
headed_header segment is = rw is refl

headed_is_header : (segment : SegmentRun) → segment.is_headed ≡ true → (header_shown segment ≡ 0) ⊎ IsHeaderFor segment.layout (header_shown segment) (number_shown segment)
headed_is_header segment is =
    inr (subst (λ (word : ℕ). IsHeaderFor segment.layout word (number_shown segment)) (sym (headed_header segment is)) (own_header segment.layout (number_shown segment)))

headed_some : (segment : SegmentRun) → segment.is_headed ≡ true → header_shown segment ≢ 0
headed_some segment is none = own_header_some segment.layout (number_shown segment) (sym (headed_header segment is) ∙ none)

pub headed_is : (segment : SegmentRun) → IsSegment segment → IsSegment (headed segment)
headed_is segment is =
    record {
      known = is.known;
      calm = is.calm;
      writes = λ writes. inl refl;
      stands = is.stands;
      records = is.records;
      header = headed_is_header (headed segment) refl;
      none = λ none. absurd (headed_some (headed segment) refl none);
    }

-- where word 1 is stored with the number that it has: in an update, or where nothing was published
pub headed_later : (segment : SegmentRun) → (segment.is_writing ≡ true) ⊎ (segment.position ≡ 0) → IsSegmentLater segment (headed segment)
headed_later segment (inl writes) =
    record { layout = refl; image = refl; base = refl; point = omega arith; more = []; history = sym (append-nil segment.history); header = λ same calm some. absurd (cc (writes, calm)) }
headed_later segment (inr none) =
    record { layout = refl; image = refl; base = refl; point = omega arith; more = []; history = sym (append-nil segment.history); header = λ same calm some. absurd (omega arith) }

-- ---- an update is open

-- the segment with an update open, whose publications begun are these
abbrev pub in_update : SegmentRun → List Begun → SegmentRun
in_update segment begun = record segment { is_headed = true; is_writing = true; begun = begun }

pub in_update_is : (segment : SegmentRun) (begun : List Begun) → IsSegment segment → IsSegment (in_update segment begun)
in_update_is segment begun is =
    record {
      known = is.known;
      calm = λ calm. absurd (cc calm);
      writes = λ writes. inl refl;
      stands = λ calm. absurd (cc calm);
      records = is.records;
      header = headed_is_header (in_update segment begun) refl;
      none = λ none. absurd (headed_some (in_update segment begun) refl none);
    }

pub in_update_later : (segment : SegmentRun) (begun : List Begun) → IsSegmentLater segment (in_update segment begun)
in_update_later segment begun =
    let most = flag_most segment.is_writing in
    record { layout = refl; image = refl; base = refl; point = omega (arith, most); more = []; history = sym (append-nil segment.history); header = λ same calm. absurd (cc calm) }

-- ---- an update ends

-- the segment after the even number of a publication, whose publications begun are these
abbrev pub after_update : SegmentRun → Publication → List Begun → SegmentRun
after_update segment publication begun =
    record segment { position = segment.position + 1; is_writing = false; history = segment.history ++ publication ∷ []; begun = begun }

-- what was published before stays
after_update_before : (segment : SegmentRun) (publication : Publication) (begun : List Begun) (position : ℕ) → length segment.history + segment.base ≡ segment.position → segment.base < position → position ≤ segment.position
    → published_at (after_update segment publication begun) position ≡ published_at segment position
after_update_before segment publication begun position known above below =
    get_or_append_left segment.history (publication ∷ []) no_publication (position - segment.base - 1) (omega (arith, known, above, below))

-- and the newest is this one
pub after_update_newest : (segment : SegmentRun) (publication : Publication) (begun : List Begun) (position : ℕ) → length segment.history + segment.base ≡ segment.position → position ≡ segment.position + 1
    → published_at (after_update segment publication begun) position ≡ publication
after_update_newest segment publication begun position known is =
    let place : position - segment.base - 1 ≡ length segment.history = omega (arith, known, is) in
    ap (λ (n : ℕ). slice_index_or (segment.history ++ publication ∷ []) n no_publication) place
    ∙ get_or-append_seam segment.history publication [] no_publication

after_update_records : (segment : SegmentRun) (publication : Publication) (begun : List Begun) (position : ℕ) → IsSegment segment → KeepsBoundsOf publication.rec → segment.base < position → position ≤ segment.position + 1
    → KeepsBoundsOf (published_at (after_update segment publication begun) position).rec
after_update_records segment publication begun position is bounds above below =
    elim (cases_lt segment.position position) [
      | inl past ↦
          subst (λ (p : Publication). KeepsBoundsOf p.rec) (sym (after_update_newest segment publication begun position is.known (omega (arith, past, below)))) bounds
      | inr before ↦
          subst (λ (p : Publication). KeepsBoundsOf p.rec) (sym (after_update_before segment publication begun position is.known above (omega (arith, before))))
          (is.records position above (omega (arith, before)))
    ]

pub after_update_is : (segment : SegmentRun) (publication : Publication) (begun : List Begun) → IsSegment segment → segment.is_headed ≡ true → KeepsBoundsOf publication.rec → HoldsWords (record segment { begun = begun }) publication.rec
    → IsSegment (after_update segment publication begun)
after_update_is segment publication begun is is_headed bounds holds =
    let known = is.known in
    record {
      known = rw length-append (omega (arith, known));
      calm = λ calm some. omega (arith, known);
      writes = λ writes. absurd (cc writes);
      stands = λ calm above word low high.
          holds word low high
          ∙ ap (λ (p : Publication). slice_index (record_words 0 p.rec) word) (sym (after_update_newest segment publication begun (segment.position + 1) known refl));
      records = λ position above below. after_update_records segment publication begun position is bounds above below;
      header = headed_is_header (after_update segment publication begun) is_headed;
      none = λ none. absurd (headed_some (after_update segment publication begun) is_headed none);
    }

pub after_update_later : (segment : SegmentRun) (publication : Publication) (begun : List Begun) → IsSegmentLater segment (after_update segment publication begun)
after_update_later segment publication begun =
    let most = flag_most segment.is_writing in
    record { layout = refl; image = refl; base = refl; point = omega (arith, most); more = publication ∷ []; history = refl; header = λ same calm some. absurd (omega (arith, same)) }

-- the number after it is that of the next position
pub after_update_number : (segment : SegmentRun) (publication : Publication) (begun : List Begun) → number_shown (after_update segment publication begun) ≡ number_at segment (segment.position + 1)
after_update_number segment publication begun = omega arith

pub after_update_header : (segment : SegmentRun) (publication : Publication) (begun : List Begun) → segment.is_headed ≡ true
    → header_shown (after_update segment publication begun) ≡ word1_of segment.layout (number_at segment (segment.position + 1))
after_update_header segment publication begun is =
    headed_header (after_update segment publication begun) is ∙ ap (word1_of segment.layout) (after_update_number segment publication begun)
