-- The steps of an opening: the words show the segment after each.
use Rattle.std.proofs.Common.{◌≡◌, ℕ, zero, suc, ◌+◌, ◌<◌, ◌≤◌, Bool, true, false, List, [], ◌∷◌, refl, ap, sym, ◌∙◌, subst, arith, inl, inr}
use Rattle.std.specs.Prelude.{if◌then◌else◌, slice_index, slice_set}
use Rattle.std.proofs.lemmas.Bool.{cases_lt}
use Rattle.std.proofs.lemmas.List.{get_or-set_same, get_or-set_other, length-set}
use Rattle.generation_word.specs.declared.layout.Layout.{Layout}
use Rattle.generation_word.specs.declared.layout.Layout.TheVariants.{Two, Three}
use Rattle.generation_word.specs.Layout.{period_of}
use Rattle.generation_word.specs.Numbering.{odd_after, even_after}
use Rattle.generation_word.specs.Header.{word1_of, generation_in}
use Rattle.generation_word.proofs.Laws.{odd_after-at_rest, even_after-at_rest}
use Rattle.clock_gate.specs.declared.act.Act.{Act}
use Rattle.clock_gate.specs.declared.act.Act.TheVariants.{Load, Store}
use Rattle.segment_layout.specs.declared.words.TheConstants.{MAGIC}
use Rattle.segment_layout.specs.declared.start.Start.{Start}
use Rattle.segment_layout.specs.declared.start.Start.TheVariants.{Fresh, Kept, Torn}
use Rattle.segment_layout.specs.Image.{generation_of_start, is_old_header}
use Rattle.segment_layout.specs.Record.{RecordFields}
use Rattle.segment_layout.specs.Words.{record_words}
use Rattle.segment_run.specs.SegmentRun.{SegmentRun, header_shown, number_at, number_shown, published_at, opening_length, headed, opened_update, moved_once}
use Rattle.segment_run.specs.ShowsSegment.{HoldsWords, ShowsSegment, IsSegmentLater, KeepsRest}
use Rattle.segment_run.proofs.SegmentHeader.{number_at_rest, number_in_update, number_even, number_positive, period_positive}
use Rattle.segment_run.proofs.SegmentLater.{later_same}
use Rattle.segment_run.proofs.SegmentEnded.{headed_is, headed_later, in_update_is, in_update_later, after_update_is, after_update_later, after_update_number, after_update_header}
use Rattle.segment_run.proofs.SegmentStore.{rest_kept, header_stored}
use Rattle.writer_reopen.specs.Opening.{opening_steps}
use Rattle.writer_reopen.proofs.Found.{steps_for, IsFoundBy, steps_by_found}
use Rattle.step_core.specs.SharedWords.{after_act, value_of}
use Rattle.step_core.specs.ShowsDaemon.{given_after, StandsIn, HasMagicIn}

-- ---- where an opening stands

-- an opening that found this, after so many steps, met this header
pub record IsInOpening (segment : SegmentRun) (start : Start) (old : Bool) (steps header : ℕ) : Type 0 where
  pub stands : StandsIn segment start old steps
  pub few : steps < opening_length old start
  pub is_old : old ≡ is_old_header segment.layout header
  pub tells : generation_in header ≡ generation_of_start start
  pub unchanged : steps < 11 → header_shown segment ≡ header
  pub unheaded : old ≡ true → steps < 11 → segment.is_headed ≡ false

-- the number that an opening leaves in word 1
abbrev pub number_left : (old : Bool) → Start → ℕ
number_left old Fresh = 0
number_left old (Torn generation) = generation
number_left old (Kept generation rec) = if old then even_after (period_of Three) generation else generation

-- what a step of an opening leaves: this act makes of the segment the new one
pub record OpeningShows (segment new : SegmentRun) (start : Start) (old : Bool) (steps header : ℕ) (words : List ℕ) (act : Act) : Type 0 where
  pub shows : ShowsSegment new (after_act words act)
  pub later : IsSegmentLater segment new
  pub rest : KeepsRest words (after_act words act)
  pub magic : HasMagicIn start (steps + 1) (after_act words act)
  pub value : (first : ℕ) → 0 < steps → value_of words act ≡ slice_index (first ∷ header ∷ given_after start) steps
  pub next : steps + 1 < opening_length old start → IsInOpening new start old (steps + 1) header
  pub number : steps + 1 ≡ opening_length old start → number_shown new ≡ number_left old start

-- ---- which steps they are

pub old_same : (layout : Layout) (header : ℕ) → is_old_header layout header ≡ is_old_header layout header
old_same Two header = refl
old_same Three header = refl

old_three : (layout : Layout) (header : ℕ) → is_old_header layout header ≡ true → layout ≡ Three
old_three Two header is = absurd (cc is)
old_three Three header is = refl

pub found_by_header : (segment : SegmentRun) (start : Start) (old : Bool) (steps header : ℕ) → IsInOpening segment start old steps header → IsFoundBy (generation_in header) start
found_by_header segment Fresh old steps header is = is.tells
found_by_header segment (Torn generation) old steps header is =
    let number = number_in_update segment is.stands.0 in
    let even = number_even segment segment.position in
    let same = is.stands.1 in
    (is.tells, omega (arith, same, number, even))
found_by_header segment (Kept generation rec) old steps header is =
    let above = is.stands.0 in
    let same = is.stands.1.0 in
    let even = number_even segment segment.position in
    let positive = number_positive segment segment.position (omega (arith, above)) in
    (is.tells, omega (arith, same, even), omega (arith, same, positive))

pub steps_are : (segment : SegmentRun) (start : Start) (old : Bool) (steps header : ℕ) → IsInOpening segment start old steps header → opening_steps segment.layout header ≡ steps_for segment.layout old start
steps_are segment start old steps header is =
    steps_by_found segment.layout header start (found_by_header segment start old steps header is)
    ∙ ap (λ (b : Bool). steps_for segment.layout b start) (old_same segment.layout header ∙ sym is.is_old)

-- ---- a load

load_shows : (segment : SegmentRun) (start : Start) (old : Bool) (steps header word : ℕ) (words : List ℕ) → ShowsSegment segment words → IsInOpening segment start old steps header → steps < 10 → HasMagicIn start (steps + 1) words
    → StandsIn segment start old (steps + 1) → ((first : ℕ) → 0 < steps → slice_index words word ≡ slice_index (first ∷ header ∷ given_after start) steps)
    → (steps + 1 ≡ opening_length old start → number_shown segment ≡ number_left old start) → OpeningShows segment segment start old steps header words (Load word)
load_shows segment start old steps header word words shows is few magic stands value number =
    record {
      shows = shows;
      later = later_same segment;
      rest = record { same = λ other low high. refl };
      magic = magic;
      value = value;
      next = λ more. record {
        stands = stands;
        few = more;
        is_old = is.is_old;
        tells = is.tells;
        unchanged = λ below. is.unchanged (omega arith);
        unheaded = λ is_it below. is.unheaded is_it (omega arith);
      };
      number = number;
    }

-- ---- a fresh segment

-- word 0 gets the magic
magic_stored : (segment : SegmentRun) (words : List ℕ) → ShowsSegment segment words → ShowsSegment segment (slice_set words 0 MAGIC)
magic_stored segment words shows =
    let wide = shows.wide in
    record {
      is = shows.is;
      wide = length-set words 0 MAGIC ∙ wide;
      magic = inl (get_or-set_same words 0 MAGIC 0 (omega (arith, wide)));
      header = get_or-set_other words 0 1 MAGIC 0 (λ e. absurd (omega arith)) ∙ shows.header;
      data_words = λ word low high. get_or-set_other words 0 word MAGIC 0 (λ e. absurd (omega arith)) ∙ shows.data_words word low high;
    }

pub fresh_magic : (segment : SegmentRun) (old : Bool) (header : ℕ) (words : List ℕ) → ShowsSegment segment words → IsInOpening segment Fresh old 2 header → OpeningShows segment segment Fresh old 2 header words (Store 0 MAGIC)
fresh_magic segment old header words shows is =
    let wide = shows.wide in
    record {
      shows = magic_stored segment words shows;
      later = later_same segment;
      rest = rest_kept words 0 MAGIC (omega arith);
      magic = λ past. get_or-set_same words 0 MAGIC 0 (omega (arith, wide));
      value = λ first some. refl;
      next = λ more. record { stands = is.stands; few = more; is_old = is.is_old; tells = is.tells; unchanged = λ below. is.unchanged (omega arith); unheaded = λ is_it below. is.unheaded is_it (omega arith) };
      number = λ at_end. absurd (omega arith);
    }

fresh_number : (segment : SegmentRun) → (segment.position ≡ 0) × (segment.is_writing ≡ false) → number_shown segment ≡ 0
fresh_number segment none = rw (none.0, none.1) refl

pub fresh_header : (segment : SegmentRun) (old : Bool) (header : ℕ) (words : List ℕ) → ShowsSegment segment words → IsInOpening segment Fresh old 3 header → slice_index words 0 ≡ MAGIC
    → OpeningShows segment (headed segment) Fresh old 3 header words (Store 1 (word1_of segment.layout 0))
fresh_header segment old header words shows is magic =
    let number = fresh_number segment is.stands in
    let step = header_stored segment (headed segment) words (word1_of segment.layout 0) shows magic (headed_is segment shows.is) (headed_later segment (inr is.stands.0)) (ap (word1_of segment.layout) (sym number)) (λ word low high. refl) in
    record {
      shows = step.shows;
      later = step.later;
      rest = step.rest;
      magic = λ past. step.magic;
      value = λ first some. refl;
      next = λ more. absurd (omega (arith, more));
      number = λ at_end. number;
    }

-- what a load gives that comes after the header's is a word of the record
word_given : (first header : ℕ) (rec : RecordFields) (steps : ℕ) → 2 ≤ steps → steps < 10 → slice_index (record_words 0 rec) steps ≡ slice_index (first ∷ header ∷ given_after (Kept header rec)) steps
word_given first header rec zero low high = absurd (omega arith)
word_given first header rec (suc zero) low high = absurd (omega arith)
word_given first header rec (suc (suc zero)) low high = refl
word_given first header rec (suc (suc (suc zero))) low high = refl
word_given first header rec (suc (suc (suc (suc zero)))) low high = refl
word_given first header rec (suc (suc (suc (suc (suc zero))))) low high = refl
word_given first header rec (suc (suc (suc (suc (suc (suc zero)))))) low high = refl
word_given first header rec (suc (suc (suc (suc (suc (suc (suc zero))))))) low high = refl
word_given first header rec (suc (suc (suc (suc (suc (suc (suc (suc zero)))))))) low high = refl
word_given first header rec (suc (suc (suc (suc (suc (suc (suc (suc (suc zero))))))))) low high = refl
word_given first header rec (suc (suc (suc (suc (suc (suc (suc (suc (suc (suc steps)))))))))) low high = absurd (omega arith)

-- the header's load, and the one before it whose value is not looked at
header_given : (segment : SegmentRun) (words : List ℕ) (header steps : ℕ) (given : List ℕ) → ShowsSegment segment words → header_shown segment ≡ header → steps < 2 → (first : ℕ) → 0 < steps → slice_index words steps ≡ slice_index (first ∷ header ∷ given) steps
header_given segment words header zero given shows same few first some = absurd (omega arith)
header_given segment words header (suc zero) given shows same few first some = shows.header ∙ same
header_given segment words header (suc (suc steps)) given shows same few first some = absurd (omega arith)

pub fresh_load : (segment : SegmentRun) (old : Bool) (steps header : ℕ) (words : List ℕ) → ShowsSegment segment words → IsInOpening segment Fresh old steps header → steps < 2 → OpeningShows segment segment Fresh old steps header words (Load steps)
fresh_load segment old steps header words shows is few =
    load_shows segment Fresh old steps header steps words shows is (omega arith) (λ past. absurd (omega arith)) is.stands
    (header_given segment words header steps (0 ∷ 0 ∷ []) shows (is.unchanged (omega arith)) few)
    (λ at_end. absurd (omega arith))

-- ---- an abandoned update

pub torn_load : (segment : SegmentRun) (generation : ℕ) (old : Bool) (steps header : ℕ) (words : List ℕ) → ShowsSegment segment words → IsInOpening segment (Torn generation) old steps header → slice_index words 0 ≡ MAGIC → steps < 2
    → OpeningShows segment segment (Torn generation) old steps header words (Load steps)
torn_load segment generation old steps header words shows is magic few =
    load_shows segment (Torn generation) old steps header steps words shows is (omega arith) magic is.stands
    (header_given segment words header steps (0 ∷ []) shows (is.unchanged (omega arith)) few)
    (λ at_end. sym is.stands.1)

pub torn_header : (segment : SegmentRun) (generation header : ℕ) (words : List ℕ) → ShowsSegment segment words → IsInOpening segment (Torn generation) true 2 header → slice_index words 0 ≡ MAGIC
    → OpeningShows segment (headed segment) (Torn generation) true 2 header words (Store 1 (word1_of Three generation))
torn_header segment generation header words shows is magic =
    let three : segment.layout ≡ Three = old_three segment.layout header (sym is.is_old) in
    let step = header_stored segment (headed segment) words (word1_of Three generation) shows magic (headed_is segment shows.is) (headed_later segment (inl is.stands.0))
    (ap (word1_of Three) is.stands.1 ∙ ap (λ (layout : Layout). word1_of layout (number_shown segment)) (sym three)) (λ word low high. refl) in
    record {
      shows = step.shows;
      later = step.later;
      rest = step.rest;
      magic = step.magic;
      value = λ first some. refl;
      next = λ more. absurd (omega (arith, more));
      number = λ at_end. sym is.stands.1;
    }

-- ---- a record

kept_number : (segment : SegmentRun) (generation : ℕ) (rec : RecordFields) (old : Bool) (steps header : ℕ) → IsInOpening segment (Kept generation rec) old steps header → steps < 10 → steps + 1 ≡ opening_length old (Kept generation rec)
    → number_shown segment ≡ number_left old (Kept generation rec)
kept_number segment generation rec true steps header is few at_end = absurd (omega arith)
kept_number segment generation rec false steps header is few at_end = number_at_rest segment (is.stands.1.1.1.0 (omega arith)) ∙ sym is.stands.1.0

kept_value : (segment : SegmentRun) (generation : ℕ) (rec : RecordFields) (old : Bool) (steps header : ℕ) (words : List ℕ) → ShowsSegment segment words → IsInOpening segment (Kept generation rec) old steps header → steps < 10
    → (first : ℕ) → 0 < steps → slice_index words steps ≡ slice_index (first ∷ header ∷ given_after (Kept generation rec)) steps
kept_value segment generation rec old steps header words shows is few first some =
    elim (cases_lt steps 2) [
      | inl below ↦ header_given segment words header steps (given_after (Kept generation rec)) shows (is.unchanged (omega arith)) below first some
      | inr above ↦
          let calm = is.stands.1.1.1.0 (omega arith) in
          shows.data_words steps (omega arith) few ∙ shows.is.stands calm is.stands.0 steps (omega arith) few
          ∙ ap (λ (r : RecordFields). slice_index (record_words 0 r) steps) (sym is.stands.1.1.0)
          ∙ word_given first header rec steps (omega arith) few
    ]

pub kept_load : (segment : SegmentRun) (generation : ℕ) (rec : RecordFields) (old : Bool) (steps header : ℕ) (words : List ℕ) → ShowsSegment segment words → IsInOpening segment (Kept generation rec) old steps header → slice_index words 0 ≡ MAGIC → steps < 10
    → OpeningShows segment segment (Kept generation rec) old steps header words (Load steps)
kept_load segment generation rec old steps header words shows is magic few =
    load_shows segment (Kept generation rec) old steps header steps words shows is few magic
    (is.stands.0, (is.stands.1.0, (is.stands.1.1.0, (λ below. is.stands.1.1.1.0 (omega arith), λ at_end. absurd (omega arith)))))
    (kept_value segment generation rec old steps header words shows is few)
    (kept_number segment generation rec old steps header is few)

pub move_begins : (segment : SegmentRun) (generation : ℕ) (rec : RecordFields) (header : ℕ) (words : List ℕ) → ShowsSegment segment words → IsInOpening segment (Kept generation rec) true 10 header → slice_index words 0 ≡ MAGIC
    → OpeningShows segment (opened_update segment) (Kept generation rec) true 10 header words (Store 1 (word1_of Three (odd_after generation)))
move_begins segment generation rec header words shows is magic =
    let three : segment.layout ≡ Three = old_three segment.layout header (sym is.is_old) in
    let calm : segment.is_writing ≡ false = is.stands.1.1.1.0 (omega arith) in
    let odd : odd_after generation ≡ number_at segment segment.position + 1 = ap odd_after is.stands.1.0 ∙ odd_after-at_rest (period_of segment.layout) segment.position in
    let step = header_stored segment (opened_update segment) words (word1_of Three (odd_after generation)) shows magic (in_update_is segment segment.begun shows.is) (in_update_later segment segment.begun)
    (ap (word1_of Three) odd ∙ ap (λ (layout : Layout). word1_of layout (number_at segment segment.position + 1)) (sym three)) (λ word low high. refl) in
    let holds : HoldsWords segment rec = λ word low high.
    shows.is.stands calm is.stands.0 word low high ∙ ap (λ (r : RecordFields). slice_index (record_words 0 r) word) (sym is.stands.1.1.0) in
    record {
      shows = step.shows;
      later = step.later;
      rest = step.rest;
      magic = step.magic;
      value = λ first some. refl;
      next = λ more. record {
        stands = (is.stands.0, (is.stands.1.0, (is.stands.1.1.0, (λ below. absurd (omega (arith, below)), λ at_move. (refl, (refl, holds))))));
        few = more;
        is_old = is.is_old;
        tells = is.tells;
        unchanged = λ below. absurd (omega (arith, below));
        unheaded = λ is_it below. absurd (omega (arith, below));
      };
      number = λ at_end. absurd (omega (arith, at_end));
    }

pub move_ends : (segment : SegmentRun) (generation : ℕ) (rec : RecordFields) (header : ℕ) (words : List ℕ) → ShowsSegment segment words → IsInOpening segment (Kept generation rec) true 11 header → slice_index words 0 ≡ MAGIC
    → OpeningShows segment (moved_once segment) (Kept generation rec) true 11 header words (Store 1 (word1_of Three (even_after (period_of Three) generation)))
move_ends segment generation rec header words shows is magic =
    let three : segment.layout ≡ Three = old_three segment.layout header (sym is.is_old) in
    let in_move = is.stands.1.1.1.1 refl in
    let again = published_at segment segment.position in
    let even : even_after (period_of Three) generation ≡ number_at segment (segment.position + 1) =
    ap (λ (layout : Layout). even_after (period_of layout) generation) (sym three)
    ∙ ap (even_after (period_of segment.layout)) is.stands.1.0
    ∙ even_after-at_rest (period_of segment.layout) segment.position (period_positive segment.layout) in
    let holds : HoldsWords segment (published_at segment segment.position).rec = subst (HoldsWords segment) is.stands.1.1.0 in_move.1.1 in
    let step = header_stored segment (moved_once segment) words (word1_of Three (even_after (period_of Three) generation)) shows magic
    (after_update_is segment (published_at segment segment.position) segment.begun shows.is in_move.1.0 (shows.is.records segment.position is.stands.0 (omega arith)) holds)
    (after_update_later segment (published_at segment segment.position) segment.begun)
    (ap (word1_of Three) even ∙ ap (λ (layout : Layout). word1_of layout (number_at segment (segment.position + 1))) (sym three)
    ∙ sym (after_update_header segment (published_at segment segment.position) segment.begun in_move.1.0))
    (λ word low high. refl) in
    record {
      shows = step.shows;
      later = step.later;
      rest = step.rest;
      magic = step.magic;
      value = λ first some. refl;
      next = λ more. absurd (omega (arith, more));
      number = λ at_end. after_update_number segment (published_at segment segment.position) segment.begun ∙ sym even;
    }
