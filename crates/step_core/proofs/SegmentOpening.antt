-- An opening, step by step: where it begins, and what each of its steps leaves.
use Rattle.std.proofs.Common.{◌≡◌, ℕ, zero, suc, ◌<◌, ◌≤◌, Bool, true, false, List, ◌∷◌, refl, ap, sym, ◌∙◌, subst, arith, inl, inr}
use Rattle.std.specs.Prelude.{◌⊎◌, ◌==◌, ◌&&◌, not, if◌then◌else◌, slice_index, slice_index_or}
use Rattle.std.proofs.lemmas.Bool.{cases_lt}
use Rattle.std.proofs.lemmas.Bool.Decides.{nat_tests}
use Rattle.generation_word.specs.declared.layout.Layout.{Layout}
use Rattle.generation_word.specs.declared.layout.Layout.TheVariants.{Two, Three}
use Rattle.generation_word.specs.Header.{word1_of, generation_in}
use Rattle.clock_gate.specs.declared.act.Act.{Act}
use Rattle.clock_gate.specs.declared.act.Act.TheVariants.{Load, End}
use Rattle.segment_layout.specs.declared.words.TheConstants.{MAGIC}
use Rattle.segment_layout.specs.declared.start.Start.{Start}
use Rattle.segment_layout.specs.declared.start.Start.TheVariants.{Fresh, Kept, Torn}
use Rattle.segment_layout.specs.Image.{generation_of_start, is_old_header}
use Rattle.segment_layout.specs.Record.{RecordFields}
use Rattle.segment_run.specs.SegmentRun.{SegmentRun, header_shown, number_shown, published_at, is_old, start_found, opening_length, opened_update, moved_once, opening_effect}
use Rattle.segment_run.specs.ShowsSegment.{IsSegment, ShowsSegment}
use Rattle.segment_run.proofs.SegmentHeader.{told_three, number_told, number_at_rest, magic_of_header}
use Rattle.writer_reopen.specs.Opening.{move_steps, opening_steps}
use Rattle.step_core.specs.ShowsDaemon.{StandsIn, HasMagicIn}
use Rattle.step_core.proofs.SegmentOpen.{IsInOpening, OpeningShows, steps_are, fresh_load, fresh_magic, fresh_header, torn_load, torn_header, kept_load, move_begins, move_ends}
use Rattle.writer_reopen.proofs.Found.{steps_for}

-- ---- a step

abbrev pub act_at : SegmentRun → Start → (old : Bool) → (steps : ℕ) → Act
act_at segment start old steps = slice_index_or (steps_for segment.layout old start) steps End

fresh_shows : (segment : SegmentRun) (old : Bool) (steps header : ℕ) (words : List ℕ) → ShowsSegment segment words → IsInOpening segment Fresh old steps header → HasMagicIn Fresh steps words
    → OpeningShows segment (opening_effect Fresh steps segment) Fresh old steps header words (act_at segment Fresh old steps)
fresh_shows segment old zero header words shows is magic = fresh_load segment old 0 header words shows is (omega arith)
fresh_shows segment old (suc zero) header words shows is magic = fresh_load segment old 1 header words shows is (omega arith)
fresh_shows segment old (suc (suc zero)) header words shows is magic = fresh_magic segment old header words shows is
fresh_shows segment old (suc (suc (suc zero))) header words shows is magic = fresh_header segment old header words shows is (magic (omega arith))
fresh_shows segment old (suc (suc (suc (suc steps)))) header words shows is magic = absurd (let few = is.few in omega (arith, few))

torn_shows : (segment : SegmentRun) (generation : ℕ) (old : Bool) (steps header : ℕ) (words : List ℕ) → ShowsSegment segment words → IsInOpening segment (Torn generation) old steps header → HasMagicIn (Torn generation) steps words
    → OpeningShows segment (opening_effect (Torn generation) steps segment) (Torn generation) old steps header words (act_at segment (Torn generation) old steps)
torn_shows segment generation old zero header words shows is magic = torn_load segment generation old 0 header words shows is magic (omega arith)
torn_shows segment generation old (suc zero) header words shows is magic = torn_load segment generation old 1 header words shows is magic (omega arith)
torn_shows segment generation true (suc (suc zero)) header words shows is magic = torn_header segment generation header words shows is magic
torn_shows segment generation false (suc (suc zero)) header words shows is magic = absurd (let few = is.few in omega (arith, few))
torn_shows segment generation true (suc (suc (suc steps))) header words shows is magic = absurd (let few = is.few in omega (arith, few))
torn_shows segment generation false (suc (suc (suc steps))) header words shows is magic = absurd (let few = is.few in omega (arith, few))

-- the first ten of these are loads of words 0 to 9
ten_loads : (rest : List Act) (steps : ℕ) → steps < 10 → slice_index_or (Load 0 ∷ Load 1 ∷ Load 2 ∷ Load 3 ∷ Load 4 ∷ Load 5 ∷ Load 6 ∷ Load 7 ∷ Load 8 ∷ Load 9 ∷ rest) steps End ≡ Load steps
ten_loads rest zero few = refl
ten_loads rest (suc zero) few = refl
ten_loads rest (suc (suc zero)) few = refl
ten_loads rest (suc (suc (suc zero))) few = refl
ten_loads rest (suc (suc (suc (suc zero)))) few = refl
ten_loads rest (suc (suc (suc (suc (suc zero))))) few = refl
ten_loads rest (suc (suc (suc (suc (suc (suc zero)))))) few = refl
ten_loads rest (suc (suc (suc (suc (suc (suc (suc zero))))))) few = refl
ten_loads rest (suc (suc (suc (suc (suc (suc (suc (suc zero)))))))) few = refl
ten_loads rest (suc (suc (suc (suc (suc (suc (suc (suc (suc zero))))))))) few = refl
ten_loads rest (suc (suc (suc (suc (suc (suc (suc (suc (suc (suc steps)))))))))) few = absurd (omega arith)

load_act : (segment : SegmentRun) (generation : ℕ) (rec : RecordFields) (old : Bool) (steps : ℕ) → steps < 10 → act_at segment (Kept generation rec) old steps ≡ Load steps
load_act segment generation rec true steps few = ten_loads (move_steps true generation) steps few
load_act segment generation rec false steps few = ten_loads (move_steps false generation) steps few

load_effect : (segment : SegmentRun) (steps : ℕ) → steps < 10 → (if steps == 10 then opened_update segment else if steps == 11 then moved_once segment else segment) ≡ segment
load_effect segment steps few =
    let begins : (steps == 10) ≡ false = grind (arith, nat_tests) in
    let ends : (steps == 11) ≡ false = grind (arith, nat_tests) in
    rw (begins, ends) refl

loads_show : (segment : SegmentRun) (generation : ℕ) (rec : RecordFields) (old : Bool) (steps header : ℕ) (words : List ℕ) → ShowsSegment segment words → IsInOpening segment (Kept generation rec) old steps header → slice_index words 0 ≡ MAGIC → steps < 10
    → OpeningShows segment (opening_effect (Kept generation rec) steps segment) (Kept generation rec) old steps header words (act_at segment (Kept generation rec) old steps)
loads_show segment generation rec old steps header words shows is magic few =
    subst (λ (new : SegmentRun). OpeningShows segment new (Kept generation rec) old steps header words (act_at segment (Kept generation rec) old steps)) (sym (load_effect segment steps few))
    (subst (λ (act : Act). OpeningShows segment segment (Kept generation rec) old steps header words act) (sym (load_act segment generation rec old steps few))
    (kept_load segment generation rec old steps header words shows is magic few))

move_shows : (segment : SegmentRun) (generation : ℕ) (rec : RecordFields) (steps header : ℕ) (words : List ℕ) → ShowsSegment segment words → IsInOpening segment (Kept generation rec) true steps header → slice_index words 0 ≡ MAGIC
    → (steps ≡ 10) ⊎ (steps ≡ 11) → OpeningShows segment (opening_effect (Kept generation rec) steps segment) (Kept generation rec) true steps header words (act_at segment (Kept generation rec) true steps)
move_shows segment generation rec steps header words shows is magic (inl at) =
    subst (λ (n : ℕ). OpeningShows segment (opening_effect (Kept generation rec) n segment) (Kept generation rec) true n header words (act_at segment (Kept generation rec) true n)) (sym at)
    (move_begins segment generation rec header words shows (subst (λ (n : ℕ). IsInOpening segment (Kept generation rec) true n header) at is) magic)
move_shows segment generation rec steps header words shows is magic (inr at) =
    subst (λ (n : ℕ). OpeningShows segment (opening_effect (Kept generation rec) n segment) (Kept generation rec) true n header words (act_at segment (Kept generation rec) true n)) (sym at)
    (move_ends segment generation rec header words shows (subst (λ (n : ℕ). IsInOpening segment (Kept generation rec) true n header) at is) magic)

last_two : (steps : ℕ) → 10 ≤ steps → steps < 12 → (steps ≡ 10) ⊎ (steps ≡ 11)
last_two steps low high = elim (cases_lt steps 11) [
  | inl before ↦ inl (omega arith)
  | inr after ↦ inr (omega arith)
]

kept_shows : (segment : SegmentRun) (generation : ℕ) (rec : RecordFields) (old : Bool) (steps header : ℕ) (words : List ℕ) → ShowsSegment segment words → IsInOpening segment (Kept generation rec) old steps header → slice_index words 0 ≡ MAGIC → 10 ≤ steps
    → OpeningShows segment (opening_effect (Kept generation rec) steps segment) (Kept generation rec) old steps header words (act_at segment (Kept generation rec) old steps)
kept_shows segment generation rec true steps header words shows is magic past = move_shows segment generation rec steps header words shows is magic (last_two steps past is.few)
kept_shows segment generation rec false steps header words shows is magic past = absurd (let few = is.few in omega (arith, few, past))

step_by : (segment : SegmentRun) (start : Start) (old : Bool) (steps header : ℕ) (words : List ℕ) → ShowsSegment segment words → IsInOpening segment start old steps header → HasMagicIn start steps words
    → OpeningShows segment (opening_effect start steps segment) start old steps header words (act_at segment start old steps)
step_by segment Fresh old steps header words shows is magic = fresh_shows segment old steps header words shows is magic
step_by segment (Torn generation) old steps header words shows is magic = torn_shows segment generation old steps header words shows is magic
step_by segment (Kept generation rec) old steps header words shows is magic =
    elim (cases_lt steps 10) [
      | inl few ↦ loads_show segment generation rec old steps header words shows is magic few
      | inr past ↦ kept_shows segment generation rec old steps header words shows is magic past
    ]

-- the step of an opening that comes after so many leaves words that show the segment after it
pub opening_shows : (segment : SegmentRun) (start : Start) (old : Bool) (steps header : ℕ) (words : List ℕ) → ShowsSegment segment words → IsInOpening segment start old steps header → HasMagicIn start steps words
    → OpeningShows segment (opening_effect start steps segment) start old steps header words (slice_index_or (opening_steps segment.layout header) steps End)
opening_shows segment start old steps header words shows is magic =
    subst (λ (acts : List Act). OpeningShows segment (opening_effect start steps segment) start old steps header words (slice_index_or acts steps End)) (sym (steps_are segment start old steps header is))
    (step_by segment start old steps header words shows is magic)

-- ---- how it begins

found_number_by : (segment : SegmentRun) (writes none : Bool) → segment.is_writing ≡ writes → (segment.position == 0) ≡ none
    → generation_of_start (if writes then Torn (number_shown segment) else if none then Fresh else Kept (number_shown segment) (published_at segment segment.position).rec) ≡ number_shown segment
found_number_by segment true none is at_none = refl
found_number_by segment false true is at_none =
    let position : segment.position ≡ 0 = grind (arith, nat_tests) in
    let number : number_shown segment ≡ 0 = rw (position, is) refl in
    sym number
found_number_by segment false false is at_none = refl

-- what an opening finds has the number that word 1 shows
pub found_number : (segment : SegmentRun) → generation_of_start (start_found segment) ≡ number_shown segment
found_number segment = found_number_by segment segment.is_writing (segment.position == 0) refl refl

-- and word 1 tells it
pub found_told : (segment : SegmentRun) → IsSegment segment → generation_in (header_shown segment) ≡ generation_of_start (start_found segment)
found_told segment is = number_told segment is ∙ sym (found_number segment)

old_own : (layout : Layout) (generation : ℕ) → is_old_header layout (word1_of layout generation) ≡ false
old_own Two generation = refl
old_own Three generation = ap (λ (told : ℕ × ℕ × ℕ). told.1 == 2) (told_three generation)

old_by : (segment : SegmentRun) (is_headed : Bool) → segment.is_headed ≡ is_headed → is_old segment ≡ is_old_header segment.layout (header_shown segment)
old_by segment true is = rw is (sym (old_own segment.layout (number_shown segment)))
old_by segment false is = rw is refl

found_old : (segment : SegmentRun) → is_old segment ≡ is_old_header segment.layout (header_shown segment)
found_old segment = old_by segment segment.is_headed refl

unheaded_by : (is_headed old : Bool) → (not is_headed && old) ≡ true → is_headed ≡ false
unheaded_by true old is = absurd (cc is)
unheaded_by false old is = refl

found_stands_by : (segment : SegmentRun) (old writes none : Bool) → IsSegment segment → segment.is_writing ≡ writes → (segment.position == 0) ≡ none
    → StandsIn segment (if writes then Torn (number_shown segment) else if none then Fresh else Kept (number_shown segment) (published_at segment segment.position).rec) old 0
found_stands_by segment old true none seg is at_none = (is, refl)
found_stands_by segment old false true seg is at_none = (grind (arith, nat_tests), is)
found_stands_by segment old false false seg is at_none =
    let some : 0 < segment.position = grind (arith, nat_tests) in
    (seg.calm is some, (number_at_rest segment is, (refl, (λ before. is, λ at_move. absurd (omega arith)))))

opening_long : (old : Bool) (start : Start) → 0 < opening_length old start
opening_long old Fresh = omega arith
opening_long true (Torn generation) = omega arith
opening_long false (Torn generation) = omega arith
opening_long true (Kept generation rec) = omega arith
opening_long false (Kept generation rec) = omega arith

-- where an opening stands before its first step
pub opening_begins : (segment : SegmentRun) → IsSegment segment → IsInOpening segment (start_found segment) (is_old segment) 0 (header_shown segment)
opening_begins segment is =
    record {
      stands = found_stands_by segment (is_old segment) segment.is_writing (segment.position == 0) is refl refl;
      few = opening_long (is_old segment) (start_found segment);
      is_old = found_old segment;
      tells = found_told segment is;
      unchanged = λ below. refl;
      unheaded = λ is_it below. unheaded_by segment.is_headed (is_old_header segment.layout (slice_index segment.image 1)) is_it;
    }

found_magic_by : (segment : SegmentRun) (words : List ℕ) (writes none : Bool) → ShowsSegment segment words → segment.is_writing ≡ writes → (segment.position == 0) ≡ none
    → HasMagicIn (if writes then Torn (number_shown segment) else if none then Fresh else Kept (number_shown segment) (published_at segment segment.position).rec) 0 words
found_magic_by segment words true none shows is at_none =
    magic_of_header segment words shows (λ zero_header. (let calm = (shows.is.none zero_header).1 in absurd (cc (calm, is))))
found_magic_by segment words false true shows is at_none = λ past. absurd (omega arith)
found_magic_by segment words false false shows is at_none =
    let some : 0 < segment.position = grind (arith, nat_tests) in
    magic_of_header segment words shows (λ zero_header. (let none = (shows.is.none zero_header).0 in absurd (omega (arith, none, some))))

-- and what word 0 is then
pub magic_begins : (segment : SegmentRun) (words : List ℕ) → ShowsSegment segment words → HasMagicIn (start_found segment) 0 words
magic_begins segment words shows = found_magic_by segment words segment.is_writing (segment.position == 0) shows refl refl
