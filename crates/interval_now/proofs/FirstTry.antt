-- A first try of the segment that finds an even generation other than 0, value by value.
use Rattle.std.proofs.Common.{◌≡◌, ℕ, ◌+◌, ◌<◌, ◌≤◌, Bool, true, List, [], ◌∷◌, ◌++◌, length, refl, ap, sym, ◌∙◌, subst, arith, inl, inr, append_assoc, append-nil, length-append}
use Rattle.std.proofs.lemmas.Bool.{cases_lt, eq-eqb}
use Rattle.generation_word.specs.Header.{generation_in}
use Rattle.clock_gate.specs.declared.act.Act.{Act}
use Rattle.clock_gate.specs.declared.act.Act.TheVariants.{Load}
use Rattle.clock_gate.specs.declared.clock_row.ClockRow.{ClockRow}
use Rattle.clock_gate.specs.Acts.{after}
use Rattle.seqlock.specs.Tries.{SeqlockRead, Asks, Found, IsCalm, started, progress}
use Rattle.seqlock.specs.Tries as tries
use Rattle.seqlock.proofs.Tries as laws
use Rattle.segment_layout.specs.Words.{IsGoodWord}
use Rattle.shm_reader.specs.SegmentTries.{segment_lock, record_in, IsGoodLoad}
use Rattle.shm_reader.specs.SegmentTries as segment
use Rattle.shm_reader.proofs.Stands.{seen_at, unseen_at}
use Rattle.interval_now.specs.declared.stage.Stage.{Stage}
use Rattle.interval_now.specs.declared.stage.Stage.TheVariants.{Segment, Clock}
use Rattle.interval_now.specs.Call.{Call, started_call, act_at, act_of, after_segment, stage_given, given, IsRowNumber}

-- ---- the first load

same_load : (a b : ℕ) → Load a ≡ Load b → a ≡ b
same_load a b e = cc

-- word 1 has no test
first_is_good : (value : ℕ) → IsGoodWord 1 value
first_is_good value =
    let apart : (i : ℕ) → 2 ≤ i → 1 ≡ i → ⊥ = λ i low is. omega (arith, low, is) in
    record {
      as_of_seconds = λ e. absurd (apart 2 (omega arith) e);
      as_of_nanos = λ e. absurd (apart 3 (omega arith) e);
      void_after_seconds = λ e. absurd (apart 4 (omega arith) e);
      void_after_nanos = λ e. absurd (apart 5 (omega arith) e);
      bound = λ e. absurd (apart 6 (omega arith) e);
      drift = λ e. absurd (apart 8 (omega arith) e);
      status = λ e. absurd (apart 8 (omega arith) e);
      flag = λ e. absurd (apart 9 (omega arith) e);
    }

-- what word 1 may be
pub first_may_be : (act : Act) (value : ℕ) → act ≡ Load 1 → IsGoodLoad act value
first_may_be act value is = subst (λ (a : Act). IsGoodLoad a value) (sym is) (first_is_good value)

-- it counts no rows
pub first_is_no_row : (clock : List ClockRow) (act : Act) (value : ℕ) → act ≡ Load 1 → IsRowNumber clock act value
first_is_no_row clock act value is = λ row. absurd (let far = same_load 1 23 (sym is ∙ row) in omega (arith, far))

pub started_asks : (most : ℕ) (support : Bool) → 0 < most → act_of (started_call most support) ≡ Load 1
started_asks most support some = ap tries.act_of (laws.asks-first segment_lock (started most) some refl)

module _ (clock : List ClockRow) (most : ℕ) (support : Bool) (header : ℕ) (some : 0 < most) (calm : IsCalm segment_lock header) where
  -- a call of these tries at this stage
  abbrev pub call : Stage → Call
  call stage = record { tries = most; support = support; stage = stage }

  -- the first try with these values after word 1
  abbrev pub under : List ℕ → SeqlockRead
  under values = laws.with_values segment_lock (started most) (header ∷ values)

  asks_word : (values : List ℕ) → length values < 8 → progress segment_lock (under values) ≡ Asks (2 + length values)
  asks_word values few = laws.asks-data segment_lock (under values) header values some refl calm few

  asks_first : (values : List ℕ) → length values ≡ 8 → progress segment_lock (under values) ≡ Asks 1
  asks_first values full = laws.asks-last segment_lock (under values) header values some refl calm full

  asks_some : (values : List ℕ) → length values ≤ 8 → (word : ℕ) × (progress segment_lock (under values) ≡ Asks word)
  asks_some values few = elim (cases_lt (length values) 8) [
    | inl fewer ↦ (2 + length values, asks_word values fewer)
    | inr full ↦ (1, asks_first values (omega (arith, few, full)))
  ]

  goes_on : (values : List ℕ) → length values ≤ 8 → after_segment (under values) (segment.end_of (under values)) ≡ Segment (under values)
  goes_on values few = let asks = asks_some values few in ap (after_segment (under values)) (sym (unseen_at (under values) asks.0 asks.1))

  header_given : stage_given clock most support (Segment (started most)) header ≡ Segment (under [])
  header_given =
      ap (λ (read : SeqlockRead). after_segment read (segment.end_of read)) (laws.given-even segment_lock (started most) header refl calm)
      ∙ goes_on [] (omega arith)

  word_given : (before : List ℕ) (word : ℕ) → length before < 8 → stage_given clock most support (Segment (under before)) word ≡ Segment (under (before ++ word ∷ []))
  word_given before word few =
      let longer : length (before ++ word ∷ []) ≡ length before + 1 = length-append _ _ in
      ap (λ (read : SeqlockRead). after_segment read (segment.end_of read)) (laws.given-word segment_lock (under before) header word before refl calm few)
      ∙ goes_on (before ++ word ∷ []) (omega (arith, longer, few))

  words_from : (before words : List ℕ) → length before + length words ≤ 8 → after act_of (given clock) (call (Segment (under before))) words ≡ call (Segment (under (before ++ words)))
  words_from before [] few = ap (λ (values : List ℕ). call (Segment (under values))) (sym (append-nil before))
  words_from before (word ∷ words) few =
      let longer : length (before ++ word ∷ []) ≡ length before + 1 = length-append _ _ in
      ap (λ (stage : Stage). after act_of (given clock) (call stage) words) (word_given before word (omega arith))
      ∙ words_from (before ++ word ∷ []) words (omega (arith, longer, few))
      ∙ ap (λ (values : List ℕ). call (Segment (under values))) (append_assoc before (word ∷ []) words)

  pub words_read : (words : List ℕ) → length words ≤ 8 → after act_of (given clock) (given clock (started_call most support) header) words ≡ call (Segment (under words))
  words_read words few = ap (λ (stage : Stage). after act_of (given clock) (call stage) words) header_given ∙ words_from [] words (omega (arith, few))

  -- word 2 comes after word 1
  pub asks_words : act_of (given clock (started_call most support) header) ≡ Load 2
  asks_words = ap act_at header_given ∙ ap tries.act_of (asks_word [] (omega arith))

  -- and word 1 again after words 2 to 9
  pub asks_again : (words : List ℕ) → length words ≡ 8 → act_of (after act_of (given clock) (given clock (started_call most support) header) words) ≡ Load 1
  asks_again words full = ap act_of (words_read words (omega (arith, full))) ∙ ap tries.act_of (asks_first words full)

  last_given : (words : List ℕ) → length words ≡ 8 → stage_given clock most support (Segment (under words)) header ≡ Clock (generation_in header) (record_in words)
  last_given words full =
      let same : segment_lock.is_same header header ≡ true = eq-eqb header header refl in
      ap (λ (read : SeqlockRead). after_segment read (segment.end_of read)) (laws.given-last-same segment_lock (under words) header header words refl calm full same)
      ∙ ap (after_segment (under (words ++ header ∷ [])))
      (sym (seen_at (under (words ++ header ∷ [])) (Found header words) (laws.ends-read segment_lock (under (words ++ header ∷ [])) header header words some refl calm full same)))

  -- the same word 1 at last makes them the record
  pub record_read : (words : List ℕ) → length words ≡ 8
      → given clock (after act_of (given clock) (given clock (started_call most support) header) words) header ≡ call (Clock (generation_in header) (record_in words))
  record_read words full = ap (λ (c : Call). given clock c header) (words_read words (omega (arith, full))) ∙ ap call (last_given words full)
