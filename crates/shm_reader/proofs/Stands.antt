-- Where a read stands, by the number of loads of its try in hand.
use Rattle.std.proofs.Common.{◌≡◌, ◌≢◌, ℕ, zero, suc, ◌+◌, ◌-◌, ◌%◌, ◌<◌, ◌≤◌, false, List, [], ◌∷◌, ◌++◌, length, take, drop, refl, ap, sym, ◌∙◌, subst, arith, inl, inr}
use Rattle.std.specs.Prelude.{slice_index, slice_set}
use Rattle.std.proofs.Common.{length-take}
use Rattle.std.proofs.lemmas.Bool.{cases_lt, cases_eq}
use Rattle.std.proofs.lemmas.Bool.Decides.{nat_tests}
use Rattle.std.proofs.lemmas.List.{get_or-set_other, get_or-take}
use Rattle.std.proofs.lemmas.Grind.{get_or-set_at, take-set_at}
use Rattle.std.proofs.Math.Seq.{take-suc}
use Rattle.std.specs.Prelude.{Some, None}
use Rattle.std.specs.Option.{option_map}
use Rattle.generation_word.specs.Header.{generation_in}
use Rattle.clock_gate.specs.declared.act.Act.TheVariants.{End}
use Rattle.seqlock.specs.Tries.{Outcome, act_of as act_of_progress, end_of as end_of_progress}
use Rattle.seqlock.specs.Tries.{SeqlockRead, Progress, Asks, Ends, Unpublished, Found, IsCalm, IsStage, progress, with_value, failed_try}
use Rattle.seqlock.proofs.Tries as laws
use Rattle.segment_layout.specs.Words.{IsGoodWord, AreGoodWords}
use Rattle.shm_reader.specs.SegmentTries.{segment_lock, seen_of, act_of, given, end_of, steps_left, stands, IsGoodLoad}

-- ---- the loads as a list

front : (m : ℕ) (loads : List ℕ) → length loads ≡ 10 → take (suc m) loads ≡ slice_index loads 0 ∷ take m (drop 1 loads)
front m [] len = absurd (omega arith)
front m (first ∷ loads) len = refl

rest_of : (loads : List ℕ) → length loads ≡ 10 → length (drop 1 loads) ≡ 9
rest_of [] len = absurd (omega arith)
rest_of (first ∷ loads) len = omega arith

nine : (loads : List ℕ) → length loads ≡ 10 → take 9 (drop 1 loads) ≡ take 8 (drop 1 loads) ++ slice_index (drop 1 loads) 8 ∷ []
nine loads len = let more = rest_of loads len in take-suc (drop 1 loads) 8 0 (omega arith)

-- word 1 and words 2 to 9, one by one
pub nine_loads : (loads : List ℕ) → length loads ≡ 10 → 0 ∷ take 9 loads ≡ 0 ∷ slice_index loads 0 ∷ slice_index loads 1 ∷ slice_index loads 2 ∷ slice_index loads 3 ∷ slice_index loads 4 ∷ slice_index loads 5 ∷ slice_index loads 6 ∷ slice_index loads 7 ∷ slice_index loads 8 ∷ []
nine_loads [] len = absurd (omega arith)
nine_loads (l0 ∷ []) len = absurd (omega arith)
nine_loads (l0 ∷ l1 ∷ []) len = absurd (omega arith)
nine_loads (l0 ∷ l1 ∷ l2 ∷ []) len = absurd (omega arith)
nine_loads (l0 ∷ l1 ∷ l2 ∷ l3 ∷ []) len = absurd (omega arith)
nine_loads (l0 ∷ l1 ∷ l2 ∷ l3 ∷ l4 ∷ []) len = absurd (omega arith)
nine_loads (l0 ∷ l1 ∷ l2 ∷ l3 ∷ l4 ∷ l5 ∷ []) len = absurd (omega arith)
nine_loads (l0 ∷ l1 ∷ l2 ∷ l3 ∷ l4 ∷ l5 ∷ l6 ∷ []) len = absurd (omega arith)
nine_loads (l0 ∷ l1 ∷ l2 ∷ l3 ∷ l4 ∷ l5 ∷ l6 ∷ l7 ∷ []) len = absurd (omega arith)
nine_loads (l0 ∷ l1 ∷ l2 ∷ l3 ∷ l4 ∷ l5 ∷ l6 ∷ l7 ∷ l8 ∷ []) len = absurd (omega arith)
nine_loads (l0 ∷ l1 ∷ l2 ∷ l3 ∷ l4 ∷ l5 ∷ l6 ∷ l7 ∷ l8 ∷ l9 ∷ []) len = refl
nine_loads (l0 ∷ l1 ∷ l2 ∷ l3 ∷ l4 ∷ l5 ∷ l6 ∷ l7 ∷ l8 ∷ l9 ∷ more ∷ loads) len = absurd (omega arith)

-- ---- what comes next

module _ (tries left first last : ℕ) (loads : List ℕ) where
  abbrev pub at : ℕ → SeqlockRead
  at loaded = stands tries left first last loaded loads

  pub at_front : (loaded : ℕ) → loaded ≢ 0 → length loads ≡ 10 → (at loaded).values ≡ slice_index loads 0 ∷ take (loaded - 1) (drop 1 loads)
  at_front zero some len = absurd (some refl)
  at_front (suc m) some len =
      let less : suc m - 1 ≡ m = omega arith in
      rw less (front m loads len)

  published : generation_in (slice_index loads 0) ≢ 0 → segment_lock.is_absent (slice_index loads 0) ≡ false
  published some = grind (arith, nat_tests)

  calm : (loaded : ℕ) → loaded ≢ 0 → length loads ≡ 10 → generation_in (slice_index loads 0) ≢ 0 → IsStage segment_lock (at loaded) → IsCalm segment_lock (slice_index loads 0)
  calm loaded some len generation stage = laws.calm_stage segment_lock (at loaded) (slice_index loads 0) (take (loaded - 1) (drop 1 loads)) stage (at_front loaded some len) (published generation)

  count : (n : ℕ) → length loads ≡ 10 → n ≤ 9 → length (take n (drop 1 loads)) ≡ n
  count n len few = let more = rest_of loads len in simp length-take (omega arith)

  pub stands-none : left ≢ 0 → progress segment_lock (at 0) ≡ Asks 1
  stands-none more = laws.asks-first segment_lock (at 0) (omega arith) refl

  pub stands-absent : (loaded : ℕ) → left ≢ 0 → loaded ≢ 0 → length loads ≡ 10 → generation_in (slice_index loads 0) ≡ 0 → progress segment_lock (at loaded) ≡ Ends Unpublished
  stands-absent loaded more some len generation =
      laws.ends-absent segment_lock (at loaded) (slice_index loads 0) (take (loaded - 1) (drop 1 loads)) (omega arith) (at_front loaded some len) (grind (arith, nat_tests))

  pub stands-word : (loaded : ℕ) → left ≢ 0 → loaded ≢ 0 → loaded < 9 → length loads ≡ 10 → generation_in (slice_index loads 0) ≢ 0 → IsStage segment_lock (at loaded)
      → progress segment_lock (at loaded) ≡ Asks (1 + loaded)
  stands-word loaded more some few len generation stage =
      let words = take (loaded - 1) (drop 1 loads) in
      let so_many : length words ≡ loaded - 1 = count (loaded - 1) len (omega arith) in
      let next : 2 + length words ≡ 1 + loaded = omega (arith, so_many) in
      laws.asks-data segment_lock (at loaded) (slice_index loads 0) words (omega arith) (at_front loaded some len) (calm loaded some len generation stage) (omega (arith, so_many))
      ∙ ap Asks next

  pub stands-last : left ≢ 0 → length loads ≡ 10 → generation_in (slice_index loads 0) ≢ 0 → IsStage segment_lock (at 9) → progress segment_lock (at 9) ≡ Asks 1
  stands-last more len generation stage =
      laws.asks-last segment_lock (at 9) (slice_index loads 0) (take 8 (drop 1 loads)) (omega arith) (at_front 9 (omega arith) len) (calm 9 (omega arith) len generation stage) (count 8 len (omega arith))

  pub stands-whole : left ≢ 0 → length loads ≡ 10 → generation_in (slice_index loads 0) ≢ 0 → IsStage segment_lock (at 10) → progress segment_lock (at 10) ≡ Ends (Found (slice_index loads 0) (take 8 (drop 1 loads)))
  stands-whole more len generation stage =
      let words = take 8 (drop 1 loads) in
      let are : (at 10).values ≡ slice_index loads 0 ∷ (words ++ slice_index (drop 1 loads) 8 ∷ []) = at_front 10 (omega arith) len ∙ ap (λ (xs : List ℕ). slice_index loads 0 ∷ xs) (nine loads len) in
      let is_calm = calm 10 (omega arith) len generation stage in
      let full = count 8 len (omega arith) in
      laws.ends-read segment_lock (at 10) (slice_index loads 0) (slice_index (drop 1 loads) 8) words (omega arith) are is_calm full
      (laws.same_stage segment_lock (at 10) (slice_index loads 0) (slice_index (drop 1 loads) 8) words stage are is_calm full)

  -- ---- one more value

  pub few_loaded : (loaded : ℕ) → loaded ≤ 10 → length loads ≡ 10 → IsStage segment_lock (at loaded) → act_of (at loaded) ≢ End → loaded < 10
  few_loaded loaded most len stage asks =
      let few = laws.open_few segment_lock (at loaded) (laws.open_act segment_lock (at loaded) stage asks) in
      let made : length (take loaded loads) ≡ loaded = simp length-take (omega arith) in
      omega (arith, few, made)

  pub some_left : (loaded : ℕ) → IsStage segment_lock (at loaded) → act_of (at loaded) ≢ End → 0 < left
  some_left loaded stage asks = let open_ = laws.open_act segment_lock (at loaded) stage asks in let more = open_.more in omega (arith, more)

  -- the loads with one more
  pub kept_load : (loaded value : ℕ) → loaded < 10 → length loads ≡ 10 → stands tries left first last (loaded + 1) (slice_set loads loaded value) ≡ with_value (at loaded) value
  kept_load loaded value few len =
      ap (λ (values : List ℕ). record { tries = tries; left = left; first = first; last = last; values = values }) (take-set_at loads loaded (loaded + 1) value refl (omega arith))

  pub kept_stage : (loaded value : ℕ) → loaded < 10 → length loads ≡ 10 → IsStage segment_lock (at loaded) → act_of (at loaded) ≢ End → given (at loaded) value ≡ with_value (at loaded) value
      → IsStage segment_lock (stands tries left first last (loaded + 1) (slice_set loads loaded value))
  kept_stage loaded value few len stage asks kept =
      subst (IsStage segment_lock) (kept ∙ sym (kept_load loaded value few len)) (laws.stage_given segment_lock (at loaded) value (laws.open_act segment_lock (at loaded) stage asks))

-- good words stay good where a good one is added
good_at : (loads : List ℕ) (loaded value k : ℕ) → loaded < 10 → length loads ≡ 10 → (2 ≤ loaded + 1 → loaded + 1 < 10 → IsGoodWord (loaded + 1) value) → AreGoodWords (0 ∷ take 9 loads) → 1 ≤ k → k < 9
    → IsGoodWord (suc k) (slice_index (take 9 (slice_set loads loaded value)) k)
good_at loads loaded value k few len good all low high =
    let reads : slice_index (take 9 (slice_set loads loaded value)) k ≡ slice_index (slice_set loads loaded value) k = get_or-take 9 (slice_set loads loaded value) k 0 high in
    elim (cases_eq k loaded) [
      | inl here ↦
          let found : slice_index (slice_set loads loaded value) k ≡ value = get_or-set_at loads loaded k value 0 here (omega arith) in
          let place : loaded + 1 ≡ suc k = omega arith in
          rw (reads, found) (subst (λ (n : ℕ). IsGoodWord n value) place (good (omega arith) (omega arith)))
      | inr other ↦
          let found : slice_index (slice_set loads loaded value) k ≡ slice_index loads k = get_or-set_other loads loaded k value 0 other in
          let before : slice_index (take 9 loads) k ≡ slice_index loads k = get_or-take 9 loads k 0 high in
          rw (reads, found, ← before) (all (suc k) (omega arith) (omega arith))
    ]

pub kept_good : (loads : List ℕ) (loaded value : ℕ) → loaded < 10 → length loads ≡ 10 → (2 ≤ loaded + 1 → loaded + 1 < 10 → IsGoodWord (loaded + 1) value) → AreGoodWords (0 ∷ take 9 loads)
    → AreGoodWords (0 ∷ take 9 (slice_set loads loaded value))
kept_good loads loaded value few len good all zero low high = absurd (omega arith)
kept_good loads loaded value few len good all (suc k) low high = good_at loads loaded value k few len good all (omega arith) (omega arith)

module _ (tries left first last : ℕ) (loads : List ℕ) where
  -- the value that a try is given for a word is good
  pub good_load : (loaded value : ℕ) → loaded < 10 → length loads ≡ 10 → IsStage segment_lock (at tries left first last loads loaded) → act_of (at tries left first last loads loaded) ≢ End
      → IsGoodLoad (act_of (at tries left first last loads loaded)) value → 2 ≤ loaded + 1 → loaded + 1 < 10 → IsGoodWord (loaded + 1) value
  good_load loaded value few len stage asks good low high =
      let read = at tries left first last loads loaded in
      let open_ = laws.open_act segment_lock read stage asks in
      let more = some_left tries left first last loads loaded stage asks in
      let are = at_front tries left first last loads loaded (omega arith) len in
      let is_calm = laws.open_published segment_lock read (slice_index loads 0) (take (loaded - 1) (drop 1 loads)) open_ are in
      let so_many : length (take (loaded - 1) (drop 1 loads)) ≡ loaded - 1 = count tries left first last loads (loaded - 1) len (omega arith) in
      let wants = laws.asks-data segment_lock read (slice_index loads 0) (take (loaded - 1) (drop 1 loads)) more are is_calm (omega (arith, so_many)) in
      let place : 2 + length (take (loaded - 1) (drop 1 loads)) ≡ loaded + 1 = omega (arith, so_many) in
      subst (λ (n : ℕ). IsGoodWord n value) place (subst (λ (p : Progress). IsGoodLoad (act_of_progress p) value) wants good)

-- ---- what a value makes of a try

-- an odd generation first
pub odd_fails : (read : SeqlockRead) (value : ℕ) → read.values ≡ [] → generation_in value % 2 ≡ 1 → given read value ≡ failed_try read (generation_in value) (generation_in value)
odd_fails read value none odd =
    let some : segment_lock.is_absent value ≡ false = grind (arith, nat_tests) in
    laws.given-odd segment_lock read value none some odd

-- another generation first
pub first_kept : (read : SeqlockRead) (value : ℕ) → read.values ≡ [] → generation_in value % 2 ≢ 1 → given read value ≡ with_value read value
first_kept read value none other =
    let are : value ∷ [] ≡ read.values ++ value ∷ [] = ap (λ (vs : List ℕ). vs ++ value ∷ []) (sym none) in
    elim (cases_eq (generation_in value) 0) [
      | inl absent ↦ laws.given-absent segment_lock read value none (grind (arith, nat_tests)) ∙ ap (laws.with_values segment_lock read) are
      | inr some ↦ laws.given-even segment_lock read value none (record { published = grind (arith, nat_tests); even = omega arith }) ∙ ap (laws.with_values segment_lock read) are
    ]

module _ (tries left first last : ℕ) (loads : List ℕ) where
  -- a word
  pub word_kept : (loaded value : ℕ) → loaded ≢ 0 → loaded < 9 → length loads ≡ 10 → IsStage segment_lock (at tries left first last loads loaded) → act_of (at tries left first last loads loaded) ≢ End
      → given (at tries left first last loads loaded) value ≡ with_value (at tries left first last loads loaded) value
  word_kept loaded value some few len stage asks =
      let read = at tries left first last loads loaded in
      let words = take (loaded - 1) (drop 1 loads) in
      let are = at_front tries left first last loads loaded some len in
      let is_calm = laws.open_published segment_lock read (slice_index loads 0) words (laws.open_act segment_lock read stage asks) are in
      let so_many : length words ≡ loaded - 1 = count tries left first last loads (loaded - 1) len (omega arith) in
      laws.given-word segment_lock read (slice_index loads 0) value words are is_calm (omega (arith, so_many))
      ∙ ap (laws.with_values segment_lock read) (ap (λ (vs : List ℕ). vs ++ value ∷ []) (sym are))

  nine_loaded : (loaded : ℕ) → length loads ≡ 10 → length (take loaded loads) ≡ 9 → loaded ≡ 9
  nine_loaded loaded len made = let least = length-take loaded loads in omega (arith, least)

  -- the same word 1 at last
  pub last_kept : (loaded value : ℕ) → length (take loaded loads) ≡ 9 → length loads ≡ 10 → IsStage segment_lock (at tries left first last loads loaded) → act_of (at tries left first last loads loaded) ≢ End → slice_index loads 0 ≡ value
      → given (at tries left first last loads loaded) value ≡ with_value (at tries left first last loads loaded) value
  last_kept loaded value made len stage asks same =
      let read = at tries left first last loads loaded in
      let is_nine = nine_loaded loaded len made in
      let words = take (loaded - 1) (drop 1 loads) in
      let are = at_front tries left first last loads loaded (omega arith) len in
      let is_calm = laws.open_published segment_lock read (slice_index loads 0) words (laws.open_act segment_lock read stage asks) are in
      let so_many : length words ≡ loaded - 1 = count tries left first last loads (loaded - 1) len (omega arith) in
      laws.given-last-same segment_lock read (slice_index loads 0) value words are is_calm (omega (arith, so_many)) (grind (arith, nat_tests))
      ∙ ap (laws.with_values segment_lock read) (ap (λ (vs : List ℕ). vs ++ value ∷ []) (sym are))

  -- another word 1 at last
  pub last_fails : (loaded value : ℕ) → length (take loaded loads) ≡ 9 → length loads ≡ 10 → IsStage segment_lock (at tries left first last loads loaded) → act_of (at tries left first last loads loaded) ≢ End → slice_index loads 0 ≢ value
      → given (at tries left first last loads loaded) value ≡ failed_try (at tries left first last loads loaded) (generation_in (slice_index loads 0)) (generation_in value)
  last_fails loaded value made len stage asks other =
      let read = at tries left first last loads loaded in
      let is_nine = nine_loaded loaded len made in
      let words = take (loaded - 1) (drop 1 loads) in
      let are = at_front tries left first last loads loaded (omega arith) len in
      let is_calm = laws.open_published segment_lock read (slice_index loads 0) words (laws.open_act segment_lock read stage asks) are in
      let so_many : length words ≡ loaded - 1 = count tries left first last loads (loaded - 1) len (omega arith) in
      laws.given-last-other segment_lock read (slice_index loads 0) value words are is_calm (omega (arith, so_many)) (grind (arith, nat_tests))

-- the same for a read that is where these loads are
pub keep_view : (tries left first last loaded value index : ℕ) (loads : List ℕ) (now : SeqlockRead) → loaded < 10 → length loads ≡ 10 → index ≡ loaded → stands tries left first last loaded loads ≡ now → given now value ≡ with_value now value
    → stands tries left first last (loaded + 1) (slice_set loads index value) ≡ given now value
keep_view tries left first last loaded value index loads now few len here is kept =
    ap (λ (i : ℕ). stands tries left first last (loaded + 1) (slice_set loads i value)) here
    ∙ kept_load tries left first last loads loaded value few len
    ∙ ap (λ (read : SeqlockRead). with_value read value) is
    ∙ sym kept

pub falls : (read : SeqlockRead) (value : ℕ) → IsStage segment_lock read → act_of read ≢ End → steps_left (given read value) < steps_left read
falls read value stage asks = laws.nearer segment_lock read value (laws.open_act segment_lock read stage asks)

-- ---- what an end says

pub seen_at : (read : SeqlockRead) (outcome : Outcome) → progress segment_lock read ≡ Ends outcome → Some (seen_of read.tries outcome) ≡ end_of read
seen_at read outcome is = ap (λ (p : Progress). option_map (seen_of read.tries) (end_of_progress p)) (sym is)

pub act_at : (read : SeqlockRead) (outcome : Outcome) → progress segment_lock read ≡ Ends outcome → act_of read ≡ End
act_at read outcome is = ap act_of_progress is

pub unseen_at : (read : SeqlockRead) (word : ℕ) → progress segment_lock read ≡ Asks word → None ≡ end_of read
unseen_at read word is = ap (λ (p : Progress). option_map (seen_of read.tries) (end_of_progress p)) (sym is)

pub load_at : (read : SeqlockRead) (word : ℕ) → progress segment_lock read ≡ Asks word → act_of read ≢ End
load_at read word is = λ ends. cc (ends, ap act_of_progress is)

-- a read that has a published first word and fewer than ten loads wants a word
pub stands-more : (tries left first last loaded : ℕ) (loads : List ℕ) → left ≢ 0 → loaded ≢ 0 → loaded < 10 → length loads ≡ 10 → generation_in (slice_index loads 0) ≢ 0 → IsStage segment_lock (stands tries left first last loaded loads)
    → (word : ℕ) × (progress segment_lock (stands tries left first last loaded loads) ≡ Asks word)
stands-more tries left first last loaded loads more some few len generation stage =
    elim (cases_lt loaded 9) [
      | inl fewer ↦ (1 + loaded, stands-word tries left first last loads loaded more some fewer len generation stage)
      | inr full ↦
          let is_nine : loaded ≡ 9 = omega arith in (
            1,
            ap (λ (n : ℕ). progress segment_lock (stands tries left first last n loads)) is_nine
                ∙ stands-last tries left first last loads more len generation (subst (λ (n : ℕ). IsStage segment_lock (stands tries left first last n loads)) is_nine stage),
          )
    ]

pub stands-all : (tries left first last loaded : ℕ) (loads : List ℕ) → left ≢ 0 → loaded ≤ 10 → 10 ≤ loaded → length loads ≡ 10 → generation_in (slice_index loads 0) ≢ 0 → IsStage segment_lock (stands tries left first last loaded loads)
    → progress segment_lock (stands tries left first last loaded loads) ≡ Ends (Found (slice_index loads 0) (take 8 (drop 1 loads)))
stands-all tries left first last loaded loads more most least len generation stage =
    let ten : loaded ≡ 10 = omega arith in
    ap (λ (n : ℕ). progress segment_lock (stands tries left first last n loads)) ten
    ∙ stands-whole tries left first last loads more len generation (subst (λ (n : ℕ). IsStage segment_lock (stands tries left first last n loads)) ten stage)

pub stage_next : (here now later : SeqlockRead) (value : ℕ) → here ≡ now → IsStage segment_lock here → act_of now ≢ End → later ≡ given now value → IsStage segment_lock later
stage_next here now later value is stage asks given_is =
    let at_now = subst (IsStage segment_lock) is stage in
    subst (IsStage segment_lock) (sym given_is) (laws.stage_given segment_lock now value (laws.open_act segment_lock now at_now asks))
