-- What words 2 to 9 make of a read that wants them next.
use Rattle.std.proofs.Common.{◌≡◌, ◌≢◌, ℕ, zero, suc, ◌+◌, ◌-◌, ◌*◌, ◌%◌, ◌<◌, ◌≤◌, List, [], ◌∷◌, ◌++◌, length, take, drop, refl, ap, sym, ◌∙◌, subst, arith, inl, inr, length-append, length-take, append_assoc, append-nil}
use Rattle.std.specs.Prelude.{slice_index, replicate}
use Rattle.std.proofs.lemmas.Bool.{cases_lt}
use Rattle.generation_word.specs.Header.{generation_in}
use Rattle.clock_gate.specs.declared.act.Act.TheVariants.{Load, End}
use Rattle.clock_gate.specs.Acts.{after}
use Rattle.seqlock.specs.Tries.{SeqlockRead, Asks, IsCalm, IsStage, IsOfOneTry, attempt, failed_try, progress, steps_at, act_of as act_of_progress}
use Rattle.seqlock.proofs.Tries as laws
use Rattle.segment_layout.specs.Words.{IsGoodWord, AreGoodWords}
use Rattle.shm_reader.specs.SegmentTries.{segment_lock, act_of, given, steps_left, stands, AreGoodLoads}
use Rattle.shm_reader.proofs.Stands.{at, at_front, odd_fails, stands-word}

same_load : (a b : ℕ) → Load a ≡ Load b → a ≡ b
same_load a b e = cc

-- ---- when they come next

-- a read that wants one of words 2 to 9: its try in hand has a first value, with an even number other than 0, and the words before
pub record IsUnder (read : SeqlockRead) (word : ℕ) : Type 0 where
  pub head : ℕ
  pub before : List ℕ
  pub are : read.values ≡ head ∷ before
  pub count : 2 + length before ≡ word
  pub calm : IsCalm segment_lock head
  pub more : 0 < read.left

under_by : (read : SeqlockRead) (word : ℕ) (values : List ℕ) → read.values ≡ values → laws.IsOpen segment_lock read → act_of read ≡ Load word → 2 ≤ word → IsUnder read word
under_by read word [] none open_ act low =
    let left = open_.more in
    let first = laws.asks-first segment_lock read (omega (arith, left)) none in
    absurd (let e = same_load word 1 (sym act ∙ ap act_of_progress first) in omega (arith, e, low))
under_by read word (head ∷ before) are open_ act low =
    let left = open_.more in
    let calm = laws.open_published segment_lock read head before open_ are in
    let few = laws.open_few segment_lock read open_ in
    let size : length read.values ≡ length (head ∷ before) = ap length are in
    elim (cases_lt (length before) 8) [
      | inl fewer ↦
          let wants = laws.asks-data segment_lock read head before (omega (arith, left)) are calm fewer in
          let count : 2 + length before ≡ word = same_load (2 + length before) word (sym (ap act_of_progress wants) ∙ act) in
          record { head = head; before = before; are = are; count = count; calm = calm; more = omega (arith, left) }
      | inr full ↦
          let wants = laws.asks-last segment_lock read head before (omega (arith, left)) are calm (omega (arith, few, size, full)) in
          absurd (let e = same_load word 1 (sym act ∙ ap act_of_progress wants) in omega (arith, e, low))
    ]

pub under : (read : SeqlockRead) (word : ℕ) → IsStage segment_lock read → act_of read ≡ Load word → 2 ≤ word → IsUnder read word
under read word stage act low = under_by read word read.values refl (laws.open_act segment_lock read stage (λ ends. cc (sym act ∙ ends))) act low

-- what comes after one of them: the next one, or word 1
pub record IsAfterWord (read : SeqlockRead) (word : ℕ) : Type 0 where
  pub other : word < 9 → act_of read ≡ Load (word + 1)
  pub last : word ≡ 9 → act_of read ≡ Load 1

pub after_word : (read : SeqlockRead) (word value : ℕ) → IsStage segment_lock read → act_of read ≡ Load word → 2 ≤ word → word < 10 → IsAfterWord (given read value) word
after_word read word value stage act low high =
    let u = under read word stage act low in
    let count = u.count in
    let next : given read value ≡ laws.with_values segment_lock read (u.head ∷ (u.before ++ value ∷ [])) = laws.given-word segment_lock read u.head value u.before u.are u.calm (omega (arith, count, high)) in
    let longer : length (u.before ++ value ∷ []) ≡ length u.before + 1 = length-append _ _ in
    let later : SeqlockRead = laws.with_values segment_lock read (u.head ∷ (u.before ++ value ∷ [])) in
    let place : 2 + length (u.before ++ value ∷ []) ≡ word + 1 = omega (arith, longer, count) in
    subst (λ (r : SeqlockRead). IsAfterWord r word) (sym next)
    (record {
      other = λ less. ap act_of_progress (laws.asks-data segment_lock later u.head (u.before ++ value ∷ []) u.more refl u.calm (omega (arith, longer, count, less))) ∙ ap Load place;
      last = λ nine. ap act_of_progress (laws.asks-last segment_lock later u.head (u.before ++ value ∷ []) u.more refl u.calm (omega (arith, longer, count, nine)));
    })

module _ (tries left first last : ℕ) (loads : List ℕ) where
  pub record HasFirst (loaded : ℕ) : Type 0 where
    pub one : loaded ≡ 1
    pub more : 0 < left
    pub calm : IsCalm segment_lock (slice_index loads 0)

  pub has_first : (loaded : ℕ) → loaded ≤ 10 → length loads ≡ 10 → IsStage segment_lock (at tries left first last loads loaded) → act_of (at tries left first last loads loaded) ≡ Load 2 → HasFirst loaded
  has_first loaded most len stage act =
      let u = under (at tries left first last loads loaded) 2 stage act (omega arith) in
      let count = u.count in
      let made : length (take loaded loads) ≡ loaded = simp length-take (omega arith) in
      let are : length (take loaded loads) ≡ length (u.head ∷ u.before) = ap length u.are in
      let one : loaded ≡ 1 = omega (arith, made, are, count) in
      let same : u.head ∷ u.before ≡ slice_index loads 0 ∷ take (loaded - 1) (drop 1 loads) = sym u.are ∙ at_front tries left first last loads loaded (omega (arith, one)) len in
      let head : u.head ≡ slice_index loads 0 = cc same in
      record { one = one; more = u.more; calm = subst (IsCalm segment_lock) head u.calm }

  pub wants_two : (loaded : ℕ) → loaded ≡ 1 → length loads ≡ 10 → generation_in (slice_index loads 0) ≢ 0 → IsStage segment_lock (at tries left first last loads loaded) → act_of (at tries left first last loads loaded) ≡ Load 2
  wants_two loaded one len generation stage =
      let more : left ≢ 0 = λ none. cc (sym (at_front tries left first last loads loaded (omega arith) len) ∙ stage.none_after none) in
      let two : 1 + loaded ≡ 2 = omega arith in
      ap act_of_progress (stands-word tries left first last loads loaded more (omega arith) (omega arith) len generation stage) ∙ ap Load two

-- ---- one after another

pub record TakesWords (read later : SeqlockRead) (words : List ℕ) : Type 0 where
  pub value : later ≡ after act_of given read words
  pub stage : IsStage segment_lock later

given_words : (read : SeqlockRead) (h : ℕ) (before words : List ℕ) → 0 < read.left → read.values ≡ h ∷ before → IsCalm segment_lock h → IsStage segment_lock read → length before + length words ≤ 8
    → TakesWords read (laws.with_values segment_lock read (h ∷ (before ++ words))) words
given_words read h before [] more are calm stage few =
    let same : read ≡ laws.with_values segment_lock read (h ∷ (before ++ [])) = ap (laws.with_values segment_lock read) (are ∙ ap (λ (xs : List ℕ). h ∷ xs) (sym (append-nil before))) in
    record { value = sym same; stage = subst (IsStage segment_lock) same stage }
given_words read h before (w ∷ ws) more are calm stage few =
    let asks = laws.asks-data segment_lock read h before more are calm (omega arith) in
    let open_ = laws.open_act segment_lock read stage (λ ends. cc (ends, ap act_of_progress asks)) in
    let next : given read w ≡ laws.with_values segment_lock read (h ∷ (before ++ w ∷ [])) = laws.given-word segment_lock read h w before are calm (omega arith) in
    let longer : length (before ++ w ∷ []) ≡ length before + 1 = length-append _ _ in
    let rest = given_words (laws.with_values segment_lock read (h ∷ (before ++ w ∷ []))) h (before ++ w ∷ []) ws more refl calm
    (subst (IsStage segment_lock) next (laws.stage_given segment_lock read w open_)) (omega (arith, longer)) in
    let joined : (before ++ w ∷ []) ++ ws ≡ before ++ w ∷ ws = append_assoc before (w ∷ []) ws in
    subst (λ (xs : List ℕ). TakesWords read (laws.with_values segment_lock read (h ∷ xs)) (w ∷ ws)) joined
    (record { value = rest.value ∙ ap (λ (r : SeqlockRead). after act_of given r ws) (sym next); stage = rest.stage })

-- ---- the machine

eight_words : (words : List ℕ) → length words ≡ 8
    → slice_index words 0 ∷ slice_index words 1 ∷ slice_index words 2 ∷ slice_index words 3 ∷ slice_index words 4 ∷ slice_index words 5 ∷ slice_index words 6 ∷ slice_index words 7 ∷ [] ≡ words
eight_words [] len = absurd (omega arith)
eight_words (w0 ∷ []) len = absurd (omega arith)
eight_words (w0 ∷ w1 ∷ []) len = absurd (omega arith)
eight_words (w0 ∷ w1 ∷ w2 ∷ []) len = absurd (omega arith)
eight_words (w0 ∷ w1 ∷ w2 ∷ w3 ∷ []) len = absurd (omega arith)
eight_words (w0 ∷ w1 ∷ w2 ∷ w3 ∷ w4 ∷ []) len = absurd (omega arith)
eight_words (w0 ∷ w1 ∷ w2 ∷ w3 ∷ w4 ∷ w5 ∷ []) len = absurd (omega arith)
eight_words (w0 ∷ w1 ∷ w2 ∷ w3 ∷ w4 ∷ w5 ∷ w6 ∷ []) len = absurd (omega arith)
eight_words (w0 ∷ w1 ∷ w2 ∷ w3 ∷ w4 ∷ w5 ∷ w6 ∷ w7 ∷ []) len = refl
eight_words (w0 ∷ w1 ∷ w2 ∷ w3 ∷ w4 ∷ w5 ∷ w6 ∷ w7 ∷ more ∷ words) len = absurd (omega arith)

good_words : (h : ℕ) (words : List ℕ) → length words ≡ 8 → AreGoodLoads words → AreGoodWords (0 ∷ h ∷ words)
good_words h words len good zero low high = absurd (omega arith)
good_words h words len good (suc zero) low high = absurd (omega arith)
good_words h words len good (suc (suc k)) low high =
    let place : 2 + k ≡ suc (suc k) = omega arith in
    subst (λ (n : ℕ). IsGoodWord n (slice_index words k)) place (good k (omega arith))

-- the loads with these words
abbrev pub loads_with : List ℕ → List ℕ → List ℕ
loads_with loads words =
    slice_index loads 0 ∷ slice_index words 0 ∷ slice_index words 1 ∷ slice_index words 2 ∷ slice_index words 3 ∷ slice_index words 4 ∷ slice_index words 5 ∷ slice_index words 6 ∷ slice_index words 7 ∷ 0 ∷ []

pub good_with : (loads words : List ℕ) → length words ≡ 8 → AreGoodLoads words → AreGoodWords (0 ∷ take 9 (loads_with loads words))
good_with loads words len good = subst (λ (xs : List ℕ). AreGoodWords (0 ∷ slice_index loads 0 ∷ xs)) (sym (eight_words words len)) (good_words (slice_index loads 0) words len good)

-- what words make of a read: the same as one after another, with word 1 wanted next
pub record TakesAll (read later : SeqlockRead) (words : List ℕ) : Type 0 where
  pub value : later ≡ after act_of given read words
  pub stage : IsStage segment_lock later
  pub next : act_of later ≡ Load 1
  pub nearer : steps_left later < steps_left read

module _ (tries left first last loaded : ℕ) (loads words : List ℕ) where
  pub takes_all : loaded ≤ 10 → length loads ≡ 10 → length words ≡ 8 → IsStage segment_lock (at tries left first last loads loaded) → act_of (at tries left first last loads loaded) ≡ Load 2
      → TakesAll (at tries left first last loads loaded) (stands tries left first last 9 (loads_with loads words)) words
  takes_all most len eight stage act =
      let read : SeqlockRead = at tries left first last loads loaded in
      let h : ℕ = slice_index loads 0 in
      let has = has_first tries left first last loads loaded most len stage act in
      let one = has.one in
      let more = has.more in
      let rest : take (loaded - 1) (drop 1 loads) ≡ [] = rw one refl in
      let are : (at tries left first last loads loaded).values ≡ h ∷ [] = at_front tries left first last loads loaded (omega (arith, one)) len ∙ ap (λ (xs : List ℕ). h ∷ xs) rest in
      let took = given_words read h [] words more are has.calm stage (omega arith) in
      let next : progress segment_lock (laws.with_values segment_lock read (h ∷ words)) ≡ Asks 1 = laws.asks-last segment_lock (laws.with_values segment_lock read (h ∷ words)) h words more refl has.calm eight in
      let wants : progress segment_lock read ≡ Asks 2 = laws.asks-data segment_lock read h [] more are has.calm (omega arith) in
      let later : steps_left (laws.with_values segment_lock read (h ∷ words)) ≡ 10 * left - length (h ∷ words) = ap (steps_at segment_lock (laws.with_values segment_lock read (h ∷ words))) next in
      let before : steps_left read ≡ 10 * left - length read.values = ap (steps_at segment_lock read) wants in
      let single : length read.values ≡ 1 = ap length are in
      subst (λ (xs : List ℕ). TakesAll (at tries left first last loads loaded) (record { tries = tries; left = left; first = first; last = last; values = slice_index loads 0 ∷ xs }) words) (sym (eight_words words eight))
      (record { value = took.value; stage = took.stage; next = ap act_of_progress next; nearer = omega (arith, later, before, single, eight, more) })

-- ---- tries that fail at once

-- so many failed tries, one after another
failed_odd : (count : ℕ) (read : SeqlockRead) (header : ℕ) → read.values ≡ [] → generation_in header % 2 ≡ 1
    → after act_of given read (replicate (suc count) header) ≡ record read { left = read.left - suc count; first = generation_in header; last = generation_in header; values = [] }
failed_odd zero read header none odd = odd_fails read header none odd
failed_odd (suc count) read header none odd =
    let one = odd_fails read header none odd in
    let left : read.left - 1 - suc count ≡ read.left - suc (suc count) = omega arith in
    ap (λ (r : SeqlockRead). after act_of given r (replicate (suc count) header)) one
    ∙ failed_odd count (failed_try read (generation_in header) (generation_in header)) header refl odd
    ∙ ap (λ (n : ℕ). record read { left = n; first = generation_in header; last = generation_in header; values = [] }) left

pub fails_odd : (count : ℕ) (read : SeqlockRead) (header : ℕ) → 0 < count → read.values ≡ [] → generation_in header % 2 ≡ 1
    → record read { left = read.left - count; first = generation_in header; last = generation_in header; values = [] } ≡ after act_of given read (replicate count header)
fails_odd zero read header some none odd = absurd (omega arith)
fails_odd (suc count) read header some none odd = sym (failed_odd count read header none odd)

-- one that has begun no try and has one left
pub begins_again : (read : SeqlockRead) → 0 < read.left → read.values ≡ [] → IsStage segment_lock read × (act_of read ≡ Load 1)
begins_again read some none =
    (record { of_one_try = subst (λ (values : List ℕ). IsOfOneTry (attempt segment_lock values)) (sym none) tt; none_after = λ e. none }, ap act_of_progress (laws.asks-first segment_lock read some none))

-- the machine after so many failed tries
pub stands_failed : (tries left first last loaded count header generation : ℕ) (loads : List ℕ) → loaded ≡ 0 → 0 < count → generation ≡ generation_in header → generation % 2 ≡ 1
    → stands tries (left - count) generation generation loaded loads ≡ after act_of given (stands tries left first last loaded loads) (replicate count header)
stands_failed tries left first last loaded count header generation loads none some is odd =
    let odd_header : generation_in header % 2 ≡ 1 = omega (arith, is, odd) in
    subst (λ (n : ℕ). stands tries (left - count) generation generation n loads ≡ after act_of given (stands tries left first last n loads) (replicate count header)) (sym none)
    (subst (λ (g : ℕ). stands tries (left - count) g g 0 loads ≡ after act_of given (stands tries left first last 0 loads) (replicate count header)) (sym is)
    (fails_odd count (stands tries left first last 0 loads) header some refl odd_header))

pub stands_again : (tries left first last loaded : ℕ) (loads : List ℕ) → loaded ≡ 0 → 0 < left → act_of (stands tries left first last loaded loads) ≢ End
stands_again tries left first last loaded loads none some ends =
    cc (sym (begins_again (stands tries left first last 0 loads) some refl).1 ∙ (ap (λ (n : ℕ). act_of (stands tries left first last n loads)) (sym none) ∙ ends))
