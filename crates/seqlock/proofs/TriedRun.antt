-- The steps of a read are those of the tries that failed, and then those of the try in hand.
use Rattle.std.proofs.Common.{◌≡◌, ◌≢◌, ℕ, zero, suc, ◌+◌, ◌-◌, ◌%◌, ◌<◌, ◌≤◌, Bool, true, false, List, [], ◌∷◌, ◌++◌, length, take, drop, Some, None, refl, ap, sym, ◌∙◌, subst, arith, append_assoc, append-nil, length-append, length-take, inl, inr}
use Rattle.std.specs.Prelude.{All, ◌==◌}
use Rattle.std.proofs.lemmas.Bool.{cases_lt, cases_Bool, eqb-true, eqb-false}
use Rattle.std.proofs.lemmas.List.{take-append-drop, take_all, drop_all}
use Rattle.std.proofs.lemmas.List.Elements.{All-nil, All-push, All-head, All-tail}
use Rattle.std.proofs.Math.Seq.{take-append_seam, drop-append_seam}
use Rattle.clock_gate.specs.declared.act.Act.TheVariants.{Load, End}
use Rattle.clock_gate.specs.Acts.{Touch, act_of_touch, replayed, Wanted}
use Rattle.clock_gate.proofs.Acts.{replayed-append, wanted-append}
use Rattle.seqlock.specs.Tries.{Seqlock, Attempt, Wants, Absent, Failed, Read, Outcome, Unpublished, AllFailed, Found, Asks, Ends, act_of, end_of, SeqlockRead, started, goes_on, failed_try, with_attempt, IsOfOneTry, IsCalm, data_loads, last_load, attempt, read_of, progress, read_act, read_end, given, IsStage}
use Rattle.seqlock.specs.TriedRun.{load, loads_from, loads_of, FailedTry, Odd, Changed, numbers_after, HasFailed, whole_try, steps_of, steps_of_all, Did, CameTo}
use Rattle.seqlock.proofs.Tries as laws

loads_from-append : (word : ℕ) (xs ys : List ℕ) → loads_from word (xs ++ ys) ≡ loads_from word xs ++ loads_from (word + length xs) ys
loads_from-append word [] ys = ap (λ (n : ℕ). loads_from n ys) (omega arith)
loads_from-append word (x ∷ xs) ys =
    let place : suc word + length xs ≡ word + suc (length xs) = omega arith in
    ap (λ (rest : List Touch). load word x ∷ rest) (loads_from-append (suc word) xs ys ∙ ap (λ (n : ℕ). loads_from (suc word) xs ++ loads_from n ys) place)

loads_of-append : (word : ℕ) (xs ys : List ℕ) → loads_of word (xs ++ ys) ≡ loads_of word xs ++ loads_of word ys
loads_of-append word [] ys = refl
loads_of-append word (x ∷ xs) ys = ap (λ (rest : List Touch). load word x ∷ rest) (loads_of-append word xs ys)

-- a step that is a load of this word
pub load_is : (touch : Touch) (word : ℕ) → Load word ≡ act_of_touch touch → touch ≡ load word touch.value
load_is touch word is = load_by touch word touch.stored refl is
  where
    load_by : (touch : Touch) (word : ℕ) (stored : Bool) → touch.stored ≡ stored → Load word ≡ act_of_touch touch → touch ≡ load word touch.value
    load_by touch word true stored is = absurd (cc (rw stored at is))
    load_by touch word false stored is =
        let same : word ≡ touch.word = cc (rw stored at is) in
        rw (stored, same) refl

-- a step is no end
pub touch_acts : (touch : Touch) → act_of_touch touch ≢ End
touch_acts touch = acts_by touch touch.stored refl
  where
    acts_by : (touch : Touch) (stored : Bool) → touch.stored ≡ stored → act_of_touch touch ≢ End
    acts_by touch true is = rw is (λ ends. cc ends)
    acts_by touch false is = rw is (λ ends. cc ends)

module _ (lock : Seqlock) where
  -- the loads of a try in hand, by its values
  abbrev pub in_hand : List ℕ → List Touch
  in_hand [] = []
  in_hand (first ∷ values) = load lock.number_word first ∷ (loads_from lock.first_word (take lock.size values) ++ loads_of lock.number_word (drop lock.size values))

  seam_take : (words rest : List ℕ) → length words ≡ lock.size → take lock.size (words ++ rest) ≡ words
  seam_take words rest full = rw (← full) (take-append_seam words rest)

  seam_drop : (words rest : List ℕ) → length words ≡ lock.size → drop lock.size (words ++ rest) ≡ rest
  seam_drop words rest full = rw (← full) (drop-append_seam words rest)

  in_hand-full : (first : ℕ) (words rest : List ℕ) → length words ≡ lock.size → in_hand (first ∷ (words ++ rest)) ≡ load lock.number_word first ∷ (loads_from lock.first_word words ++ loads_of lock.number_word rest)
  in_hand-full first words rest full = rw (seam_take words rest full, seam_drop words rest full) refl

  in_hand-few : (first : ℕ) (values : List ℕ) → length values ≤ lock.size → in_hand (first ∷ values) ≡ load lock.number_word first ∷ loads_from lock.first_word values
  in_hand-few first values few =
      let front : take lock.size values ≡ values = take_all lock.size values few in
      let back : drop lock.size values ≡ [] = drop_all lock.size values few in
      rw (front, back) (ap (λ (steps : List Touch). load lock.number_word first ∷ steps) (append-nil (loads_from lock.first_word values)))

  wanted_word : (word other : ℕ) → Wants word ≡ Wants other → word ≡ other
  wanted_word word other same = cc same

  -- one more value is one more step
  hand_more : (values : List ℕ) (value word : ℕ) → attempt lock values ≡ Wants word → in_hand (values ++ value ∷ []) ≡ in_hand values ++ load word value ∷ []
  hand_more [] value word wants =
      let place : lock.number_word ≡ word = wanted_word _ _ wants in
      in_hand-few value [] (omega arith) ∙ ap (λ (n : ℕ). load n value ∷ []) place
  hand_more (first ∷ values) value word wants =
      let few = laws.wants_few lock first word values wants in
      elim (cases_lt (length values) lock.size) [
        | inl fewer ↦
            let place : lock.first_word + length values ≡ word = wanted_word _ _ (sym (laws.data_loads-few lock first values fewer) ∙ sym (laws.attempt-calm lock first values few.0) ∙ wants) in
            in_hand-few first (values ++ value ∷ []) (rw length-append (omega arith))
            ∙ ap (λ (steps : List Touch). load lock.number_word first ∷ steps) (loads_from-append lock.first_word values (value ∷ []) ∙ ap (λ (n : ℕ). loads_from lock.first_word values ++ load n value ∷ []) place)
            ∙ sym (ap (λ (steps : List Touch). steps ++ load word value ∷ []) (in_hand-few first values few.1))
        | inr full ↦
            let all : length values ≡ lock.size = (let most = few.1 in omega (arith, most)) in
            let place : lock.number_word ≡ word = wanted_word _ _ (sym (laws.data_loads-full lock first values all) ∙ sym (laws.attempt-calm lock first values few.0) ∙ wants) in
            in_hand-full first values (value ∷ []) all
            ∙ ap (λ (n : ℕ). load lock.number_word first ∷ (loads_from lock.first_word values ++ load n value ∷ [])) place
            ∙ sym (ap (λ (steps : List Touch). steps ++ load word value ∷ []) (in_hand-few first values few.1))
      ]

  -- ---- what values of an ended try are

  -- values that failed a try, without more: the try
  pub record IsFailedTry (values : List ℕ) (first last : ℕ) : Type 0 where
    pub try : FailedTry
    pub has_failed : HasFailed lock try
    pub numbers : (before : ℕ × ℕ) → numbers_after lock.number_in before (try ∷ []) ≡ (first, last)
    pub made : in_hand values ≡ steps_of lock try

  failed_word : (word first last : ℕ) (rest : List ℕ) → Wants word ≡ Failed first last rest → ⊥
  failed_word word first last rest is = cc is

  failed_absent : (values rest : List ℕ) (first last : ℕ) → Absent values ≡ Failed first last rest → ⊥
  failed_absent values rest first last is = cc is

  failed_read : (word first last : ℕ) (words values rest : List ℕ) → Read word words values ≡ Failed first last rest → ⊥
  failed_read word first last words values rest is = cc is

  failed_same : (f l first last : ℕ) (values rest : List ℕ) → Failed f l values ≡ Failed first last rest → (f ≡ first) × (l ≡ last) × (values ≡ rest)
  failed_same f l first last values rest is = (cc is, cc is, cc is)

  odd_try : (first f l : ℕ) (values : List ℕ) → lock.is_absent first ≡ false → lock.number_in first % 2 ≡ 1 → Failed (lock.number_in first) (lock.number_in first) values ≡ Failed f l [] → IsFailedTry (first ∷ values) f l
  odd_try first f l values published odd is =
      let same = failed_same _ _ f l values [] is in
      record {
        try = Odd first;
        has_failed = (published, odd);
        numbers = λ before. ap (λ (n : ℕ). (n, lock.number_in first)) same.0 ∙ ap (λ (n : ℕ). (f, n)) same.1;
        made = ap (λ (vs : List ℕ). in_hand (first ∷ vs)) same.2 ∙ in_hand-few first [] (omega arith);
      }

  changed_try : (first f l : ℕ) (words values : List ℕ) → IsCalm lock first → length words ≡ lock.size → last_load lock first words values ≡ Failed f l [] → IsFailedTry (first ∷ (words ++ values)) f l
  changed_try first f l words [] calm full is = absurd (failed_word _ f l [] is)
  changed_try first f l words (last ∷ values) calm full is =
      elim (cases_Bool (lock.is_same first last)) [
        | inl same ↦ absurd (failed_read first f l words values [] (sym (laws.last_load-same lock first last words values same) ∙ is))
        | inr other ↦
            let same = failed_same _ _ f l values [] (sym (laws.last_load-other lock first last words values other) ∙ is) in
            record {
              try = Changed first words last;
              has_failed = (calm, full, other);
              numbers = λ before. ap (λ (n : ℕ). (n, lock.number_in last)) same.0 ∙ ap (λ (n : ℕ). (f, n)) same.1;
              made = in_hand-full first words (last ∷ values) full ∙ ap (λ (vs : List ℕ). load lock.number_word first ∷ (loads_from lock.first_word words ++ load lock.number_word last ∷ loads_of lock.number_word vs)) same.2;
            }
      ]

  data_try : (first f l : ℕ) (values : List ℕ) → IsCalm lock first → data_loads lock first values ≡ Failed f l [] → IsFailedTry (first ∷ values) f l
  data_try first f l values calm is =
      elim (cases_lt (length values) lock.size) [
        | inl fewer ↦ absurd (failed_word _ f l [] (sym (laws.data_loads-few lock first values fewer) ∙ is))
        | inr full ↦
            let words = take lock.size values in
            let more = drop lock.size values in
            let whole : words ++ more ≡ values = take-append-drop lock.size values in
            let all : length words ≡ lock.size = simp length-take (omega arith) in
            subst (λ (vs : List ℕ). IsFailedTry (first ∷ vs) f l) whole
            (changed_try first f l words more calm all (sym (laws.data_loads-all lock first words more all) ∙ ap (data_loads lock first) whole ∙ is))
      ]

  fails_as : (values : List ℕ) (f l : ℕ) → attempt lock values ≡ Failed f l [] → IsFailedTry values f l
  fails_as [] f l is = absurd (failed_word _ f l [] is)
  fails_as (first ∷ values) f l is =
      elim (cases_Bool (lock.is_absent first)) [
        | inl absent ↦ absurd (failed_absent values [] f l (sym (laws.attempt-absent lock first values absent) ∙ is))
        | inr published ↦
            elim (cases_Bool (lock.number_in first % 2 == 1)) [
              | inl odd ↦ odd_try first f l values published (eqb-true _ _ odd) (sym (laws.attempt-odd lock first values published (eqb-true _ _ odd)) ∙ is)
              | inr other ↦
                  let calm : IsCalm lock first = record { published = published; even = (let even = eqb-false (lock.number_in first % 2) 1 other in omega arith) } in
                  data_try first f l values calm (sym (laws.attempt-calm lock first values calm) ∙ is)
            ]
      ]

  -- values that read the words, without more
  pub record IsWholeTry (values : List ℕ) (first : ℕ) (words : List ℕ) : Type 0 where
    pub last : ℕ
    pub calm : IsCalm lock first
    pub whole : length words ≡ lock.size
    pub same : lock.is_same first last ≡ true
    pub made : in_hand values ≡ whole_try lock first words last

  read_word : (word first : ℕ) (words rest : List ℕ) → Wants word ≡ Read first words rest → ⊥
  read_word word first words rest is = cc is

  read_absent : (values words rest : List ℕ) (first : ℕ) → Absent values ≡ Read first words rest → ⊥
  read_absent values words rest first is = cc is

  read_failed : (f l first : ℕ) (values words rest : List ℕ) → Failed f l values ≡ Read first words rest → ⊥
  read_failed f l first values words rest is = cc is

  read_same : (f first : ℕ) (ws values words rest : List ℕ) → Read f ws values ≡ Read first words rest → (f ≡ first) × (ws ≡ words) × (values ≡ rest)
  read_same f first ws values words rest is = (cc is, cc is, cc is)

  whole_as : (first f : ℕ) (ws values words : List ℕ) → IsCalm lock first → length ws ≡ lock.size → last_load lock first ws values ≡ Read f words [] → IsWholeTry (first ∷ (ws ++ values)) f words
  whole_as first f ws [] words calm full is = absurd (read_word _ f words [] is)
  whole_as first f ws (last ∷ values) words calm full is =
      elim (cases_Bool (lock.is_same first last)) [
        | inl same ↦
            let are = read_same first f ws values words [] (sym (laws.last_load-same lock first last ws values same) ∙ is) in
            let steps : in_hand (first ∷ (ws ++ last ∷ values)) ≡ whole_try lock first ws last =
            in_hand-full first ws (last ∷ values) full ∙ ap (λ (vs : List ℕ). load lock.number_word first ∷ (loads_from lock.first_word ws ++ load lock.number_word last ∷ loads_of lock.number_word vs)) are.2 in
            record {
              last = last;
              calm = subst (IsCalm lock) are.0 calm;
              whole = ap length (sym are.1) ∙ full;
              same = ap (λ (n : ℕ). lock.is_same n last) (sym are.0) ∙ same;
              made = steps ∙ ap (λ (n : ℕ). whole_try lock n ws last) are.0 ∙ ap (λ (vs : List ℕ). whole_try lock f vs last) are.1;
            }
        | inr other ↦ absurd (read_failed _ _ f values words [] (sym (laws.last_load-other lock first last ws values other) ∙ is))
      ]

  data_as : (first f : ℕ) (values words : List ℕ) → IsCalm lock first → data_loads lock first values ≡ Read f words [] → IsWholeTry (first ∷ values) f words
  data_as first f values words calm is =
      elim (cases_lt (length values) lock.size) [
        | inl fewer ↦ absurd (read_word _ f words [] (sym (laws.data_loads-few lock first values fewer) ∙ is))
        | inr full ↦
            let ws = take lock.size values in
            let more = drop lock.size values in
            let whole : ws ++ more ≡ values = take-append-drop lock.size values in
            let all : length ws ≡ lock.size = simp length-take (omega arith) in
            subst (λ (vs : List ℕ). IsWholeTry (first ∷ vs) f words) whole
            (whole_as first f ws more words calm all (sym (laws.data_loads-all lock first ws more all) ∙ ap (data_loads lock first) whole ∙ is))
      ]

  reads_as : (values : List ℕ) (f : ℕ) (words : List ℕ) → attempt lock values ≡ Read f words [] → IsWholeTry values f words
  reads_as [] f words is = absurd (read_word _ f words [] is)
  reads_as (first ∷ values) f words is =
      elim (cases_Bool (lock.is_absent first)) [
        | inl absent ↦ absurd (read_absent values words [] f (sym (laws.attempt-absent lock first values absent) ∙ is))
        | inr published ↦
            elim (cases_Bool (lock.number_in first % 2 == 1)) [
              | inl odd ↦ absurd (read_failed _ _ f values words [] (sym (laws.attempt-odd lock first values published (eqb-true _ _ odd)) ∙ is))
              | inr other ↦
                  let calm : IsCalm lock first = record { published = published; even = (let even = eqb-false (lock.number_in first % 2) 1 other in omega arith) } in
                  data_as first f values words calm (sym (laws.attempt-calm lock first values calm) ∙ is)
            ]
      ]

  absent_word : (word : ℕ) (rest : List ℕ) → Wants word ≡ Absent rest → ⊥
  absent_word word rest is = cc is

  absent_failed : (f l : ℕ) (values rest : List ℕ) → Failed f l values ≡ Absent rest → ⊥
  absent_failed f l values rest is = cc is

  absent_read : (first : ℕ) (words values rest : List ℕ) → Read first words values ≡ Absent rest → ⊥
  absent_read first words values rest is = cc is

  absent_same : (values rest : List ℕ) → Absent values ≡ Absent rest → values ≡ rest
  absent_same values rest is = cc is

  last_absent : (first : ℕ) (words values rest : List ℕ) → last_load lock first words values ≡ Absent rest → ⊥
  last_absent first words [] rest is = absent_word _ rest is
  last_absent first words (last ∷ values) rest is =
      elim (cases_Bool (lock.is_same first last)) [
        | inl same ↦ absent_read first words values rest (sym (laws.last_load-same lock first last words values same) ∙ is)
        | inr other ↦ absent_failed _ _ values rest (sym (laws.last_load-other lock first last words values other) ∙ is)
      ]

  data_absent : (first : ℕ) (values rest : List ℕ) → data_loads lock first values ≡ Absent rest → ⊥
  data_absent first values rest is =
      elim (cases_lt (length values) lock.size) [
        | inl fewer ↦ absent_word _ rest (sym (laws.data_loads-few lock first values fewer) ∙ is)
        | inr full ↦
            let words = take lock.size values in
            let more = drop lock.size values in
            let whole : words ++ more ≡ values = take-append-drop lock.size values in
            let all : length words ≡ lock.size = simp length-take (omega arith) in
            last_absent first words more rest (sym (laws.data_loads-all lock first words more all) ∙ ap (data_loads lock first) whole ∙ is)
      ]

  -- values that found that nothing was published, without more
  pub absent_as : (values : List ℕ) → attempt lock values ≡ Absent [] → (first : ℕ) × (lock.is_absent first ≡ true) × (in_hand values ≡ load lock.number_word first ∷ [])
  absent_as [] is = absurd (absent_word _ [] is)
  absent_as (first ∷ values) is =
      elim (cases_Bool (lock.is_absent first)) [
        | inl absent ↦
            let none = absent_same values [] (sym (laws.attempt-absent lock first values absent) ∙ is) in
            (first, absent, ap (λ (vs : List ℕ). in_hand (first ∷ vs)) none ∙ in_hand-few first [] (omega arith))
        | inr published ↦
            elim (cases_Bool (lock.number_in first % 2 == 1)) [
              | inl odd ↦ absurd (absent_failed _ _ values [] (sym (laws.attempt-odd lock first values published (eqb-true _ _ odd)) ∙ is))
              | inr other ↦
                  let calm : IsCalm lock first = record { published = published; even = (let even = eqb-false (lock.number_in first % 2) 1 other in omega arith) } in
                  absurd (data_absent first values [] (sym (laws.attempt-calm lock first values calm) ∙ is))
            ]
      ]

  -- ---- a run

  -- the steps so far are those of tries that failed and of the try in hand
  pub record Going (tries : ℕ) (touches : List Touch) (read : SeqlockRead) : Type 0 where
    pub stage : IsStage lock read
    pub failed : List FailedTry
    pub all_failed : All (HasFailed lock) failed
    pub counted : length failed + read.left ≡ tries
    pub numbers : numbers_after lock.number_in (0, 0) failed ≡ (read.first, read.last)
    pub made : touches ≡ steps_of_all lock failed ++ in_hand read.values

  going_kept : (tries : ℕ) (touches : List Touch) (read : SeqlockRead) (value word : ℕ) → Going tries touches read → attempt lock read.values ≡ Wants word → IsStage lock (record read { values = read.values ++ value ∷ [] })
      → Going tries (touches ++ load word value ∷ []) (record read { values = read.values ++ value ∷ [] })
  going_kept tries touches read value word going wants stage =
      record {
        stage = stage;
        failed = going.failed;
        all_failed = going.all_failed;
        counted = going.counted;
        numbers = going.numbers;
        made =
            ap (λ (steps : List Touch). steps ++ load word value ∷ []) going.made
            ∙ append_assoc (steps_of_all lock going.failed) (in_hand read.values) (load word value ∷ [])
            ∙ sym (ap (λ (steps : List Touch). steps_of_all lock going.failed ++ steps) (hand_more read.values value word wants));
      }

  steps_of_all-append : (failed more : List FailedTry) → steps_of_all lock (failed ++ more) ≡ steps_of_all lock failed ++ steps_of_all lock more
  steps_of_all-append [] more = refl
  steps_of_all-append (try ∷ failed) more = ap (λ (steps : List Touch). steps_of lock try ++ steps) (steps_of_all-append failed more) ∙ sym (append_assoc (steps_of lock try) (steps_of_all lock failed) (steps_of_all lock more))

  numbers_after-append : (before : ℕ × ℕ) (failed more : List FailedTry) → numbers_after lock.number_in before (failed ++ more) ≡ numbers_after lock.number_in (numbers_after lock.number_in before failed) more
  numbers_after-append before [] more = refl
  numbers_after-append before (Odd first ∷ failed) more = numbers_after-append (lock.number_in first, lock.number_in first) failed more
  numbers_after-append before (Changed first words last ∷ failed) more = numbers_after-append (lock.number_in first, lock.number_in last) failed more

  going_failed : (tries : ℕ) (touches : List Touch) (read : SeqlockRead) (value word before f l : ℕ) → Going tries touches read → attempt lock read.values ≡ Wants word → read.left ≡ suc before
      → IsFailedTry (read.values ++ value ∷ []) f l → Going tries (touches ++ load word value ∷ []) (failed_try read f l)
  going_failed tries touches read value word before f l going wants more fails =
      record {
        stage = record { of_one_try = tt; none_after = λ none. refl };
        failed = going.failed ++ fails.try ∷ [];
        all_failed = All-push (HasFailed lock) going.failed fails.try going.all_failed fails.has_failed;
        counted = (let counted = going.counted in rw length-append (omega (arith, counted, more)));
        numbers = numbers_after-append (0, 0) going.failed (fails.try ∷ []) ∙ fails.numbers _;
        made =
            ap (λ (steps : List Touch). steps ++ load word value ∷ []) going.made
            ∙ append_assoc (steps_of_all lock going.failed) (in_hand read.values) (load word value ∷ [])
            ∙ ap (λ (steps : List Touch). steps_of_all lock going.failed ++ steps) (sym (hand_more read.values value word wants) ∙ fails.made ∙ sym (append-nil (steps_of lock fails.try)))
            ∙ sym (steps_of_all-append going.failed (fails.try ∷ []))
            ∙ sym (append-nil (steps_of_all lock (going.failed ++ fails.try ∷ [])));
      }

  going_by : (tries : ℕ) (touches : List Touch) (read : SeqlockRead) (value word before : ℕ) (at : Attempt) (later : List ℕ → Attempt) → Going tries touches read → attempt lock read.values ≡ Wants word → read.left ≡ suc before
      → attempt lock (read.values ++ value ∷ []) ≡ at → laws.Goes lock at later → IsStage lock (with_attempt read (read.values ++ value ∷ []) at) → Going tries (touches ++ load word value ∷ []) (with_attempt read (read.values ++ value ∷ []) at)
  going_by tries touches read value word before (Wants next) later going wants more is goes_ stage = going_kept tries touches read value word going wants stage
  going_by tries touches read value word before (Absent rest) later going wants more is goes_ stage = going_kept tries touches read value word going wants stage
  going_by tries touches read value word before (Failed f l rest) later going wants more is goes_ stage =
      going_failed tries touches read value word before f l going wants more (fails_as (read.values ++ value ∷ []) f l (is ∙ ap (Failed f l) goes_.0))
  going_by tries touches read value word before (Read first words rest) later going wants more is goes_ stage = going_kept tries touches read value word going wants stage

  going_step : (tries : ℕ) (touches : List Touch) (read : SeqlockRead) (touch : Touch) → Going tries touches read → read_act lock read ≡ act_of_touch touch → laws.IsOpen lock read
      → Going tries (touches ++ touch ∷ []) (given lock read touch.value)
  going_step tries touches read touch going wanted open_ =
      let is = load_is touch open_.word (sym (ap act_of (laws.open_asks lock read open_)) ∙ wanted) in
      subst (λ (t : Touch). Going tries (touches ++ t ∷ []) (given lock read touch.value)) (sym is)
      (going_by tries touches read touch.value open_.word open_.before _ _ going open_.wants open_.more refl (laws.goes lock read.values touch.value open_.word open_.wants) (laws.stage_given lock read touch.value open_))

  goes_along : (tries : ℕ) (before touches : List Touch) (read : SeqlockRead) → Going tries before read → Wanted (read_act lock) (given lock) read touches → Going tries (before ++ touches) (replayed (read_act lock) (given lock) read touches)
  goes_along tries before [] read going wanted = subst (λ (steps : List Touch). Going tries steps read) (sym (append-nil before)) going
  goes_along tries before (touch ∷ touches) read going wanted =
      let asks : read_act lock read ≢ End = λ ends. touch_acts touch (sym wanted.0 ∙ ends) in
      let open_ = laws.open_act lock read going.stage asks in
      subst (λ (steps : List Touch). Going tries steps (replayed (read_act lock) (given lock) read (touch ∷ touches))) (append_assoc before (touch ∷ []) touches)
      (goes_along tries (before ++ touch ∷ []) touches (given lock read touch.value) (going_step tries before read touch going wanted.0 open_) wanted.1)

  pub going : (tries : ℕ) (touches : List Touch) → Wanted (read_act lock) (given lock) (started tries) touches → Going tries touches (replayed (read_act lock) (given lock) (started tries) touches)
  going tries touches wanted = goes_along tries [] touches (started tries) (record { stage = laws.started-stage lock tries; failed = []; all_failed = All-nil (HasFailed lock); counted = omega arith; numbers = refl; made = refl }) wanted

  ends_found : (outcome : Outcome) (first : ℕ) (words : List ℕ) → Some (Found first words) ≡ Some outcome → Found first words ≡ outcome
  ends_found outcome first words is = cc is

  ends_absent : (outcome : Outcome) → Some Unpublished ≡ Some outcome → Unpublished ≡ outcome
  ends_absent outcome is = cc is

  ends_failed : (outcome : Outcome) (first last : ℕ) → Some (AllFailed first last) ≡ Some outcome → AllFailed first last ≡ outcome
  ends_failed outcome first last is = cc is

  wants_ends : (outcome : Outcome) → None ≡ Some outcome → ⊥
  wants_ends outcome is = cc is

  made_with : (touches : List Touch) (failed : List FailedTry) (values : List ℕ) (steps : List Touch) → touches ≡ steps_of_all lock failed ++ in_hand values → in_hand values ≡ steps → touches ≡ steps_of_all lock failed ++ steps
  made_with touches failed values steps made are = made ∙ ap (λ (s : List Touch). steps_of_all lock failed ++ s) are

  did_by : (tries : ℕ) (touches : List Touch) (read : SeqlockRead) (before : ℕ) (outcome : Outcome) (at : Attempt) → Going tries touches read → read.left ≡ suc before → attempt lock read.values ≡ at → IsOfOneTry at
      → end_of (goes_on Asks (λ outcome rest. Ends outcome) (read_of lock before) at) ≡ Some outcome → Did lock tries touches outcome
  did_by tries touches read before outcome (Wants word) going more is one ends = absurd (wants_ends outcome ends)
  did_by tries touches read before outcome (Absent rest) going more is one ends =
      let found = absent_as read.values (is ∙ ap Absent one) in
      subst (Did lock tries touches) (ends_absent outcome ends)
      (record {
        failed = going.failed;
        all_failed = going.all_failed;
        more = (let counted = going.counted in omega (arith, counted, more));
        first = found.0;
        absent = found.1;
        made = made_with touches going.failed read.values _ going.made found.2;
      })
  did_by tries touches read before outcome (Failed first last rest) going more is one ends = absurd one
  did_by tries touches read before outcome (Read first words rest) going more is one ends =
      let found = reads_as read.values first words (is ∙ ap (Read first words) one) in
      subst (Did lock tries touches) (ends_found outcome first words ends)
      (record {
        failed = going.failed;
        all_failed = going.all_failed;
        more = (let counted = going.counted in omega (arith, counted, more));
        last = found.last;
        calm = found.calm;
        whole = found.whole;
        same = found.same;
        made = made_with touches going.failed read.values _ going.made found.made;
      })

  did_at : (tries : ℕ) (touches : List Touch) (read : SeqlockRead) (left : ℕ) (outcome : Outcome) → read.left ≡ left → Going tries touches read → end_of (read_of lock left read.first read.last read.values) ≡ Some outcome → Did lock tries touches outcome
  did_at tries touches read zero outcome is going ends =
      subst (Did lock tries touches) (ends_failed outcome read.first read.last ends)
      (record {
        failed = going.failed;
        all_failed = going.all_failed;
        all = (let counted = going.counted in omega (arith, counted, is));
        numbers = going.numbers;
        made = going.made ∙ ap (λ (values : List ℕ). steps_of_all lock going.failed ++ in_hand values) (going.stage.none_after is) ∙ append-nil (steps_of_all lock going.failed);
      })
  did_at tries touches read (suc before) outcome is going ends = did_by tries touches read before outcome (attempt lock read.values) going is refl going.stage.of_one_try ends

  pub did : (tries : ℕ) (touches : List Touch) (outcome : Outcome) → Wanted (read_act lock) (given lock) (started tries) touches → read_end lock (replayed (read_act lock) (given lock) (started tries) touches) ≡ Some outcome → Did lock tries touches outcome
  did tries touches outcome wanted ends =
      let read = replayed (read_act lock) (given lock) (started tries) touches in
      did_at tries touches read read.left outcome refl (going tries touches wanted) ends

  -- ---- the other way: such steps are a run

  -- from one place the read wants these steps, and they lead to another
  pub record Leads (before : SeqlockRead) (steps : List Touch) (later : SeqlockRead) : Type 0 where
    pub wanted : Wanted (read_act lock) (given lock) before steps
    pub there : replayed (read_act lock) (given lock) before steps ≡ later

  leads_on : (one two three : SeqlockRead) (xs ys : List Touch) → Leads one xs two → Leads two ys three → Leads one (xs ++ ys) three
  leads_on one two three xs ys first second =
      record {
        wanted = wanted-append (read_act lock) (given lock) one xs ys first.wanted (subst (λ (read : SeqlockRead). Wanted (read_act lock) (given lock) read ys) (sym first.there) second.wanted);
        there = replayed-append (read_act lock) (given lock) one xs ys ∙ ap (λ (read : SeqlockRead). replayed (read_act lock) (given lock) read ys) first.there ∙ second.there;
      }

  leads_step : (read next : SeqlockRead) (word value : ℕ) → progress lock read ≡ Asks word → given lock read value ≡ next → Leads read (load word value ∷ []) next
  leads_step read next word value asks is = record { wanted = (ap act_of asks, tt); there = is }

  leads_none : (one two : SeqlockRead) → one ≡ two → Leads one [] two
  leads_none one two is = record { wanted = tt; there = is }

  -- a read whose try in hand has these values
  abbrev pub holds : ℕ → ℕ → ℕ × ℕ → List ℕ → SeqlockRead
  holds tries left numbers values = record { tries = tries; left = left; first = numbers.0; last = numbers.1; values = values }

  words_lead : (tries before : ℕ) (numbers : ℕ × ℕ) (first : ℕ) (done words : List ℕ) → IsCalm lock first → length done + length words ≤ lock.size
      → Leads (holds tries (suc before) numbers (first ∷ done)) (loads_from (lock.first_word + length done) words) (holds tries (suc before) numbers (first ∷ (done ++ words)))
  words_lead tries before numbers first done [] calm few = leads_none _ _ (ap (λ (vs : List ℕ). holds tries (suc before) numbers (first ∷ vs)) (sym (append-nil done)))
  words_lead tries before numbers first done (word ∷ words) calm few =
      let read = holds tries (suc before) numbers (first ∷ done) in
      let longer : length (done ++ word ∷ []) ≡ length done + 1 = length-append done (word ∷ []) in
      let place : lock.first_word + length (done ++ word ∷ []) ≡ suc (lock.first_word + length done) = omega (arith, longer) in
      let one = leads_step read (holds tries (suc before) numbers (first ∷ (done ++ word ∷ []))) (lock.first_word + length done) word (laws.asks-data lock read first done (omega arith) refl calm (omega arith)) (laws.given-word lock read first word done refl calm (omega arith)) in
      let rest = words_lead tries before numbers first (done ++ word ∷ []) words calm (omega (arith, longer)) in
      subst (λ (n : ℕ). Leads read (load (lock.first_word + length done) word ∷ loads_from n words) (holds tries (suc before) numbers (first ∷ (done ++ word ∷ words)))) place
      (subst (λ (vs : List ℕ). Leads read (load (lock.first_word + length done) word ∷ loads_from (lock.first_word + length (done ++ word ∷ [])) words) (holds tries (suc before) numbers (first ∷ vs))) (append_assoc done (word ∷ []) words)
      (leads_on read _ _ (load (lock.first_word + length done) word ∷ []) _ one rest))

  -- the loads of a try up to its last one
  words_read : (tries before : ℕ) (numbers : ℕ × ℕ) (first : ℕ) (words : List ℕ) → IsCalm lock first → length words ≡ lock.size
      → Leads (holds tries (suc before) numbers []) (load lock.number_word first ∷ loads_from lock.first_word words) (holds tries (suc before) numbers (first ∷ words))
  words_read tries before numbers first words calm full =
      let read = holds tries (suc before) numbers [] in
      let one = leads_step read (holds tries (suc before) numbers (first ∷ [])) lock.number_word first (laws.asks-first lock read (omega arith) refl) (laws.given-even lock read first refl calm) in
      let rest = words_lead tries before numbers first [] words calm (omega (arith, full)) in
      let place : lock.first_word + 0 ≡ lock.first_word = omega arith in
      subst (λ (n : ℕ). Leads read (load lock.number_word first ∷ loads_from n words) (holds tries (suc before) numbers (first ∷ words))) place
      (leads_on read _ _ (load lock.number_word first ∷ []) _ one rest)

  whole_lead : (tries before : ℕ) (numbers : ℕ × ℕ) (first : ℕ) (words : List ℕ) (last : ℕ) (next : SeqlockRead) → IsCalm lock first → length words ≡ lock.size → given lock (holds tries (suc before) numbers (first ∷ words)) last ≡ next
      → Leads (holds tries (suc before) numbers []) (whole_try lock first words last) next
  whole_lead tries before numbers first words last next calm full is =
      let read = holds tries (suc before) numbers (first ∷ words) in
      leads_on (holds tries (suc before) numbers []) read next (load lock.number_word first ∷ loads_from lock.first_word words) (load lock.number_word last ∷ [])
      (words_read tries before numbers first words calm full)
      (leads_step read next lock.number_word last (laws.asks-last lock read first words (omega arith) refl calm full) is)

  less_one : (tries before first last : ℕ) → record { tries = tries; left = suc before - 1; first = first; last = last; values = [] } ≡ holds tries before (first, last) []
  less_one tries before first last = let one : suc before - 1 ≡ before = omega arith in ap (λ (n : ℕ). holds tries n (first, last) []) one

  try_leads : (tries before : ℕ) (numbers : ℕ × ℕ) (try : FailedTry) → HasFailed lock try → Leads (holds tries (suc before) numbers []) (steps_of lock try) (holds tries before (numbers_after lock.number_in numbers (try ∷ [])) [])
  try_leads tries before numbers (Odd first) fails =
      let read = holds tries (suc before) numbers [] in
      leads_step read _ lock.number_word first (laws.asks-first lock read (omega arith) refl) (laws.given-odd lock read first refl fails.0 fails.1 ∙ less_one tries before (lock.number_in first) (lock.number_in first))
  try_leads tries before numbers (Changed first words last) fails =
      let read = holds tries (suc before) numbers (first ∷ words) in
      whole_lead tries before numbers first words last _ fails.0 fails.1 (laws.given-last-other lock read first last words refl fails.0 fails.1 fails.2 ∙ less_one tries before (lock.number_in first) (lock.number_in last))

  next_numbers : (numbers : ℕ × ℕ) (try : FailedTry) (failed : List FailedTry) → numbers_after lock.number_in (numbers_after lock.number_in numbers (try ∷ [])) failed ≡ numbers_after lock.number_in numbers (try ∷ failed)
  next_numbers numbers (Odd first) failed = refl
  next_numbers numbers (Changed first words last) failed = refl

  tries_lead : (tries left : ℕ) (numbers : ℕ × ℕ) (failed : List FailedTry) → All (HasFailed lock) failed → Leads (holds tries (length failed + left) numbers []) (steps_of_all lock failed) (holds tries left (numbers_after lock.number_in numbers failed) [])
  tries_lead tries left numbers [] all_failed = leads_none _ _ (let same : 0 + left ≡ left = omega arith in ap (λ (n : ℕ). holds tries n numbers []) same)
  tries_lead tries left numbers (try ∷ failed) all_failed =
      let here = try_leads tries (length failed + left) numbers try (All-head (HasFailed lock) try failed all_failed) in
      let rest = tries_lead tries left (numbers_after lock.number_in numbers (try ∷ [])) failed (All-tail (HasFailed lock) try failed all_failed) in
      let so_many : suc (length failed + left) ≡ suc (length failed) + left = omega arith in
      subst (λ (n : ℕ). Leads (holds tries n numbers []) (steps_of lock try ++ steps_of_all lock failed) (holds tries left (numbers_after lock.number_in numbers (try ∷ failed)) [])) so_many
      (subst (λ (after : ℕ × ℕ). Leads (holds tries (suc (length failed + left)) numbers []) (steps_of lock try ++ steps_of_all lock failed) (holds tries left after [])) (next_numbers numbers try failed)
      (leads_on _ _ _ (steps_of lock try) (steps_of_all lock failed) here rest))

  came : (tries : ℕ) (touches steps : List Touch) (outcome : Outcome) (later : SeqlockRead) → touches ≡ steps → Leads (started tries) steps later → progress lock later ≡ Ends outcome → CameTo lock tries touches outcome
  came tries touches steps outcome later made leads ends =
      subst (λ (s : List Touch). CameTo lock tries s outcome) (sym made)
      (leads.wanted, ap (read_end lock) leads.there ∙ ap end_of ends)

  start_leads : (tries left : ℕ) (failed : List FailedTry) → All (HasFailed lock) failed → length failed + left ≡ tries → Leads (started tries) (steps_of_all lock failed) (holds tries left (numbers_after lock.number_in (0, 0) failed) [])
  start_leads tries left failed all_failed counted =
      subst (λ (n : ℕ). Leads (holds tries n (0, 0) []) (steps_of_all lock failed) (holds tries left (numbers_after lock.number_in (0, 0) failed) [])) counted
      (tries_lead tries left (0, 0) failed all_failed)

  one_left : (failed : List FailedTry) (tries : ℕ) → length failed < tries → (before : ℕ) × (length failed + suc before ≡ tries)
  one_left failed tries more = (tries - length failed - 1, omega arith)

  pub did_so : (tries : ℕ) (touches : List Touch) (outcome : Outcome) → Did lock tries touches outcome → CameTo lock tries touches outcome
  did_so tries touches Unpublished d =
      let left = one_left d.failed tries d.more in
      let read = holds tries (suc left.0) (numbers_after lock.number_in (0, 0) d.failed) [] in
      let last = leads_step read (laws.with_values lock read (d.first ∷ [])) lock.number_word d.first (laws.asks-first lock read (omega arith) refl) (laws.given-absent lock read d.first refl d.absent) in
      came tries touches _ Unpublished (laws.with_values lock read (d.first ∷ [])) d.made
      (leads_on _ _ _ (steps_of_all lock d.failed) (load lock.number_word d.first ∷ []) (start_leads tries (suc left.0) d.failed d.all_failed left.1) last)
      (laws.ends-absent lock (laws.with_values lock read (d.first ∷ [])) d.first [] (omega arith) refl d.absent)
  did_so tries touches (AllFailed first last) d =
      let counted : length d.failed + 0 ≡ tries = (let all = d.all in omega (arith, all)) in
      let later = holds tries 0 (numbers_after lock.number_in (0, 0) d.failed) [] in
      came tries touches _ (AllFailed first last) later d.made (start_leads tries 0 d.failed d.all_failed counted)
      (laws.ends-failed lock later refl ∙ ap (λ (n : ℕ × ℕ). Ends (AllFailed n.0 n.1)) d.numbers)
  did_so tries touches (Found first words) d =
      let left = one_left d.failed tries d.more in
      let numbers = numbers_after lock.number_in (0, 0) d.failed in
      let later = holds tries (suc left.0) numbers (first ∷ (words ++ d.last ∷ [])) in
      came tries touches _ (Found first words) later d.made
      (leads_on _ _ _ (steps_of_all lock d.failed) (whole_try lock first words d.last) (start_leads tries (suc left.0) d.failed d.all_failed left.1)
      (whole_lead tries left.0 numbers first words d.last later d.calm d.whole (laws.given-last-same lock (holds tries (suc left.0) numbers (first ∷ words)) first d.last words refl d.calm d.whole d.same)))
      (laws.ends-read lock later first d.last words (omega arith) refl d.calm d.whole d.same)
