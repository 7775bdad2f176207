-- The steps of a read of words under a number, try by try. This project's own.
use Rattle.std.specs.Prelude.{◌≡◌, ◌↔◌, ℕ, Some, suc, ◌%◌, ◌<◌, true, false, List, [], ◌∷◌, ◌++◌, length, All}
use Rattle.clock_gate.specs.Acts.{Touch, Wanted, replayed}
use Rattle.seqlock.specs.Tries.{Seqlock, Outcome, Unpublished, AllFailed, Found, IsCalm, started, given, read_act, read_end}

-- a load of a word that found this value
abbrev pub load : ℕ → ℕ → Touch
load word value = record { word = word; value = value; stored = false }

-- loads of words one after another, from this one on, that found these values
abbrev pub loads_from : ℕ → List ℕ → List Touch
loads_from word [] = []
loads_from word (value ∷ values) = load word value ∷ loads_from (suc word) values

-- loads of one word that found these values
abbrev pub loads_of : ℕ → List ℕ → List Touch
loads_of word [] = []
loads_of word (value ∷ values) = load word value ∷ loads_of word values

-- a try that failed: by an odd number in its first word, or by another word at last
pub data FailedTry : Type 0 where
  Odd : (first : ℕ) → FailedTry
  Changed : (first : ℕ) (words : List ℕ) (last : ℕ) → FailedTry

-- the two numbers of the last of these tries, where these are the numbers before them
abbrev pub numbers_after : (ℕ → ℕ) → ℕ × ℕ → List FailedTry → ℕ × ℕ
numbers_after number_in numbers [] = numbers
numbers_after number_in numbers (Odd first ∷ failed) = numbers_after number_in (number_in first, number_in first) failed
numbers_after number_in numbers (Changed first words last ∷ failed) = numbers_after number_in (number_in first, number_in last) failed

module _ (lock : Seqlock) where
  abbrev pub HasFailed : FailedTry → Type 0
  HasFailed (Odd first) = (lock.is_absent first ≡ false) × (lock.number_in first % 2 ≡ 1)
  HasFailed (Changed first words last) = IsCalm lock first × (length words ≡ lock.size) × (lock.is_same first last ≡ false)

  -- the loads of a try that loads everything: the number, the words in their order, the number again
  abbrev pub whole_try : ℕ → List ℕ → ℕ → List Touch
  whole_try first words last = load lock.number_word first ∷ (loads_from lock.first_word words ++ load lock.number_word last ∷ [])

  abbrev pub steps_of : FailedTry → List Touch
  steps_of (Odd first) = load lock.number_word first ∷ []
  steps_of (Changed first words last) = whole_try first words last

  -- the steps of tries one after another
  abbrev pub steps_of_all : List FailedTry → List Touch
  steps_of_all [] = []
  steps_of_all (try ∷ tries) = steps_of try ++ steps_of_all tries

  -- fewer than so many tries failed; the next one found the number calm, loaded the words, and found the same word at last
  pub record FindsWords (tries : ℕ) (touches : List Touch) (first : ℕ) (words : List ℕ) : Type 0 where
    pub failed : List FailedTry
    pub all_failed : All HasFailed failed
    pub more : length failed < tries
    pub last : ℕ
    pub calm : IsCalm lock first
    pub whole : length words ≡ lock.size
    pub same : lock.is_same first last ≡ true
    pub made : touches ≡ steps_of_all failed ++ whole_try first words last

  -- fewer than so many tries failed; the next one found that nothing was published
  pub record FindsNothing (tries : ℕ) (touches : List Touch) : Type 0 where
    pub failed : List FailedTry
    pub all_failed : All HasFailed failed
    pub more : length failed < tries
    pub first : ℕ
    pub absent : lock.is_absent first ≡ true
    pub made : touches ≡ steps_of_all failed ++ load lock.number_word first ∷ []

  -- so many tries failed, the last of them by these numbers
  pub record FailsAlways (tries : ℕ) (touches : List Touch) (first last : ℕ) : Type 0 where
    pub failed : List FailedTry
    pub all_failed : All HasFailed failed
    pub all : length failed ≡ tries
    pub numbers : numbers_after lock.number_in (0, 0) failed ≡ (first, last)
    pub made : touches ≡ steps_of_all failed

  -- what a read of so many tries did that came to this
  abbrev pub Did : ℕ → List Touch → Outcome → Type 0
  Did tries touches Unpublished = FindsNothing tries touches
  Did tries touches (AllFailed first last) = FailsAlways tries touches first last
  Did tries touches (Found first words) = FindsWords tries touches first words

  -- a read of so many tries made these steps, each the one that it wanted, and came to this
  abbrev pub CameTo : ℕ → List Touch → Outcome → Type 0
  CameTo tries touches outcome =
      Wanted (read_act lock) (given lock) (started tries) touches
      × (read_end lock (replayed (read_act lock) (given lock) (started tries) touches) ≡ Some outcome)

-- a read came to this exactly where its tries did so
abbrev pub IsToldByItsTries : Type 0
IsToldByItsTries = (lock : Seqlock) (tries : ℕ) (touches : List Touch) (outcome : Outcome) → CameTo lock tries touches outcome ↔ Did lock tries touches outcome
