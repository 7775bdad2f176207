-- The tries of a read of the page, by the words that they loaded. This project's own.
use Rattle.std.specs.Prelude.{◌≡◌, ◌≢◌, ◌↔◌, ℕ, ◌+◌, ◌*◌, ◌<◌, ◌≤◌, ◌%◌, List, [], ◌∷◌, ◌++◌, length, Some}
use Rattle.clock_gate.specs.declared.act.Act.TheVariants.{Load}
use Rattle.clock_gate.specs.Acts.{after, WereAsked}
use Rattle.seqlock.specs.Tries.{SeqlockRead, started, failed_try}
use Rattle.vmclock_page.specs.Words.{count_in_word}
use Rattle.vmclock_page.specs.PageRead.{act_of, given, end_of}
use Rattle.vmclock_page.specs.declared.page_seen.PageSeen.TheVariants.{Marker, Busy}

-- the words of a try that failed: an odd count first, or an even one first and another last
pub data Missed : Type 0 where
  Odd : (first : ℕ) → Missed
  Changed : (first marker last : ℕ) → Missed

abbrev pub IsMissed : Missed → Type 0
IsMissed (Odd first) = count_in_word first % 2 ≡ 1
IsMissed (Changed first marker last) = (count_in_word first % 2 ≡ 0) × (count_in_word last ≢ count_in_word first)

-- its words in the order in which they were loaded
abbrev pub missed_values : Missed → List ℕ
missed_values (Odd first) = first ∷ []
missed_values (Changed first marker last) = first ∷ marker ∷ last ∷ []

-- its two counts; an odd first one stands for both
abbrev pub first_count : Missed → ℕ
first_count (Odd first) = count_in_word first
first_count (Changed first marker last) = count_in_word first

abbrev pub last_count : Missed → ℕ
last_count (Odd first) = count_in_word first
last_count (Changed first marker last) = count_in_word last

-- each of these tries failed
abbrev pub AreMissed : List Missed → Type 0
AreMissed [] = Unit {0}
AreMissed (missed ∷ later) = IsMissed missed × AreMissed later

-- all the words that they loaded, one try after another
abbrev pub values_of_tries : List Missed → List ℕ
values_of_tries [] = []
values_of_tries (missed ∷ later) = missed_values missed ++ values_of_tries later

-- the words were loaded by so many tries, each of which failed, the last of them by these two counts
pub record EachMissed (tries : ℕ) (values : List ℕ) (first last : ℕ) : Type 0 where
  pub earlier : List Missed
  pub final : Missed
  pub all : length earlier + 1 ≡ tries
  pub missed : AreMissed (earlier ++ final ∷ [])
  pub loaded : values ≡ values_of_tries (earlier ++ final ∷ [])
  pub first_is : first ≡ first_count final
  pub last_is : last ≡ last_count final

-- fewer than so many tries failed; the next one met this even count twice, with this marker loaded between
pub record OneSaw (tries : ℕ) (values : List ℕ) (marker sequence : ℕ) : Type 0 where
  pub earlier : List Missed
  pub first_word : ℕ
  pub last_word : ℕ
  pub some_left : length earlier < tries
  pub missed : AreMissed earlier
  pub loaded : values ≡ values_of_tries earlier ++ first_word ∷ marker ∷ last_word ∷ []
  pub even : sequence % 2 ≡ 0
  pub first_is : sequence ≡ count_in_word first_word
  pub last_is : sequence ≡ count_in_word last_word

-- the word that a try wants after these: the count; under an even count the marker; and the count again
abbrev pub IsWanted : List ℕ → ℕ → Type 0
IsWanted [] word = word ≡ 11
IsWanted (first ∷ []) word = (count_in_word first % 2 ≡ 0) × (word ≡ 12)
IsWanted (first ∷ marker ∷ []) word = (count_in_word first % 2 ≡ 0) × (word ≡ 11)
IsWanted (first ∷ marker ∷ last ∷ values) word = ⊥

-- fewer than so many tries failed, and the next one wants this word
pub record OneWants (tries : ℕ) (values : List ℕ) (word : ℕ) : Type 0 where
  pub earlier : List Missed
  pub in_hand : List ℕ
  pub some_left : length earlier < tries
  pub missed : AreMissed earlier
  pub loaded : values ≡ values_of_tries earlier ++ in_hand
  pub wanted : IsWanted in_hand word

-- what one word does to a read that has a try left, by its place in the try: an odd count fails the try and an even one
-- is kept; so is the marker; then the same count ends the read, and another one fails the try
pub record TakesAWord (read : SeqlockRead) (word : ℕ) : Type 0 where
  pub odd : read.values ≡ [] → count_in_word word % 2 ≡ 1 → given read word ≡ failed_try read (count_in_word word) (count_in_word word)
  pub even : read.values ≡ [] → count_in_word word % 2 ≡ 0 → given read word ≡ record read { values = word ∷ [] }
  pub marker : (first : ℕ) → read.values ≡ first ∷ [] → count_in_word first % 2 ≡ 0 → given read word ≡ record read { values = first ∷ word ∷ [] }
  pub same : (first marker : ℕ) → read.values ≡ first ∷ marker ∷ [] → count_in_word first % 2 ≡ 0 → count_in_word word ≡ count_in_word first
      → given read word ≡ record read { values = first ∷ marker ∷ word ∷ [] }
  pub other : (first marker : ℕ) → read.values ≡ first ∷ marker ∷ [] → count_in_word first % 2 ≡ 0 → count_in_word word ≢ count_in_word first
      → given read word ≡ failed_try read (count_in_word first) (count_in_word word)

-- the read after these values
abbrev pub read_after : ℕ → List ℕ → SeqlockRead
read_after tries values = after act_of given (started tries) values

-- what a read of so many tries promises, for all values that it can be given, in the words of its tries
pub record ReadsThePage (tries : ℕ) (values : List ℕ) : Type 0 where
  pub wants : (word : ℕ) → (act_of (read_after tries values) ≡ Load word) ↔ OneWants tries values word
  pub marker : (marker sequence : ℕ) → (end_of (read_after tries values) ≡ Some (Marker marker sequence)) ↔ OneSaw tries values marker sequence
  pub busy : (first last : ℕ) → (end_of (read_after tries values) ≡ Some (Busy first last)) ↔ EachMissed tries values first last
  pub steps : length values ≤ 3 * tries

-- so it is for every number of tries and all values that were asked for
abbrev pub FollowsItsTries : Type 0
FollowsItsTries = (tries : ℕ) (values : List ℕ) → 0 < tries → WereAsked act_of given (started tries) values → ReadsThePage tries values
