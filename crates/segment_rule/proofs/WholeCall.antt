-- What a call comes to whose first try reads the record, and what goes on with it where it doesn't.
use Rattle.std.proofs.Common.{◌≡◌, ◌≢◌, ℕ, ◌%◌, ◌<◌, ◌≤◌, inr, Bool, true, false, List, [], ◌∷◌, Option, Some, None, refl, sym, ap, ◌∙◌, subst, arith}
use Rattle.std.specs.Prelude.{is_some, length}
use Rattle.clock_gate.specs.declared.act.Act.{Act}
use Rattle.clock_gate.specs.declared.act.Act.TheVariants.{Load, End}
use Rattle.clock_gate.specs.declared.clock_row.ClockRow.{ClockRow}
use Rattle.clock_gate.specs.declared.clock_row.Reading.{Reading}
use Rattle.clock_gate.specs.Acts.{after}
use Rattle.clock_gate.specs.ClockRow.{reading_at, IsClock}
use Rattle.generation_word.specs.Header.{generation_in}
use Rattle.seqlock.specs.Tries.{SeqlockRead, IsCalm, started}
use Rattle.segment_layout.specs.Record.{RecordFields}
use Rattle.shm_reader.specs.declared.seen.Seen.{Seen}
use Rattle.shm_reader.specs.declared.seen.Seen.TheVariants as seen
use Rattle.shm_reader.specs.SegmentTries.{segment_lock, record_in, IsGoodLoad, AreGoodLoads}
use Rattle.shm_reader.specs.SegmentTries as segment
use Rattle.vmclock_page.specs.declared.page_seen.PageSeen.{PageSeen}
use Rattle.vmclock_page.specs.declared.page_seen.PageSeen.TheVariants as page_seen
use Rattle.vmclock_page.specs.Words.{count_in_word}
use Rattle.vmclock_page.specs.PageRead as page
use Rattle.interval_now.specs.declared.answers.Answer.{Answer}
use Rattle.interval_now.specs.declared.stage.Stage.{Stage}
use Rattle.interval_now.specs.declared.stage.Stage.TheVariants as stages
use Rattle.interval_now.specs.Call.{Call, IsCall, Agrees, reading_taken, started_call, answer_of, act_of, act_at, end_of, end_at, given, stage_given, after_segment, after_clock, after_page, paged, IsRowNumber}
use Rattle.interval_now.proofs.FirstTry.{under, words_read, asks_words, asks_again, record_read}
use Rattle.interval_now.proofs.PageTry.{asks_count, asks_marker, asks_count_again, count_given, marker_given, page_read}
use Rattle.segment_views.specs.Views.{SeatView}
use Rattle.segment_rule.specs.Ruled.{TellsLoad, TellsLoads}
use Rattle.segment_rule.specs.Calls.{Going, Nows, ComesTo}
use Rattle.segment_rule.proofs.Stepping.{no_test, data_known, going_first, going_more, ends_first, ends_more}
use Rattle.segment_rule.proofs.LoadedWords.{good_loaded, going_words, no_reading}

-- no reading was taken in the segment's tries
unread : (clock : List ClockRow) (read : SeqlockRead) (end : Option Seen) → Agrees clock (reading_taken (after_segment read end))
unread clock read None = tt
unread clock read (Some (seen.Whole generation rec)) = tt
unread clock read (Some (seen.Busy most first last)) = tt
unread clock read (Some seen.NotInitialized) = tt

unread_given : (clock : List ClockRow) (most : ℕ) (support : Bool) (read : SeqlockRead) (n : ℕ) → Agrees clock (reading_taken (stage_given clock most support (stages.Segment read) n))
unread_given clock most support read n = unread clock (segment.given read n) (segment.end_of (segment.given read n))

-- the first load alone
first_by : (clock : List ClockRow) (most : ℕ) (v w : SeatView) (n : ℕ) (end : Option Answer) → IsClock clock → length clock ≡ v.setup.rows → IsCall (started_call most (is_some v.setup.page))
    → TellsLoad true 1 v n n w → end ≡ end_of (given clock (started_call most (is_some v.setup.page)) n) → ComesTo clock most end (given clock (started_call most (is_some v.setup.page)) n) w
first_by clock most v w n None moments rows is told ends = (going_first clock most v w n moments rows is told (sym ends), unread_given clock most (is_some v.setup.page) (started most) n)
first_by clock most v w n (Some answer) moments rows is told ends = ends_first clock most v w n answer is.some told (sym ends)

pub first_comes : (clock : List ClockRow) (most : ℕ) (support : Bool) (v w : SeatView) (n : ℕ) (end : Option Answer) (call : Call) → IsClock clock → length clock ≡ v.setup.rows → support ≡ is_some v.setup.page → IsCall (started_call most support)
    → TellsLoad true 1 v n n w → call ≡ given clock (started_call most support) n → end ≡ end_of call → ComesTo clock most end call w
first_comes clock most support v w n end call moments rows has is told made ends =
    let there : call ≡ given clock (started_call most (is_some v.setup.page)) n = made ∙ ap (λ (b : Bool). given clock (started_call most b) n) has in
    subst (λ (c : Call). ComesTo clock most end c w) (sym there)
    (first_by clock most v w n end moments rows (subst (λ (b : Bool). IsCall (started_call most b)) has is) told (ends ∙ ap end_of there))

same_end : (stage : Stage) (word : ℕ) → act_at stage ≡ Load word → end_at stage ≡ None
same_end (stages.Segment read) word act = refl
same_end (stages.Clock generation rec) word act = refl
same_end (stages.Page generation rec reading read) word act = refl
same_end (stages.Done answer) word act = absurd (cc act)

-- a first load after which the words are loaded
pub first_goes_on : (clock : List ClockRow) (most : ℕ) (support : Bool) (v w : SeatView) (n : ℕ) → IsClock clock → length clock ≡ v.setup.rows → support ≡ is_some v.setup.page → IsCall (started_call most support)
    → IsCalm segment_lock n → TellsLoad true 1 v n n w → Going most (given clock (started_call most support) n) w
first_goes_on clock most support v w n moments rows has is calm told =
    let on : end_of (given clock (started_call most support) n) ≡ None = same_end _ 2 (asks_words clock most support n is.some calm) in
    subst (λ (b : Bool). Going most (given clock (started_call most b) n) w) (sym has)
    (going_first clock most v w n moments rows (subst (λ (b : Bool). IsCall (started_call most b)) has is) told (subst (λ (b : Bool). end_of (given clock (started_call most b) n) ≡ None) has on))

-- the last load of a try
more_by : (clock : List ClockRow) (most : ℕ) (call : Call) (v w : SeatView) (word n : ℕ) (end : Option Answer) → IsClock clock → length clock ≡ v.setup.rows → Going most call v → Agrees clock (reading_taken call.stage)
    → act_of call ≡ Load word → TellsLoad false word v n n w → Agrees clock (reading_taken (given clock call n).stage) → end ≡ end_of (given clock call n) → ComesTo clock most end (given clock call n) w
more_by clock most call v w word n None moments rows going agrees act told later ends = (going_more clock most call v w word n moments rows going act told (sym ends), later)
more_by clock most call v w word n (Some answer) moments rows going agrees act told later ends = ends_more clock most call v w word n answer going agrees act told (sym ends)

module _ (clock : List ClockRow) (most : ℕ) (support : Bool) (header : ℕ) (some : 0 < most) (calm : IsCalm segment_lock header) where
  -- the call after word 1
  abbrev pub begun : Call
  begun = given clock (started_call most support) header

  -- and after these words more
  abbrev pub with_words : List ℕ → Call
  with_words words = after act_of (given clock) begun words

  -- the call that has read this record
  abbrev pub with_record : List ℕ → Call
  with_record words = record { tries = most; support = support; stage = stages.Clock (generation_in header) (record_in words) }

  -- a record is known where word 1 was met
  pub known : (v : SeatView) → Going most begun v → 0 < length v.seen.history
  known v going = data_known begun.stage 2 v going.is.stage going.tied (asks_words clock most support header some calm) (omega arith) (omega arith)

  pub words_good : (v w : SeatView) (words : List ℕ) → length words ≡ 8 → Going most begun v → TellsLoads 2 words v w → AreGoodLoads words
  words_good v w words full going told = good_loaded 2 words v w told (omega arith) (omega (arith, full)) (known v going)

  pub words_go_on : (v w : SeatView) (words : List ℕ) → IsClock clock → length clock ≡ v.setup.rows → length words ≡ 8 → Going most begun v → TellsLoads 2 words v w → Going most (with_words words) w
  words_go_on v w words moments rows full going told = going_words clock most begun v w 2 words moments rows going (asks_words clock most support header some calm) (omega arith) (omega (arith, full)) told

  -- another word 1 at last
  pub try_comes : (v w : SeatView) (words : List ℕ) (n : ℕ) (end : Option Answer) (call : Call) → IsClock clock → length clock ≡ v.setup.rows → length words ≡ 8 → Going most (with_words words) v → TellsLoad false 1 v n n w
      → call ≡ given clock (with_words words) n → end ≡ end_of call → ComesTo clock most end call w
  try_comes v w words n end call moments rows full going told made ends =
      let asks = asks_again clock most support header some calm words full in
      let is = words_read clock most support header some calm words (omega (arith, full)) in
      let later = subst (λ (c : Call). Agrees clock (reading_taken (given clock c n).stage)) (sym is) (unread_given clock most support (under clock most support header some calm words) n) in
      subst (λ (c : Call). ComesTo clock most end c w) (sym made)
      (more_by clock most (with_words words) v w 1 n end moments rows going (no_reading clock (with_words words).stage going.is.stage asks) asks told later (ends ∙ ap end_of made))

  -- the same word 1 at last
  pub record_goes_on : (v w : SeatView) (words : List ℕ) → IsClock clock → length clock ≡ v.setup.rows → length words ≡ 8 → Going most (with_words words) v → TellsLoad false 1 v header header w → Going most (with_record words) w
  record_goes_on v w words moments rows full going told =
      let read = record_read clock most support header some calm words full in
      subst (λ (c : Call). Going most c w) read
      (going_more clock most (with_words words) v w 1 header moments rows going (asks_again clock most support header some calm words full) told (ap end_of read))

-- the clock of a call without a page
clock_ends : (most : ℕ) (support : Bool) (generation : ℕ) (rec : RecordFields) (reading : Reading) → support ≡ false → end_at (after_clock most support generation rec reading) ≡ Some (answer_of generation rec reading None 0)
clock_ends most true generation rec reading none = absurd (cc none)
clock_ends most false generation rec reading none = refl

pub clock_comes : (clock : List ClockRow) (most : ℕ) (support : Bool) (generation : ℕ) (rec : RecordFields) (v w : SeatView) (row : ℕ) (answer : Answer) → support ≡ false
    → Going most (record { tries = most; support = support; stage = stages.Clock generation rec }) v → TellsLoad false 23 v row row w → answer ≡ answer_of generation rec (reading_at clock row) None 0 → Nows clock most answer w
clock_comes clock most support generation rec v w row answer none going told is =
    ends_more clock most _ v w 23 row answer going tt refl told (clock_ends most support generation rec (reading_at clock row) none ∙ ap Some (sym is))

-- and of one with a page
pub page_begins : (clock : List ClockRow) (most : ℕ) (support : Bool) (generation : ℕ) (rec : RecordFields) (v w : SeatView) (row : ℕ) (reading : Reading) → IsClock clock → length clock ≡ v.setup.rows → support ≡ true
    → Going most (record { tries = most; support = support; stage = stages.Clock generation rec }) v → TellsLoad false 23 v row row w → reading ≡ reading_at clock row → Going most (paged most generation rec reading []) w
page_begins clock most true generation rec v w row reading moments rows has going told is =
    subst (λ (r : Reading). Going most (paged most generation rec r []) w) (sym is) (going_more clock most _ v w 23 row moments rows going refl told refl)
page_begins clock most false generation rec v w row reading moments rows has going told is = absurd (cc has)

-- ---- the page

same_load : (a b : ℕ) → Load a ≡ Load b → a ≡ b
same_load a b e = cc

-- its words have no test, and count no rows
pub page_good : (act : Act) (word n : ℕ) → act ≡ Load word → 10 ≤ word → IsGoodLoad act n
page_good act word n is high = subst (λ (a : Act). IsGoodLoad a n) (sym is) (no_test word n (inr high))

pub page_no_row : (clock : List ClockRow) (act : Act) (word n : ℕ) → act ≡ Load word → word < 23 → IsRowNumber clock act n
page_no_row clock act word n is few = λ row. absurd (let far = same_load word 23 (sym is ∙ row) in omega (arith, far, few))

pub asks_one : (act : Act) (word : ℕ) → act ≡ Load word → act ≢ End
asks_one act word is = λ ends. cc (sym is ∙ ends)

-- the reading stays the one that was taken
taken : (clock : List ClockRow) (generation : ℕ) (rec : RecordFields) (reading : Reading) (read : SeqlockRead) (end : Option PageSeen) → reading_at clock reading.row ≡ reading
    → Agrees clock (reading_taken (after_page generation rec reading read end))
taken clock generation rec reading read None same = same
taken clock generation rec reading read (Some (page_seen.Marker marker sequence)) same = tt
taken clock generation rec reading read (Some (page_seen.Busy first last)) same = tt

module _ (clock : List ClockRow) (most generation : ℕ) (rec : RecordFields) (reading : Reading) (some : 0 < most) (same : reading_at clock reading.row ≡ reading) (moments : IsClock clock) where
  -- the page's try with these values
  abbrev pub at_page : List ℕ → Call
  at_page = paged most generation rec reading

  -- one value more of it
  pub page_comes : (v w : SeatView) (values : List ℕ) (word n : ℕ) (end : Option Answer) (call : Call) → length clock ≡ v.setup.rows → Going most (at_page values) v → act_of (at_page values) ≡ Load word → TellsLoad false word v n n w
      → call ≡ given clock (at_page values) n → end ≡ end_of call → ComesTo clock most end call w
  page_comes v w values word n end call rows going act told made ends =
      let later = taken clock generation rec reading (page.given (record (started most) { values = values }) n) (page.end_of (page.given (record (started most) { values = values }) n)) same in
      subst (λ (c : Call). ComesTo clock most end c w) (sym made)
      (more_by clock most (at_page values) v w word n end moments rows going same act told later (ends ∙ ap end_of made))

  module _ (first : ℕ) (even : count_in_word first % 2 ≡ 0) where
    -- an even count
    pub count_goes_on : (v w : SeatView) → length clock ≡ v.setup.rows → Going most (at_page []) v → TellsLoad false 11 v first first w → Going most (at_page (first ∷ [])) w
    count_goes_on v w rows going told =
        let next = count_given most generation rec reading some clock first even in
        subst (λ (c : Call). Going most c w) next
        (going_more clock most (at_page []) v w 11 first moments rows going (asks_count most generation rec reading some) told (ap end_of next))

    -- and the marker
    pub marker_goes_on : (v w : SeatView) (marker : ℕ) → length clock ≡ v.setup.rows → Going most (at_page (first ∷ [])) v → TellsLoad false 12 v marker marker w → Going most (at_page (first ∷ marker ∷ [])) w
    marker_goes_on v w marker rows going told =
        let next = marker_given most generation rec reading some clock first even marker in
        subst (λ (c : Call). Going most c w) next
        (going_more clock most (at_page (first ∷ [])) v w 12 marker moments rows going (asks_marker most generation rec reading some clock first even) told (ap end_of next))

    -- and the same count
    pub page_ends : (v w : SeatView) (marker last : ℕ) (answer : Answer) → Going most (at_page (first ∷ marker ∷ [])) v → TellsLoad false 11 v last last w → count_in_word last ≡ count_in_word first
        → answer ≡ answer_of generation rec reading (Some marker) (count_in_word first) → Nows clock most answer w
    page_ends v w marker last answer going told equal is =
        ends_more clock most (at_page (first ∷ marker ∷ [])) v w 11 last answer going same (asks_count_again most generation rec reading some clock first even marker) told
        (page_read most generation rec reading some clock first even marker last equal ∙ ap Some (sym is))
