-- A client's call that is under way, and what one load more makes of it.
use Rattle.std.proofs.Common.{◌≡◌, ◌≢◌, ℕ, zero, suc, ◌+◌, ◌/◌, ◌%◌, ◌<◌, ◌≤◌, ◌⊎◌, ⊎_elim, inl, inr, Bool, true, false, List, [], ◌∷◌, ◌++◌, length, refl, sym, ap, ◌∙◌, subst, ne_eqb, arith, Option, Some, None}
use Rattle.std.specs.Prelude.{◌==◌, nat_lt, not, is_some, IfSome}
use Rattle.std.proofs.lemmas.Bool.{eqb-true, eqb-false, cases_lt, cases_Bool}
use Rattle.std.proofs.lemmas.Bool.Decides.{nat_tests}
use Rattle.clock_gate.specs.declared.act.Act.{Act}
use Rattle.clock_gate.specs.declared.act.Act.TheVariants.{Load, End}
use Rattle.clock_gate.specs.declared.clock_row.ClockRow.{ClockRow}
use Rattle.clock_gate.specs.declared.clock_row.Reading.{Reading}
use Rattle.clock_gate.specs.declared.limits.TheConstants.{MOST_HOST_ROWS}
use Rattle.clock_gate.specs.Acts.{Touch, Wanted, replayed}
use Rattle.clock_gate.specs.ClockRow.{reading_at, IsClock}
use Rattle.seqlock.specs.Tries.{Seqlock, SeqlockRead, Outcome, Unpublished, IsCalm, IsStage, progress, read_act, failed_try, started}
use Rattle.seqlock.specs.Tries as tries
use Rattle.seqlock.proofs.Tries as laws
use Rattle.clock_gate.proofs.Acts.{replayed-append, wanted-append}
use Rattle.generation_word.specs.Layout.{period_of}
use Rattle.generation_word.specs.Numbering.{generation_at}
use Rattle.generation_word.proofs.Laws.{generation_at-even}
use Rattle.segment_layout.specs.Record.{RecordFields}
use Rattle.segment_layout.specs.Words.{IsGoodWord}
use Rattle.segment_run.proofs.SegmentHeader.{header_tells}
use Rattle.shm_reader.specs.declared.seen.Seen.{Seen}
use Rattle.shm_reader.specs.declared.seen.Seen.TheVariants as seen
use Rattle.shm_reader.specs.SegmentTries.{segment_lock, IsGoodLoad}
use Rattle.generation_word.specs.Header.{generation_in}
use Rattle.shm_reader.specs.SegmentTries as segment
use Rattle.shm_reader.proofs.Stands.{seen_at}
use Rattle.vmclock_page.specs.PageRead.{page_lock}
use Rattle.vmclock_page.specs.PageRead as page
use Rattle.vmclock_page.specs.declared.page_seen.PageSeen.{PageSeen}
use Rattle.vmclock_page.specs.declared.page_seen.PageSeen.TheVariants as page_seen
use Rattle.interval_now.specs.declared.answers.Answer.{Answer}
use Rattle.interval_now.specs.declared.stage.Stage.{Stage}
use Rattle.interval_now.specs.declared.stage.Stage.TheVariants as stages
use Rattle.interval_now.specs.Call as calls
use Rattle.interval_now.specs.Call.{Call, IsCall, Agrees, reading_taken, started_call, act_of, act_at, end_of, end_at, given, stage_given, after_segment, after_clock, after_page, IsRowNumber}
use Rattle.interval_now.proofs.CallSteps.{call_nearer, early_at, same_given}
use Rattle.segment_views.specs.declared.setup.Setup.{Setup}
use Rattle.segment_views.specs.Views.{SeatView, number_of_point}
use Rattle.segment_views.specs.Steps.{loaded, TellsFront, TellsData, TellsClock}
use Rattle.segment_views.specs.Shown.{touches_of, AddsLoad}
use Rattle.segment_views.proofs.Lists.{begins_length}
use Rattle.segment_views.proofs.Shown.{touches-snoc, ran_first, ran_more}
use Rattle.segment_views.proofs.Told.{front_loads, page_loads, clock_loads, plain_loads}
use Rattle.segment_rule.specs.Ruled.{Either, TellsLoad, MayLoadWord}
use Rattle.segment_rule.specs.Calls.{Tied, Replays, Going, Holds, Nows}

-- ---- what a load tells, by its word

pub by_test : (b : Bool) (P Q R : Type 0) → (b ≡ true → P → R) → (b ≡ false → Q → R) → Either b P Q → R
by_test true P Q R f g e = f refl e
by_test false P Q R f g e = g refl e

pub loads_told : (first : Bool) (word n : ℕ) (v w : SeatView) → TellsLoad first word v n n w → AddsLoad first word n v w
loads_told first word n v w =
    let R : Type 0 = AddsLoad first word n v w in
    by_test (word == 1) _ _ (AddsLoad first word n v w) (λ e t. subst (λ (i : ℕ). AddsLoad first i n v w) (sym (eqb-true word 1 e)) (front_loads first n v w t))
    (λ ne. by_test (word == 11) _ _ (AddsLoad first word n v w) (λ e t. subst (λ (i : ℕ). AddsLoad first i n v w) (sym (eqb-true word 11 e)) (page_loads first n v w t))
    (λ np. by_test (word == 23) _ _ (AddsLoad first word n v w) (λ e t. subst (λ (i : ℕ). AddsLoad first i n v w) (sym (eqb-true word 23 e)) (clock_loads first n v w t))
    (λ nc. by_test (word == 0) _ _ (AddsLoad first word n v w)
    (λ e t. subst (λ (i : ℕ). AddsLoad first i n v w) (sym (eqb-true word 0 e)) (plain_loads first 0 n v w (λ x. absurd (omega arith)) (λ x. absurd (omega arith)) (λ x. absurd (omega arith)) t.view))
    (λ nz. by_test (nat_lt word 10) _ _ (AddsLoad first word n v w)
    (λ e t. plain_loads first word n v w (eqb-false word 1 ne) (eqb-false word 11 np) (eqb-false word 23 nc) t.view)
    (λ e t. plain_loads first word n v w (eqb-false word 1 ne) (eqb-false word 11 np) (eqb-false word 23 nc) t)))))

right_side : (b : Bool) (P Q : Type 0) → b ≡ false → Either b P Q → Q
right_side true P Q e t = absurd (cc e)
right_side false P Q e t = t

left_side : (b : Bool) (P Q : Type 0) → b ≡ true → Either b P Q → P
left_side true P Q e t = t
left_side false P Q e t = absurd (cc e)

pub data_told : (first : Bool) (i n : ℕ) (v w : SeatView) → 2 ≤ i → i < 10 → TellsLoad first i v n n w → TellsData first i v n n w
data_told first i n v w lo hi t =
    let test : nat_lt i 10 ≡ true = grind (arith, nat_tests) in
    left_side (nat_lt i 10) _ _ test
    (right_side (i == 0) _ _ (ne_eqb i 0 (λ e. absurd (omega arith)))
    (right_side (i == 23) _ _ (ne_eqb i 23 (λ e. absurd (omega arith)))
    (right_side (i == 11) _ _ (ne_eqb i 11 (λ e. absurd (omega arith)))
    (right_side (i == 1) _ _ (ne_eqb i 1 (λ e. absurd (omega arith))) t))))

-- words that have no test
pub no_test : (word value : ℕ) → (word < 2) ⊎ (10 ≤ word) → IsGoodWord word value
no_test word value out =
    let none : (i : ℕ) → 2 ≤ i → i < 10 → word ≡ i → ⊥ = λ i lo hi is. ⊎_elim (λ (low : word < 2). absurd (omega arith)) (λ (high : 10 ≤ word). absurd (omega arith)) out in
    record {
      as_of_seconds = λ e. absurd (none 2 (omega arith) (omega arith) e);
      as_of_nanos = λ e. absurd (none 3 (omega arith) (omega arith) e);
      void_after_seconds = λ e. absurd (none 4 (omega arith) (omega arith) e);
      void_after_nanos = λ e. absurd (none 5 (omega arith) (omega arith) e);
      bound = λ e. absurd (none 6 (omega arith) (omega arith) e);
      drift = λ e. absurd (none 8 (omega arith) (omega arith) e);
      status = λ e. absurd (none 8 (omega arith) (omega arith) e);
      flag = λ e. absurd (none 9 (omega arith) (omega arith) e);
    }

-- ---- the first word of a try

same_load : (a b : ℕ) → Load a ≡ Load b → a ≡ b
same_load a b e = cc

module _ (lock : Seqlock) where
  opened : (read : SeqlockRead) (word : ℕ) → IsStage lock read → read_act lock read ≡ Load word → laws.IsOpen lock read
  opened read word is act = laws.open_act lock read is (λ ends. cc (sym act ∙ ends))

  pub first_word : (read : SeqlockRead) (word : ℕ) → IsStage lock read → read_act lock read ≡ Load word → read.values ≡ [] → word ≡ lock.number_word
  first_word read word is act none =
      let open_ = opened read word is act in
      let left = open_.more in
      same_load word lock.number_word (sym act ∙ ap tries.act_of (laws.asks-first lock read (omega (arith, left)) none))

-- ---- the word that a call wants

some_value : (values : List ℕ) → (values ≡ []) ⊎ (values ≢ [])
some_value [] = inl refl
some_value (x ∷ xs) = inr (λ e. cc e)

-- a data word is wanted only after a record was met
pub data_known : (stage : Stage) (word : ℕ) (v : SeatView) → calls.IsStage stage → Tied stage v → act_at stage ≡ Load word → 2 ≤ word → word < 10 → 0 < length v.seen.history
data_known (stages.Segment read) word v is tied act lo hi = elim (some_value read.values) [
  | inl none ↦ absurd (let one = first_word segment_lock read word is.0 act none in omega (arith, one, lo))
  | inr more ↦ tied more
]
data_known (stages.Clock generation rec) word v is tied act lo hi = absurd (let e = same_load 23 word act in omega (arith, e, hi))
data_known (stages.Page generation rec reading read) word v is tied act lo hi = elim (laws.read_word page_lock read word is.0 act) [
  | inl e ↦ absurd (omega (arith, e, hi))
  | inr e ↦ absurd (let x = e.2 in omega (arith, x, hi))
]
data_known (stages.Done answer) word v is tied act lo hi = absurd (cc act)

-- word 11 is wanted only where there is a page
pub page_known : (stage : Stage) (word : ℕ) (v : SeatView) → calls.IsStage stage → Tied stage v → act_at stage ≡ Load word → MayLoadWord word v
page_known (stages.Segment read) word v is tied act eleven = elim (laws.read_word segment_lock read word is.0 act) [
  | inl e ↦ absurd (omega (arith, e, eleven))
  | inr e ↦ absurd (let x = e.2 in let y = e.1 in omega (arith, x, y, eleven))
]
page_known (stages.Clock generation rec) word v is tied act eleven = absurd (let e = same_load 23 word act in omega (arith, e, eleven))
page_known (stages.Page generation rec reading read) word v is tied act eleven = tied
page_known (stages.Done answer) word v is tied act eleven = absurd (cc act)

-- what is found can be given
pub good_found : (call : Call) (word n : ℕ) (first : Bool) (v w : SeatView) → IsCall call → Tied call.stage v → act_of call ≡ Load word → TellsLoad first word v n n w → IsGoodLoad (act_of call) n
good_found call word n first v w is tied act t =
    subst (λ (a : Act). IsGoodLoad a n) (sym act)
    (elim (cases_lt word 2) [
      | inl low ↦ no_test word n (inl low)
      | inr up ↦ elim (cases_lt word 10) [
        | inl hi ↦ (data_told first word n v w (omega arith) hi t).good (data_known call.stage word v is.stage tied act (omega arith) hi)
        | inr high ↦ no_test word n (inr (omega arith))
      ]
    ])

pub row_found : (clock : List ClockRow) (call : Call) (word n : ℕ) (first : Bool) (v w : SeatView) → length clock ≡ v.setup.rows → act_of call ≡ Load word → TellsLoad first word v n n w → IsRowNumber clock (act_of call) n
row_found clock call word n first v w rows act t = λ is.
    let at : word ≡ 23 = same_load word 23 (sym act ∙ is) in
    let told : TellsClock first v n n w = subst (λ (i : ℕ). TellsLoad first i v n n w) at t in
    let few = told.few in (told.some, omega (arith, few, rows))

-- ---- a record was met

-- an even number other than 0 stands for a record that is known
calm_known : (first : Bool) (n : ℕ) (v w : SeatView) → TellsFront first v n n w → IsCalm segment_lock n → 0 < length w.seen.history
calm_known first n v w t calm =
    let some_number : generation_in n ≢ 0 = eqb-false (generation_in n) 0 calm.published in
    let even = calm.even in
    let here : w.seen.history ≡ t.history = ap (λ (x : SeatView). x.seen.history) t.view in
    ⊎_elim
    (λ zero. absurd (some_number (ap generation_in zero.0)))
    (λ header.
    let tells : generation_in n ≡ number_of_point v.setup.layout t.point = header_tells v.setup.layout n (number_of_point v.setup.layout t.point) header in
    let numbers = generation_at-even (period_of v.setup.layout) (t.point / 2) in
    let calm_point : t.point % 2 ≡ 0 = omega (arith, tells, numbers, even) in
    let positive : 0 < t.point / 2 = elim (cases_lt 0 (t.point / 2)) [
      | inl more ↦ more
      | inr none ↦ absurd (some_number (tells ∙ at_zero (period_of v.setup.layout) (t.point / 2) (t.point % 2) (let low = none in omega (arith, low)) calm_point))
    ] in
    subst (λ (l : List _). 0 < length l) (sym here) (t.known calm_point positive))
    t.stands
  where
    at_zero : (period p odd : ℕ) → p ≡ 0 → odd ≡ 0 → generation_at period p + odd ≡ 0
    at_zero period zero odd e z = omega (arith, z)
    at_zero period (suc p) odd e z = absurd (omega arith)

-- ---- the stage after one value

tied_none : (read : SeqlockRead) (end : Option Seen) (w : SeatView) → (read.values ≢ [] → 0 < length w.seen.history) → Tied (after_segment read end) w
tied_none read None w h = h
tied_none read (Some (seen.Whole generation rec)) w h = tt
tied_none read (Some (seen.Busy most first last)) w h = tt
tied_none read (Some seen.NotInitialized) w h = tt

tied_first : (read : SeqlockRead) (value : ℕ) (w : SeatView) → laws.IsOpen segment_lock read → read.values ≡ [] → (IsCalm segment_lock value → 0 < length w.seen.history)
    → Tied (after_segment (segment.given read value) (segment.end_of (segment.given read value))) w
tied_first read value w open_ none calm = elim (cases_Bool (segment_lock.is_absent value)) [
  | inl absent ↦
      let left = open_.more in
      let next : segment.given read value ≡ laws.with_values segment_lock read (value ∷ []) = laws.given-absent segment_lock read value none absent in
      let ended : segment.end_of (laws.with_values segment_lock read (value ∷ [])) ≡ Some seen.NotInitialized =
      sym (seen_at (laws.with_values segment_lock read (value ∷ [])) Unpublished (laws.ends-absent segment_lock (laws.with_values segment_lock read (value ∷ [])) value [] (omega (arith, left)) refl absent)) in
      subst (λ (r : SeqlockRead). Tied (after_segment r (segment.end_of r)) w) (sym next)
      (subst (λ (e : Option Seen). Tied (after_segment (laws.with_values segment_lock read (value ∷ [])) e) w) (sym ended) tt)
  | inr some_number ↦ elim (cases_Bool (generation_in value % 2 == 1)) [
    | inl odd ↦ tied_none (segment.given read value) _ w
        (λ more. absurd (more (ap (λ (r : SeqlockRead). r.values) (laws.given-odd segment_lock read value none some_number (eqb-true (generation_in value % 2) 1 odd)))))
    | inr other ↦
        let even : generation_in value % 2 ≢ 1 = eqb-false (generation_in value % 2) 1 other in
        tied_none (segment.given read value) _ w (λ more. calm (record { published = some_number; even = omega arith }))
  ]
]

tied_page : (generation : ℕ) (rec : RecordFields) (reading : Reading) (read : SeqlockRead) (end : Option PageSeen) (w : SeatView) → is_some w.setup.page ≡ true → Tied (after_page generation rec reading read end) w
tied_page generation rec reading read None w h = h
tied_page generation rec reading read (Some (page_seen.Marker marker sequence)) w h = tt
tied_page generation rec reading read (Some (page_seen.Busy first last)) w h = tt

tied_clock : (most : ℕ) (support : Bool) (generation : ℕ) (rec : RecordFields) (reading : Reading) (w : SeatView) → (support ≡ true → is_some w.setup.page ≡ true) → Tied (after_clock most support generation rec reading) w
tied_clock most true generation rec reading w h = h refl
tied_clock most false generation rec reading w h = tt

pub tied_next : (clock : List ClockRow) (most : ℕ) (support : Bool) (stage : Stage) (word n : ℕ) (first : Bool) (v w : SeatView) → calls.IsStage stage → Tied stage v → support ≡ is_some v.setup.page → act_at stage ≡ Load word
    → TellsLoad first word v n n w → Tied (stage_given clock most support stage n) w
tied_next clock most support (stages.Segment read) word n first v w is tied has act t =
    let l = loads_told first word n v w t in
    let longer = begins_length _ _ l.history in
    elim (some_value read.values) [
      | inl none ↦
          let one : word ≡ 1 = first_word segment_lock read word is.0 act none in
          let told : TellsFront first v n n w = subst (λ (i : ℕ). TellsLoad first i v n n w) one t in
          tied_first read n w (opened segment_lock read word is.0 act) none (calm_known first n v w told)
      | inr more ↦ let here = tied more in tied_none (segment.given read n) _ w (λ _. omega (arith, here, longer))
    ]
tied_next clock most support (stages.Clock generation rec) word n first v w is tied has act t =
    let l = loads_told first word n v w t in
    tied_clock most support generation rec (reading_at clock n) w (λ on. ap (λ (c : Setup). is_some c.page) l.setup ∙ (sym has ∙ on))
tied_next clock most support (stages.Page generation rec reading read) word n first v w is tied has act t =
    let l = loads_told first word n v w t in
    tied_page generation rec reading (page.given read n) _ w (ap (λ (c : Setup). is_some c.page) l.setup ∙ tied)
tied_next clock most support (stages.Done answer) word n first v w is tied has act t = absurd (cc act)

-- ---- replays

abbrev pub touch_at : ℕ → ℕ → Touch
touch_at word n = record { word = word; value = n; stored = false }

pub more_touches : (v w : SeatView) (word n : ℕ) → AddsLoad false word n v w → touches_of w.steps ≡ touches_of v.steps ++ touch_at word n ∷ []
more_touches v w word n l = ap touches_of l.steps ∙ touches-snoc v.steps (loaded word n l.shown)

abbrev pub ReplaysOf : List ClockRow → ℕ → Bool → List Touch → Call → Type 0
ReplaysOf clock most support touches call =
    Wanted act_of (given clock) (started_call most support) touches × (replayed act_of (given clock) (started_call most support) touches ≡ call)

replays_of : (clock : List ClockRow) (most : ℕ) (support : Bool) (touches : List Touch) (call : Call) (word n : ℕ) → act_of call ≡ Load word → ReplaysOf clock most support touches call
    → ReplaysOf clock most support (touches ++ touch_at word n ∷ []) (given clock call n)
replays_of clock most support touches call word n act r =
    let start = started_call most support in (
      wanted-append act_of (given clock) (started_call most support) touches (touch_at word n ∷ []) r.0 (ap act_of r.1 ∙ act, tt),
      replayed-append act_of (given clock) (started_call most support) touches (touch_at word n ∷ []) ∙ ap (λ (m : Call). given clock m n) r.1,
    )

pub replays_more : (clock : List ClockRow) (most : ℕ) (call : Call) (v w : SeatView) (word n : ℕ) → AddsLoad false word n v w → act_of call ≡ Load word → Replays clock most call v → Replays clock most (given clock call n) w
replays_more clock most call v w word n l act r =
    subst (λ (x : Bool × List Touch). ReplaysOf clock most x.0 x.1 (given clock call n))
    (λ j. (ap (λ (c : Setup). is_some c.page) (sym l.setup) j, sym (more_touches v w word n l) j))
    (replays_of clock most (is_some v.setup.page) (touches_of v.steps) call word n act r)

pub replays_first : (clock : List ClockRow) (most : ℕ) (v w : SeatView) (n : ℕ) → 0 < most → AddsLoad true 1 n v w → Replays clock most (given clock (started_call most (is_some v.setup.page)) n) w
replays_first clock most v w n some l =
    subst (λ (x : Bool × List Touch). ReplaysOf clock most x.0 x.1 (given clock (started_call most (is_some v.setup.page)) n))
    (λ j. (ap (λ (c : Setup). is_some c.page) (sym l.setup) j, sym (ap touches_of l.steps) j))
    ((ap tries.act_of (laws.asks-first segment_lock (started most) some refl), tt), refl)

-- ---- a call after a step

open_after : (stage : Stage) → calls.IsStage stage → end_at stage ≡ None → act_at stage ≢ End
open_after (stages.Segment read) is on = is.1
open_after (stages.Clock generation rec) is on = λ e. cc e
open_after (stages.Page generation rec reading read) is on = is.1
open_after (stages.Done answer) is on = absurd (cc on)

loads_not_end : (act : Act) (word : ℕ) → act ≡ Load word → act ≢ End
loads_not_end act word is = λ e. cc (sym is ∙ e)

pub going_more : (clock : List ClockRow) (most : ℕ) (call : Call) (v w : SeatView) (word n : ℕ) → IsClock clock → length clock ≡ v.setup.rows → Going most call v
    → act_of call ≡ Load word → TellsLoad false word v n n w → end_of (given clock call n) ≡ None → Going most (given clock call n) w
going_more clock most call v w word n moments rows g act t on =
    let l = loads_told false word n v w t in
    let page_same = ap (λ (c : Setup). is_some c.page) l.setup in
    let row = row_found clock call word n false v w rows act t in
    let next = call_nearer clock call n g.is g.asks (early_at clock (act_of call) n moments row) in
    record {
      is = next.0;
      asks = open_after (stage_given clock call.tries call.support call.stage n) next.0.stage on;
      tied = tied_next clock call.tries call.support call.stage word n false v w g.is.stage g.tied g.support act t;
      same_tries = g.same_tries;
      support = g.support ∙ sym page_same;
      ran = ran_more v w word n l g.ran;
      replays = λ other agrees.
          let s = same_given clock other call n on agrees in
          subst (λ (c : Call). Replays other most c w) s.0
          (replays_more other most call v w word n l act (g.replays other s.1));
    }

pub ends_more : (clock : List ClockRow) (most : ℕ) (call : Call) (v w : SeatView) (word n : ℕ) (answer : Answer) → Going most call v → Agrees clock (reading_taken call.stage)
    → act_of call ≡ Load word → TellsLoad false word v n n w → end_of (given clock call n) ≡ Some answer → Nows clock most answer w
ends_more clock most call v w word n answer g agrees act t at_end =
    let l = loads_told false word n v w t in
    let r = replays_more clock most call v w word n l act (g.replays clock agrees) in
    record { came = (r.0, ap end_of r.1 ∙ at_end); ran = ran_more v w word n l g.ran }

pub going_first : (clock : List ClockRow) (most : ℕ) (v w : SeatView) (n : ℕ) → IsClock clock → length clock ≡ v.setup.rows → IsCall (started_call most (is_some v.setup.page))
    → TellsLoad true 1 v n n w → end_of (given clock (started_call most (is_some v.setup.page)) n) ≡ None → Going most (given clock (started_call most (is_some v.setup.page)) n) w
going_first clock most v w n moments rows is t on =
    let call : Call = started_call most (is_some v.setup.page) in
    let l = loads_told true 1 n v w t in
    let asks : act_of (started_call most (is_some v.setup.page)) ≡ Load 1 = ap tries.act_of (laws.asks-first segment_lock (started most) is.some refl) in
    let row = row_found clock (started_call most (is_some v.setup.page)) 1 n true v w rows asks t in
    let next = call_nearer clock (started_call most (is_some v.setup.page)) n is (loads_not_end _ 1 asks) (early_at clock (act_of (started_call most (is_some v.setup.page))) n moments row) in
    record {
      is = next.0;
      asks = open_after (stage_given clock most (is_some v.setup.page) (stages.Segment (started most)) n) next.0.stage on;
      tied = tied_next clock most (is_some v.setup.page) (stages.Segment (started most)) 1 n true v w is.stage (λ more. absurd (more refl)) refl asks t;
      same_tries = refl;
      support = sym (ap (λ (c : Setup). is_some c.page) l.setup);
      ran = ran_first v w 1 n l;
      replays = λ other agrees.
          let s = same_given clock other (started_call most (is_some v.setup.page)) n on agrees in
          subst (λ (c : Call). Replays other most c w) s.0
          (replays_first other most v w n is.some l);
    }

pub ends_first : (clock : List ClockRow) (most : ℕ) (v w : SeatView) (n : ℕ) (answer : Answer) → 0 < most → TellsLoad true 1 v n n w → end_of (given clock (started_call most (is_some v.setup.page)) n) ≡ Some answer → Nows clock most answer w
ends_first clock most v w n answer some_tries t at_end =
    let l = loads_told true 1 n v w t in
    let r = replays_first clock most v w n some_tries l in
    record { came = (r.0, ap end_of r.1 ∙ at_end); ran = ran_first v w 1 n l }

-- ---- what the seat holds after a step

none_if_open : (e : Option Answer) (b : Bool) → is_some e ≡ not b → b ≡ true → e ≡ None
none_if_open None b shut on = refl
none_if_open (Some a) true shut on = absurd (cc shut)
none_if_open (Some a) false shut on = absurd (cc on)

shut_if_some : (a : Answer) (b : Bool) → is_some (Some a) ≡ not b → b ≡ false
shut_if_some a true shut = absurd (cc shut)
shut_if_some a false shut = refl

few_rows : (first : Bool) (word n : ℕ) (v w : SeatView) → TellsLoad first word v n n w → v.setup.rows ≤ MOST_HOST_ROWS → w.setup.rows ≤ MOST_HOST_ROWS
few_rows first word n v w t few = subst (λ (c : Setup). c.rows ≤ MOST_HOST_ROWS) (sym (loads_told first word n v w t).setup) few

pub holds_later : (clock : List ClockRow) (most : ℕ) (begun b : Bool) (call new : Call) (v w : SeatView) (word n : ℕ) (e : Option Answer) → IsClock clock → length clock ≡ v.setup.rows → v.setup.rows ≤ MOST_HOST_ROWS → begun ≡ true → Going most call v
    → act_of call ≡ Load word → TellsLoad false word v n n w → new ≡ given clock call n → e ≡ end_of new → is_some e ≡ not b → Holds b begun most new w
holds_later clock most begun b call new v w word n e moments rows few on g act t is end shut = record {
  rows = few_rows false word n v w t few;
  fresh = λ i o. absurd (cc (sym on ∙ o));
  going = λ i o. subst (λ (c : Call). Going most c w) (sym is) (going_more clock most call v w word n moments rows g act t (sym (ap end_of is) ∙ (sym end ∙ none_if_open e b shut i)));
}

pub ends_later : (clock : List ClockRow) (most : ℕ) (b : Bool) (call new : Call) (v w : SeatView) (word n : ℕ) (e : Option Answer) → Going most call v → Agrees clock (reading_taken call.stage)
    → act_of call ≡ Load word → TellsLoad false word v n n w → new ≡ given clock call n → e ≡ end_of new → is_some e ≡ not b → IfSome e (λ a. (b ≡ false) × Nows clock most a w)
ends_later clock most b call new v w word n None g agrees act t is end shut = tt
ends_later clock most b call new v w word n (Some a) g agrees act t is end shut =
    (shut_if_some a b shut, ends_more clock most call v w word n a g agrees act t (sym (ap end_of is) ∙ sym end))

pub holds_first : (clock : List ClockRow) (most : ℕ) (b : Bool) (call new : Call) (v w : SeatView) (n : ℕ) (e : Option Answer) → IsClock clock → length clock ≡ v.setup.rows → v.setup.rows ≤ MOST_HOST_ROWS
    → (call ≡ started_call most (is_some v.setup.page)) × IsCall call → TellsLoad true 1 v n n w → new ≡ given clock call n → e ≡ end_of new → is_some e ≡ not b → Holds b true most new w
holds_first clock most b call new v w n e moments rows few start t is end shut =
    let there : new ≡ given clock (started_call most (is_some v.setup.page)) n = is ∙ ap (λ (c : Call). given clock c n) start.0 in
    record {
      rows = few_rows true 1 n v w t few;
      fresh = λ i o. absurd (cc o);
      going = λ i o. subst (λ (c : Call). Going most c w) (sym there)
          (going_first clock most v w n moments rows (subst IsCall start.0 start.1) t (sym (ap end_of there) ∙ (sym end ∙ none_if_open e b shut i)));
    }

pub ends_first_by : (clock : List ClockRow) (most : ℕ) (b : Bool) (call new : Call) (v w : SeatView) (n : ℕ) (e : Option Answer)
    → (call ≡ started_call most (is_some v.setup.page)) × IsCall call → TellsLoad true 1 v n n w → new ≡ given clock call n → e ≡ end_of new → is_some e ≡ not b → IfSome e (λ a. (b ≡ false) × Nows clock most a w)
ends_first_by clock most b call new v w n None start t is end shut = tt
ends_first_by clock most b call new v w n (Some a) start t is end shut =
    let there : new ≡ given clock (started_call most (is_some v.setup.page)) n = is ∙ ap (λ (c : Call). given clock c n) start.0 in
    let some_tries = (subst IsCall start.0 start.1).some in
    (shut_if_some a b shut, ends_first clock most v w n a some_tries t (sym (ap end_of there) ∙ sym end))

pub first_act : (most : ℕ) (v : SeatView) (call : Call) → (call ≡ started_call most (is_some v.setup.page)) × IsCall call → act_of call ≡ Load 1
first_act most v call start =
    ap act_of start.0 ∙ ap tries.act_of (laws.asks-first segment_lock (started most) (subst IsCall start.0 start.1).some refl)

pub good_first : (call : Call) (n : ℕ) → act_of call ≡ Load 1 → IsGoodLoad (act_of call) n
good_first call n act = subst (λ (a : Act). IsGoodLoad a n) (sym act) (no_test 1 n (inl (omega arith)))
