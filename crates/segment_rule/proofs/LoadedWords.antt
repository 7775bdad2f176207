-- Words 2 to 9 of a try, loaded one after another.
use Rattle.std.proofs.Common.{◌≡◌, ℕ, zero, suc, ◌+◌, ◌<◌, ◌≤◌, false, List, [], ◌∷◌, ◌++◌, length, length-take, take, refl, sym, ap, ◌∙◌, subst, arith}
use Rattle.std.specs.Prelude.{slice_index, slice_set}
use Rattle.std.proofs.lemmas.Grind.{take-set_at}
use Rattle.clock_gate.specs.declared.act.Act.TheVariants.{Load}
use Rattle.clock_gate.specs.declared.clock_row.ClockRow.{ClockRow}
use Rattle.clock_gate.specs.Acts.{after}
use Rattle.clock_gate.specs.ClockRow.{IsClock}
use Rattle.segment_layout.specs.Words.{IsGoodWord}
use Rattle.interval_now.specs.declared.stage.Stage.{Stage}
use Rattle.interval_now.specs.declared.stage.Stage.TheVariants as stages
use Rattle.interval_now.specs.Call.{Call, IsStage, Agrees, reading_taken, act_at, act_of, given}
use Rattle.interval_now.proofs.GivenWords.{goes_on, page_apart}
use Rattle.segment_views.specs.declared.setup.Setup.{Setup}
use Rattle.segment_views.specs.Views.{SeatView}
use Rattle.segment_views.proofs.Lists.{begins_length}
use Rattle.segment_rule.specs.Ruled.{TellsLoad, TellsLoads}
use Rattle.segment_rule.specs.Calls.{Going, Stays}
use Rattle.segment_rule.proofs.Stepping.{loads_told, data_told, going_more}

-- one load more
pub told_more : (word : ℕ) (values : List ℕ) (v u w : SeatView) (found : ℕ) → TellsLoads word values v u → TellsLoad false (word + length values) u found found w → TellsLoads word (values ++ found ∷ []) v w
told_more word [] v u w found same told =
    let place : word + 0 ≡ word = omega arith in
    (w, subst (λ (x : SeatView). TellsLoad false word x found found w) (sym same) (subst (λ (i : ℕ). TellsLoad false i u found found w) place told), refl)
told_more word (value ∷ values) v u w found before told =
    let place : word + length (value ∷ values) ≡ word + 1 + length values = omega arith in
    (before.0, before.1, told_more (word + 1) values before.0 u w found before.2 (subst (λ (i : ℕ). TellsLoad false i u found found w) place told))

-- the same for the first values of a list
pub told_next : (word count : ℕ) (values : List ℕ) (v u w : SeatView) (found : ℕ) → count < 8 → length values ≡ 8 → TellsLoads word (take count values) v u → TellsLoad false (word + count) u found found w
    → TellsLoads word (take (count + 1) (slice_set values count found)) v w
told_next word count values v u w found few eight before told =
    let made : length (take count values) ≡ count = simp length-take (omega arith) in
    subst (λ (l : List ℕ). TellsLoads word l v w) (sym (take-set_at values count (count + 1) found refl (omega arith)))
    (told_more word (take count values) v u w found before (subst (λ (n : ℕ). TellsLoad false (word + n) u found found w) (sym made) told))

-- what stays the same
pub stays : (word : ℕ) (values : List ℕ) (v w : SeatView) → TellsLoads word values v w → Stays v w
stays word [] v w same = subst (λ (x : SeatView). Stays v x) same (record { seated = refl; setup = refl; calls = refl; before = refl })
stays word (value ∷ values) v w told =
    let l = loads_told false word value v told.0 told.1 in
    let rest = stays (word + 1) values told.0 w told.2 in
    record { seated = rest.seated ∙ l.seated; setup = rest.setup ∙ l.setup; calls = rest.calls ∙ l.calls; before = rest.before ∙ l.before }

pub stays_one : (word value : ℕ) (v w : SeatView) → TellsLoad false word v value value w → Stays v w
stays_one word value v w told =
    let l = loads_told false word value v w told in
    record { seated = l.seated; setup = l.setup; calls = l.calls; before = l.before }

pub stays_more : (u v w : SeatView) → Stays u v → Stays v w → Stays u w
stays_more u v w first later =
    record { seated = later.seated ∙ first.seated; setup = later.setup ∙ first.setup; calls = later.calls ∙ first.calls; before = later.before ∙ first.before }

-- the words are good where a record is known
pub good_loaded : (word : ℕ) (values : List ℕ) (v w : SeatView) → TellsLoads word values v w → 2 ≤ word → word + length values ≤ 10 → 0 < length v.seen.history
    → (k : ℕ) → k < length values → IsGoodWord (word + k) (slice_index values k)
good_loaded word [] v w told low few known k less = absurd (omega arith)
good_loaded word (value ∷ values) v w told low few known zero less =
    let place : word ≡ word + 0 = omega arith in
    subst (λ (i : ℕ). IsGoodWord i value) place ((data_told false word value v told.0 low (omega arith) told.1).good known)
good_loaded word (value ∷ values) v w told low few known (suc k) less =
    let l = loads_told false word value v told.0 told.1 in
    let longer = begins_length _ _ l.history in
    let place : word + 1 + k ≡ word + suc k = omega arith in
    subst (λ (i : ℕ). IsGoodWord i (slice_index values k)) place
    (good_loaded (word + 1) values told.0 w told.2 (omega arith) (omega arith) (omega (arith, known, longer)) k (omega arith))

-- a call that wants the first of them is under way after the last
pub going_words : (clock : List ClockRow) (most : ℕ) (call : Call) (v w : SeatView) (word : ℕ) (values : List ℕ) → IsClock clock → length clock ≡ v.setup.rows → Going most call v → act_of call ≡ Load word
    → 2 ≤ word → word + length values ≤ 10 → TellsLoads word values v w → Going most (after act_of (given clock) call values) w
going_words clock most call v w word [] moments rows g act low few told = subst (Going most call) told g
going_words clock most call v w word (value ∷ []) moments rows g act low few told =
    let on = (goes_on clock call.tries call.support call.stage word value g.is.stage act low (omega arith)).on in
    subst (Going most (given clock call value)) told.2 (going_more clock most call v told.0 word value moments rows g act told.1 on)
going_words clock most call v w word (value ∷ next ∷ values) moments rows g act low few told =
    let goes = goes_on clock call.tries call.support call.stage word value g.is.stage act low (omega arith) in
    let l = loads_told false word value v told.0 told.1 in
    going_words clock most (given clock call value) told.0 w (word + 1) (next ∷ values) moments (rows ∙ sym (ap (λ (c : Setup). c.rows) l.setup))
    (going_more clock most call v told.0 word value moments rows g act told.1 goes.on) (goes.next (omega arith)) (omega arith) (omega arith) told.2

-- before word 1 no reading was taken
pub no_reading : (clock : List ClockRow) (stage : Stage) → IsStage stage → act_at stage ≡ Load 1 → Agrees clock (reading_taken stage)
no_reading clock (stages.Segment read) is act = tt
no_reading clock (stages.Clock generation rec) is act = tt
no_reading clock (stages.Page generation rec reading read) is act = absurd (let far = page_apart read 1 is.0 act in omega (arith, far))
no_reading clock (stages.Done answer) is act = tt
