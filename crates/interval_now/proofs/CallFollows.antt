-- A client call comes to what all the values that it was given come to.
use Rattle.std.proofs.Common.{◌≡◌, ◌≢◌, ℕ, ◌+◌, ◌<◌, ◌≤◌, Bool, true, false, List, [], ◌∷◌, ◌++◌, length, Option, Some, None, refl, ap, sym, ◌∙◌, arith}
use Rattle.std.specs.Option.{option_map}
use Rattle.clock_gate.specs.declared.act.Act.TheVariants.{End}
use Rattle.clock_gate.specs.declared.clock_row.ClockRow.{ClockRow}
use Rattle.clock_gate.specs.declared.clock_row.Reading.{Reading}
use Rattle.clock_gate.specs.Acts.{after, WereAsked}
use Rattle.clock_gate.specs.ClockRow.{reading_at}
use Rattle.seqlock.specs.Tries.{SeqlockRead, Outcome, Unpublished, AllFailed, Found, started, read_end}
use Rattle.seqlock.specs.Tries as tries
use Rattle.seqlock.proofs.Tries as laws
use Rattle.vmclock_page.specs.PageRead.{page_lock}
use Rattle.vmclock_page.specs.PageRead as page
use Rattle.segment_layout.specs.Record.{RecordFields}
use Rattle.shm_reader.specs.SegmentTries.{segment_lock}
use Rattle.shm_reader.specs.SegmentTries as segment
use Rattle.interval_now.specs.declared.answers.Answer.TheVariants as answers
use Rattle.interval_now.specs.declared.stage.Stage.{Stage}
use Rattle.interval_now.specs.declared.stage.Stage.TheVariants.{Segment, Clock, Page, Done}
use Rattle.interval_now.specs.Call.{Call, IsStage, started_call, act_at, act_of, end_at, after_segment, after_clock, after_page, stage_given, given, steps_left}
use Rattle.interval_now.specs.CallValues.{CallProgress, Asks, Answers, act_then, end_then, after_page_tries, clock_load, after_segment_tries, FollowsItsValues}
use Rattle.interval_now.proofs.CallSteps.{stage_nearer}

module _ (clock : List ClockRow) (most : ℕ) (support : Bool) where
  -- what these values come to where a call stands
  abbrev place : Stage → List ℕ → CallProgress
  place (Segment read) values = laws.place segment_lock Asks (after_segment_tries clock most support) read (read.values ++ values)
  place (Clock generation rec) values = clock_load clock most support generation rec values
  place (Page generation rec reading read) values = laws.place page_lock Asks (after_page_tries generation rec reading) read (read.values ++ values)
  place (Done answer) values = Answers answer

  -- the segment's tries hand the values that follow on
  segment_hands : (read : SeqlockRead) (end : Option Outcome) (values : List ℕ) → read.tries ≡ most → read_end segment_lock read ≡ end → tries.IsStage segment_lock read
      → place (after_segment read (option_map (segment.seen_of read.tries) end)) values ≡ laws.place segment_lock Asks (after_segment_tries clock most support) read (read.values ++ values)
  segment_hands read None values same is stage = refl
  segment_hands read (Some Unpublished) values same is stage = sym (laws.hands_on segment_lock Asks (after_segment_tries clock most support) read Unpublished values stage is)
  segment_hands read (Some (AllFailed first last)) values same is stage =
      ap (λ (n : ℕ). Answers (answers.Busy n first last)) same ∙ sym (laws.hands_on segment_lock Asks (after_segment_tries clock most support) read (AllFailed first last) values stage is)
  segment_hands read (Some (Found word words)) values same is stage = sym (laws.hands_on segment_lock Asks (after_segment_tries clock most support) read (Found word words) values stage is)

  page_hands : (generation : ℕ) (rec : RecordFields) (reading : Reading) (read : SeqlockRead) (end : Option Outcome) (values : List ℕ) → read_end page_lock read ≡ end → tries.IsStage page_lock read
      → place (after_page generation rec reading read (page.page_seen end)) values ≡ laws.place page_lock Asks (after_page_tries generation rec reading) read (read.values ++ values)
  page_hands generation rec reading read None values is stage = refl
  page_hands generation rec reading read (Some Unpublished) values is stage = sym (laws.hands_on page_lock Asks (after_page_tries generation rec reading) read Unpublished values stage is)
  page_hands generation rec reading read (Some (AllFailed first last)) values is stage = sym (laws.hands_on page_lock Asks (after_page_tries generation rec reading) read (AllFailed first last) values stage is)
  page_hands generation rec reading read (Some (Found word words)) values is stage = sym (laws.hands_on page_lock Asks (after_page_tries generation rec reading) read (Found word words) values stage is)

  -- ---- one value

  -- the segment's tries are those of the call
  abbrev Tries : Stage → Type 0
  Tries (Segment read) = read.tries ≡ most
  Tries (Clock generation rec) = Unit {0}
  Tries (Page generation rec reading read) = Unit {0}
  Tries (Done answer) = Unit {0}

  clock_moves : (with_page : Bool) (generation : ℕ) (rec : RecordFields) (row : ℕ) (rest : List ℕ) → with_page ≡ support
      → place (after_clock most with_page generation rec (reading_at clock row)) rest ≡ clock_load clock most with_page generation rec (row ∷ rest)
  clock_moves true generation rec row rest same = refl
  clock_moves false generation rec row rest same = refl

  stage_moves : (stage : Stage) (value : ℕ) (rest : List ℕ) → IsStage stage → Tries stage → act_at stage ≢ End → place (stage_given clock most support stage value) rest ≡ place stage (value ∷ rest)
  stage_moves (Segment read) value rest is same asks =
      let open_ = laws.open_act segment_lock read is.0 asks in
      segment_hands (segment.given read value) _ rest (laws.given_tries segment_lock read value ∙ same) refl (laws.stage_given segment_lock read value open_)
      ∙ laws.moves segment_lock Asks (after_segment_tries clock most support) read value rest open_
  stage_moves (Clock generation rec) value rest is same asks = clock_moves support generation rec value rest refl
  stage_moves (Page generation rec reading read) value rest is same asks =
      let open_ = laws.open_act page_lock read is.0 asks in
      page_hands generation rec reading (page.given read value) _ rest refl (laws.stage_given page_lock read value open_)
      ∙ laws.moves page_lock Asks (after_page_tries generation rec reading) read value rest open_
  stage_moves (Done answer) value rest is same asks = refl

  segment_tries : (read : SeqlockRead) (end : Option Outcome) → read.tries ≡ most → Tries (after_segment read (option_map (segment.seen_of read.tries) end))
  segment_tries read None same = same
  segment_tries read (Some Unpublished) same = tt
  segment_tries read (Some (AllFailed first last)) same = tt
  segment_tries read (Some (Found word words)) same = tt

  clock_tries : (with_page : Bool) (generation : ℕ) (rec : RecordFields) (reading : Reading) → Tries (after_clock most with_page generation rec reading)
  clock_tries true generation rec reading = tt
  clock_tries false generation rec reading = tt

  page_tries : (generation : ℕ) (rec : RecordFields) (reading : Reading) (read : SeqlockRead) (end : Option Outcome) → Tries (after_page generation rec reading read (page.page_seen end))
  page_tries generation rec reading read None = tt
  page_tries generation rec reading read (Some Unpublished) = tt
  page_tries generation rec reading read (Some (AllFailed first last)) = tt
  page_tries generation rec reading read (Some (Found word words)) = tt

  tries_given : (stage : Stage) (value : ℕ) → Tries stage → Tries (stage_given clock most support stage value)
  tries_given (Segment read) value same = segment_tries (segment.given read value) _ (laws.given_tries segment_lock read value ∙ same)
  tries_given (Clock generation rec) value same = clock_tries support generation rec (reading_at clock value)
  tries_given (Page generation rec reading read) value same = page_tries generation rec reading (page.given read value) _
  tries_given (Done answer) value same = tt

  -- ---- what comes now

  now : (stage : Stage) → IsStage stage → (act_at stage ≡ act_then (place stage [])) × (end_at stage ≡ end_then (place stage []))
  now (Segment read) is =
      let open_ = laws.open_act segment_lock read is.0 is.1 in
      let wants = laws.wants_on segment_lock Asks (after_segment_tries clock most support) read open_ in
      (ap tries.act_of (laws.open_asks segment_lock read open_) ∙ sym (ap act_then wants), sym (ap end_then wants))
  now (Clock generation rec) is = (refl, refl)
  now (Page generation rec reading read) is =
      let open_ = laws.open_act page_lock read is.0 is.1 in
      let wants = laws.wants_on page_lock Asks (after_page_tries generation rec reading) read open_ in
      (ap tries.act_of (laws.open_asks page_lock read open_) ∙ sym (ap act_then wants), sym (ap end_then wants))
  now (Done answer) is = (refl, refl)

  -- ---- all values

  abbrev at : Stage → Call
  at stage = record { tries = most; support = support; stage = stage }

  -- what a run of values leaves: where a call can stand, what the values come to, and the steps
  pub record Ran (before : Stage) (values : List ℕ) (later : Call) : Type 0 where
    pub stage : IsStage later.stage
    pub place_is : place later.stage [] ≡ place before values
    pub steps : length values + steps_left later ≤ steps_left (at before)

  ran : (stage : Stage) (values : List ℕ) → 0 < most → IsStage stage → Tries stage → WereAsked act_of (given clock) (at stage) values → Ran stage values (after act_of (given clock) (at stage) values)
  ran stage [] some is same asked = record { stage = is; place_is = refl; steps = omega arith }
  ran stage (value ∷ values) some is same asked =
      let less = stage_nearer clock most support stage value some is asked.0 in
      let rest = ran (stage_given clock most support stage value) values some less.0 (tries_given stage value same) asked.1 in
      let fewer = less.1 in
      let steps = rest.steps in
      record { stage = rest.stage; place_is = rest.place_is ∙ stage_moves stage value values is same asked.0; steps = omega (arith, fewer, steps) }

pub follows_its_values : (clock : List ClockRow) (most : ℕ) (support : Bool) (values : List ℕ) → 0 < most → WereAsked act_of (given clock) (started_call most support) values → FollowsItsValues clock most support values
follows_its_values clock most support values some asked =
    let wants : segment.act_of (started most) ≢ End = λ ends. cc (ends, ap tries.act_of (laws.asks-first segment_lock (started most) some refl)) in
    let went = ran clock most support (Segment (started most)) values some (laws.started-stage segment_lock most, wants) refl asked in
    let here = now clock most support (after act_of (given clock) (started_call most support) values).stage went.stage in
    let few = laws.started_steps segment_lock most in
    let steps = went.steps in
    record {
      act = here.0 ∙ ap act_then went.place_is;
      end = here.1 ∙ ap end_then went.place_is;
      steps = omega (arith, few, steps);
    }
