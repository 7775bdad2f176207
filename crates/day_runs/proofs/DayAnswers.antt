-- Each answer of a run of the day makes a claim of the day.
use Rattle.std.proofs.Common.{◌≡◌, ◌∙◌, ℕ, ◌^◌, ◌<◌, ◌≤◌, Bool, true, false, List, [], ◌∷◌, take, Option, Some, None, Ok, refl, ap, sym, subst, arith}
use Rattle.std.specs.Prelude.{reverse, slice_index, if◌then◌else◌}
use Rattle.generation_word.specs.declared.layout.Layout.TheVariants.{Two}
use Rattle.clock_gate.specs.declared.trace.Trace.{Trace}
use Rattle.segment_layout.specs.declared.start.Start.TheVariants.{Fresh}
use Rattle.segment_layout.specs.Image.{image_of}
use Rattle.drill_day.specs.Day.{day_of, no_image, schedule_of}
use Rattle.drill_day.proofs.Lawful.{clock_length, day_image, day_lawful, day_rows, polls_length, start_is_page}
use Rattle.interval_now.specs.declared.answers.Answer.TheVariants as answers
use Rattle.interval_now.specs.declared.answers.Timed.{Timed}
use Rattle.abstract_run.specs.declared.event.Event.{Event}
use Rattle.abstract_run.specs.declared.event.Event.TheVariants.{Opened, Moved, Published, Skipped, Stopped, Answered}
use Rattle.abstract_run.specs.declared.event.Trail.{Trail}
use Rattle.abstract_run.specs.RunFacts.{AllBased, AllTell, PublishedEvent, told_at}
use Rattle.abstract_run.specs.RunWhole.{run_of}
use Rattle.abstract_run.specs.Given.{CanRun}
use Rattle.abstract_run.proofs.RunFactsLaws.{BaseStands, base_stands}
use Rattle.promise_judge.specs.Telling.{FitsRows}
use Rattle.promise_judge.specs.declared.fault.Fault.{Fault}
use Rattle.promise_judge.proofs.Places.{clocks_are, loaded_within, numbered_one}
use Rattle.run_promises.specs.Judged.{EachTrusted, HasPoll, claim_by, claim_by_base, claim_of, failed_or, is_trusted, judged, judged_answer, poll_claim, premises_by, verdict_of}
use Rattle.run_promises.specs.Told.{AllMarked}
use Rattle.run_promises.specs.declared.premises.Premises.{Premises}
use Rattle.run_promises.specs.declared.premises.Premises.TheVariants.{Held}
use Rattle.run_promises.proofs.AnyRun.{any_marks, any_tells, whole_run_is_run}
use Rattle.run_promises.proofs.KeptAnswers.{Tells, fits_judge, fresh_polls}
use Rattle.day_runs.specs.Kept.{IsOfDay}
use Rattle.day_runs.proofs.Kept.{day_keeps}
use Rattle.day_runs.specs.DayRuns.{AnswersAreOfDay, DayRunsHold, WholeDaysHold}
use Rattle.day_runs.proofs.Replies.{base_reaches}

-- ---- the day

fresh : image_of Two no_image ≡ Ok Fresh
unfolding image_of
fresh = refl

module _ (seed polls : ℕ) (low : 6 ≤ polls) (high : polls ≤ 20000) where
  abbrev day : Trace
  day = day_of seed polls

  can_run : CanRun day
  can_run = record { lawful = day_lawful seed polls low high; image = day_image; page = start_is_page; rows = day_rows polls }

  module _ (past : List Event) (time : Timed) (trail : Trail) (tells : Tells day past time trail) (has : HasPoll day past time trail) where
    few : trail.inside ≤ polls
    few = let inside = has.few in let long = polls_length seed polls in omega (arith, inside, long)

    of_day : (told base : PublishedEvent) → told_at trail.position past ≡ Some told → FitsRows day (poll_claim time trail told base) → 0 < told.publication.base → IsOfDay polls (poll_claim time trail told base)
    of_day told base found fits some =
        let rows = clock_length seed polls in
        let most = fits.row_most in
        let second = fits.second_least in
        let ordered = fits.second_most in
        let row = tells.answer.timed in
        let loaded = clocks_are (take trail.clock_at day.host) in
        let loads = tells.answer.loads in
        let stands : BaseStands day past told = base_stands day past trail.position told tells.all tells.based found some in
        let place = loaded_within day trail.clock_at time.row (numbered_one day can_run.lawful.host) (omega (arith, second, ordered)) (omega (arith, row, loaded)) in
        record {
          inside = few;
          base = some;
          second = second;
          row = omega (arith, most, rows);
          ordered = ordered;
          bound = base_reaches seed polls high stands.has.told.publication _ stands.has.gives;
          marked = omega (arith, place, loads);
        }

    one_of_day : IsOfDay polls (claim_of past time trail)
    one_of_day =
        let poll = has.based (omega (arith, few, high)) in
        let judge = fits_judge day can_run past time trail tells poll.0 poll.1 poll.2 in
        let claim : claim_of past time trail ≡ poll_claim time trail poll.0 judge.0 =
        ap (claim_by past time trail) poll.1 ∙ ap (claim_by_base time trail poll.0) judge.1 in
        subst (IsOfDay polls) (sym claim) (of_day poll.0 judge.0 poll.1 judge.2 poll.2)

  -- ---- each answer

  abbrev HoldsOf : List Event → Timed → Trail → Type 0
  HoldsOf past time trail = IsOfDay polls (claim_of past time trail)

  each : (past : List Event) → AllTell day past → AllBased day past → AllMarked day past → EachTrusted (HasPoll day) past → EachTrusted HoldsOf past
  each [] tell based marked has = tt
  each (Opened poll begins ∷ past) tell based marked has = each past tell based marked has
  each (Moved poll position generation ∷ past) tell based marked has = each past tell based marked.1 has
  each (Published position publication marked_at replied_at ∷ past) tell based marked has = each past tell.1 based.1 marked.1 has
  each (Skipped poll first last ∷ past) tell based marked has = each past tell based marked has
  each (Stopped poll stores ∷ past) tell based marked has = each past tell based marked has
  each (Answered client call (answers.Time time) None ∷ past) tell based marked has = (has.0, each past tell.1 based marked.1 has.1)
  each (Answered client call (answers.Time time) (Some trail) ∷ past) tell based marked has = (
    λ trusted. one_of_day past time trail (record { answer = tell.0; all = tell.1; based = based; marked = marked.1; by_publication = marked.0; trusted = trusted }) (has.0 trusted),
    each past tell.1 based marked.1 has.1,
  )
  each (Answered client call answers.NotInitialized trail ∷ past) tell based marked has = each past tell.1 based marked.1 has
  each (Answered client call (answers.Busy tries first last) trail ∷ past) tell based marked has = each past tell.1 based marked.1 has
  each (Answered client call (answers.PageBusy first last) trail ∷ past) tell based marked has = each past tell.1 based marked.1 has
  each (Answered client call (answers.Causality causality) trail ∷ past) tell based marked has = each past tell.1 based marked.1 has

  -- ---- so none fails

  kept_by : (client call : ℕ) (trusted : Bool) (fault : Option Fault) → (trusted ≡ true → fault ≡ None) → (if trusted then verdict_of client call fault else Held) ≡ Held
  kept_by client call true fault kept = ap (verdict_of client call) (kept refl)
  kept_by client call false fault kept = refl

  one_kept : (past : List Event) (time : Timed) (trail : Trail) → HoldsOf past time trail → judged day past time trail ≡ None
  one_kept past time trail is = day_keeps seed polls low high (schedule_of seed polls) (claim_of past time trail) is

  joined : (one later : Premises) → one ≡ Held → later ≡ Held → failed_or one later ≡ Held
  joined one later is more = rw is more

  all_held : (past : List Event) → EachTrusted HoldsOf past → premises_by day past ≡ Held
  all_held [] is = refl
  all_held (Opened poll begins ∷ past) is = all_held past is
  all_held (Moved poll position generation ∷ past) is = all_held past is
  all_held (Published position publication marked_at replied_at ∷ past) is = all_held past is
  all_held (Skipped poll first last ∷ past) is = all_held past is
  all_held (Stopped poll stores ∷ past) is = all_held past is
  all_held (Answered client call (answers.Time time) None ∷ past) is = joined (premises_by day past) Held (all_held past is.1) refl
  all_held (Answered client call (answers.Time time) (Some trail) ∷ past) is =
      joined (premises_by day past) (judged_answer day past client call (answers.Time time) (Some trail)) (all_held past is.1)
      (kept_by client call (is_trusted time.interval.status) (judged day past time trail) (λ trusted. one_kept past time trail (is.0 trusted)))
  all_held (Answered client call answers.NotInitialized trail ∷ past) is = joined (premises_by day past) Held (all_held past is) refl
  all_held (Answered client call (answers.Busy tries first last) trail ∷ past) is = joined (premises_by day past) Held (all_held past is) refl
  all_held (Answered client call (answers.PageBusy first last) trail ∷ past) is = joined (premises_by day past) Held (all_held past is) refl
  all_held (Answered client call (answers.Causality causality) trail ∷ past) is = joined (premises_by day past) Held (all_held past is) refl

pub answers_are : AnswersAreOfDay
answers_are seed polls low high events by_turns =
    let day = day_of seed polls in
    let can = can_run seed polls low high in
    let word : slice_index day.image 1 < 2 ^ 64 = omega arith in
    let told = any_tells day events can word by_turns in
    each seed polls low high (reverse events) told.0 told.1 (any_marks day events can word by_turns) (fresh_polls day events can word by_turns fresh)

pub runs_hold : DayRunsHold
runs_hold seed polls low high events by_turns = all_held seed polls low high (reverse events) (answers_are seed polls low high events by_turns)

pub whole_hold : WholeDaysHold
whole_hold seed polls low high = runs_hold seed polls low high (run_of (day_of seed polls)).events (whole_run_is_run (day_of seed polls))
