-- Each answer that is looked at can be judged, and contains the truth where it has no fault.
use Rattle.std.proofs.Common.{◌≡◌, ℕ, ℤ, ◌≤◌, ◌<◌, Bool, true, false, List, [], ◌∷◌, Option, Some, None, refl, ap, sym, ◌∙◌, subst, arith, ◌+◌, ◌-◌, ◌*◌}
use Rattle.std.specs.Prelude.{◌==◌, ◌-ℤ◌, ◌+ℤ◌, ◌≤ℤ◌, nat_le, pos, reverse, if◌then◌else◌, unsigned_abs}
use Rattle.std.proofs.lemmas.Bool.Decides.{nat_tests}
use Rattle.generation_word.specs.Layout.{period_of}
use Rattle.clock_gate.specs.declared.trace.Trace.{Trace}
use Rattle.clock_gate.specs.ClockRow.{row_at}
use Rattle.segment_layout.specs.declared.start.Start.TheVariants.{Fresh}
use Rattle.segment_layout.specs.Image.{start_of}
use Rattle.segment_layout.proofs.Admitted.{image_of-start}
use Rattle.interval_now.specs.declared.answers.Answer.TheVariants as answers
use Rattle.interval_now.specs.declared.answers.Timed.{Timed}
use Rattle.interval_now.specs.Interval.{half_width_of, elapsed_of, growth_of, IsGrowth}
use Rattle.abstract_run.specs.declared.event.Event.{Event}
use Rattle.abstract_run.specs.declared.event.Event.TheVariants.{Opened, Moved, Published, Skipped, Stopped, Answered}
use Rattle.abstract_run.specs.declared.event.Trail.{Trail}
use Rattle.abstract_run.specs.RunFacts.{PublishedEvent, told_at, told_by, StoodBy, is_image_at, AnsweredTells, AllTell, AllBased, given_by, is_kept_at}
use Rattle.abstract_run.specs.Given.{CanRun}
use Rattle.abstract_run.proofs.RunFactsLaws.{EndedFits, by_fits, BaseStands, base_stands}
use Rattle.abstract_run.specs.HostRun.{marker_at}
use Rattle.promise_judge.specs.declared.claim.Claim.{Claim}
use Rattle.promise_judge.specs.declared.fault.Fault.{Fault}
use Rattle.promise_judge.specs.declared.fault.Why.{Why}
use Rattle.promise_judge.specs.Containment as judge
use Rattle.promise_judge.specs.Containment.{IsContained}
use Rattle.promise_judge.specs.Promises.{fault_or, broken_promise_of, wrap_of, on_image_of, where_found}
use Rattle.promise_judge.specs.Telling.{IsTold, FitsRows}
use Rattle.promise_judge.proofs.Contained.{kept_contains}
use Rattle.promise_judge.proofs.Places.{told_fits}
use Rattle.run_promises.specs.declared.premises.Premises.{Premises}
use Rattle.run_promises.specs.declared.premises.Premises.TheVariants.{Held, Failed}
use Rattle.run_promises.specs.Told.{IsMarkOf, IsByPublication, AllMarked, IsFresh}
use Rattle.run_promises.specs.Judged.{image_claim, poll_claim, claim_by_base, claim_by, is_trusted, judged, verdict_of, judged_answer, failed_or, premises_by, EachTrusted, FitsJudge, ContainsTruth, KeepsPromise, AnswersFitJudge, KeptAnswersContainTruth, HeldRunsContainTruth, IsByPoll, FollowsPoll, AnswersFollowPolls, HasPoll, FreshRunsHavePolls}
use Rattle.run_promises.proofs.FreshRuns.{none_moved, made_few}
use Rattle.run_promises.proofs.AnyRun.{any_tells, any_marks}
use Rattle.run_promises.proofs.Chains.{ToldMarked, at_marked, by_marked, at_keeps}
use Rattle.run_promises.proofs.ClockRows.{clocks_rise, mono_rises, row_placed}
use Rattle.run_promises.proofs.GivenBases.{IsGiven, poll_gives}
use Rattle.interval_now.proofs.Intervals.{IsInterval, interval_is, growth_since, half_is, half_covers}
use Rattle.run_promises.proofs.Trusted.{trusted_same, trusted_known}
use Rattle.run_promises.proofs.PageMarkers.{judge_marker}

-- ---- what no fault says of the counts

found_none : (why : Why) (found : Option ℕ) (later : Option Fault) → fault_or why found later ≡ None → (found ≡ None) × (later ≡ None)
found_none why None later none = (refl, none)
found_none why (Some at) later none = absurd (cc none)

where_none : (found : Bool) (at : ℕ) → where_found found at ≡ None → found ≡ false
where_none true at none = absurd (cc none)
where_none false at none = refl

pub record IsCounted (trace : Trace) (claim : Claim) : Type 0 where
  pub few : claim.inside < period_of trace.layout
  pub based : 0 < claim.base

counted : (trace : Trace) (claim : Claim) → broken_promise_of trace claim ≡ None → IsCounted trace claim
unfolding broken_promise_of
counted trace claim none =
    let first = found_none _ (wrap_of (period_of trace.layout) claim) _ none in
    let second = found_none _ (on_image_of claim) _ first.1 in
    let wraps : nat_le (period_of trace.layout) claim.inside ≡ false = where_none (nat_le (period_of trace.layout) claim.inside) claim.inside first.0 in
    let stood : (claim.base == 0) ≡ false = where_none (claim.base == 0) 0 second.0 in
    record { few = grind (arith, nat_tests, wraps); based = grind (arith, nat_tests, stood) }

-- ---- one answer

-- what the events before an answer tell, and the answer itself
pub record Tells (trace : Trace) (past : List Event) (time : Timed) (trail : Trail) : Type 0 where
  pub answer : AnsweredTells trace past time trail
  pub all : AllTell trace past
  pub based : AllBased trace past
  pub marked : AllMarked trace past
  pub by_publication : IsByPublication trace past time trail
  pub trusted : is_trusted time.interval.status ≡ true

module _ (trace : Trace) (can : CanRun trace) (past : List Event) (time : Timed) (trail : Trail) (tells : Tells trace past time trail) where
  -- the base of a publication, where it is this one's
  record HasBaseAs (told base : PublishedEvent) : Type 0 where
    gives : given_by trace base.publication ≡ Some (record { as_of = told.publication.rec.as_of; bound = told.publication.rec.bound; poll = told.publication.base })
    no_later : base.replied_at ≤ told.replied_at
    given : IsGiven (row_at trace.clock base.publication.asked).mono (record { as_of = told.publication.rec.as_of; bound = told.publication.rec.bound; poll = told.publication.base })

  base_by : (told base : PublishedEvent) (is : BaseStands trace past told) → is.has.told ≡ base → HasBaseAs told base
  base_by told base is same =
      subst (HasBaseAs told) same
      (record {
        gives = is.has.gives;
        no_later = is.no_later;
        given = poll_gives _ (record { as_of = told.publication.rec.as_of; bound = told.publication.rec.bound; poll = told.publication.base }) is.has.gives;
      })

  based_as : (told base : PublishedEvent) → told_at trail.position past ≡ Some told → told_by told.publication.base past ≡ Some base → 0 < told.publication.base → HasBaseAs told base
  based_as told base found found_base some =
      let is : BaseStands trace past told = base_stands trace past trail.position told tells.all tells.based found some in
      let both : Some is.has.told ≡ Some base = sym is.has.found ∙ found_base in
      base_by told base is (cc both)

  stood_before : (told : PublishedEvent) → told_at trail.position past ≡ Some told → told.replied_at ≤ trail.clock_at
  stood_before told found = subst (StoodBy (is_image_at trace past trail.position) trail.clock_at) found tells.answer.stood

  told_claim : (told base : PublishedEvent) → told_at trail.position past ≡ Some told → told_by told.publication.base past ≡ Some base → 0 < told.publication.base
      → IsTold trace (poll_claim time trail told base) base.replied_at trail.clock_at
  told_claim told base found found_base some =
      let fits : EndedFits trace base = by_fits trace past told.publication.base base tells.all found_base in
      let earlier = (based_as told base found found_base some).no_later in
      let stood = stood_before told found in
      record {
        second = fits.replied;
        marked = fits.marked;
        later = omega (arith, earlier, stood);
        row = tells.answer.timed;
        loads = tells.answer.loads;
        begun = (by_marked trace past told.publication.base base tells.marked found_base).begun;
        done = tells.answer.done;
      }

  fits_rows : (told base : PublishedEvent) → told_at trail.position past ≡ Some told → told_by told.publication.base past ≡ Some base → 0 < told.publication.base → FitsRows trace (poll_claim time trail told base)
  fits_rows told base found found_base some =
      told_fits trace (poll_claim time trail told base) base.replied_at trail.clock_at can.lawful.host (told_claim told base found found_base some)

  pub fits_judge : FitsJudge trace past time trail
  fits_judge told found some =
      let is : BaseStands trace past told = base_stands trace past trail.position told tells.all tells.based found some in
      (is.has.told, is.has.found, fits_rows told is.has.told found is.has.found some)

  -- ---- without a fault

  same_marker : (told base : PublishedEvent) → told_at trail.position past ≡ Some told → told_by told.publication.base past ≡ Some base → 0 < told.publication.base
      → IsInterval told.publication.rec (row_at trace.clock time.row).mono (row_at trace.clock time.row).real (marker_at trace trail.mark_at) time.interval
      → judge.marker_at trace trail.mark_at ≡ judge.marker_at trace base.marked_at
  same_marker told base found found_base some is =
      let own : ToldMarked trace told = at_marked trace past trail.position told tells.marked found in
      let calm = trusted_same trace told.publication.rec (row_at trace.clock time.row).mono trail.mark_at told.marked_at time.interval.status is.status tells.trusted own.marked.marker in
      let keeps : IsMarkOf trace past told.publication.base (marker_at trace told.marked_at) = at_keeps trace past trail.position told tells.all tells.marked found some calm.0 in
      let both : Some keeps.told ≡ Some base = sym keeps.found ∙ found_base in
      let same : keeps.told ≡ base = cc both in
      judge_marker trace trail.mark_at can.rows
      ∙ calm.1
      ∙ keeps.same
      ∙ ap (λ (e : PublishedEvent). marker_at trace e.marked_at) same
      ∙ sym (judge_marker trace base.marked_at can.rows)

  asked_rises : (base : PublishedEvent) → EndedFits trace base → base.publication.asked ≤ base.publication.replied
  asked_rises base fits =
      let asked = fits.asked.read in
      let replied = fits.replied in
      let before = fits.asked.before in
      let marked = fits.marked in
      let more = clocks_rise trace.host fits.asked.asked_at base.replied_at (omega (arith, before, marked)) in
      omega (arith, asked, replied, more)

  -- the growth of its record
  growth_in : (told : PublishedEvent) → ℕ
  growth_in told = growth_of (elapsed_of told.publication.rec.as_of (row_at trace.clock time.row).mono) told.publication.rec.drift

  by_poll : (told base : PublishedEvent) → told_at trail.position past ≡ Some told → told_by told.publication.base past ≡ Some base → 0 < told.publication.base → trail.inside < period_of trace.layout
      → IsByPoll trace time trail told base (row_at trace.clock base.publication.asked).mono (growth_in told)
  unfolding growth_in
  by_poll told base found found_base some few =
      let is : IsInterval told.publication.rec (row_at trace.clock time.row).mono (row_at trace.clock time.row).real (marker_at trace trail.mark_at) time.interval =
      interval_is told.publication.rec (row_at trace.clock time.row).mono (row_at trace.clock time.row).real (marker_at trace trail.mark_at) time.interval (tells.by_publication told found few) in
      let rows : FitsRows trace (poll_claim time trail told base) = fits_rows told base found found_base some in
      let own : ToldMarked trace told = at_marked trace past trail.position told tells.marked found in
      let given = (based_as told base found found_base some).given in
      let fits : EndedFits trace base = by_fits trace past told.publication.base base tells.all found_base in
      let second_most = rows.second_most in
      let second_least = rows.second_least in
      let row_most = rows.row_most in
      let grows : IsGrowth ((row_at trace.clock time.row).mono - (row_at trace.clock base.publication.asked).mono) trace.drift (growth_in told) =
      growth_since told.publication.rec (row_at trace.clock base.publication.asked).mono (row_at trace.clock time.row).mono trace.drift given.as_of own.marked.drift in
      let width : half_width_of told.publication.rec (row_at trace.clock time.row).mono ≡ pos (unsigned_abs told.publication.rec.bound + growth_in told) =
      half_is told.publication.rec (row_at trace.clock time.row).mono given.low in
      let loads = tells.answer.loads in
      let placed = row_placed trace can.lawful.host trail.clock_at time.row tells.answer.timed (omega (arith, second_most, second_least)) in
      record {
        gives = (based_as told base found found_base some).gives;
        placed = omega (arith, placed, loads);
        begins = given.as_of;
        first = refl;
        grows = grows;
        earliest = is.earliest ∙ ap (λ (h : ℤ). pos (row_at trace.clock time.row).real -ℤ h) width;
        latest = is.latest ∙ ap (λ (h : ℤ). pos (row_at trace.clock time.row).real +ℤ h) width;
        trusted = record {
          covers = half_covers (unsigned_abs told.publication.rec.bound) (((row_at trace.clock time.row).mono - (row_at trace.clock base.publication.asked).mono) * trace.drift) (growth_in told) grows.covers;
          since = mono_rises trace.clock base.publication.asked base.publication.replied can.lawful.rises (asked_rises base fits) rows.second_least (omega (arith, second_most, row_most));
          same_marker = same_marker told base found found_base some is;
        };
      }

  -- ---- of a run that begins on an image without a record

  no_image : IsFresh trace → is_image_at trace past trail.position ≡ false
  no_image fresh = none_moved trace past trail.position fresh tells.marked (kept_none trail.position fresh)
    where
      kept_none : (n : ℕ) → IsFresh trace → is_kept_at n (start_of trace.image) ≡ false
      kept_none n fresh = ap (is_kept_at n) (image_of-start trace.layout trace.image Fresh fresh)

  told_or : (told : Option PublishedEvent) (is_image : Bool) → is_image ≡ false → StoodBy is_image trail.clock_at told → (one : PublishedEvent) × (told ≡ Some one)
  told_or None is_image none stood = absurd (cc (none, stood))
  told_or (Some told) is_image none stood = (told, refl)

  known_base : (fresh : IsFresh trace) (few : trail.inside < period_of trace.layout) (told : PublishedEvent) → told_at trail.position past ≡ Some told → 0 < told.publication.base
  known_base fresh few told found =
      let is : IsInterval told.publication.rec (row_at trace.clock time.row).mono (row_at trace.clock time.row).real (marker_at trace trail.mark_at) time.interval =
      interval_is told.publication.rec (row_at trace.clock time.row).mono (row_at trace.clock time.row).real (marker_at trace trail.mark_at) time.interval (tells.by_publication told found few) in
      let own : ToldMarked trace told = at_marked trace past trail.position told tells.marked found in
      let calm = trusted_same trace told.publication.rec (row_at trace.clock time.row).mono trail.mark_at told.marked_at time.interval.status is.status tells.trusted own.marked.marker in
      own.knows fresh (trusted_known told.publication.rec (row_at trace.clock time.row).mono (marker_at trace trail.mark_at) time.interval.status is.status tells.trusted) calm.0

  pub has_poll : IsFresh trace → HasPoll trace past time trail
  has_poll fresh =
      let made = made_few trace past fresh tells.all tells.marked in
      let inside = tells.answer.inside in
      record {
        few = omega (arith, made, inside);
        based = λ few. (
            let one = told_or (told_at trail.position past) (is_image_at trace past trail.position) (no_image fresh) tells.answer.stood in
            (one.0, one.1, known_base fresh few one.0 one.1));
      }

  pub follows_poll : FollowsPoll trace past time trail
  follows_poll told found some few =
      let is : BaseStands trace past told = base_stands trace past trail.position told tells.all tells.based found some in
      (is.has.told, is.has.found, ((row_at trace.clock is.has.told.publication.asked).mono, (growth_in told, by_poll told is.has.told found is.has.found some few)))

  contains_by : (told base : PublishedEvent) (as_of growth : ℕ) → IsByPoll trace time trail told base as_of growth
      → IsContained trace (poll_claim time trail told base) (unsigned_abs told.publication.rec.bound + growth) → ContainsTruth trace time
  contains_by told base as_of growth is in_it =
      record {
        truth = in_it.truth;
        told = in_it.told;
        earliest = subst (λ (z : ℤ). z ≤ℤ pos in_it.truth) (sym is.earliest) in_it.earliest;
        latest = subst (λ (z : ℤ). pos in_it.truth ≤ℤ z) (sym is.latest) in_it.latest;
      }

  kept_poll : (told base : PublishedEvent) → told_at trail.position past ≡ Some told → told_by told.publication.base past ≡ Some base → broken_promise_of trace (poll_claim time trail told base) ≡ None → ContainsTruth trace time
  kept_poll told base found found_base none =
      let counts : IsCounted trace (poll_claim time trail told base) = counted trace (poll_claim time trail told base) none in
      let is : IsByPoll trace time trail told base (row_at trace.clock base.publication.asked).mono (growth_in told) = by_poll told base found found_base counts.based counts.few in
      contains_by told base (row_at trace.clock base.publication.asked).mono (growth_in told) is
      (kept_contains trace (poll_claim time trail told base) (row_at trace.clock base.publication.asked).mono (unsigned_abs told.publication.rec.bound + growth_in told) can.lawful.rises
      (fits_rows told base found found_base counts.based) is.trusted none)

  -- the image's claim has a fault
  image_fails : broken_promise_of trace (image_claim time trail) ≡ None → ContainsTruth trace time
  image_fails none = let based = (counted trace (image_claim time trail) none).based in absurd (omega (arith, based))

  kept_by_base : (told : PublishedEvent) (base : Option PublishedEvent) → told_at trail.position past ≡ Some told → told_by told.publication.base past ≡ base → broken_promise_of trace (claim_by_base time trail told base) ≡ None → ContainsTruth trace time
  kept_by_base told None found found_base none = image_fails none
  kept_by_base told (Some base) found found_base none = kept_poll told base found found_base none

  kept_by : (told : Option PublishedEvent) → told_at trail.position past ≡ told → broken_promise_of trace (claim_by past time trail told) ≡ None → ContainsTruth trace time
  kept_by None found none = image_fails none
  kept_by (Some told) found none = kept_by_base told (told_by told.publication.base past) found refl none

  pub keeps_promise : KeepsPromise trace past time trail
  keeps_promise none = kept_by (told_at trail.position past) refl none

-- ---- each answer

module _ (trace : Trace) (Holds : List Event → Timed → Trail → Type 0) (one : (past : List Event) (time : Timed) (trail : Trail) → Tells trace past time trail → Holds past time trail) where
  each : (past : List Event) → AllTell trace past → AllBased trace past → AllMarked trace past → EachTrusted Holds past
  each [] all based marked = tt
  each (Opened poll begins ∷ past) all based marked = each past all based marked
  each (Moved poll position generation ∷ past) all based marked = each past all based marked.1
  each (Published position publication marked_at replied_at ∷ past) all based marked = each past all.1 based.1 marked.1
  each (Skipped poll first last ∷ past) all based marked = each past all based marked
  each (Stopped poll stores ∷ past) all based marked = each past all based marked
  each (Answered client call (answers.Time time) None ∷ past) all based marked = (λ trusted. all.0, each past all.1 based marked.1)
  each (Answered client call (answers.Time time) (Some trail) ∷ past) all based marked = (
    λ trusted. one past time trail (record { answer = all.0; all = all.1; based = based; marked = marked.1; by_publication = marked.0; trusted = trusted }),
    each past all.1 based marked.1,
  )
  each (Answered client call answers.NotInitialized trail ∷ past) all based marked = each past all.1 based marked.1
  each (Answered client call (answers.Busy tries first last) trail ∷ past) all based marked = each past all.1 based marked.1
  each (Answered client call (answers.PageBusy first last) trail ∷ past) all based marked = each past all.1 based marked.1
  each (Answered client call (answers.Causality causality) trail ∷ past) all based marked = each past all.1 based marked.1

pub answers_fit : AnswersFitJudge
answers_fit trace events can fits by_turns =
    let told = any_tells trace events can fits by_turns in
    each trace (FitsJudge trace) (λ past time trail is. fits_judge trace can past time trail is) (reverse events) told.0 told.1 (any_marks trace events can fits by_turns)

pub answers_follow : AnswersFollowPolls
answers_follow trace events can fits by_turns =
    let told = any_tells trace events can fits by_turns in
    each trace (FollowsPoll trace) (λ past time trail is. follows_poll trace can past time trail is) (reverse events) told.0 told.1 (any_marks trace events can fits by_turns)

pub fresh_polls : FreshRunsHavePolls
fresh_polls trace events can fits by_turns fresh =
    let told = any_tells trace events can fits by_turns in
    each trace (HasPoll trace) (λ past time trail is. has_poll trace can past time trail is fresh) (reverse events) told.0 told.1 (any_marks trace events can fits by_turns)

pub kept_contain : KeptAnswersContainTruth
kept_contain trace events can fits by_turns =
    let told = any_tells trace events can fits by_turns in
    each trace (KeepsPromise trace) (λ past time trail is. keeps_promise trace can past time trail is) (reverse events) told.0 told.1 (any_marks trace events can fits by_turns)

-- ---- a run whose premises held

or_held : (one later : Premises) → failed_or one later ≡ Held → (one ≡ Held) × (later ≡ Held)
or_held Held later held = (refl, held)
or_held (Failed client call why at) later held = absurd (cc held)

no_fault : (client call : ℕ) (fault : Option Fault) → verdict_of client call fault ≡ Held → fault ≡ None
no_fault client call None held = refl
no_fault client call (Some fault) held = absurd (cc held)

passed_by : (client call : ℕ) (trusted : Bool) (fault : Option Fault) → (if trusted then verdict_of client call fault else Held) ≡ Held → trusted ≡ true → fault ≡ None
passed_by client call true fault held is = no_fault client call fault held
passed_by client call false fault held is = absurd (cc is)

held_each : (trace : Trace) (past : List Event) → premises_by trace past ≡ Held → EachTrusted (KeepsPromise trace) past → EachTrusted (λ before time trail. ContainsTruth trace time) past
held_each trace [] held kept = tt
held_each trace (Opened poll begins ∷ past) held kept = held_each trace past held kept
held_each trace (Moved poll position generation ∷ past) held kept = held_each trace past held kept
held_each trace (Published position publication marked_at replied_at ∷ past) held kept = held_each trace past held kept
held_each trace (Skipped poll first last ∷ past) held kept = held_each trace past held kept
held_each trace (Stopped poll stores ∷ past) held kept = held_each trace past held kept
held_each trace (Answered client call (answers.Time time) None ∷ past) held kept = (kept.0, held_each trace past (or_held (premises_by trace past) Held held).0 kept.1)
held_each trace (Answered client call (answers.Time time) (Some trail) ∷ past) held kept =
    let both = or_held (premises_by trace past) (judged_answer trace past client call (answers.Time time) (Some trail)) held in (
      λ trusted. kept.0 trusted (passed_by client call (is_trusted time.interval.status) (judged trace past time trail) both.1 trusted),
      held_each trace past both.0 kept.1,
    )
held_each trace (Answered client call answers.NotInitialized trail ∷ past) held kept = held_each trace past (or_held (premises_by trace past) Held held).0 kept
held_each trace (Answered client call (answers.Busy tries first last) trail ∷ past) held kept = held_each trace past (or_held (premises_by trace past) Held held).0 kept
held_each trace (Answered client call (answers.PageBusy first last) trail ∷ past) held kept = held_each trace past (or_held (premises_by trace past) Held held).0 kept
held_each trace (Answered client call (answers.Causality causality) trail ∷ past) held kept = held_each trace past (or_held (premises_by trace past) Held held).0 kept

pub held_contain : HeldRunsContainTruth
held_contain trace events can fits by_turns held = held_each trace (reverse events) held (kept_contain trace events can fits by_turns)
