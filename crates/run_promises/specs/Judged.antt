-- What is judged of the answers of a run: the claim that the events before an answer make of it, its first fault, and the first
-- answer that has one. `past` has the events before, the newest first.
use Rattle.std.specs.Prelude.{◌≡◌, ℕ, ◌<◌, ◌≤ℤ◌, pos, unsigned_abs, ◌^◌, Bool, true, false, if◌then◌else◌, List, [], ◌∷◌, reverse, slice_index, Option, Some, None, ◌+◌, ◌-◌, ◌+ℤ◌, ◌-ℤ◌, ◌≤◌, length}
use Rattle.generation_word.specs.Layout.{period_of}
use Rattle.clock_gate.specs.declared.clock_status.ClockStatus.{ClockStatus}
use Rattle.clock_gate.specs.declared.clock_status.ClockStatus.TheVariants.{Synchronized, FreeRunning}
use Rattle.clock_gate.specs.declared.trace.Trace.{Trace}
use Rattle.clock_gate.specs.ClockRow.{row_at}
use Rattle.interval_now.specs.Interval.{IsGrowth}
use Rattle.interval_now.specs.declared.answers.Answer.{Answer}
use Rattle.interval_now.specs.declared.answers.Answer.TheVariants as answers
use Rattle.interval_now.specs.declared.answers.Timed.{Timed}
use Rattle.abstract_run.specs.declared.event.Event.{Event}
use Rattle.abstract_run.specs.declared.event.Event.TheVariants.{Answered}
use Rattle.abstract_run.specs.declared.event.Trail.{Trail}
use Rattle.abstract_run.specs.RunFacts.{PublishedEvent, told_at, told_by, given_by}
use Rattle.abstract_run.specs.Given.{CanRun}
use Rattle.promise_judge.specs.Positions.{position_of}
use Rattle.promise_judge.specs.Containment.{IsTrusted}
use Rattle.promise_judge.specs.declared.claim.Claim.{Claim}
use Rattle.promise_judge.specs.declared.fault.Fault.{Fault}
use Rattle.promise_judge.specs.Promises.{broken_promise_of}
use Rattle.promise_judge.specs.Telling.{FitsRows}
use Rattle.run_promises.specs.Told.{IsFresh}
use Rattle.run_promises.specs.declared.premises.Premises.{Premises}
use Rattle.run_promises.specs.declared.premises.Premises.TheVariants.{Held, Failed}
use Rattle.run_promises.specs.Runs.{IsRunOf}

-- ---- the claim of an answer

-- no poll gave the base: the record stood in the image
abbrev pub image_claim : Timed → Trail → Claim
image_claim time trail =
    record { inside = trail.inside; base = 0; bound = 0; second = 0; marked_at = 0; row = time.row; mark_at = trail.mark_at }

-- by the publication that made its position, and that of the poll which gave the base
abbrev pub poll_claim : Timed → Trail → (told base : PublishedEvent) → Claim
poll_claim time trail told base =
    record {
      inside = trail.inside;
      base = told.publication.base;
      bound = unsigned_abs told.publication.rec.bound;
      second = base.publication.replied;
      marked_at = base.marked_at;
      row = time.row;
      mark_at = trail.mark_at;
    }

abbrev pub claim_by_base : Timed → Trail → (told : PublishedEvent) → (base : Option PublishedEvent) → Claim
claim_by_base time trail told None = image_claim time trail
claim_by_base time trail told (Some base) = poll_claim time trail told base

abbrev pub claim_by : List Event → Timed → Trail → (told : Option PublishedEvent) → Claim
claim_by past time trail None = image_claim time trail
claim_by past time trail (Some told) = claim_by_base time trail told (told_by told.publication.base past)

abbrev pub claim_of : List Event → Timed → Trail → Claim
claim_of past time trail = claim_by past time trail (told_at trail.position past)

-- ---- its fault

-- an answer is looked at: it says that its interval contains true time
abbrev pub is_trusted : ClockStatus → Bool
is_trusted Synchronized = true
is_trusted FreeRunning = true
is_trusted other = false

-- the first fault of its claim
abbrev pub judged : Trace → List Event → Timed → Trail → Option Fault
judged trace past time trail = broken_promise_of trace (claim_of past time trail)

abbrev pub verdict_of : (client call : ℕ) → Option Fault → Premises
verdict_of client call None = Held
verdict_of client call (Some fault) = Failed client call fault.why fault.at

abbrev pub judged_answer : Trace → List Event → (client call : ℕ) → Answer → Option Trail → Premises
judged_answer trace past client call (answers.Time time) (Some trail) =
    if is_trusted time.interval.status then verdict_of client call (judged trace past time trail) else Held
judged_answer trace past client call other trail = Held

-- ---- the first answer of a run that has one

abbrev pub failed_or : Premises → Premises → Premises
failed_or Held later = later
failed_or failed later = failed

abbrev pub premises_by : Trace → List Event → Premises
premises_by trace [] = Held
premises_by trace (Answered client call answer trail ∷ past) = failed_or (premises_by trace past) (judged_answer trace past client call answer trail)
premises_by trace (event ∷ past) = premises_by trace past

-- of these events, in their order
abbrev pub premises_of : Trace → List Event → Premises
premises_of trace events = premises_by trace (reverse events)

-- ---- what holds of each answer

-- this holds of each answer that is looked at, and of the events before it; each such answer has a trail
abbrev pub EachTrusted : (List Event → Timed → Trail → Type 0) → List Event → Type 0
EachTrusted Holds [] = Unit {0}
EachTrusted Holds (Answered client call (answers.Time time) None ∷ past) = (is_trusted time.interval.status ≡ true → ⊥) × EachTrusted Holds past
EachTrusted Holds (Answered client call (answers.Time time) (Some trail) ∷ past) =
    (is_trusted time.interval.status ≡ true → Holds past time trail) × EachTrusted Holds past
EachTrusted Holds (event ∷ past) = EachTrusted Holds past

-- its claim fits the rows, where a poll gave the base; that poll was published
abbrev pub FitsJudge : Trace → List Event → Timed → Trail → Type 0
FitsJudge trace past time trail =
    (told : PublishedEvent) → told_at trail.position past ≡ Some told → 0 < told.publication.base
    → (base : PublishedEvent) × (told_by told.publication.base past ≡ Some base) × FitsRows trace (poll_claim time trail told base)

-- its interval reaches as far from the real time of its clock row as the record's bound, and the drift since as-of, which is the first
-- reading of the base poll; and the client saw the marker that the base poll had seen
pub record IsByPoll (trace : Trace) (time : Timed) (trail : Trail) (told base : PublishedEvent) (as_of growth : ℕ) : Type 0 where
  -- what the poll's reply gives
  pub gives : given_by trace base.publication ≡ Some (record { as_of = told.publication.rec.as_of; bound = told.publication.rec.bound; poll = told.publication.base })
  pub begins : told.publication.rec.as_of ≡ pos as_of
  pub first : as_of ≡ (row_at trace.clock base.publication.asked).mono
  pub grows : IsGrowth ((row_at trace.clock time.row).mono - as_of) trace.drift growth
  pub earliest : time.interval.earliest ≡ pos (row_at trace.clock time.row).real -ℤ pos (unsigned_abs told.publication.rec.bound + growth)
  pub latest : time.interval.latest ≡ pos (row_at trace.clock time.row).real +ℤ pos (unsigned_abs told.publication.rec.bound + growth)
  -- the clock row stands among the rows that were done when the client saw the marker
  pub placed : position_of trace.host time.row ≤ trail.mark_at
  pub trusted : IsTrusted trace (poll_claim time trail told base) as_of (unsigned_abs told.publication.rec.bound + growth)

-- so it is with fewer publications inside its read than a period
abbrev pub FollowsPoll : Trace → List Event → Timed → Trail → Type 0
FollowsPoll trace past time trail =
    (told : PublishedEvent) → told_at trail.position past ≡ Some told → 0 < told.publication.base → trail.inside < period_of trace.layout
    → (base : PublishedEvent) × (told_by told.publication.base past ≡ Some base) × ((as_of : ℕ) × ((growth : ℕ) × IsByPoll trace time trail told base as_of growth))

-- of a run that begins on an image without a record: no more publications lie inside a read than the trace has polls, and with fewer
-- than a period a poll gave the base
pub record HasPoll (trace : Trace) (past : List Event) (time : Timed) (trail : Trail) : Type 0 where
  pub few : trail.inside ≤ length trace.polls
  pub based : trail.inside < period_of trace.layout → (told : PublishedEvent) × (told_at trail.position past ≡ Some told) × (0 < told.publication.base)

-- the truth of its clock row is told, and lies in its interval
pub record ContainsTruth (trace : Trace) (time : Timed) : Type 0 where
  pub truth : ℕ
  pub told : (row_at trace.clock time.row).truth ≡ Some truth
  pub earliest : time.interval.earliest ≤ℤ pos truth
  pub latest : pos truth ≤ℤ time.interval.latest

-- so it is where its promises were kept
abbrev pub KeepsPromise : Trace → List Event → Timed → Trail → Type 0
KeepsPromise trace past time trail = judged trace past time trail ≡ None → ContainsTruth trace time

-- of every run
abbrev pub AnswersFitJudge : Type 0
AnswersFitJudge =
    (trace : Trace) (events : List Event) → CanRun trace → slice_index trace.image 1 < 2 ^ 64 → IsRunOf trace events
    → EachTrusted (FitsJudge trace) (reverse events)

abbrev pub AnswersFollowPolls : Type 0
AnswersFollowPolls =
    (trace : Trace) (events : List Event) → CanRun trace → slice_index trace.image 1 < 2 ^ 64 → IsRunOf trace events
    → EachTrusted (FollowsPoll trace) (reverse events)

abbrev pub FreshRunsHavePolls : Type 0
FreshRunsHavePolls =
    (trace : Trace) (events : List Event) → CanRun trace → slice_index trace.image 1 < 2 ^ 64 → IsRunOf trace events → IsFresh trace
    → EachTrusted (HasPoll trace) (reverse events)

abbrev pub KeptAnswersContainTruth : Type 0
KeptAnswersContainTruth =
    (trace : Trace) (events : List Event) → CanRun trace → slice_index trace.image 1 < 2 ^ 64 → IsRunOf trace events
    → EachTrusted (KeepsPromise trace) (reverse events)

-- where the premises of a run held, each answer that is looked at contains the truth
abbrev pub HeldRunsContainTruth : Type 0
HeldRunsContainTruth =
    (trace : Trace) (events : List Event) → CanRun trace → slice_index trace.image 1 < 2 ^ 64 → IsRunOf trace events
    → premises_of trace events ≡ Held → EachTrusted (λ past time trail. ContainsTruth trace time) (reverse events)
