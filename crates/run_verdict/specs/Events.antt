-- What one event adds to the premises of a run, and that it can be judged.
use Rattle.std.specs.Prelude.{◌≡◌, ◌<◌, ℕ, true, List, length, slice_index_or, Option, Some}
use Rattle.clock_gate.specs.declared.trace.Trace.{Trace}
use Rattle.interval_now.specs.declared.answers.Answer.{Answer}
use Rattle.interval_now.specs.declared.answers.Answer.TheVariants as answers
use Rattle.abstract_run.specs.declared.event.Event.{Event}
use Rattle.abstract_run.specs.declared.event.Event.TheVariants.{Answered}
use Rattle.abstract_run.specs.declared.event.Trail.{Trail}
use Rattle.run_promises.specs.declared.premises.Premises.{Premises}
use Rattle.run_promises.specs.declared.premises.Premises.TheVariants.{Held}
use Rattle.run_promises.specs.Judged.{is_trusted, judged_answer, FitsJudge}
use Rattle.run_verdict.specs.Past.{no_event, past_of}

-- the premises of a run that holds nothing but this event, after those events
abbrev pub judged_event : Trace → List Event → Event → Premises
judged_event trace past (Answered client call answer trail) = judged_answer trace past client call answer trail
judged_event trace past event = Held

-- an answer that is looked at has a claim that fits the judge
abbrev pub AnswerFits : Trace → List Event → Answer → Option Trail → Type 0
AnswerFits trace past (answers.Time time) (Some trail) = is_trusted time.interval.status ≡ true → FitsJudge trace past time trail
AnswerFits trace past answer trail = Unit {0}

abbrev pub EventFits : Trace → List Event → Event → Type 0
EventFits trace past (Answered client call answer trail) = AnswerFits trace past answer trail
EventFits trace past event = Unit {0}

abbrev pub EventsFit : Trace → List Event → Type 0
EventsFit trace events = (place : ℕ) → place < length events → EventFits trace (past_of events place) (slice_index_or events place no_event)
