-- What the events of a run tell of markers, and of the records that answers are by. `past` has the events before, the newest first.
use Rattle.std.specs.Prelude.{◌≡◌, ◌≢◌, ℕ, ◌<◌, List, [], ◌∷◌, Option, Some, is_some, Ok, ◌≤◌, length}
use Rattle.generation_word.specs.Layout.{period_of}
use Rattle.clock_gate.specs.declared.clock_status.ClockStatus.{ClockStatus}
use Rattle.clock_gate.specs.declared.clock_status.ClockStatus.TheVariants.{Disrupted, Unknown}
use Rattle.clock_gate.specs.declared.trace.Trace.{Trace}
use Rattle.clock_gate.specs.ClockRow.{row_at}
use Rattle.segment_layout.specs.Image.{image_of}
use Rattle.segment_layout.specs.declared.start.Start.TheVariants.{Fresh}
use Rattle.segment_layout.specs.declared.publication.Publication.{Publication}
use Rattle.segment_layout.specs.Record.{RecordFields}
use Rattle.status_machine.specs.Incarnation as incarnation
use Rattle.interval_now.specs.declared.answers.Answer.{Answer}
use Rattle.interval_now.specs.declared.answers.Answer.TheVariants as answers
use Rattle.interval_now.specs.declared.answers.Timed.{Timed}
use Rattle.interval_now.specs.Interval.{interval_of}
use Rattle.abstract_run.specs.declared.event.Event.{Event}
use Rattle.abstract_run.specs.declared.event.Event.TheVariants.{Moved, Published, Answered}
use Rattle.abstract_run.specs.declared.event.Trail.{Trail}
use Rattle.abstract_run.specs.RunFacts.{PublishedEvent, told_at, told_by}
use Rattle.abstract_run.specs.HostRun.{marker_at}

-- ---- publications

-- a record has the marker that stood in the page at its poll's marker load, or 0 without a page; it tells whether there is one, and
-- the trace's drift
pub record IsMarked (trace : Trace) (rec : RecordFields) (marked_at : ℕ) : Type 0 where
  pub marker : rec.marker ≡ incarnation.marker_or_zero (marker_at trace marked_at)
  pub support : rec.support ≡ is_some trace.page
  pub drift : rec.drift ≡ trace.drift

-- this poll was published, and this marker stood in the page at its marker load
pub record IsMarkOf (trace : Trace) (past : List Event) (poll : ℕ) (marker : Option ℕ) : Type 0 where
  pub told : PublishedEvent
  pub found : told_by poll past ≡ Some told
  pub same : marker ≡ marker_at trace told.marked_at

-- while a record isn't disrupted, its base was taken under this marker, where the base is of a poll
abbrev pub KeepsMarker : Trace → List Event → (base : ℕ) → ClockStatus → (marker : Option ℕ) → Type 0
KeepsMarker trace past base status marker = 0 < base → status ≢ Disrupted → IsMarkOf trace past base marker

-- the image has no record, and no update is open in it
abbrev pub IsFresh : Trace → Type 0
IsFresh trace = image_of trace.layout trace.image ≡ Ok Fresh

-- a record whose status is known, and that isn't disrupted, has the base of a poll
abbrev pub KnowsPoll : ClockStatus → (base : ℕ) → Type 0
KnowsPoll status base = status ≢ Unknown → status ≢ Disrupted → 0 < base

-- of a publication, when it has ended
pub record PublicationTells (trace : Trace) (past : List Event) (publication : Publication) (marked_at replied_at : ℕ) : Type 0 where
  pub begun : 0 < replied_at
  pub marked : IsMarked trace publication.rec marked_at
  pub keeps : KeepsMarker trace past publication.base publication.rec.status (marker_at trace marked_at)
  -- its poll is one of the trace's
  pub numbered : 0 < publication.poll
  pub among : publication.poll ≤ length trace.polls
  pub knows : IsFresh trace → KnowsPoll publication.rec.status publication.base

-- ---- answers

-- with fewer publications inside its read than a period, an interval is by the record of the publication that made its position, by
-- its clock row, and by the marker that stood in the page at its marker load
abbrev pub IsByPublication : Trace → List Event → Timed → Trail → Type 0
IsByPublication trace past time trail =
    (told : PublishedEvent) → told_at trail.position past ≡ Some told → trail.inside < period_of trace.layout
    → interval_of told.publication.rec (row_at trace.clock time.row).mono (row_at trace.clock time.row).real (marker_at trace trail.mark_at) ≡ Ok time.interval

abbrev pub AnswerTells : Trace → List Event → Answer → Option Trail → Type 0
AnswerTells trace past (answers.Time time) (Some trail) = IsByPublication trace past time trail
AnswerTells trace past other trail = Unit {0}

-- ---- all events

abbrev pub AllMarked : Trace → List Event → Type 0
AllMarked trace [] = Unit {0}
-- a record is moved only from an image
AllMarked trace (Moved poll position generation ∷ past) = (IsFresh trace → ⊥) × AllMarked trace past
AllMarked trace (Published position publication marked_at replied_at ∷ past) =
    PublicationTells trace (Published position publication marked_at replied_at ∷ past) publication marked_at replied_at × AllMarked trace past
AllMarked trace (Answered client call answer trail ∷ past) = AnswerTells trace past answer trail × AllMarked trace past
AllMarked trace (event ∷ past) = AllMarked trace past
