-- What each event of every abstract run tells, from the trace and from the events before it. `past` has the events before,
-- the newest first: so what an event tells stays when more events come.
use Rattle.std.specs.Prelude.{◌≡◌, ℕ, ℤ, ◌+◌, ◌-◌, ◌/◌, ◌^◌, ◌<◌, ◌≤◌, Bool, true, false, ◌||◌, ◌==◌, if◌then◌else◌, List, [], ◌∷◌, ◌++◌, length, reverse, slice_index, slice_index_or, Option, Some, None}
use Rattle.clock_gate.specs.declared.trace.Trace.{Trace}
use Rattle.clock_gate.specs.ClockRow.{reading_at}
use Rattle.segment_layout.specs.declared.publication.Publication.{Publication}
use Rattle.segment_layout.specs.declared.start.Start.{Start}
use Rattle.segment_layout.specs.declared.start.Start.TheVariants.{Kept}
use Rattle.segment_layout.specs.Image.{start_of}
use Rattle.status_machine.specs.declared.base.Base.{Base}
use Rattle.status_machine.specs.Poll.{heard_of, base_of_poll}
use Rattle.interval_now.specs.declared.answers.Answer.{Answer}
use Rattle.interval_now.specs.declared.answers.Answer.TheVariants as answers
use Rattle.interval_now.specs.declared.answers.Timed.{Timed}
use Rattle.abstract_run.specs.declared.event.Event.{Event}
use Rattle.abstract_run.specs.declared.event.Event.TheVariants.{Moved, Published, Answered}
use Rattle.abstract_run.specs.declared.event.Trail.{Trail}
use Rattle.abstract_run.specs.HostRun.{clocks_at}
use Rattle.abstract_run.specs.DaemonRun.{no_poll}
use Rattle.abstract_run.specs.RunWhole.{run_of}
use Rattle.abstract_run.specs.Given.{CanRun}

-- ---- look-ups among the events before

-- a publication as its event has it: the four fields of an event Published
pub record PublishedEvent : Type 0 where
  pub position : ℕ
  pub publication : Publication
  pub marked_at : ℕ
  pub replied_at : ℕ

-- this publication is one of the events
abbrev pub HasPublication : List Event → PublishedEvent → Type 0
HasPublication events ended =
    (before : List Event) × ((after : List Event)
    × (events ≡ before ++ Published ended.position ended.publication ended.marked_at ended.replied_at ∷ after))

-- the last publication that made this position
abbrev pub told_at : ℕ → List Event → Option PublishedEvent
told_at n [] = None
told_at n (Published position publication marked_at replied_at ∷ past) =
    if position == n then Some (record { position = position; publication = publication; marked_at = marked_at; replied_at = replied_at })
    else told_at n past
told_at n (event ∷ past) = told_at n past

-- the last publication of this poll
abbrev pub told_by : ℕ → List Event → Option PublishedEvent
told_by n [] = None
told_by n (Published position publication marked_at replied_at ∷ past) =
    if publication.poll == n then Some (record { position = position; publication = publication; marked_at = marked_at; replied_at = replied_at })
    else told_by n past
told_by n (event ∷ past) = told_by n past

-- the image's record was moved to this position
abbrev pub is_moved_to : ℕ → List Event → Bool
is_moved_to n [] = false
is_moved_to n (Moved poll position generation ∷ past) = position == n || is_moved_to n past
is_moved_to n (event ∷ past) = is_moved_to n past

-- how many positions were made: publications, and moves of the image's record
abbrev pub made_by : List Event → ℕ
made_by [] = 0
made_by (Moved poll position generation ∷ past) = made_by past + 1
made_by (Published position publication marked_at replied_at ∷ past) = made_by past + 1
made_by (event ∷ past) = made_by past

-- an image with a whole record has it at this position
abbrev pub is_kept_at : ℕ → Start → Bool
is_kept_at n (Kept generation rec) = generation / 2 == n
is_kept_at n other = false

-- the record at this position is the image's, as it stood at first or where it was moved to
abbrev pub is_image_at : Trace → List Event → ℕ → Bool
is_image_at trace past n = is_moved_to n past || is_kept_at n (start_of trace.image)

-- ---- a publication

-- positions and poll numbers rise along the publications, and no reply is taken before an earlier one: so of those before one
-- with these
abbrev pub AllEarlier : (position poll replied_at : ℕ) → List Event → Type 0
AllEarlier position poll replied_at [] = Unit {0}
AllEarlier position poll replied_at (Moved which to generation ∷ past) = (to < position) × AllEarlier position poll replied_at past
AllEarlier position poll replied_at (Published to publication marked_at before ∷ past) =
    (to < position) × (publication.poll < poll) × (before ≤ replied_at) × AllEarlier position poll replied_at past
AllEarlier position poll replied_at (event ∷ past) = AllEarlier position poll replied_at past

-- a poll's first reading is of this row, and its marker was loaded, or stands for loaded, at this host position
pub record IsAsked (trace : Trace) (row marked_at : ℕ) : Type 0 where
  pub asked_at : ℕ
  pub some : 0 < asked_at
  pub read : row ≡ clocks_at trace.host asked_at
  pub before : asked_at ≤ marked_at

pub record PublishedTells (trace : Trace) (past : List Event) (position : ℕ) (publication : Publication) (marked_at replied_at : ℕ) : Type 0 where
  pub asked : IsAsked trace publication.asked marked_at
  pub marked : marked_at ≤ replied_at
  pub replied : publication.replied ≡ clocks_at trace.host replied_at
  pub done : replied_at ≤ length trace.host
  pub earlier : AllEarlier position publication.poll replied_at past

-- ---- an answer

-- the record at a position is that of a poll whose reply was taken no later than at this host position, or it is the image's
abbrev pub StoodBy : (is_image : Bool) → (clock_at : ℕ) → Option PublishedEvent → Type 0
StoodBy is_image clock_at None = is_image ≡ true
StoodBy is_image clock_at (Some told) = told.replied_at ≤ clock_at

abbrev pub StoodAt : Trace → List Event → (position clock_at : ℕ) → Type 0
StoodAt trace past position clock_at = StoodBy (is_image_at trace past position) clock_at (told_at position past)

-- an interval with its trail: its clock row stood at this host position, its record then stood at the position, and no more
-- publications ended inside its read than were made
pub record AnsweredTells (trace : Trace) (past : List Event) (time : Timed) (trail : Trail) : Type 0 where
  pub timed : time.row ≡ clocks_at trace.host trail.clock_at
  pub loads : trail.clock_at ≤ trail.mark_at
  pub done : trail.mark_at ≤ length trace.host
  pub stood : StoodAt trace past trail.position trail.clock_at
  pub inside : trail.inside ≤ made_by past

-- an interval has a trail, and no other answer has one
abbrev pub TrailTells : Trace → List Event → Answer → Option Trail → Type 0
TrailTells trace past (answers.Time time) (Some trail) = AnsweredTells trace past time trail
TrailTells trace past (answers.Time time) None = ⊥
TrailTells trace past other (Some trail) = ⊥
TrailTells trace past other None = Unit {0}

-- ---- all events

abbrev pub AllTell : Trace → List Event → Type 0
AllTell trace [] = Unit {0}
AllTell trace (Published position publication marked_at replied_at ∷ past) =
    PublishedTells trace past position publication marked_at replied_at × AllTell trace past
AllTell trace (Answered client call answer trail ∷ past) = TrailTells trace past answer trail × AllTell trace past
AllTell trace (event ∷ past) = AllTell trace past

-- ---- bases

-- what the poll of a publication gives where it is good: the bound of its reply, from its first reading on
abbrev pub given_by : Trace → Publication → Option Base
given_by trace publication =
    base_of_poll (record {
      number = publication.poll;
      reading = reading_at trace.clock publication.asked;
      marker = None;
      heard = heard_of (slice_index_or trace.polls (publication.poll - 1) no_poll).reply;
    })

-- the poll that gave a base was published, with itself as its base, and with this as-of and this bound, which it gives
pub record HasBase (trace : Trace) (past : List Event) (base : ℕ) (as_of bound : ℤ) : Type 0 where
  pub told : PublishedEvent
  pub found : told_by base past ≡ Some told
  pub own : told.publication.base ≡ base
  pub from : told.publication.rec.as_of ≡ as_of
  pub same_bound : told.publication.rec.bound ≡ bound
  pub gives : given_by trace told.publication ≡ Some (record { as_of = as_of; bound = bound; poll = base })

-- a base number above 0 names an earlier publication, or the one that has it, of the same as-of and bound
abbrev pub AllBased : Trace → List Event → Type 0
AllBased trace [] = Unit {0}
AllBased trace (Published position publication marked_at replied_at ∷ past) =
    (0 < publication.base → HasBase trace (Published position publication marked_at replied_at ∷ past) publication.base publication.rec.as_of publication.rec.bound)
    × AllBased trace past
AllBased trace (event ∷ past) = AllBased trace past

-- ---- every run

-- of every lawful trace that can run, with 64-bit words
abbrev pub RunsTell : Type 0
RunsTell =
    (trace : Trace) → CanRun trace → slice_index trace.image 1 < 2 ^ 64
    → AllTell trace (reverse (run_of trace).events) × AllBased trace (reverse (run_of trace).events)
