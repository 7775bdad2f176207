-- The events before one of a run, the newest first.
use Rattle.std.specs.Prelude.{ℕ, zero, suc, ◌==◌, if◌then◌else◌, List, [], ◌∷◌, slice_index_or, Option, Some, None}
use Rattle.segment_layout.specs.declared.start.Start.TheVariants.{Fresh}
use Rattle.abstract_run.specs.declared.event.Event.{Event}
use Rattle.abstract_run.specs.declared.event.Event.TheVariants.{Opened, Published}
use Rattle.abstract_run.specs.RunFacts.{PublishedEvent}

-- what stands where there is no event
abbrev pub no_event : Event
no_event = Opened 0 Fresh

-- the first so many events, the newest first
abbrev pub past_of : List Event → ℕ → List Event
past_of events zero = []
past_of events (suc k) = slice_index_or events k no_event ∷ past_of events k

-- the publication that an event tells, where it tells one
abbrev pub ended_in : Event → Option PublishedEvent
ended_in (Published position publication marked_at replied_at) =
    Some (record { position = position; publication = publication; marked_at = marked_at; replied_at = replied_at })
ended_in event = None

-- this publication where it made this position, or else an earlier one
abbrev pub at_or : (position : ℕ) → Option PublishedEvent → Option PublishedEvent → Option PublishedEvent
at_or position None earlier = earlier
at_or position (Some ended) earlier = if ended.position == position then Some ended else earlier

-- this publication where it is that of this poll, or else an earlier one
abbrev pub by_or : (poll : ℕ) → Option PublishedEvent → Option PublishedEvent → Option PublishedEvent
by_or poll None earlier = earlier
by_or poll (Some ended) earlier = if ended.publication.poll == poll then Some ended else earlier
