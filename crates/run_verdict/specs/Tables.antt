-- What tables of the publications so far say of the events before a place.
use Rattle.std.specs.Prelude.{◌≡◌, ℕ, ◌<◌, nat_eq, List, slice_index_or, Option, Some, None}
use Rattle.std.specs.HashMap.{get}
use Rattle.abstract_run.specs.declared.event.Event.{Event}
use Rattle.abstract_run.specs.RunFacts.{PublishedEvent, told_at, told_by}
use Rattle.run_verdict.specs.declared.past.Past.{Past}
use Rattle.run_verdict.specs.Past.{no_event, past_of, ended_in}

-- the publication at a place, where there is one
abbrev pub ended_at : List Event → Option ℕ → Option PublishedEvent
ended_at events None = None
ended_at events (Some at) = ended_in (slice_index_or events at no_event)

-- each entry is the place of an earlier event: the last publication with this position, and the last one of this poll
pub record ShowsPast (events : List Event) (place : ℕ) (past : Past) : Type 0 where
  pub read : (n : ℕ) → told_at n (past_of events place) ≡ ended_at events (get nat_eq past.by_position n)
  pub base : (n : ℕ) → told_by n (past_of events place) ≡ ended_at events (get nat_eq past.by_poll n)
  pub read_before : (n at : ℕ) → get nat_eq past.by_position n ≡ Some at → at < place
  pub base_before : (n at : ℕ) → get nat_eq past.by_poll n ≡ Some at → at < place
