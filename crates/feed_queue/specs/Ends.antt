-- What contracts see of an end of a queue.
use Rattle.std.specs.Prelude.{ℕ, ◌+◌, List, take}
use Rattle.atomic_table.specs.Seated.{TableId}
use Rattle.crossbeam_queue.specs.Passes.{Pass}
use Rattle.clock_gate.specs.declared.trace.PollRow.{PollRow}
use Rattle.feed_queue.specs.declared.feed.Feed.{Feed}
use Rattle.feed_queue.specs.declared.rule.Hand.{Hand}
use Rattle.feed_queue.specs.Feeds.{feeds_of}
use Rattle.feed_queue.specs.Queued.{hand_of}

-- its queue, the polls whose feeds go through, and how many of them it has put or taken
pub record End : Type 0 where
  pub queue : TableId
  pub polls : List PollRow
  pub count : ℕ

-- the end that has this pass
abbrev pub end_of : Pass Feed Hand → End
end_of p = record { queue = p.table_id; polls = (hand_of p).polls; count = (hand_of p).count }

-- an end of a new queue
abbrev pub new_end : TableId → List PollRow → End
new_end queue polls = record { queue = queue; polls = polls; count = 0 }

-- an end that has put or taken one feed more
abbrev pub counted : End → End
counted e = record e { count = e.count + 1 }

-- the feeds that it has put or taken, in order: the first so many of the polls
abbrev pub passed_by : End → List Feed
passed_by e = take e.count (feeds_of e.polls)
