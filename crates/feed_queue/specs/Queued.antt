-- What a queue of feeds holds, and what its two ends know.
use Rattle.std.specs.Prelude.{◌≡◌, ℕ, ◌+◌, Bool, true, List, ◌++◌, length}
use mathlib.Core.Option.{some}
use lib.ListN.{get_elem?}
use Rattle.crossbeam_queue.specs.Passes.{Pass, view}
use Rattle.clock_gate.specs.declared.trace.PollRow.{PollRow}
use Rattle.feed_queue.specs.declared.feed.Feed.{Feed}
use Rattle.feed_queue.specs.declared.rule.Hand.{Hand}
use Rattle.feed_queue.specs.Feeds.{feeds_of}

-- the items are the feeds after those taken, up to the last one put
pub record IsBetween (polls : List PollRow) (taken put : ℕ) (items : List Feed) : Type 0 where
  pub gone : List Feed
  pub to_come : List Feed
  pub feeds : feeds_of polls ≡ gone ++ (items ++ to_come)
  pub were_taken : length gone ≡ taken
  pub were_put : length gone + length items ≡ put

-- what the queue held, as far as the end that puts can tell: the last of the feeds that it has put
abbrev pub SeenByPutter : List PollRow → ℕ → List Feed → Type 0
SeenByPutter polls put items = (taken : ℕ) × IsBetween polls taken put items

-- what it held, as far as the end that takes can tell: the next feeds to take
abbrev pub SeenByTaker : List PollRow → ℕ → List Feed → Type 0
SeenByTaker polls taken items = (put : ℕ) × IsBetween polls taken put items

-- what one may do who puts, takes or both, the polls, and how many of their feeds he has put or taken
abbrev pub hand : Bool → Bool → List PollRow → ℕ → Hand
hand puts takes polls count = record { puts = puts; takes = takes; polls = polls; count = count }

-- after one feed more
abbrev pub one_more : Hand → Hand
one_more v = hand v.puts v.takes v.polls (v.count + 1)

-- who may put is the one putter, who may take the one taker, and each knows the polls and his own count
abbrev pub Fits : ℕ → ℕ → List PollRow → ℕ → ℕ → ℕ → Hand → Type 0
Fits putter taker polls put taken port v =
    (v.puts ≡ true → (port ≡ putter) × (v.polls ≡ polls) × (v.count ≡ put))
    × (v.takes ≡ true → (port ≡ taker) × (v.polls ≡ polls) × (v.count ≡ taken))

-- the rule of the queue: one puts and one takes, and between them are the feeds put and not yet taken
pub record Ordered (items : List Feed) (views : List Hand) : Type 0 where
  pub putter : ℕ
  pub taker : ℕ
  pub polls : List PollRow
  pub put : ℕ
  pub taken : ℕ
  pub held : IsBetween polls taken put items
  pub ends : (port : ℕ) (v : Hand) → get_elem? views port ≡ some v → Fits putter taker polls put taken port v

-- what the holder of a pass knows
abbrev pub hand_of : Pass Feed Hand → Hand
hand_of p = view p
