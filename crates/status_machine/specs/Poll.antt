-- A poll: what its reply says, and what it gives where it is good.
use Rattle.std.specs.Prelude.{ℕ, ◌^◌, ◌==◌, ◌≤ℤ◌, pos, Bool, false, not, ◌&&◌, List, [], ◌∷◌, Option, Some, None, is_some, Result, Ok, Err}
use Rattle.candm_codec.specs.declared.tracking.RefTime.{RefTime}
use Rattle.candm_codec.specs.declared.tracking.ReplyFault.{ReplyFault}
use Rattle.candm_codec.specs.declared.tracking.Tracking.{Tracking}
use Rattle.candm_codec.specs.Reply.{reply_of}
use Rattle.bound_rule.specs.declared.good.Good.{Good}
use Rattle.bound_rule.specs.declared.unfit.Unfit.{Unfit}
use Rattle.bound_rule.specs.GoodPoll.{assess_of}
use Rattle.status_machine.specs.declared.base.Base.{Base}
use Rattle.status_machine.specs.declared.heard.Heard.{Heard}
use Rattle.status_machine.specs.declared.heard.Heard.TheVariants.{Reply, Missing, Refused}
use Rattle.status_machine.specs.declared.poll.Poll.{Poll}

abbrev pub heard_by : Result Tracking ReplyFault → Heard
heard_by (Ok tracking) = Reply tracking
heard_by (Err fault) = Refused fault

-- what these bytes say: no bytes are no reply
abbrev pub heard_of : List ℕ → Heard
heard_of [] = Missing
heard_of (byte ∷ bytes) = heard_by (reply_of (byte ∷ bytes))

-- the reference time of a readable reply
abbrev pub reference_of : Heard → Option RefTime
reference_of (Reply tracking) = Some tracking.ref_time
reference_of unread = None

-- the same three words
abbrev pub is_same_time : RefTime → RefTime → Bool
is_same_time a b = (a.high == b.high) && ((a.low == b.low) && (a.nsec == b.nsec))

-- there is a reference time, and it isn't the guard
abbrev pub has_other_time : RefTime → Option RefTime → Bool
has_other_time guard None = false
has_other_time guard (Some time) = not (is_same_time time guard)

abbrev pub base_of_good : ℕ → Result Good Unfit → Option Base
base_of_good number (Ok good) = Some (record { as_of = good.as_of; bound = good.bound; poll = number })
base_of_good number (Err unfit) = None

abbrev pub base_of_heard : Poll → Heard → Option Base
base_of_heard poll (Reply tracking) = base_of_good poll.number (assess_of tracking poll.reading.mono)
base_of_heard poll unread = None

-- what a good poll gives: its first reading, its bound and its number
unfoldable pub base_of_poll : Poll → Option Base
base_of_poll poll = base_of_heard poll poll.heard

-- a poll is good: its reply is readable, is synchronised, and has a clock error bound that fits a record
abbrev pub is_good : Poll → Bool
is_good poll = is_some (base_of_poll poll)

-- a base keeps the bounds of a record
pub record BaseFits (base : Base) : Type 0 where
  pub as_of_low : pos 0 ≤ℤ base.as_of
  pub as_of_high : base.as_of ≤ℤ pos 4000000000999999999
  pub bound_low : pos 0 ≤ℤ base.bound
  pub bound_high : base.bound ≤ℤ pos (2 ^ 62)
