-- What a good poll gives has the poll's number, and doesn't depend on its marker.
use Rattle.std.proofs.Common.{◌≡◌, ℕ, Option, Some, None, Result, Ok, Err, refl, ap, sym}
use Rattle.bound_rule.specs.declared.good.Good.{Good}
use Rattle.bound_rule.specs.declared.unfit.Unfit.{Unfit}
use Rattle.bound_rule.specs.GoodPoll.{assess_of}
use Rattle.clock_gate.specs.declared.clock_row.Reading.{Reading}
use Rattle.status_machine.specs.declared.base.Base.{Base}
use Rattle.status_machine.specs.declared.heard.Heard.{Heard}
use Rattle.status_machine.specs.declared.heard.Heard.TheVariants.{Reply, Missing, Refused}
use Rattle.status_machine.specs.declared.poll.Poll.{Poll}
use Rattle.status_machine.specs.Poll.{base_of_good, base_of_heard, base_of_poll}

good_number : (number : ℕ) (found : Result Good Unfit) (base : Base) → base_of_good number found ≡ Some base → base.poll ≡ number
good_number number (Ok good) base is = let same : record { as_of = good.as_of; bound = good.bound; poll = number } ≡ base = cc is in sym (ap (λ (b : Base). b.poll) same)
good_number number (Err unfit) base is = absurd (cc is)

heard_number : (poll : Poll) (heard : Heard) (base : Base) → base_of_heard poll heard ≡ Some base → base.poll ≡ poll.number
heard_number poll (Reply tracking) base is = good_number poll.number (assess_of tracking poll.reading.mono) base is
heard_number poll Missing base is = absurd (cc is)
heard_number poll (Refused fault) base is = absurd (cc is)

-- it has the poll's number
pub base_of_poll-number : (poll : Poll) (base : Base) → base_of_poll poll ≡ Some base → base.poll ≡ poll.number
unfolding base_of_poll
base_of_poll-number poll base is = heard_number poll poll.heard base is

heard_unmarked : (number : ℕ) (reading : Reading) (marker : Option ℕ) (all heard : Heard)
    → base_of_heard (record { number = number; reading = reading; marker = None; heard = all }) heard ≡ base_of_heard (record { number = number; reading = reading; marker = marker; heard = all }) heard
heard_unmarked number reading marker all (Reply tracking) = refl
heard_unmarked number reading marker all Missing = refl
heard_unmarked number reading marker all (Refused fault) = refl

-- the marker gives nothing
pub base_of_poll-unmarked : (number : ℕ) (reading : Reading) (marker : Option ℕ) (heard : Heard)
    → base_of_poll (record { number = number; reading = reading; marker = None; heard = heard }) ≡ base_of_poll (record { number = number; reading = reading; marker = marker; heard = heard })
unfolding base_of_poll
base_of_poll-unmarked number reading marker heard = heard_unmarked number reading marker heard heard
