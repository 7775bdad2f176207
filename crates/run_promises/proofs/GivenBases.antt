-- What a poll that gives a base gives: its first reading as as-of, and a bound that isn't negative.
use Rattle.std.proofs.Common.{◌≡◌, ℕ, Some, Result, Ok, Err, ap, sym, ◌∙◌, subst}
use Rattle.std.specs.Prelude.{◌≤ℤ◌, pos, IfOk}
use Rattle.bound_rule.specs.declared.good.Good.{Good}
use Rattle.bound_rule.specs.declared.unfit.Unfit.{Unfit}
use Rattle.bound_rule.specs.GoodPoll.{assess_of, IsGoodAt}
use Rattle.bound_rule.proofs.Laws.{assess_of-good}
use Rattle.status_machine.specs.declared.base.Base.{Base}
use Rattle.status_machine.specs.declared.heard.Heard.{Heard}
use Rattle.status_machine.specs.declared.heard.Heard.TheVariants.{Reply, Missing, Refused}
use Rattle.status_machine.specs.declared.poll.Poll.{Poll}
use Rattle.status_machine.specs.Poll.{base_of_good, base_of_heard, base_of_poll}

pub record IsGiven (mono : ℕ) (base : Base) : Type 0 where
  pub as_of : base.as_of ≡ pos mono
  pub low : pos 0 ≤ℤ base.bound

given_by : (number mono : ℕ) (assessed : Result Good Unfit) (base : Base) → IfOk assessed (IsGoodAt mono) → base_of_good number assessed ≡ Some base → IsGiven mono base
given_by number mono (Ok good) base fits is =
    let same : record { as_of = good.as_of; bound = good.bound; poll = number } ≡ base = cc is in
    record { as_of = sym (ap (λ (b : Base). b.as_of) same) ∙ fits.as_of; low = subst (λ (b : Base). pos 0 ≤ℤ b.bound) same fits.low }
given_by number mono (Err unfit) base fits is = absurd (cc is)

heard_gives : (poll : Poll) (heard : Heard) (base : Base) → base_of_heard poll heard ≡ Some base → IsGiven poll.reading.mono base
heard_gives poll (Reply tracking) base is = given_by poll.number poll.reading.mono (assess_of tracking poll.reading.mono) base (assess_of-good tracking poll.reading.mono) is
heard_gives poll Missing base is = absurd (cc is)
heard_gives poll (Refused fault) base is = absurd (cc is)

pub poll_gives : (poll : Poll) (base : Base) → base_of_poll poll ≡ Some base → IsGiven poll.reading.mono base
unfolding base_of_poll
poll_gives poll base is = heard_gives poll poll.heard base is
