-- The base that a daemon holds keeps the bounds of a record: at its start, and after each poll.
use Rattle.std.proofs.Common.{ℕ, ◌≤◌, Bool, true, false, Option, Some, None, arith}
use Rattle.std.proofs.lemmas.Int.{ints}
use Rattle.std.specs.Prelude.{pos, ◌+ℤ◌, not, ◌&&◌, if◌then◌else◌, is_some, IfSome, IfOk, Result, Ok, Err}
use Rattle.clock_gate.specs.declared.clock_status.ClockStatus.{ClockStatus}
use Rattle.clock_gate.specs.declared.clock_status.ClockStatus.TheVariants as statuses
use Rattle.clock_gate.specs.declared.limits.TheConstants.{LAST_MOMENT}
use Rattle.bound_rule.specs.declared.good.Good.{Good}
use Rattle.bound_rule.specs.declared.unfit.Unfit.{Unfit}
use Rattle.bound_rule.specs.GoodPoll.{assess_of, IsGoodAt}
use Rattle.bound_rule.proofs.Laws.{assess_of-good}
use Rattle.segment_layout.specs.declared.start.Start.{Start}
use Rattle.segment_layout.specs.declared.start.Start.TheVariants.{Fresh, Kept, Torn}
use Rattle.segment_layout.specs.Record.{KeepsBounds}
use Rattle.status_machine.specs.declared.base.Base.{Base}
use Rattle.status_machine.specs.declared.daemon.Daemon.{Daemon}
use Rattle.status_machine.specs.declared.heard.Heard.{Heard}
use Rattle.status_machine.specs.declared.heard.Heard.TheVariants.{Reply, Missing, Refused}
use Rattle.status_machine.specs.declared.poll.Poll.{Poll}
use Rattle.status_machine.specs.Incarnation.{Incarnation, base_by_status, start_base, as_of_by, bound_by}
use Rattle.status_machine.specs.Poll.{base_of_good, base_of_heard, base_of_poll, BaseFits}
use Rattle.status_machine.specs.Step.{mode_is_disrupted, mode_after_poll, daemon_step, record_of, daemon_begun}

-- ---- a poll

by_assessed : (number mono : ℕ) (assessed : Result Good Unfit) → mono ≤ LAST_MOMENT → IfOk assessed (IsGoodAt mono) → IfSome (base_of_good number assessed) BaseFits
by_assessed number mono (Ok good) most is =
    record { as_of_low = rw is.as_of (omega (arith, ints)); as_of_high = rw is.as_of (omega (arith, ints, most)); bound_low = is.low; bound_high = is.high }
by_assessed number mono (Err unfit) most is = tt

by_heard : (poll : Poll) (heard : Heard) → poll.reading.mono ≤ LAST_MOMENT → IfSome (base_of_heard poll heard) BaseFits
by_heard poll (Reply tracking) most = by_assessed poll.number poll.reading.mono (assess_of tracking poll.reading.mono) most (assess_of-good tracking poll.reading.mono)
by_heard poll Missing most = tt
by_heard poll (Refused fault) most = tt

-- what a good poll gives keeps the bounds
pub base_of_poll-fits : (poll : Poll) → poll.reading.mono ≤ LAST_MOMENT → IfSome (base_of_poll poll) BaseFits
unfolding base_of_poll
base_of_poll-fits poll most = by_heard poll poll.heard most

one_fits : (takes : Bool) (base good : Option Base) → IfSome base BaseFits → IfSome good BaseFits → IfSome (if takes then good else base) BaseFits
one_fits true base good old new = new
one_fits false base good old new = old

-- a poll leaves a base that keeps the bounds
pub daemon_step-fits : (daemon : Daemon) (poll : Poll) → IfSome daemon.base BaseFits → poll.reading.mono ≤ LAST_MOMENT → IfSome (daemon_step daemon poll).base BaseFits
daemon_step-fits daemon poll fits most =
    one_fits (not (mode_is_disrupted (mode_after_poll daemon poll)) && is_some (base_of_poll poll)) daemon.base (base_of_poll poll) fits (base_of_poll-fits poll most)

bounds_by : (base : Option Base) (mono drift : ℕ) → IfSome base BaseFits → mono ≤ LAST_MOMENT → drift ≤ 1000000000
    → KeepsBounds (as_of_by base mono) (as_of_by base mono +ℤ pos 1000000000000) (bound_by base) drift
bounds_by None mono drift fits most slow =
    record { as_of_low = omega (arith, ints); as_of_high = omega (arith, ints); void_after_low = omega (arith, ints); void_after_high = omega (arith, ints); bound_low = omega (arith, ints); bound_high = omega (arith, ints); drift_high = slow }
bounds_by (Some base) mono drift fits most slow =
    let low = fits.as_of_low in
    let high = fits.as_of_high in
    record {
      as_of_low = low;
      as_of_high = high;
      void_after_low = omega (arith, ints, low, high);
      void_after_high = omega (arith, ints, low, high);
      bound_low = fits.bound_low;
      bound_high = fits.bound_high;
      drift_high = slow;
    }

-- so does the record that a daemon gives
pub record_of-fits : (daemon : Daemon) (poll : Poll) → IfSome daemon.base BaseFits → poll.reading.mono ≤ LAST_MOMENT → daemon.drift ≤ 1000000000
    → KeepsBounds (record_of daemon poll).as_of (record_of daemon poll).void_after (record_of daemon poll).bound (record_of daemon poll).drift
record_of-fits daemon poll fits most slow = bounds_by daemon.base poll.reading.mono daemon.drift fits most slow

-- ---- a start

-- a record that was found keeps its bounds
abbrev pub StartFits : Start → Type 0
StartFits Fresh = Unit {0}
StartFits (Torn generation) = Unit {0}
StartFits (Kept generation rec) = KeepsBounds rec.as_of rec.void_after rec.bound rec.drift

status_fits : (status : ClockStatus) (base : Base) → BaseFits base → IfSome (base_by_status status base) BaseFits
status_fits statuses.Unknown base fits = tt
status_fits statuses.Synchronized base fits = fits
status_fits statuses.FreeRunning base fits = fits
status_fits statuses.Disrupted base fits = fits

start_fits : (start : Start) (number : ℕ) → StartFits start → IfSome (start_base start number) BaseFits
start_fits Fresh number fits = tt
start_fits (Torn generation) number fits = tt
start_fits (Kept generation rec) number fits =
    status_fits rec.status (record { as_of = rec.as_of; bound = rec.bound; poll = number })
    (record { as_of_low = fits.as_of_low; as_of_high = fits.as_of_high; bound_low = fits.bound_low; bound_high = fits.bound_high })

-- and the base that an incarnation begins with
pub begun-fits : (from : Incarnation) → StartFits from.start → IfSome (daemon_begun from).base BaseFits
begun-fits from fits = start_fits from.start from.base fits
