-- The daemon's polls by the feeds that it takes.
use Rattle.std.proofs.Common.{◌≡◌, ℕ, zero, suc, ◌+◌, ◌<◌, ◌≤◌, List, [], ◌∷◌, length, Some, slice_get, refl, sym, ap, ◌∙◌, subst, arith}
use Rattle.std.specs.Prelude.{IfSome}
use Rattle.std.proofs.lemmas.Option.{slice_get_within, get_or_from_slice_get}
use Rattle.clock_gate.specs.declared.trace.PollRow.{PollRow}
use Rattle.clock_gate.specs.declared.trace.Trace.{Trace}
use Rattle.clock_gate.specs.declared.limits.TheConstants.{MOST_STORES}
use Rattle.clock_gate.specs.ClockRow.{IsClock}
use Rattle.clock_gate.specs.Trace.{IsClockRow, IsPollRow, IsLawfulTrace}
use Rattle.clock_gate.proofs.Traces.{clock_few}
use Rattle.feed_queue.specs.declared.feed.Feed.{Feed}
use Rattle.feed_queue.specs.Feeds.{feed_of, feeds_from, IsNext}
use Rattle.feed_queue.proofs.Feeds.{next_of}
use Rattle.writer_reopen.specs.Poll.{AreRows}

-- the next feed is that of the next poll
pub next_feed : (polls : List PollRow) (k : ℕ) (poll : PollRow) → slice_get polls k ≡ Some poll → IsNext polls k (feed_of (k + 1) poll)
next_feed polls k poll e = next_of polls k poll e

-- the poll of a feed
pub record IsOf (polls : List PollRow) (k : ℕ) (f : Feed) : Type 0 where
  pub row : PollRow
  pub row_is : slice_get polls k ≡ Some row
  pub feed : f ≡ feed_of (k + 1) row

same_feed : {x f : Feed} → Some x ≡ Some f → x ≡ f
same_feed e = cc e

poll_from : (number : ℕ) (polls : List PollRow) (k : ℕ) (f : Feed) → slice_get (feeds_from number polls) k ≡ Some f → (row : PollRow) × (slice_get polls k ≡ Some row) × (f ≡ feed_of (number + k) row)
poll_from number [] k f e = absurd (cc e)
poll_from number (row ∷ polls) zero f e = let same : number ≡ number + 0 = omega arith in (row, refl, sym (same_feed e) ∙ ap (λ (n : ℕ). feed_of n row) same)
poll_from number (row ∷ polls) (suc k) f e =
    let later = poll_from (number + 1) polls k f e in
    let same : number + 1 + k ≡ number + suc k = omega arith in (later.0, later.1, later.2 ∙ ap (λ (n : ℕ). feed_of n later.0) same)

pub poll_of : (polls : List PollRow) (k : ℕ) (f : Feed) → IsNext polls k f → IsOf polls k f
poll_of polls k f next =
    let found = poll_from 1 polls k f next in
    let same : 1 + k ≡ k + 1 = omega arith in record { row = found.0; row_is = found.1; feed = found.2 ∙ ap (λ (n : ℕ). feed_of n found.0) same }

pub poll_within : (polls : List PollRow) (k : ℕ) (f : Feed) → IsNext polls k f → k < length polls
poll_within polls k f next = let is = poll_of polls k f next in slice_get_within polls k is.row is.row_is

-- its stop is that of a lawful trace
pub stop_few : (trace : Trace) (k : ℕ) (f : Feed) → IsLawfulTrace trace → IsNext trace.polls k f → IfSome f.stop (λ stores. stores ≤ MOST_STORES)
stop_few trace k f lawful next =
    let is = poll_of trace.polls k f next in
    let row = subst IsPollRow (get_or_from_slice_get trace.polls k is.row is.row is.row_is) (lawful.polls k is.row (slice_get_within trace.polls k is.row is.row_is)) in
    subst (λ (x : Feed). IfSome x.stop (λ stores. stores ≤ MOST_STORES)) (sym is.feed) row.stop

-- the clock of a lawful trace may be given to a poll
pub clock_rows : (trace : Trace) → IsLawfulTrace trace → AreRows trace.clock
clock_rows trace lawful = record {
  few = clock_few trace lawful;
  moments = λ place row at. (subst IsClockRow (get_or_from_slice_get trace.clock place row row at) (lawful.clock place row (slice_get_within trace.clock place row at))).mono;
}

-- and to a call of a client
pub clock_moments : (trace : Trace) → IsLawfulTrace trace → IsClock trace.clock
clock_moments trace lawful k d here = let row = lawful.clock k d here in (row.mono, row.real)
