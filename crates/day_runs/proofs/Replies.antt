-- What a poll of the day gives as a base has a bound of at least 244,141 ns.
use Rattle.std.proofs.Common.{◌≡◌, ◌∙◌, ◌⊎◌, ℕ, zero, suc, ◌+◌, ◌-◌, ◌*◌, ◌/◌, ◌%◌, ◌^◌, ◌<◌, ◌≤◌, Bool, true, false, List, [], ◌∷◌, Option, Some, None, Ok, refl, ap, sym, subst, arith, inl, inr, slice_index_or}
use Rattle.std.specs.Prelude.{nat_le, pos, unsigned_abs, if◌then◌else◌}
use Rattle.chrony_fraction.specs.ClockError.{Covers, ceil_nanos, clock_error_bound}
use Rattle.chrony_fraction.specs.declared.clock_error.TheConstants.{LARGEST_BOUND}
use Rattle.clock_gate.specs.declared.trace.PollRow.{PollRow}
use Rattle.clock_gate.specs.ClockRow.{reading_at}
use Rattle.candm_codec.specs.Reply.{reply_of as read_of}
use Rattle.candm_codec.specs.Text.{reply_text}
use Rattle.candm_codec.specs.declared.tracking.Tracking.{Tracking}
use Rattle.candm_codec.proofs.ReplyLaws.{Fits, reply_of-stands, reply_text-stands}
use Rattle.segment_layout.specs.declared.publication.Publication.{Publication}
use Rattle.drill_day.specs.Day.{day_of, polls_of}
use Rattle.drill_day.specs.Draws.{after_two, rounds, second_draw_of}
use Rattle.drill_day.specs.Seconds.{poll_in, reply_of, stop_second, tracking}
use Rattle.bound_rule.specs.GoodPoll.{bound_of_reply, good_from}
use Rattle.status_machine.specs.declared.base.Base.{Base}
use Rattle.status_machine.specs.declared.heard.Heard.TheVariants.{Reply}
use Rattle.status_machine.specs.declared.poll.Poll.{Poll}
use Rattle.status_machine.specs.Poll.{base_of_good, base_of_heard, base_of_poll, heard_by, heard_of}
use Rattle.abstract_run.specs.DaemonRun.{no_poll}
use Rattle.abstract_run.specs.RunFacts.{given_by}
use Rattle.day_runs.specs.Kept.{least_bound, units_of}
use Rattle.day_runs.proofs.Kept.{replies_bound}

-- ---- a reply is read as what it tells

reply_fits : (k draw : ℕ) → k ≤ 20000 → Fits (tracking k draw)
reply_fits k draw few =
    let small : draw % 2 ^ 20 < 2 ^ 20 = grind arith in
    record {
      sequence = omega arith;
      ref_id = omega arith;
      address = omega arith;
      family = omega arith;
      stratum = omega arith;
      high = omega arith;
      low = omega arith;
      nsec = omega arith;
      current_correction = omega (arith, small);
      last_offset = omega arith;
      rms_offset = omega arith;
      freq_ppm = omega arith;
      resid_freq_ppm = omega arith;
      skew_ppm = omega arith;
      root_delay = omega arith;
      root_dispersion = omega arith;
      last_update_interval = omega arith;
    }

heard_some : (bytes : List ℕ) (t : Tracking) → read_of bytes ≡ Ok t → heard_of bytes ≡ Reply t
unfolding read_of
heard_some [] t is = absurd (cc is)
heard_some (byte ∷ bytes) t is = ap heard_by is

reply_heard : (k draw : ℕ) → k ≤ 20000 → heard_of (reply_of k draw) ≡ Reply (tracking k draw)
reply_heard k draw few =
    let t : Tracking = tracking k draw in
    heard_some (reply_text t) t (reply_of-stands (reply_text t) t (reply_text-stands t (reply_fits k draw few)))

-- ---- the polls of the day

-- there is no such poll, or its reply is that of a second
abbrev IsOfSecond : PollRow → Type 0
IsOfSecond row = (row ≡ no_poll) ⊎ ((k : ℕ) × ((draw : ℕ) × ((k ≤ 20000) × (row.reply ≡ reply_of k draw))))

row_of : (stopped x k left i : ℕ) → k + left ≤ 20001 → IsOfSecond (slice_index_or (rounds (poll_in stopped) x k left) i no_poll)
unfolding rounds
row_of stopped x k zero zero few = inl refl
row_of stopped x k zero (suc i) few = inl refl
row_of stopped x k (suc left) zero few = inr (k, (second_draw_of x, (omega arith, refl)))
row_of stopped x k (suc left) (suc i) few = row_of stopped (after_two x) (k + 1) left i (omega arith)

day_poll : (seed polls i : ℕ) → polls ≤ 20000 → IsOfSecond (slice_index_or (polls_of seed polls) i no_poll)
unfolding polls_of
day_poll seed polls i few = row_of (stop_second polls) seed 1 polls i (omega arith)

-- ---- the bound

covers_by : (product : ℕ) → product ≤ (product + (2 ^ 90 - 1)) / 2 ^ 90 * 2 ^ 90
covers_by product = omega arith

covered : (units n : ℕ) → clock_error_bound units ≡ Some n → Covers n units
unfolding clock_error_bound
covered units n is = by (nat_le (ceil_nanos units) LARGEST_BOUND) is
  where
    by : (test : Bool) → (if test then Some (ceil_nanos units) else None) ≡ Some n → Covers n units
    by true is = let same : ceil_nanos units ≡ n = cc is in subst (λ (m : ℕ). Covers m units) same (covers_by (1000000000 * units))
    by false is = absurd (cc is)

bound_by : (number mono : ℕ) (bound : Option ℕ) (base : Base) → base_of_good number (good_from mono bound) ≡ Some base → (n : ℕ) × ((bound ≡ Some n) × (unsigned_abs base.bound ≡ n))
bound_by number mono None base is = absurd (cc is)
bound_by number mono (Some n) base is =
    let same : record { as_of = pos mono; bound = pos n; poll = number } ≡ base = cc is in
    (n, (refl, sym (ap (λ (b : Base). unsigned_abs b.bound) same)))

reached : (poll : Poll) (k draw : ℕ) (base : Base) → base_of_heard poll (Reply (tracking k draw)) ≡ Some base → least_bound ≤ unsigned_abs base.bound
reached poll k draw base is =
    let found = bound_by poll.number poll.reading.mono (bound_of_reply (tracking k draw)) base is in
    let enough = replies_bound k draw found.0 (covered (units_of (tracking k draw)) found.0 found.1.0) in
    subst (λ (n : ℕ). least_bound ≤ n) (sym found.1.1) enough

by_row : (poll : Poll) (row : PollRow) (base : Base) → IsOfSecond row → base_of_heard poll (heard_of row.reply) ≡ Some base → least_bound ≤ unsigned_abs base.bound
by_row poll row base which is = elim which [
  | inl none ↦ (let gone : base_of_heard poll (heard_of row.reply) ≡ None = ap (λ (r : PollRow). base_of_heard poll (heard_of r.reply)) none in absurd (cc (is, gone)))
  | inr some ↦
      reached poll some.0 some.1.0 base
      (sym (ap (base_of_heard poll) (ap heard_of some.1.1.1 ∙ reply_heard some.0 some.1.0 some.1.1.0)) ∙ is)
]

pub base_reaches : (seed polls : ℕ) → polls ≤ 20000 → (publication : Publication) (base : Base) → given_by (day_of seed polls) publication ≡ Some base → least_bound ≤ unsigned_abs base.bound
unfolding base_of_poll
base_reaches seed polls few publication base is =
    let row : PollRow = slice_index_or (polls_of seed polls) (publication.poll - 1) no_poll in
    by_row (record { number = publication.poll; reading = reading_at (day_of seed polls).clock publication.asked; marker = None; heard = heard_of row.reply }) row base
    (day_poll seed polls (publication.poll - 1) few) is
