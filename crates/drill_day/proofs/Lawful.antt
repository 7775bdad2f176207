-- A day may be run.
use Rattle.std.proofs.Common.{◌≡◌, ◌≢◌, ◌∙◌, ℕ, zero, suc, ◌+◌, ◌-◌, ◌*◌, ◌%◌, ◌<◌, ◌≤◌, Bool, true, false, cond, List, [], ◌∷◌, ◌++◌, length, take, Some, None, lit≤, refl, sym, arith}
use Rattle.std.specs.Prelude.{All, IfSome, IsOk, filter_map, ◌==◌}
use Rattle.std.specs.List.{range_with_len}
use Rattle.std.proofs.lemmas.Bool.{ne_eqb}
use Rattle.std.proofs.lemmas.Bool.Decides.{nat_tests}
use Rattle.std.proofs.lemmas.List.Elements.{All-cons, All-nil, filter_map-append}
use Rattle.std.proofs.lemmas.List.Sums.{sum_by-append}
use Rattle.clock_gate.specs.Trace.{IsCallRow, IsClockRow, IsHostOf, IsLawfulTrace, IsParty, IsPollRow, IsTurn, NeverFalls, clock_number, clock_numbers, larger, largest_client, largest_from, turns_in, turns_of}
use Rattle.clock_gate.specs.declared.clock_row.ClockRow.{ClockRow}
use Rattle.clock_gate.specs.declared.trace.CallRow.{CallRow}
use Rattle.clock_gate.specs.declared.trace.HostRow.{HostRow}
use Rattle.clock_gate.specs.declared.trace.HostRow.TheVariants.{Clock, Disrupt, Page}
use Rattle.clock_gate.specs.declared.trace.Party.TheVariants.{Host, Daemon, Client}
use Rattle.clock_gate.specs.declared.trace.PollRow.{PollRow}
use Rattle.clock_gate.specs.declared.trace.Turn.{Turn}
use Rattle.candm_codec.specs.Numbers.{spelled}
use Rattle.candm_codec.specs.Text.{packed_text, reply_header_text, reply_text, source_text, time_text}
use Rattle.candm_codec.specs.declared.tracking.Tracking.{Tracking}
use Rattle.generation_word.specs.declared.layout.Layout.TheVariants.{Two}
use Rattle.segment_layout.specs.Image.{image_of}
use Rattle.vmclock_page.specs.Numbers.{number}
use Rattle.vmclock_page.specs.Page.{page_of}
use Rattle.vmclock_page.specs.Words.{page_words}
use Rattle.vmclock_page.specs.Rows.{ArePageRows, IsRowOf, IsStartPage}
use Rattle.drill_day.specs.Draws.{after_rounds, after_two, draw_of, rounds, second_draw_of, seconds}
use Rattle.drill_day.specs.Seconds as spec
use Rattle.drill_day.specs.Day.{calls_of, clock_of, day_of, host_of, lines_of, no_image, polls_of, schedule_of}
use Rattle.drill_day.proofs.Adding.{All-rounds, All-seconds, IsSum, rounds_sum, rounds_sum_most, seconds_sum, seconds_sum_most, sum-length}
use Rattle.drill_day.proofs.Orders.{order_is}

-- ---- the clock

clock_fits : (k x : ℕ) → 1 ≤ k → k ≤ 20000 → IsClockRow (spec.clock_row k (draw_of x))
clock_fits k x low high =
    let draw : draw_of x % 40001 < 40001 = grind arith in
    record { mono = omega arith; real = omega arith; truth = omega (arith, draw) }

all_clock : (seed polls : ℕ) → polls ≤ 20000 → All IsClockRow (clock_of seed polls)
unfolding clock_of
all_clock seed polls few =
    All-rounds IsClockRow spec.clock_in 1 20000 (λ k x low high. All-cons IsClockRow (spec.clock_row k (draw_of x)) [] (clock_fits k x low high) (All-nil IsClockRow)) seed 1 polls (omega arith) (omega arith)

never_falls : (x k left : ℕ) → NeverFalls (rounds spec.clock_in x k left)
unfolding rounds NeverFalls
never_falls x k zero = tt
never_falls x k (suc left) =
    let P : ClockRow → Type 0 = λ (later : ClockRow). k * 1000000000 ≤ later.mono in (
      All-rounds P spec.clock_in (k + 1) (k + left) (λ n y low high. All-cons P (spec.clock_row n (draw_of y)) [] (omega arith) (All-nil P)) (after_two x) (k + 1) left (omega arith) (omega arith),
      never_falls (after_two x) (k + 1) left,
    )

-- a row of the clock for each second
pub clock_length : (seed polls : ℕ) → length (clock_of seed polls) ≡ polls
unfolding clock_of
clock_length seed polls =
    let each : length (rounds spec.clock_in seed 1 polls) ≡ 1 * polls = rounds_sum (λ (rows : List ClockRow). length rows) spec.clock_in 1 sum-length (λ k x. refl) seed 1 polls in
    omega (arith, each)

-- ---- the host

numbers_by : (middle : Bool) (k : ℕ) → filter_map clock_number (cond middle (spec.disruption ++ (Clock k ∷ [])) (Clock k ∷ [])) ≡ k ∷ []
numbers_by true k = refl
numbers_by false k = refl

numbers_from : (m k left : ℕ) → filter_map clock_number (seconds (spec.host_in m) k left) ≡ range_with_len k left
unfolding seconds
numbers_from m k zero = refl
numbers_from m k (suc left) =
    filter_map-append clock_number (spec.host_in m k) (seconds (spec.host_in m) (k + 1) left)
    ∙ rw (numbers_by (k == m) k, numbers_from m (k + 1) left) refl

begins_by : (m left : ℕ) → 1 ≢ m → take 1 (seconds (spec.host_in m) 1 (suc left)) ≡ Clock 1 ∷ []
unfolding seconds
begins_by m left other = rw (ne_eqb 1 m other) refl

host_begins : (polls : ℕ) → 6 ≤ polls → take 1 (host_of polls) ≡ Clock 1 ∷ []
unfolding host_of
host_begins zero a = absurd (omega arith)
host_begins (suc left) a = begins_by (spec.middle_of (suc left)) left (λ (e : 1 ≡ spec.middle_of (suc left)). omega arith)

is_host : (seed polls : ℕ) → 6 ≤ polls → IsHostOf (length (clock_of seed polls)) (host_of polls)
unfolding clock_numbers host_of
is_host seed polls a = record {
  begins = host_begins polls a;
  numbered = rw (clock_length seed polls) (numbers_from (spec.middle_of polls) 1 polls);
}

three_rows : (middle : Bool) (k : ℕ) → length (cond middle (spec.disruption ++ (Clock k ∷ [])) (Clock k ∷ [])) ≤ 3
three_rows true k = lit≤ tt
three_rows false k = lit≤ tt

host_few : (polls : ℕ) → length (host_of polls) ≤ 3 * polls
unfolding host_of
host_few polls = seconds_sum_most (λ (rows : List HostRow). length rows) (spec.host_in (spec.middle_of polls)) 3 sum-length (λ k. three_rows (k == spec.middle_of polls) k) 1 polls

-- ---- the page

pub start_is_page : IsStartPage (Some spec.start_words)
unfolding page_of number
start_is_page = refl

-- ---- the polls

reply_length : (t : Tracking) → length (reply_text t) ≡ 104
unfolding reply_text reply_header_text source_text time_text packed_text spelled
reply_length t = refl

stop_fits : (stopped : Bool) → IfSome (cond stopped (Some 5) None) (λ stores. stores ≤ 10)
stop_fits true = lit≤ tt
stop_fits false = tt

all_polls : (seed polls : ℕ) → All IsPollRow (polls_of seed polls)
unfolding polls_of
all_polls seed polls =
    All-rounds IsPollRow (spec.poll_in (spec.stop_second polls)) 1 polls
    (λ k x low high. All-cons IsPollRow (record { reply = spec.reply_of k (second_draw_of x); stop = spec.stop_in (spec.stop_second polls) k }) []
    (record { reply = let long = reply_length (spec.tracking k (second_draw_of x)) in omega (arith, long); stop = stop_fits (k == spec.stop_second polls) })
    (All-nil IsPollRow)) seed 1 polls (omega arith) (omega arith)

-- a poll for each second
pub polls_length : (seed polls : ℕ) → length (polls_of seed polls) ≡ polls
unfolding polls_of
polls_length seed polls =
    let each : length (rounds (spec.poll_in (spec.stop_second polls)) seed 1 polls) ≡ 1 * polls = rounds_sum (λ (rows : List PollRow). length rows) (spec.poll_in (spec.stop_second polls)) 1 sum-length (λ k x. refl) seed 1 polls in
    omega (arith, each)

-- ---- the calls

call_fits : (client : ℕ) → 1 ≤ client → client ≤ 3 → IsCallRow (spec.call_of client)
call_fits client low high = record { client = (low, omega arith); tries = (lit≤ tt, lit≤ tt) }

calls_fit : (k : ℕ) → All IsCallRow (spec.calls_in k)
calls_fit k =
    All-cons IsCallRow (spec.call_of 1) (spec.call_of 2 ∷ spec.call_of 3 ∷ []) (call_fits 1 (lit≤ tt) (lit≤ tt))
    (All-cons IsCallRow (spec.call_of 2) (spec.call_of 3 ∷ []) (call_fits 2 (lit≤ tt) (lit≤ tt))
    (All-cons IsCallRow (spec.call_of 3) [] (call_fits 3 (lit≤ tt) (lit≤ tt)) (All-nil IsCallRow)))

all_calls : (polls : ℕ) → All IsCallRow (calls_of polls)
unfolding calls_of
all_calls polls = All-seconds IsCallRow spec.calls_in calls_fit 1 polls

calls_length : (polls : ℕ) → length (calls_of polls) ≡ 3 * polls
unfolding calls_of
calls_length polls = seconds_sum (λ (rows : List CallRow). length rows) spec.calls_in 3 sum-length (λ k. refl) 1 polls

largest_stays : (k left : ℕ) → largest_from 3 (seconds spec.calls_in k left) ≡ 3
unfolding largest_from seconds larger
largest_stays k zero = refl
largest_stays k (suc left) = largest_stays (k + 1) left

largest : (polls : ℕ) → 6 ≤ polls → 3 ≡ largest_client (calls_of polls)
unfolding calls_of largest_from seconds larger
largest zero a = absurd (omega arith)
largest (suc left) a = sym (largest_stays 2 left)

-- ---- the schedule

party_by : (number : ℕ) → number < 5 → (host daemon : Bool) → number == 0 ≡ host → number == 1 ≡ daemon → IsParty (cond host Host (cond daemon Daemon (Client (number - 1))))
party_by number few true daemon h d = tt
party_by number few false true h d = tt
party_by number few false false h d = (grind (arith, nat_tests), omega arith)

turn_fits : (first second : ℕ) → IsTurn (spec.turn_of first second)
turn_fits first second =
    let few : first % 5 < 5 = grind arith in
    let most : second % 20 < 20 = grind arith in
    (party_by (first % 5) few (first % 5 == 0) (first % 5 == 1) refl refl, (omega arith, omega (arith, most)))

all_turns : (seed polls : ℕ) → All IsTurn (schedule_of seed polls)
unfolding schedule_of
all_turns seed polls =
    All-rounds IsTurn spec.turns_in 1 (lines_of seed polls)
    (λ k x low high. All-cons IsTurn (spec.turn_of (draw_of x) (second_draw_of x)) [] (turn_fits (draw_of x) (second_draw_of x)) (All-nil IsTurn))
    (after_rounds seed polls) 1 (lines_of seed polls) (omega arith) (omega arith)

lines_by : (none_at_all : Bool) (n : ℕ) → cond none_at_all 0 n ≤ n
lines_by true n = omega arith
lines_by false n = omega arith

lines_few : (seed polls : ℕ) → lines_of seed polls ≤ 40 * polls
lines_few seed polls = lines_by (seed == 0) (40 * polls)

turns_length : (seed polls : ℕ) → length (schedule_of seed polls) ≤ 40 * polls
unfolding schedule_of
turns_length seed polls =
    let each = rounds_sum (λ (turns : List Turn). length turns) spec.turns_in 1 sum-length (λ k x. refl) (after_rounds seed polls) 1 (lines_of seed polls) in
    let few = lines_few seed polls in
    omega (arith, each, few)

sum-turns : IsSum turns_of
unfolding turns_of
sum-turns = record { none = refl; both = λ xs ys. sum_by-append turns_in xs ys }

twenty : (k x : ℕ) → turns_of (spec.turns_in k x) ≤ 20
unfolding turns_of
twenty k x =
    let most : second_draw_of x % 20 < 20 = grind arith in
    omega (arith, most)

turns_most : (seed polls : ℕ) → turns_of (schedule_of seed polls) ≤ 20 * (40 * polls)
unfolding schedule_of
turns_most seed polls =
    let each = rounds_sum_most turns_of spec.turns_in 20 sum-turns twenty (after_rounds seed polls) 1 (lines_of seed polls) in
    let few = lines_few seed polls in
    omega (arith, each, few)

never_falls_of : (seed polls : ℕ) → NeverFalls (clock_of seed polls)
unfolding clock_of
never_falls_of seed polls = never_falls seed 1 polls

-- ---- the day

pub day_lawful : (seed polls : ℕ) → 6 ≤ polls → polls ≤ 20000 → IsLawfulTrace (day_of seed polls)
day_lawful seed polls low high = record {
  drift = lit≤ tt;
  tries = (lit≤ tt, lit≤ tt);
  clients = largest polls low;
  clock = all_clock seed polls high;
  rises = never_falls_of seed polls;
  host = is_host seed polls low;
  host_few = let few = host_few polls in omega (arith, few);
  polls = all_polls seed polls;
  polls_few = let long = polls_length seed polls in omega (arith, long);
  calls = all_calls polls;
  calls_few = let long = calls_length polls in omega (arith, long);
  turns = all_turns seed polls;
  turns_few = let few = turns_length seed polls in omega (arith, few);
  turns_most = let most = turns_most seed polls in omega (arith, most);
  order = order_is seed polls low;
}

pub day_image : IsOk (image_of Two no_image)
unfolding image_of
day_image = refl

rows_by : (middle : Bool) (k : ℕ) → All (IsRowOf (Some spec.start_words)) (cond middle (spec.disruption ++ (Clock k ∷ [])) (Clock k ∷ []))
unfolding page_of number
rows_by false k = All-cons (IsRowOf (Some spec.start_words)) (Clock k) [] tt (All-nil (IsRowOf (Some spec.start_words)))
rows_by true k =
    All-cons (IsRowOf (Some spec.start_words)) Disrupt (Page (page_words 0 (spec.marked_page 8)) ∷ Clock k ∷ []) tt
    (All-cons (IsRowOf (Some spec.start_words)) (Page (page_words 0 (spec.marked_page 8))) (Clock k ∷ []) refl
    (All-cons (IsRowOf (Some spec.start_words)) (Clock k) [] tt (All-nil (IsRowOf (Some spec.start_words)))))

pub day_rows : (polls : ℕ) → ArePageRows (Some spec.start_words) (host_of polls)
unfolding host_of
day_rows polls = All-seconds (IsRowOf (Some spec.start_words)) (spec.host_in (spec.middle_of polls)) (λ k. rows_by (k == spec.middle_of polls) k) 1 polls
