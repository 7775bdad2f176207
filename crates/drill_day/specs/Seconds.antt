-- What each second of a day has. A day has a row of the clock, a poll and a call of each of three clients in every
-- second; in the middle the counter is disrupted and the page's marker tells it, and after a third the daemon stops once.
-- This project's own.
use Rattle.std.specs.Prelude.{ℕ, ◌+◌, ◌-◌, ◌*◌, ◌/◌, ◌%◌, ◌^◌, ◌==◌, List, [], ◌∷◌, ◌++◌, Option, Some, None, if◌then◌else◌}
use Rattle.candm_codec.specs.Text.{reply_text}
use Rattle.candm_codec.specs.declared.tracking.Leap.TheVariants.{Normal}
use Rattle.candm_codec.specs.declared.tracking.Tracking.{Tracking}
use Rattle.clock_gate.specs.declared.clock_row.ClockRow.{ClockRow}
use Rattle.clock_gate.specs.declared.limits.TheConstants.{USUAL_TRIES}
use Rattle.clock_gate.specs.declared.trace.CallRow.{CallRow}
use Rattle.clock_gate.specs.declared.trace.HostRow.{HostRow}
use Rattle.clock_gate.specs.declared.trace.HostRow.TheVariants as hosts
use Rattle.clock_gate.specs.declared.trace.Party.{Party}
use Rattle.clock_gate.specs.declared.trace.Party.TheVariants.{Host, Daemon, Client}
use Rattle.clock_gate.specs.declared.trace.PollRow.{PollRow}
use Rattle.clock_gate.specs.declared.trace.Turn.{Turn}
use Rattle.clock_gate.specs.declared.trace.Turn.TheVariants.{Run}
use Rattle.vmclock_page.specs.ClockPage.{ClockPage}
use Rattle.vmclock_page.specs.Words.{page_words}
use Rattle.drill_day.specs.Draws.{draw_of, second_draw_of}

-- the second before which the counter is disrupted
abbrev pub middle_of : ℕ → ℕ
middle_of polls = polls / 2 + 1

-- the second in whose poll the daemon stops
abbrev pub stop_second : ℕ → ℕ
stop_second polls = polls / 3 + 1

-- ---- the clock

-- the row of second k: true time is up to 20 microseconds away from the clock's real time
abbrev pub clock_row : ℕ → ℕ → ClockRow
clock_row k draw = record {
  mono = k * 1000000000;
  real = 1700000000000000000 + k * 1000000000;
  truth = Some (1700000000000000000 + k * 1000000000 + draw % 40001 - 20000);
}

abbrev pub clock_in : ℕ → ℕ → List ClockRow
clock_in k x = clock_row k (draw_of x) ∷ []

-- ---- the page

-- the page with this marker; of its other fields those are 0 that may be
abbrev pub marked_page : ℕ → ClockPage
marked_page marker = record {
  size = 104;
  counter_id = 1;
  time_type = 0;
  seq_count = 2;
  disruption_marker = marker;
  flags = 0;
  clock_status = 0;
  leap_second_smearing_hint = 0;
  tai_offset_sec = 0;
  leap_indicator = 0;
  counter_period_shift = 0;
  counter_value = 0;
  counter_period_frac_sec = 0;
  counter_period_esterror_rate_frac_sec = 0;
  counter_period_maxerror_rate_frac_sec = 0;
  time_sec = 0;
  time_frac_sec = 0;
  time_esterror_nanosec = 0;
  time_maxerror_nanosec = 0;
}

-- the start page has marker 7
abbrev pub start_words : List ℕ
start_words = page_words 0 (marked_page 7)

-- after the disruption the page has marker 8
abbrev pub disruption : List HostRow
disruption = hosts.Disrupt ∷ hosts.Page (page_words 0 (marked_page 8)) ∷ []

abbrev pub host_in : ℕ → ℕ → List HostRow
host_in middle k = if k == middle then disruption ++ (hosts.Clock k ∷ []) else hosts.Clock k ∷ []

-- ---- the polls

-- what chrony tells in second k: the sequence, the time of the last update and the correction are this second's own
abbrev pub tracking : ℕ → ℕ → Tracking
tracking k draw = record {
  sequence = k;
  ref_id = 0xa9fea97b;
  address = 0xa9fea97b000000000000000000000000;
  family = 1;
  stratum = 4;
  leap = Normal;
  ref_time = record { high = 0; low = 0x65000000 + k; nsec = 0 };
  current_correction = record { 0 = 0xf0000000 + draw % 2 ^ 20 };
  last_offset = record { 0 = 0 };
  rms_offset = record { 0 = 0 };
  freq_ppm = record { 0 = 0 };
  resid_freq_ppm = record { 0 = 0 };
  skew_ppm = record { 0 = 0 };
  root_delay = record { 0 = 0xec800000 };
  root_dispersion = record { 0 = 0xea800000 };
  last_update_interval = record { 0 = 0 };
}

-- its bytes
abbrev pub reply_of : ℕ → ℕ → List ℕ
reply_of k draw = reply_text (tracking k draw)

-- the daemon stops after 5 of the stores of one poll
abbrev pub stop_in : ℕ → ℕ → Option ℕ
stop_in stopped k = if k == stopped then Some 5 else None

abbrev pub poll_in : ℕ → ℕ → ℕ → List PollRow
poll_in stopped k x = record { reply = reply_of k (second_draw_of x); stop = stop_in stopped k } ∷ []

-- ---- the calls

abbrev pub call_of : ℕ → CallRow
call_of client = record { client = client; tries = USUAL_TRIES }

abbrev pub calls_in : ℕ → List CallRow
calls_in k = call_of 1 ∷ call_of 2 ∷ call_of 3 ∷ []

-- ---- whose jobs these are, in their order

abbrev pub disruption_jobs : ℕ → ℕ → List Party
disruption_jobs middle k = if k == middle then Host ∷ Host ∷ [] else []

-- the first row of the clock is in place at the start, and no job
abbrev pub clock_jobs : ℕ → List Party
clock_jobs k = if k == 1 then [] else Host ∷ []

abbrev pub jobs_in : ℕ → ℕ → List Party
jobs_in middle k = disruption_jobs middle k ++ (clock_jobs k ++ (Daemon ∷ Client 1 ∷ Client 2 ∷ Client 3 ∷ []))

-- ---- the schedule

-- one of the five parties
abbrev pub party_of : ℕ → Party
party_of number = if number == 0 then Host else if number == 1 then Daemon else Client (number - 1)

-- up to 20 turns of one of them
abbrev pub turn_of : ℕ → ℕ → Turn
turn_of first second = Run (party_of (first % 5)) (1 + second % 20)

abbrev pub turns_in : ℕ → ℕ → List Turn
turns_in k x = turn_of (draw_of x) (second_draw_of x) ∷ []
