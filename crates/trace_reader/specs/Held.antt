-- What one line more makes of the facts, and one record more.
use Rattle.std.specs.Prelude.{◌≤◌, ℕ, ◌+◌, List, length, Option, Some, None, Result}
use Rattle.clock_gate.specs.Trace.{turns_of}
use Rattle.clock_gate.specs.declared.limits.TheConstants.{MOST_CALLS, MOST_HOST_ROWS, MOST_POLLS, MOST_SCHEDULE_LINES, MOST_TURNS}
use Rattle.csv_records.specs.Step.{joined, step_by}
use Rattle.csv_records.specs.declared.reason.Reason.{Reason}
use Rattle.trace_reader.specs.Facts.{Facts, call_at, clock_in, drift_in, given, host_at, image_in, job_at, layout_in, page_in, page_next, poll_in, tries_in, turn_in}
use Rattle.trace_reader.specs.Grammar.{grammar}
use Rattle.trace_reader.specs.declared.line.Line.{Line}

-- the first of two values, by cases on the second
abbrev pub kept : {X : Type 0} → Option X → Option X → Option X
kept first None = first
kept first (Some x) = Some (given first x)

-- the facts after one line more
abbrev pub taken : Facts → Line → Facts
taken facts line = record {
  count = facts.count + 1;
  drift = kept facts.drift (drift_in line);
  tries = kept facts.tries (tries_in line);
  layout = kept facts.layout (layout_in line);
  image = kept facts.image (image_in line);
  start = kept facts.start (page_in line);
  page = page_next facts.page line;
  clocks = joined facts.clocks (clock_in line);
  host = joined facts.host (host_at facts.page (length facts.clocks) line);
  polls = joined facts.polls (poll_in line);
  calls = joined facts.calls (call_at facts.tries line);
  turns = joined facts.turns (turn_in line);
  order = joined facts.order (job_at (length facts.clocks) line);
}

-- the facts after one record more, or why it is refused
unfoldable pub step_of : Facts → List (List ℕ) → Result Facts Reason
step_of facts fields = step_by grammar taken facts fields

abbrev pub one_of : {X : Type 0} → Option X → ℕ
one_of None = 0
one_of (Some x) = 1

-- the facts keep the limits, so that a record's number is small
pub record IsWithin (facts : Facts) : Type 0 where
  pub paged : one_of facts.start ≤ one_of facts.page
  pub host_few : length facts.host ≤ MOST_HOST_ROWS
  pub clocks_few : length facts.clocks ≤ length facts.host
  pub polls_few : length facts.polls ≤ MOST_POLLS
  pub calls_few : length facts.calls ≤ MOST_CALLS
  pub turns_few : length facts.turns ≤ MOST_SCHEDULE_LINES
  pub turns_most : turns_of facts.turns ≤ MOST_TURNS
  pub count_few : facts.count ≤ 1 + one_of facts.drift + one_of facts.tries + one_of facts.layout + one_of facts.image + one_of facts.start + length facts.host + length facts.polls + length facts.calls + length facts.turns
