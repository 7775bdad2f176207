-- A line of the schedule keeps the limits.
use Rattle.std.proofs.Common.{◌≡◌, ◌≤◌, ◌<◌, ◌+◌, [], ◌∷◌, length, None, arith}
use Rattle.std.proofs.lemmas.Bool.Decides.{nat_tests}
use Rattle.std.proofs.lemmas.List.{length-append}
use Rattle.clock_gate.specs.Trace.{turns_in, turns_of}
use Rattle.clock_gate.specs.declared.limits.TheConstants.{MOST_SCHEDULE_LINES, MOST_TURNS}
use Rattle.clock_gate.specs.declared.trace.Turn.{Turn}
use Rattle.trace_reader.specs.Checks.{fault_of}
use Rattle.trace_reader.specs.Facts.{Facts}
use Rattle.trace_reader.specs.Held.{IsWithin, taken}
use Rattle.trace_reader.specs.declared.line.Line.TheVariants as lines
use Rattle.trace_reader.proofs.Last.{turns_more}

pub turn_room : (facts : Facts) (turn : Turn) → fault_of facts (lines.Turns turn) ≡ None
    → (length facts.turns < MOST_SCHEDULE_LINES) × (turns_of facts.turns + turns_in turn ≤ MOST_TURNS)
turn_room facts turn none = grind (arith, nat_tests)

pub turn_within : (facts : Facts) (turn : Turn) → IsWithin facts → fault_of facts (lines.Turns turn) ≡ None → IsWithin (taken facts (lines.Turns turn))
turn_within facts turn was none =
    let room = turn_room facts turn none in
    let longer = length-append facts.turns (turn ∷ []) in
    let few = was.count_few in
    let sum = turns_more facts.turns turn in
    record {
      paged = was.paged;
      host_few = was.host_few;
      clocks_few = was.clocks_few;
      polls_few = was.polls_few;
      calls_few = was.calls_few;
      turns_few = omega (arith, longer, room.0);
      turns_most = omega (arith, sum, room.1);
      count_few = omega (arith, few, longer);
    }
