-- The trace of a text, or its first refused record and the first reason to refuse it.
use Rattle.std.specs.Prelude.{ℕ, ◌+◌, ◌==◌, List, length, replicate, Option, Some, None, option_map, Result, Ok, Err, if◌then◌else◌}
use Rattle.clock_gate.specs.Trace.{largest_client}
use Rattle.clock_gate.specs.declared.limits.TheConstants.{USUAL_DRIFT, USUAL_TRIES}
use Rattle.clock_gate.specs.declared.trace.Trace.{Trace}
use Rattle.csv_records.specs.Grammar.{Grammar, said_by}
use Rattle.csv_records.specs.Records.{records_of}
use Rattle.csv_records.specs.declared.reason.Reason.TheVariants as reasons
use Rattle.csv_records.specs.declared.trace_error.TraceFault.{TraceFault}
use Rattle.trace_reader.specs.Checks.{fault_of, is_first, layout_held}
use Rattle.trace_reader.specs.Facts.{Facts, facts_of, given, words_of_page}
use Rattle.trace_reader.specs.Line.{line_of}
use Rattle.trace_reader.specs.declared.line.Line.{Line}

-- each record is a line by itself, and is tested by the facts of the lines before it
abbrev pub grammar : Grammar Line Facts
grammar = record { line_of = line_of; facts_of = facts_of; fault_of = fault_of }

-- what is amiss where the records end: there is none, or no row of the clock
abbrev pub end_fault : Facts → Option TraceFault
end_fault facts =
    if is_first facts then Some (record { line = 1; reason = reasons.Kind })
    else if length facts.clocks == 0 then Some (record { line = facts.count + 1; reason = reasons.NoClock })
    else None

-- the trace that lines say; without an image all ten words are 0
abbrev pub trace_of : Facts → Trace
trace_of facts = record {
  drift = given facts.drift USUAL_DRIFT;
  tries = given facts.tries USUAL_TRIES;
  clients = largest_client facts.calls;
  layout = layout_held facts;
  image = given facts.image (replicate 10 0);
  page = option_map words_of_page facts.start;
  clock = facts.clocks;
  host = facts.host;
  polls = facts.polls;
  calls = facts.calls;
  turns = facts.turns;
  order = facts.order;
}

abbrev pub ends : Option TraceFault → Facts → Result Trace TraceFault
ends None facts = Ok (trace_of facts)
ends (Some fault) facts = Err fault

-- the trace of some records, or the first of them that is refused
abbrev pub trace_said : List (List (List ℕ)) → Result Trace TraceFault
trace_said records = said_by grammar (λ facts. ends (end_fault facts) facts) records

-- the trace of a text
abbrev pub trace_in : List ℕ → Result Trace TraceFault
trace_in bytes = trace_said (records_of bytes)
