-- What `order` tells of a trace: the stamps and leases by the answers of its run, their counts, and whether the promises that the answers
-- rest on were kept.
use Rattle.std.specs.Prelude.{ℕ, List, ◌++◌, Result, Ok}
use Rattle.bound_order.specs.declared.told.Told.{Told}
use Rattle.bound_order.specs.Ordering.{order_of}
use Rattle.clock_gate.specs.declared.trace.Trace.{Trace}
use Rattle.csv_records.specs.Reason.{◌>>=◌}
use Rattle.csv_records.specs.declared.trace_error.TraceFault.{TraceFault}
use Rattle.order_text.specs.Told.{answers_told}
use Rattle.order_text.specs.Lines.{order_text}
use Rattle.run_promises.specs.Judged.{premises_of}
use Rattle.abstract_run.specs.declared.event.Event.{Event}
use Rattle.abstract_run.specs.RunWhole.{run_of}
use Rattle.trace_reader.specs.Grammar.{trace_in}
use Rattle.bound_cli.specs.Premises.{premises_line}

-- the header, a line or two for each of these answers, which are ordered by leases of this length, and the counts
abbrev pub told_text : ℕ → List Told → List ℕ
told_text length told = order_text told (order_of length told)

-- so of the answers among these events, and then whether their promises were kept
unfoldable pub ordering_text : ℕ → Trace → List Event → List ℕ
ordering_text length trace events = told_text length (answers_told trace.clock events) ++ premises_line (premises_of trace events)

-- of a text's trace, or the fault of its first refused line
unfoldable pub order_report : ℕ → List ℕ → Result (List ℕ) TraceFault
order_report length bytes = trace_in bytes >>= λ trace. Ok (ordering_text length trace (run_of trace).events)
