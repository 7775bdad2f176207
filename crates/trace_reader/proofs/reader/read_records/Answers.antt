use Rattle.csv.specs.Records.{fields_of}
use Rattle.csv_records.specs.Records.{records_of}
use Rattle.csv_records.proofs.Reading.{passed_on, reads_end, reads_on, reads_refused}
use Rattle.trace_reader.specs.Grammar.{end_fault, ends, grammar, trace_in}
use Rattle.trace_reader.specs.Held.{step_of}
use Rattle.trace_reader.proofs.Steps.{goes_on}
use Rattle.trace_reader.proofs.reader.read_records.Goals as goal

pub reading-preserved : goal.reading-preserved
unfolding step_of
reading-preserved c =
    reads_on goes_on (records_of c.args.bytes.now) c.reading.held c.take.new.self c.reading.records c.read.new.self (fields_of c.read.new.row)
    c.reading.invariant (c.in_ok-read.ensures.next c.if-branch.true) c.in_ok-take.ensures

pub returns-in_err-take : goal.returns-in_err-take
unfolding step_of
returns-in_err-take c =
    passed_on (λ trace. trace) c.from_residual-in_err-take.result c.in_err-take.field-0.0 (trace_in c.args.bytes.now) c.from_residual-in_err-take.ensures.0 c.from_residual-in_err-take.ensures.1
    (reads_refused goes_on (λ facts. ends (end_fault facts) facts) (records_of c.args.bytes.now) c.reading.held c.reading.records c.read.new.self (fields_of c.read.new.row) c.in_err-take.field-0.0
    c.reading.invariant (c.in_ok-read.ensures.next c.if-branch.true) c.in_err-take.ensures)

pub returns : goal.returns
returns c =
    rw (reads_end grammar (λ facts. ends (end_fault facts) facts) (records_of c.args.bytes.now) c.reading.held c.reading.records c.reading.invariant (c.in_ok-read.ensures.end c.if-branch.false).0)
    c.finish.ensures
