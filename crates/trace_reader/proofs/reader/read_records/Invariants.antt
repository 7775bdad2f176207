use Rattle.std.proofs.Common.{length}
use Rattle.csv_records.specs.Records.{records_of}
use Rattle.csv_records.proofs.Reading.{Stands}
use Rattle.trace_reader.specs.Grammar.{grammar}
use Rattle.trace_reader.proofs.reader.read_records.Given as goal

abbrev pub invariant-reading : goal.invariant-reading
invariant-reading l = Stands grammar (records_of l.fn.bytes) l.held l.records

abbrev pub decreases-reading : goal.decreases-reading
decreases-reading l = length l.records
