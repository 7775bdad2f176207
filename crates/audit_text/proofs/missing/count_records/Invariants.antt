use Rattle.std.proofs.Common.{◌≡◌, ◌≤◌, ◌+◌, length}
use Rattle.csv_records.specs.Records.{records_of}
use Rattle.audit_text.proofs.missing.count_records.Given as goal

abbrev pub invariant-counting : goal.invariant-counting
invariant-counting l = (l.count + length l.records ≡ length (records_of l.fn.bytes)) × (length (records_of l.fn.bytes) ≤ length l.fn.bytes)

abbrev pub decreases-counting : goal.decreases-counting
decreases-counting l = length l.records
