use Rattle.std.proofs.Common.{◌≡◌, length}
use Rattle.csv_records.specs.Records.{records_of}
use Rattle.csv_records.proofs.Reading.{Stands}
use Rattle.pagetime_text.specs.Facts.{Facts, grammar}
use Rattle.pagetime_text.proofs.Telling.{tell}
use Rattle.pagetime_text.proofs.reading.told.Given as goal

abbrev pub invariant-reading : goal.invariant-reading
invariant-reading l = (facts : Facts) × (l.held ≡ tell facts) × Stands grammar (records_of l.fn.bytes) facts l.ahead

abbrev pub decreases-reading : goal.decreases-reading
decreases-reading l = length l.ahead
