use Rattle.csv_records.proofs.DigitByDigit.{ReadsOn}
use Rattle.csv_records.proofs.fields.short_value.Given as goal

abbrev pub invariant-digits : goal.invariant-digits
invariant-digits l = ReadsOn l.field l.byte-index l.value
