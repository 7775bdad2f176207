use Rattle.std.proofs.Common.{◌∙◌, sym}
use Rattle.csv.specs.Records.{fields_of}
use Rattle.csv_records.specs.Records.{records_of}
use Rattle.csv_records.proofs.Reading.{passed_on, reads_end, reads_on, reads_refused}
use Rattle.agree_text.specs.Agreement.{ends, grammar, session_in}
use Rattle.agree_text.proofs.Reading.{ends_empty, ends_well, goes_on}
use Rattle.agree_text.proofs.agreement.session.Goals as goal

pub reading-preserved : goal.reading-preserved
reading-preserved c =
    reads_on goes_on (records_of c.args.bytes.now) c.reading.session c.take.new.self c.reading.ahead c.read.new.self (fields_of c.read.new.row) c.reading.invariant
    (c.in_ok-read.ensures.next c.if-branch.true) c.in_ok-take.ensures

pub returns-in_err-take : goal.returns-in_err-take
unfolding session_in
returns-in_err-take c =
    passed_on (λ session. session) c.from_residual-in_err-take.result c.in_err-take.field-0.0 (session_in c.args.bytes.now) c.from_residual-in_err-take.ensures.0 c.from_residual-in_err-take.ensures.1
    (reads_refused goes_on ends (records_of c.args.bytes.now) c.reading.session c.reading.ahead c.read.new.self (fields_of c.read.new.row) c.in_err-take.field-0.0 c.reading.invariant
    (c.in_ok-read.ensures.next c.if-branch.true) c.in_err-take.ensures)

pub returns-then-is_empty : goal.returns-then-is_empty
unfolding session_in
returns-then-is_empty c =
    reads_end grammar ends (records_of c.args.bytes.now) c.reading.session c.reading.ahead c.reading.invariant (c.in_ok-read.ensures.end c.if-branch.false).0
    ∙ ends_empty c.reading.session (sym c.if-is_empty.ensures)

pub returns : goal.returns
unfolding session_in
returns c =
    reads_end grammar ends (records_of c.args.bytes.now) c.reading.session c.reading.ahead c.reading.invariant (c.in_ok-read.ensures.end c.if-branch.false).0
    ∙ ends_well c.reading.session (sym c.if-is_empty.ensures)
