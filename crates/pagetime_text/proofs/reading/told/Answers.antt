use Rattle.std.proofs.Common.{◌≡◌, ◌∷◌, ◌∙◌, [], rules, refl, sym}
use Rattle.std.specs.Prelude.{vec_items}
use Rattle.csv.specs.Records.{fields_of}
use Rattle.csv_records.specs.Records.{records_of}
use Rattle.csv_records.proofs.Reading.{begins, passed_on, reads_end, reads_on, reads_refused}
use Rattle.pagetime_text.specs.Facts.{ends, facts_of, grammar, rows_in}
use Rattle.pagetime_text.specs.Text.{pagetime_text}
use Rattle.pagetime_text.proofs.Steps.{goes_on}
use Rattle.pagetime_text.proofs.Telling.{record_refused, record_taken, tell_start, text_ends, text_refused}
use Rattle.pagetime_text.proofs.reading.told.Goals as goal

pub reading-init : goal.reading-init
reading-init c =
    (facts_of [], c.in_ok-held.ensures ∙ sym tell_start, begins grammar (records_of c.args.bytes.now) (facts_of []) c.new-ahead.result refl c.new-ahead.ensures.all)

pub returns-then-not-branch : goal.returns-then-not-branch
unfolding pagetime_text
returns-then-not-branch c =
    let (facts, told, at) = c.reading.invariant in
    let none : c.reading.ahead ≡ [] = (c.in_ok-read.ensures.end (search rules)).0 in
    rw (reads_end grammar ends (records_of c.args.bytes.now) facts c.reading.ahead at none) (rw (told, text_ends facts) at c.finish.ensures)

pub reading-preserved : goal.reading-preserved
reading-preserved c =
    let (facts, told, at) = c.reading.invariant in
    let split : c.reading.ahead ≡ fields_of c.read.new.row ∷ c.read.new.self = c.in_ok-read.ensures.next (search rules) in
    let tells = record_taken facts c.reading.held c.take.new.self (fields_of c.read.new.row) told c.in_ok-take.ensures in
    (tells.facts, tells.told, reads_on goes_on (records_of c.args.bytes.now) facts tells.facts c.reading.ahead c.read.new.self (fields_of c.read.new.row) at split tells.made)

pub returns-in_err-take : goal.returns-in_err-take
unfolding pagetime_text
returns-in_err-take c =
    let (facts, told, at) = c.reading.invariant in
    let split : c.reading.ahead ≡ fields_of c.read.new.row ∷ c.read.new.self = c.in_ok-read.ensures.next (search rules) in
    passed_on vec_items c.from_residual-in_err-take.result c.in_err-take.field-0.0 (pagetime_text c.args.bytes.now) c.from_residual-in_err-take.ensures.0 c.from_residual-in_err-take.ensures.1
    (text_refused c.in_err-take.field-0.0 (rows_in c.args.bytes.now)
    (reads_refused goes_on ends (records_of c.args.bytes.now) facts c.reading.ahead c.read.new.self (fields_of c.read.new.row) c.in_err-take.field-0.0 at split
    (record_refused facts c.reading.held (fields_of c.read.new.row) c.in_err-take.field-0.0 told c.in_err-take.ensures)))
