use Rattle.std.proofs.Common.{◌≡◌, ◌∙◌, sym, refl}
use Rattle.csv_records.specs.Records.{records_ahead}
use Rattle.csv_records.proofs.Ahead.{takes_none, takes_one}
use Rattle.csv_records.proofs.records.Records.read.Goals as goal

pub invariant_of-self : goal.invariant_of-self
invariant_of-self c = λ open_still.
    let at = c.self.invariant open_still in
    let read = rw c.in-Ok-true.field-0-test at c.in-Ok-true.ensures.reads at.untrimmed at.ready in
    (takes_one c.self.inside.reader c.read_byte_record.new.self _ at read (c.in-Ok-true.ensures.ready at.untrimmed) c.in-Ok-true.ensures.flexible).1

pub returns-in-Ok-true-clause-next : goal.returns-in-Ok-true-clause-next
returns-in-Ok-true-clause-next c = λ _.
    let at = c.self.invariant c.if-self.false in
    let read = rw c.in-Ok-true.field-0-test at c.in-Ok-true.ensures.reads at.untrimmed at.ready in
    let ahead : records_ahead c.self.inside.reader ≡ c.args.self.now = rw c.if-self.false at c.self.view_is in
    rw c.if-self.false (sym ahead ∙ (takes_one c.self.inside.reader c.read_byte_record.new.self _ at read (c.in-Ok-true.ensures.ready at.untrimmed) c.in-Ok-true.ensures.flexible).0)

pub returns-in-Ok-false-clause-end : goal.returns-in-Ok-false-clause-end
returns-in-Ok-false-clause-end c = λ _.
    let at = c.self.invariant c.if-self.false in
    let read = rw c.in-Ok-false.field-0-test at c.in-Ok-false.ensures.reads at.untrimmed at.ready in
    let ahead : records_ahead c.self.inside.reader ≡ c.args.self.now = rw c.if-self.false at c.self.view_is in
    (sym ahead ∙ takes_none c.self.inside.reader c.read_byte_record.new.self _ at read, refl)
