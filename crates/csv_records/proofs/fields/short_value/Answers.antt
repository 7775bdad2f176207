use Rattle.std.proofs.Common.{◌∙◌, rules, arith, sym}
use Rattle.csv_records.proofs.DigitByDigit.{all_digits, no_digits, reads_digit, reads_start, room}
use Rattle.csv_records.proofs.fields.short_value.Goals as goal

pub overflow_mul-value : goal.overflow_mul-value
overflow_mul-value c =
    let less = room c.args.field.now c.digits.byte-index c.digits.value c.digits-test.true c.requires c.digits.invariant in
    search (rules, arith)

pub overflow_add-value : goal.overflow_add-value
overflow_add-value c =
    let less = room c.args.field.now c.digits.byte-index c.digits.value c.digits-test.true c.requires c.digits.invariant in
    search (rules, arith)

pub digits-preserved : goal.digits-preserved
digits-preserved c =
    rw c.from.ensures
    (reads_digit c.args.field.now c.digits.byte-index c.digits.value c.digits-test.true c.digits.invariant (sym c.is_ascii_digit.ensures.value ∙ c.if-not-is_ascii_digit.false))

pub digits-init : goal.digits-init
digits-init c = reads_start c.args.field.now
