use Rattle.std.proofs.Common.{◌≡◌, false, rules}
use Rattle.std.specs.Prelude.{◌==◌, get_or}
use Rattle.csv_records.proofs.Numerals.{bytes_are_none, parsed, read_as, too_large}
use Rattle.csv_records.proofs.fields.parsed_value.Goals as goal

pub returns-in-Ok-clause-digits : goal.returns-in-Ok-clause-digits
returns-in-Ok-clause-digits c =
    let same : c.in-Ok.text.now ≡ c.args.field.now = c.in-Ok.ensures.cases.0 in
    let plain : (get_or c.args.field.now 0 0 == 43) ≡ false = search rules in
    read_as c.args.field.now c.parse.result _ c.ok.ensures.value (parsed c.args.field.now c.parse.result (rw same at c.parse.ensures.value.0) plain)

pub returns-in-Ok-clause-large : goal.returns-in-Ok-clause-large
returns-in-Ok-clause-large c =
    let same : c.in-Ok.text.now ≡ c.args.field.now = c.in-Ok.ensures.cases.0 in
    let plain : (get_or c.args.field.now 0 0 == 43) ≡ false = search rules in
    too_large c.args.field.now c.parse.result _ c.ok.ensures.value (parsed c.args.field.now c.parse.result (rw same at c.parse.ensures.value.0) plain)

pub returns-in-Err-clause-large : goal.returns-in-Err-clause-large
returns-in-Err-clause-large c is = absurd (bytes_are_none c.args.field.now c.in-Err.ensures.cases.0 is)
