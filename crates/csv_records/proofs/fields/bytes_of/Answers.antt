use Rattle.std.proofs.Common.{◌≡◌, Some, None, rules}
use Rattle.csv_records.specs.Fields.{bytes_in}
use Rattle.csv_records.proofs.Digits.{found_by}
use Rattle.csv_records.proofs.fields.bytes_of.Goals as goal

pub returns-in-Ok-clause-found : goal.returns-in-Ok-clause-found
unfolding bytes_in
returns-in-Ok-clause-found c =
    let value : bytes_in c.args.most_digits c.args.field.now ≡ Some c.in-Ok.bytes.items = search rules in
    found_by c.args.most_digits c.args.field.now (Some c.in-Ok.bytes.items) value

pub returns-in-Err-clause-found : goal.returns-in-Err-clause-found
unfolding bytes_in
returns-in-Err-clause-found c =
    let value : bytes_in c.args.most_digits c.args.field.now ≡ None = search rules in
    found_by c.args.most_digits c.args.field.now None value
