use Rattle.csv_records.proofs.Feeds.{unmarked, unmarked_empty}
use Rattle.csv_records.proofs.records.may_be_marked.Goals as goal

pub returns-in-empty : goal.returns-in-empty
returns-in-empty c = λ _. unmarked_empty c.args.text.now c.in-empty.len_below

pub returns-in-len1-up : goal.returns-in-len1-up
returns-in-len1-up c = λ other. unmarked c.args.text.now other
