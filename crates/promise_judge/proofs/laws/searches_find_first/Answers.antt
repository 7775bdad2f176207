use Rattle.promise_judge.proofs.Firsts.{finds_first}
use Rattle.promise_judge.proofs.laws.searches_find_first.Goals as goal

pub returns : goal.returns
returns c = record { first = finds_first }
