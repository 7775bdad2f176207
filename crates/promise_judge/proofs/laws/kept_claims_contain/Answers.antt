use Rattle.promise_judge.proofs.Contained.{kept_contains}
use Rattle.promise_judge.proofs.laws.kept_claims_contain.Goals as goal

pub returns : goal.returns
returns c = record { contain = kept_contains }
