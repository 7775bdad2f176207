use Rattle.promise_judge.proofs.Places.{told_fits}
use Rattle.promise_judge.proofs.laws.told_claims_fit.Goals as goal

pub returns : goal.returns
returns c = record { fit = told_fits }
