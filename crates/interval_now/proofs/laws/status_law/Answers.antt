use Rattle.interval_now.proofs.Statuses.{intervals_have_status}
use Rattle.interval_now.proofs.laws.status_law.Goals as goal

pub returns : goal.returns
returns c = intervals_have_status
