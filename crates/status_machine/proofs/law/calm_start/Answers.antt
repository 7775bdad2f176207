use Rattle.status_machine.proofs.BaseMarker.{calm_start}
use Rattle.status_machine.proofs.law.calm_start.Goals as goal

pub returns : goal.returns
returns c = calm_start
